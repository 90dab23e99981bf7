-- `statement_text::statement` meets its contract: a text that is too long is refused, as is one that can't be read; any other has the
-- statement of its month.
-- Assumes nothing.
use mathlib.Core.Path.{refl, ap, sym, ◌∙◌, subst}
use Rattle.answer.proofs.Results.{refused_some}
use Rattle.tables.specs.declared.Table.TheVariants.{Zones, Owners, Units, Accounts, Loads, Reservations, Firm}
use Rattle.statement_lines.specs.Lines.{refuse_line}
use Rattle.statement_text.specs.Calls.{Shows, shown_of}
use Rattle.statement_text.proofs.Held.{lent, lent_full, text_refused, rows_there, text_month}
use Rattle.statement_text.proofs.Stating.{long_refused, short_text}
use Rattle.statement_text.proofs.statement.Goals as goal

pub returns-then-text-gt-MOST_BYTES : goal.returns-then-text-gt-MOST_BYTES
returns-then-text-gt-MOST_BYTES c =
    subst (λ l. Shows l c.args.out.now c.show_refusal.new.out (shown_of c.show_refusal.result))
    (long_refused c.args.text.now c.if-text-gt-MOST_BYTES.true c.from.ensures c.at-long.ensures) c.show_refusal.ensures

pub front-requires : goal.front-requires
front-requires c = rows_there c.args.text.now lent lent_full _ _ c.in-Ok.ensures refl Zones

pub front-requires-in-Ok : goal.front-requires-in-Ok
front-requires-in-Ok c = rows_there c.args.text.now lent lent_full _ _ c.in-Ok.ensures refl Owners

pub front-requires-in-Ok-2 : goal.front-requires-in-Ok-2
front-requires-in-Ok-2 c = rows_there c.args.text.now lent lent_full _ _ c.in-Ok.ensures refl Units

pub front-requires-in-Ok-3 : goal.front-requires-in-Ok-3
front-requires-in-Ok-3 c = rows_there c.args.text.now lent lent_full _ _ c.in-Ok.ensures refl Accounts

pub front-requires-in-Ok-4 : goal.front-requires-in-Ok-4
front-requires-in-Ok-4 c = rows_there c.args.text.now lent lent_full _ _ c.in-Ok.ensures refl Loads

pub front-requires-in-Ok-5 : goal.front-requires-in-Ok-5
front-requires-in-Ok-5 c = rows_there c.args.text.now lent lent_full _ _ c.in-Ok.ensures refl Reservations

pub front-requires-in-Ok-6 : goal.front-requires-in-Ok-6
front-requires-in-Ok-6 c = rows_there c.args.text.now lent lent_full _ _ c.in-Ok.ensures refl Firm

pub returns-in-Ok : goal.returns-in-Ok
returns-in-Ok c =
    let month =
    rw (c.front.ensures, c.front-in-Ok.ensures, c.front-in-Ok-2.ensures, c.front-in-Ok-3.ensures, c.front-in-Ok-4.ensures, c.front-in-Ok-5.ensures, c.front-in-Ok-6.ensures)
    at c.state_month.ensures in
    subst (λ l. Shows l c.args.out.now c.state_month.new.out (shown_of c.state_month.result))
    (text_month c.args.text.now lent lent_full _ _ c.in-Ok.ensures refl ∙ sym (short_text c.args.text.now c.if-text-gt-MOST_BYTES.false)) month

pub returns-in-Err : goal.returns-in-Err
returns-in-Err c =
    subst (λ l. Shows l c.args.out.now c.show_refusal-in-Err.new.out (shown_of c.show_refusal-in-Err.result))
    (ap refuse_line c.from-in-Err.ensures
    ∙ text_refused c.args.text.now lent lent_full _ _ c.in-Err.ensures (refused_some c.in-Err.refused)
    ∙ sym (short_text c.args.text.now c.if-text-gt-MOST_BYTES.false)) c.show_refusal-in-Err.ensures
