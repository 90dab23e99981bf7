-- `statement_text::state_month` meets its contract: a month that is refused is shown as the line of its refusal, an accepted one as
-- its lines.
-- Assumes nothing.
use mathlib.Core.Path.{refl, ap, ◌∙◌, subst}
use Rattle.answer.proofs.Results.{refused_some}
use Rattle.statement_lines.specs.Lines.{refuse_line}
use Rattle.statement_text.specs.Calls.{Shows, shown_of}
use Rattle.statement_text.proofs.Stating.{month_refused, month_figured, month_stated}
use Rattle.statement_text.proofs.state_month.Goals as goal

pub show_month-requires : goal.show_month-requires
show_month-requires c = month_figured c.in-Ok.ensures refl refl refl c.words_of.ensures c.words_of-in-Ok.ensures

pub returns-in-Ok : goal.returns-in-Ok
returns-in-Ok c =
    subst (λ l. Shows l c.args.out.now c.show_month.new.out (shown_of c.show_month.result))
    (month_stated c.in-Ok.ensures refl refl refl c.words_of.ensures c.words_of-in-Ok.ensures) c.show_month.ensures

pub returns-in-Err : goal.returns-in-Err
returns-in-Err c =
    subst (λ l. Shows l c.args.out.now c.show_refusal.new.out (shown_of c.show_refusal.result))
    (ap refuse_line c.from.ensures ∙ month_refused c.in-Err.ensures refl refl (refused_some c.in-Err.refused)) c.show_refusal.ensures
