-- `statement_text::state_file` meets its contract: what it lends for the statement is enough for any.
-- Assumes nothing.
use mathlib.Core.Path.{◌≡◌, sym, ap, ◌∙◌}
use Prim.Native.Nat.{min}
use lib.ListN.{take}
use borrow.Author.Rules.{rules}
use Rattle.std.proofs.lemmas.List.{take_min}
use Rattle.statement_text.proofs.Sizes.{shown_ok, file_stated}
use Rattle.statement_text.proofs.state_file.Goals as goal

pub unwrap-requires : goal.unwrap-requires
unwrap-requires c = shown_ok _ c.args.out.now (search rules) _ _ c.statement.ensures

pub returns : goal.returns
returns c =
    let text = c.args.text.now in
    let count = c.args.count in
    let first : take c.min.result text ≡ take count text =
    ap (λ k. take k text) (c.min.ensures ∙ ap (min count) (sym c.told-text)) ∙ take_min count text in
    file_stated text count c.args.out.now c.statement.new.out _ (search rules) (search rules) (rw (first, c.unwrap.ensures) at c.statement.ensures)
