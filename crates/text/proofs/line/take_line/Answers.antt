-- `text::line::take_line` meets its contract.
-- Assumes nothing.
use mathlib.Core.Path.{sym, ◌∙◌}
use native.Mathlib.Omega.{arith}
use Rattle.text.proofs.Places.{keyed}
use Rattle.text.proofs.line.take_line.Goals as goal

pub overflow_add-at : goal.overflow_add-at
overflow_add-at c = omega (arith, (keyed c.args.key.now c.args.width c.args.text.now c.args.at c.requires.0).inside)

pub overflow_add-at-2 : goal.overflow_add-at-2
overflow_add-at-2 c = omega (arith, (keyed c.args.key.now c.args.width c.args.text.now c.args.at c.requires.0).inside)

pub take_fields-requires : goal.take_fields-requires
take_fields-requires c =
    let there = keyed c.args.key.now c.args.width c.args.text.now c.args.at c.requires.0 in
    (there.inside, (λ e. c.requires.0 (sym there.same ∙ e)), c.requires.1)
