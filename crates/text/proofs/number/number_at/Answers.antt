-- `text::number::number_at` meets its contract.
-- Assumes nothing.
use mathlib.Core.Path.{◌≡◌, sym, ap, ◌∙◌}
use mathlib.Core.Bool.{true}
use native.Mathlib.Omega.{arith}
use Rattle.lists.specs.Sums.{at}
use Rattle.text.specs.Numbers.{is_digit}
use Rattle.text.proofs.Places.{number_goes_on}
use Rattle.text.proofs.number.number_at.Goals as goal

pub returns : goal.returns
returns c =
    let there = c.in_ok-byte.ensures.lookup.3 in
    let digit : is_digit (at c.args.text.now c.args.at) ≡ true = ap is_digit (sym (there.1 0)) ∙ sym c.is_digit.ensures ∙ c.if-not-is_digit.false in
    rw (number_goes_on c.args.text.now c.args.at there.0 digit (omega (arith, there.1 0))) (rw (sym (there.1 0), sym c.digit_of.ensures.0) c.digits_on.ensures)
