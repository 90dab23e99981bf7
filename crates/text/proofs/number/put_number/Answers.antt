-- `text::number::put_number` meets its contract.
-- Assumes nothing.
use mathlib.Core.Path.{◌≡◌, sym, ap, ◌∙◌}
use Prim.Native.Nat.{◌+◌, ◌/◌, ◌%◌, ◌-◌, ◌≤◌}
use native.Mathlib.Omega.{arith}
use lib.ListN.{length, set}
use Rattle.text.specs.Numbers.{decimal}
use Rattle.text.specs.Places.{stored}
use Rattle.text.proofs.Numbers.{decimal_tenth, length_tenth, more_digits}
use Rattle.text.proofs.Stores.{stored_last}
use Rattle.text.proofs.number.put_number.Goals as goal

pub loop-i-preserved : goal.loop-i-preserved
loop-i-preserved c =
    let l = c.loop-i in
    let a = c.args in
    let large : 10 ≤ l.left = more_digits l.left (omega (arith, c.loop-i-test.true)) in
    let tenth : length (decimal l.left) ≡ length (decimal (l.left / 10)) + 1 = length_tenth l.left large l.invariant.1 in
    let place : l.i - 1 ≡ a.at + length (decimal (l.left / 10)) = omega arith in (
      place,
      omega arith,
      ap (λ k. stored (set l.out k (48 + l.left % 10)) a.at (decimal (l.left / 10))) place
          ∙ stored_last l.out a.at (decimal (l.left / 10)) (48 + l.left % 10)
          ∙ ap (stored l.out a.at) (sym (decimal_tenth l.left large l.invariant.1))
          ∙ l.invariant.2,
    )
