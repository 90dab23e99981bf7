-- `text::number::put_number` meets its contract.
-- Assumes nothing.
use mathlib.Core.Path.{◌≡◌}
use Prim.Native.Nat.{◌<◌, ◌+◌, ◌^◌}
use lib.ListN.{length}
use Rattle.text.specs.Numbers.{decimal}
use Rattle.text.specs.Places.{stored}
use Rattle.text.proofs.number.put_number.Given as goal

abbrev pub invariant-loop-i : goal.invariant-loop-i
invariant-loop-i l =
    (l.i ≡ l.at + length (decimal l.left)) × (l.left < 2 ^ 64) × (stored l.out l.at (decimal l.left) ≡ stored l.initial.out l.at (decimal l.number))
