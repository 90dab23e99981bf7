-- `text::number::number_size` meets its contract.
-- Assumes nothing.
use mathlib.Core.Path.{◌≡◌}
use Prim.Native.Nat.{◌<◌, ◌+◌, ◌^◌}
use lib.ListN.{length}
use Rattle.text.specs.Numbers.{decimal}
use Rattle.text.proofs.number.number_size.Given as goal

abbrev pub invariant-loop-left : goal.invariant-loop-left
invariant-loop-left l = (l.size + length (decimal l.left) ≡ 1 + length (decimal l.number)) × (l.left < 2 ^ 64)

abbrev pub decreases-loop-left : goal.decreases-loop-left
decreases-loop-left l = l.left
