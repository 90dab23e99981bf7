-- `lists::sum_capped` meets its contract: the sum so far is that of the numbers passed, and at most the cap.
-- Assumes nothing.
use mathlib.Core.Path.{◌≡◌}
use Prim.Native.Nat.{◌≤◌}
use Rattle.lists.specs.Sums.{sum_to, at}
use Rattle.lists.proofs.sum_capped.Given as goal

abbrev pub invariant-loop-number : goal.invariant-loop-number
invariant-loop-number l = (l.sum ≡ sum_to l.number-index (at l.numbers)) × (l.sum ≤ l.cap)
