-- `verdict::spread::is_level` meets its contract: the highest and the lowest height so far are those of the amounts passed.
-- Assumes nothing.
use mathlib.Core.Path.{◌≡◌}
use Prim.Native.Nat.{◌*◌}
use lib.ListN.{length}
use Rattle.verdict.specs.Steps.{height}
use Rattle.verdict.proofs.Heights.{most, least}
use Rattle.verdict.proofs.spread.is_level.Given as goal

abbrev pub invariant-loop-weight : goal.invariant-loop-weight
invariant-loop-weight l = record {
  highest_is : l.highest ≡ most (length l.yielded) (height l.pot l.weights l.sum l.amounts);
  lowest_is : l.lowest ≡ least (2 * l.sum) (length l.yielded) (height l.pot l.weights l.sum l.amounts);
}
