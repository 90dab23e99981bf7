-- `cents::handing::first_bounds` meets its contract: bounds stay bounds, whatever key narrows them.
-- Assumes nothing.
use Prim.Native.Nat.{◌≤◌, ◌-◌}
use lib.ListN.{length}
use Rattle.cents.specs.Steps.{Between}
use Rattle.cents.proofs.handing.first_bounds.Given as goal

abbrev pub invariant-loop-from : goal.invariant-loop-from
invariant-loop-from l = (l.to ≤ length l.keys) × Between l.left l.keys l.bounds.low l.bounds.high

abbrev pub decreases-loop-from : goal.decreases-loop-from
decreases-loop-from l = l.to - l.from
