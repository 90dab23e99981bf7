-- `try_monthfile::input::run` ends: each case that is shown leaves less.
-- Assumes nothing.
use Prim.Native.Nat.{◌-◌}
use lib.ListN.{length}
use Rattle.try_monthfile.proofs.input.run.Given as goal

abbrev pub decreases-loop-at : goal.decreases-loop-at
decreases-loop-at l = length l.cases - l.at
