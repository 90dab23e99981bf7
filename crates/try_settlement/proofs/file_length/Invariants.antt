-- `try_settlement::file_length` ends: each line leaves less.
-- Assumes nothing.
use Rattle.std.proofs.Common.{length, ◌-◌, ◌≤◌}
use Rattle.try_settlement.proofs.file_length.Given as goal

abbrev pub invariant-loop-at : goal.invariant-loop-at
invariant-loop-at l = l.at ≤ length l.cases

abbrev pub decreases-loop-at : goal.decreases-loop-at
decreases-loop-at l = length l.cases - l.at
