-- `try_judgement::change::changes` ends: each change leaves less.
-- Assumes nothing.
use Rattle.std.proofs.Common.{length, ◌≤◌}
use Rattle.try_judgement.proofs.change.changes.Given as goal

abbrev pub invariant-loop-alloc : goal.invariant-loop-alloc
invariant-loop-alloc l = length l.rest ≤ length l.initial.text

abbrev pub decreases-loop-alloc : goal.decreases-loop-alloc
decreases-loop-alloc l = length l.rest
