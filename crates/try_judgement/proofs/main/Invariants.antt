-- `try_judgement::main` ends: each month leaves less.
-- Assumes nothing.
use Rattle.std.proofs.Common.{length}
use Rattle.try_judgement.proofs.main.Given as goal

abbrev pub decreases-loop-rest : goal.decreases-loop-rest
decreases-loop-rest l = length l.rest
