-- `figures::cases::run` ends: each line leaves less.
-- Assumes nothing.
use Rattle.std.proofs.Common.{length}
use Rattle.figures.proofs.cases.run.Given as goal

abbrev pub decreases-loop-rest : goal.decreases-loop-rest
decreases-loop-rest l = length l.rest
