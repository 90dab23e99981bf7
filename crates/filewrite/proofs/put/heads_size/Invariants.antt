-- `filewrite::put::heads_size` meets its contract: what is left from a line on is measured behind the lines before.
-- Assumes nothing.
use Rattle.filewrite.proofs.Pieces.{Measuring, heads_from}
use Rattle.filewrite.proofs.put.heads_size.Given as goal

abbrev pub invariant-loop-k : goal.invariant-loop-k
invariant-loop-k l = Measuring (heads_from l.number-items) 0 l.cap l.size l.k
