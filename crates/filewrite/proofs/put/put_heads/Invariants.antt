-- `filewrite::put::put_heads` meets its contract: what is left from a line on is written behind the lines before.
-- Assumes nothing.
use Rattle.filewrite.proofs.Pieces.{Putting, heads_from}
use Rattle.filewrite.proofs.put.put_heads.Given as goal

abbrev pub invariant-loop-k : goal.invariant-loop-k
invariant-loop-k l = Putting (heads_from l.number-items) l.initial.out 0 l.out l.i l.k
