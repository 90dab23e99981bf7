-- `filewrite::put::tables_size` meets its contract: what is left from a table on is measured behind the tables before.
-- Assumes nothing.
use Rattle.tables.specs.Shape.{tables_now}
use Rattle.filewrite.proofs.Pieces.{Measuring, text_from}
use Rattle.filewrite.proofs.put.tables_size.Given as goal

abbrev pub invariant-loop-k : goal.invariant-loop-k
invariant-loop-k l = Measuring (text_from (tables_now l.fn.tables)) l.before l.cap l.size l.k
