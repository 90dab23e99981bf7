-- `filewrite::put::put_tables` meets its contract: what is left from a table on is written behind the tables before.
-- Assumes nothing.
use Rattle.tables.specs.Shape.{tables_now}
use Rattle.filewrite.proofs.Pieces.{Putting, text_from}
use Rattle.filewrite.proofs.put.put_tables.Given as goal

abbrev pub invariant-loop-k : goal.invariant-loop-k
invariant-loop-k l = Putting (text_from (tables_now l.fn.tables)) l.initial.out l.at l.out l.i l.k
