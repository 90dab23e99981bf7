-- `filewrite::put::tables_size` meets its contract: what is left from a table on is measured behind the tables before.
-- Assumes nothing.
use Rattle.tables.specs.Shape.{tables_now}
use Rattle.filewrite.proofs.Pieces.{measure_next, measure_end, table_piece, tables_end}
use Rattle.filewrite.proofs.put.tables_size.Goals as goal

pub loop-k-preserved : goal.loop-k-preserved
loop-k-preserved c =
    measure_next c.loop-k.invariant (table_piece c.args.tables c.loop-k.k c.loop-k-test.true c.table_at.ensures) _ c.table_size-size.ensures

pub returns : goal.returns
returns c = measure_end c.loop-k.invariant (tables_end (tables_now c.args.tables) c.loop-k.k c.loop-k-test.false)
