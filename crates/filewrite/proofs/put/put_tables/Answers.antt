-- `filewrite::put::put_tables` meets its contract: what is left from a table on is written behind the tables before.
-- Assumes nothing.
use Rattle.tables.specs.Shape.{tables_now}
use Rattle.filewrite.proofs.Pieces.{putting_fits, putting_next, putting_end, table_piece, tables_end}
use Rattle.filewrite.proofs.put.put_tables.Goals as goal

pub put_table-i-requires : goal.put_table-i-requires
put_table-i-requires c =
    putting_fits c.loop-k.invariant (table_piece c.args.tables c.loop-k.k c.loop-k-test.true c.table_at.ensures)

pub loop-k-preserved : goal.loop-k-preserved
loop-k-preserved c =
    let put = c.put_table-i in
    putting_next c.loop-k.invariant (table_piece c.args.tables c.loop-k.k c.loop-k-test.true c.table_at.ensures) _ _ put.ensures put.auto.out

pub returns : goal.returns
returns c = putting_end c.loop-k.invariant (tables_end (tables_now c.args.tables) c.loop-k.k c.loop-k-test.false)
