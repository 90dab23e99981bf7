-- `filewrite::rows::rows_in_all` meets its contract: the rows so far and those from a table on are all of them.
-- Assumes nothing.
use native.Mathlib.Omega.{arith}
use Rattle.tables.specs.Shape.{tables_now}
use Rattle.filewrite.proofs.Pieces.{rows_next, rows_end}
use Rattle.filewrite.proofs.rows.rows_in_all.Goals as goal

pub loop-k-preserved : goal.loop-k-preserved
loop-k-preserved c =
    let counted = c.rows_of-rows.ensures in (
      omega (arith, counted.few, c.loop-k.invariant.0),
      omega (arith, rows_next c.args.tables c.loop-k.k c.loop-k-test.true c.table_at.ensures, counted.count_is, c.loop-k.invariant.1),
    )

pub returns : goal.returns
returns c =
    omega (arith, rows_end (tables_now c.args.tables) c.loop-k.k c.loop-k-test.false, c.loop-k.invariant.1)
