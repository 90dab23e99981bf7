-- `rows::order::row_not_above` meets its contract: the columns that the loop has passed are the same as those of the row before.
-- Assumes nothing.
use Rattle.rows.proofs.KeyColumns.{KeyPassed}
use Rattle.rows.proofs.order.row_not_above.Given as goal

abbrev pub invariant-loop-index : goal.invariant-loop-index
invariant-loop-index l = KeyPassed l.table l.words l.i l.keys l.index
