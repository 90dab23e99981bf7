-- `columns::sum_in` meets its contract: the rows passed are added up.
-- Assumes nothing.
use mathlib.Core.Path.{◌≡◌}
use Rattle.lists.specs.Sums.{at, sum_where}
use Rattle.tables.specs.Columns.{entry}
use Rattle.columns.proofs.sum_in.Given as goal

abbrev pub invariant-loop-i : goal.invariant-loop-i
invariant-loop-i l = l.sum ≡ sum_where l.i (entry l.column.table l.column.index l.words) (at l.values) l.number
