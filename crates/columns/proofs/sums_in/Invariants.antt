-- `columns::sums_in` meets its contract: the words passed hold their sums.
-- Assumes nothing.
use mathlib.Core.Path.{◌≡◌}
use Rattle.lists.specs.Entries.{put}
use Rattle.tables.specs.Shape.{tables_now}
use Rattle.columns.specs.Columns.{entry_of, sum_in}
use Rattle.columns.proofs.sums_in.Given as goal

abbrev pub invariant-loop-i : goal.invariant-loop-i
invariant-loop-i l =
    l.out
    ≡ put l.i (λ j. sum_in (tables_now l.tables) l.column.table l.column.index l.values (entry_of (tables_now l.tables) l.fn.named 0 j)) l.initial.out
