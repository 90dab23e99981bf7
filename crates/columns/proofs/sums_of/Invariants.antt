-- `columns::sums_of` meets its contract: the words passed hold their sums.
-- Assumes nothing.
use mathlib.Core.Path.{◌≡◌}
use Rattle.lists.specs.Entries.{put}
use Rattle.tables.specs.Shape.{tables_now}
use Rattle.columns.specs.Columns.{entry_of, sum_of}
use Rattle.columns.proofs.sums_of.Given as goal

abbrev pub invariant-loop-i : goal.invariant-loop-i
invariant-loop-i l =
    l.out ≡ put l.i (λ j. sum_of (tables_now l.tables) l.column.table l.column.index (entry_of (tables_now l.tables) l.fn.named 0 j)) l.initial.out
