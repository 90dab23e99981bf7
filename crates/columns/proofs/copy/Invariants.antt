-- `columns::copy` meets its contract: the words passed hold their entries.
-- Assumes nothing.
use mathlib.Core.Path.{◌≡◌}
use Rattle.lists.specs.Entries.{put}
use Rattle.tables.specs.Shape.{tables_now}
use Rattle.columns.specs.Columns.{entry_of}
use Rattle.columns.proofs.copy.Given as goal

abbrev pub invariant-loop-i : goal.invariant-loop-i
invariant-loop-i l = l.out ≡ put l.i (entry_of (tables_now l.tables) l.column.table l.column.index) l.initial.out
