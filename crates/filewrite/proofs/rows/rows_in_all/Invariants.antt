-- `filewrite::rows::rows_in_all` meets its contract: the rows so far and those from a table on are all of them.
-- Assumes nothing.
use mathlib.Core.Path.{◌≡◌}
use Prim.Native.Nat.{◌+◌, ◌*◌, ◌^◌, ◌≤◌}
use Rattle.tables.specs.Shape.{tables_now}
use Rattle.filewrite.proofs.Pieces.{rows_from}
use Rattle.filewrite.proofs.rows.rows_in_all.Given as goal

abbrev pub invariant-loop-k : goal.invariant-loop-k
invariant-loop-k l =
    (l.rows ≤ l.k * 2 ^ 60)
    × (l.rows + rows_from (tables_now l.fn.tables) l.k ≡ rows_from (tables_now l.fn.tables) 0)
