-- `fileform::row::count_rows` meets its contract.
-- Assumes nothing.
use Prim.Native.Nat.{◌≤◌, ◌-◌}
use lib.ListN.{length, drop}
use Rattle.fileform.specs.Reading.{row_lines}
use Rattle.fileform.proofs.RowWalks.{RowsPartly}
use Rattle.text.specs.Lines.{line}
use Rattle.fileform.proofs.row.count_rows.Given as goal

abbrev pub invariant-loop-count : goal.invariant-loop-count
invariant-loop-count l =
    (l.i ≤ length l.text)
    × RowsPartly (row_lines (line l.key l.width) l.most (drop l.at l.text)) (row_lines (line l.key l.width) (l.most - l.count) (drop l.i l.text)) l.count
