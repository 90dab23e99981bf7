-- `fileform::row::take_rows` meets its contract.
-- Assumes nothing.
use mathlib.Core.Path.{◌≡◌}
use Prim.Native.Nat.{◌≤◌, ◌-◌, ◌*◌}
use lib.ListN.{length, drop}
use Rattle.text.specs.Places.{stored}
use Rattle.fileform.specs.Reading.{row_lines}
use Rattle.text.specs.Lines.{line}
use Rattle.fileform.proofs.row.take_rows.Given as goal

abbrev pub invariant-loop-k : goal.invariant-loop-k
invariant-loop-k l =
    (l.i ≤ length l.text) × ((row_lines (line l.key l.width) (l.count - l.k) (drop l.i l.text)).count ≡ l.count - l.k)
    × ((row_lines (line l.key l.width) (l.count - l.k) (drop l.i l.text)).rest ≡ (row_lines (line l.key l.width) l.count (drop l.at l.text)).rest)
    × (stored l.words (l.k * l.width) (row_lines (line l.key l.width) (l.count - l.k) (drop l.i l.text)).words
    ≡ stored l.initial.words 0 (row_lines (line l.key l.width) l.count (drop l.at l.text)).words)
