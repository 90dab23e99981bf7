-- `fileform::row::put_rows` meets its contract.
-- Assumes nothing.
use mathlib.Core.Path.{◌≡◌}
use Prim.Native.Nat.{◌+◌, ◌-◌, ◌*◌}
use lib.ListN.{length, drop}
use Rattle.text.specs.Places.{stored}
use Rattle.fileform.specs.Writing.{rows_text}
use Rattle.text.specs.Lines.{line_text}
use Rattle.fileform.proofs.row.put_rows.Given as goal

abbrev pub invariant-loop-k : goal.invariant-loop-k
invariant-loop-k l =
    (l.i + length (rows_text (line_text l.key) l.width (l.count - l.k) (drop (l.k * l.width) l.words))
    ≡ l.at + length (rows_text (line_text l.key) l.width l.count l.words))
    × (stored l.out l.i (rows_text (line_text l.key) l.width (l.count - l.k) (drop (l.k * l.width) l.words))
    ≡ stored l.initial.out l.at (rows_text (line_text l.key) l.width l.count l.words))
