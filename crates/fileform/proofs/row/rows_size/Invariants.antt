-- `fileform::row::rows_size` meets its contract.
-- Assumes nothing.
use mathlib.Core.Path.{◌≡◌}
use Prim.Native.Nat.{◌≤◌, ◌+◌, ◌-◌, ◌*◌, min}
use lib.ListN.{length, drop}
use Rattle.fileform.specs.Writing.{rows_text}
use Rattle.text.specs.Lines.{line_text}
use Rattle.fileform.proofs.row.rows_size.Given as goal

abbrev pub invariant-loop-k : goal.invariant-loop-k
invariant-loop-k l =
    (l.size ≤ l.cap)
    × (min (l.size + length (rows_text (line_text l.key) l.width (l.count - l.k) (drop (l.k * l.width) l.words))) l.cap
    ≡ min (l.before + length (rows_text (line_text l.key) l.width l.count l.words)) l.cap)
