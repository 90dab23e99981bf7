-- `text::line::fields_size` meets its contract.
-- Assumes nothing.
use mathlib.Core.Path.{◌≡◌}
use Prim.Native.Nat.{◌≤◌, ◌+◌, min}
use lib.ListN.{length, drop}
use Rattle.text.specs.Lines.{fields_text}
use Rattle.text.proofs.line.fields_size.Given as goal

abbrev pub invariant-loop-field : goal.invariant-loop-field
invariant-loop-field l =
    (l.size ≤ l.cap)
    × (min (l.size + length (fields_text (drop l.field-index l.fields))) l.cap ≡ min (l.before + length (fields_text l.fields)) l.cap)
