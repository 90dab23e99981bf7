-- `text::line::put_fields` meets its contract.
-- Assumes nothing.
use mathlib.Core.Path.{◌≡◌}
use Prim.Native.Nat.{◌+◌}
use lib.ListN.{length, drop}
use Rattle.text.specs.Lines.{fields_text}
use Rattle.text.specs.Places.{stored}
use Rattle.text.proofs.line.put_fields.Given as goal

abbrev pub invariant-loop-k : goal.invariant-loop-k
invariant-loop-k l =
    (l.i + length (fields_text (drop l.k l.fields)) ≡ l.at + length (fields_text l.fields))
    × (stored l.out l.i (fields_text (drop l.k l.fields)) ≡ stored l.initial.out l.at (fields_text l.fields))
