-- `text::line::take_fields` meets its contract.
-- Assumes nothing.
use mathlib.Core.Path.{◌≡◌}
use Prim.Native.Nat.{◌≤◌, ◌+◌, ◌-◌}
use mathlib.Core.Logic.{◌≢◌}
use lib.ListN.{length, drop}
use Rattle.text.specs.Numbers.{missing}
use Rattle.text.specs.Lines.{fields}
use Rattle.text.specs.Places.{rest_of, fields_of, stored}
use Rattle.text.proofs.line.take_fields.Given as goal

abbrev pub invariant-loop-k : goal.invariant-loop-k
invariant-loop-k l =
    (l.i ≤ length l.text) × (fields (l.width - l.k) (drop l.i l.text) ≢ missing)
    × (rest_of (fields (l.width - l.k) (drop l.i l.text)) ≡ rest_of (fields l.width (drop l.at l.text)))
    × (stored l.words (l.place + l.k) (fields_of (fields (l.width - l.k) (drop l.i l.text)))
    ≡ stored l.initial.words l.place (fields_of (fields l.width (drop l.at l.text))))
