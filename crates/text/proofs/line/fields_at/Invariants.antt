-- `text::line::fields_at` meets its contract.
-- Assumes nothing.
use Prim.Native.Nat.{◌≤◌}
use lib.ListN.{length, drop}
use Rattle.text.specs.Lines.{fields}
use Rattle.text.proofs.Places.{Partly}
use Rattle.text.proofs.line.fields_at.Given as goal

abbrev pub invariant-loop-following : goal.invariant-loop-following
invariant-loop-following l =
    (l.i ≤ length l.text) × Partly (fields l.width (drop l.at l.text)) (fields l.following (drop l.i l.text))
