-- `text::line::put_bytes` meets its contract.
-- Assumes nothing.
use mathlib.Core.Path.{◌≡◌}
use Prim.Native.Nat.{◌+◌}
use lib.ListN.{drop}
use Rattle.text.specs.Places.{stored}
use Rattle.text.proofs.line.put_bytes.Given as goal

abbrev pub invariant-loop-k : goal.invariant-loop-k
invariant-loop-k l = stored l.out (l.at + l.k) (drop l.k l.bytes) ≡ stored l.initial.out l.at l.bytes
