-- `groups::columns::add` meets its contract: each word passed has its amount added, and the words ahead are as they were.
-- Assumes nothing.
use mathlib.Core.Path.{◌≡◌}
use Prim.Native.Nat.{◌+◌}
use Rattle.lists.specs.Sums.{at}
use Rattle.lists.specs.Entries.{put}
use Rattle.groups.proofs.columns.add.Given as goal

abbrev pub invariant-loop-i : goal.invariant-loop-i
invariant-loop-i l = l.column ≡ put l.i (λ j. at l.initial.column j + at l.amounts j) l.initial.column
