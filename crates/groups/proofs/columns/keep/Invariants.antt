-- `groups::columns::keep` meets its contract: each word passed holds its member's weight, or 0.
-- Assumes nothing.
use mathlib.Core.Path.{◌≡◌}
use lib.Dec.{eqb}
use Rattle.lists.specs.Sums.{at, when}
use Rattle.lists.specs.Entries.{put}
use Rattle.groups.proofs.columns.keep.Given as goal

abbrev pub invariant-loop-i : goal.invariant-loop-i
invariant-loop-i l = l.column ≡ put l.i (λ j. when (eqb (at l.groups j) l.group) (at l.weights j)) l.initial.column
