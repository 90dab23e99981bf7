-- `cents::handing::standing` meets its contract: the count so far is that over the keys passed.
-- Assumes nothing.
use mathlib.Core.Path.{◌≡◌}
use lib.Dec.{ltb}
use Rattle.lists.specs.Sums.{count, at}
use Rattle.cents.proofs.handing.standing.Given as goal

abbrev pub invariant-loop-other : goal.invariant-loop-other
invariant-loop-other l = l.before ≡ count l.other-index (λ j. ltb l.key (at l.keys j))
