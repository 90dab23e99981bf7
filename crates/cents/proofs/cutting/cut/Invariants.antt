-- `cents::cutting::cut` meets its contract: the positions passed are kept.
-- Assumes nothing.
use Prim.Native.Nat.{◌+◌}
use Rattle.cents.specs.Steps.{Room, Cut}
use Rattle.cents.proofs.cutting.cut.Given as goal

abbrev pub invariant-loop-k : goal.invariant-loop-k
invariant-loop-k g l =
    Room l.weights l.out l.keys × Cut l.pot l.weights l.whole l.from (l.from + l.k) l.initial.out l.out l.initial.keys l.keys l.given
