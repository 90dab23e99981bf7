-- `cents::quotients::quotients` meets its contract: quotients and rests so far are those of the pot's digits passed.
-- Assumes nothing.
use mathlib.Core.Path.{◌≡◌}
use Prim.Native.Nat.{ℕ, ◌+◌, ◌*◌, ◌/◌, ◌^◌, ◌<◌}
use lib.ListN.{length}
use Rattle.lists.specs.Sums.{at}
use Rattle.cents.specs.Steps.{Quotient}
use Rattle.cents.proofs.Several.{stands, Worked}
use Rattle.cents.proofs.quotients.quotients.Given as goal

abbrev pub invariant-loop-k : goal.invariant-loop-k
invariant-loop-k g l = (length l.gains ≡ g.row.N) × ((j : ℕ) → j < l.k → at l.gains j ≡ l.factor * at l.weights j)

abbrev pub invariant-loop-left : goal.invariant-loop-left
invariant-loop-left g l =
    let now = stands l.weights l.factor l.whole (l.pot / 2 ^ l.left) in
    Worked now now g.row.N 0 l.parts

abbrev pub invariant-loop-k-2 : goal.invariant-loop-k-2
invariant-loop-k-2 g l =
    Worked (stands l.weights l.factor l.whole (l.pot / 2 ^ (l.left + 1))) (stands l.weights l.factor l.whole (l.pot / 2 ^ l.left)) g.row.N l.k l.parts

abbrev pub invariant-loop-k-3 : goal.invariant-loop-k-3
invariant-loop-k-3 g l =
    Worked (stands l.weights l.factor l.whole l.pot) (λ j part. Quotient l.pot (at l.weights j) l.whole part.cents part.rest) g.row.N l.k l.parts
