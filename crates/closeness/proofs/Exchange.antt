-- Where the test fails, one cent moves from the amount furthest above its exact share to one that stands more than a whole
-- cent lower, and the list that this makes is strictly closer.
-- Assumes nothing.
use mathlib.Core.Path.{◌≡◌, ap, ◌∙◌}
use mathlib.Core.Logic.{⊎_elim, ◌≢◌}
use mathlib.Core.Bool.{true, false}
use mathlib.Core.List.{List}
use Prim.Native.Nat.{ℕ, ◌+◌, ◌-◌, ◌*◌, ◌≤◌, ◌<◌}
use native.Mathlib.Nat.{eq-zero-or-pos}
use native.Mathlib.Omega.{arith}
use lib.ListN.{length, set, length-set}
use lib.Seq.{get_or-set_other}
use borrow.Author.Tests.{leb-false}
use Rattle.lists.specs.Sums.{sum_to, at, total}
use Rattle.lists.proofs.Ranks.{true_or_false}
use Rattle.lists.proofs.Search.{some_failing}
use Rattle.closeness.specs.Closeness.{distance, squares, Closest, level}
use Rattle.closeness.proofs.Squares.{squared, step_closer}
use Rattle.closeness.proofs.Positions.{lowest, some_position, sum_set}
use Rattle.closeness.proofs.Level.{none_above}

-- the list after one cent has moved from one position to another
moved : List ℕ → ℕ → ℕ → List ℕ
moved l giver taker = set (set l giver (at l giver - 1)) taker (at l taker + 1)

length_moved : (l : List ℕ) (giver taker : ℕ) → length (moved l giver taker) ≡ length l
unfolding moved
length_moved l giver taker = simp length-set

module _ (l : List ℕ) (n giver taker : ℕ) (long : length l ≡ n) (g : giver < n) (t : taker < n) (other : taker ≢ giver) where
  -- a sum over the entries changes by what the two entries add to it
  sum_moved : (f : ℕ → ℕ → ℕ)
      → sum_to n (λ i. f i (at (moved l giver taker) i)) + (f giver (at l giver) + f taker (at l taker))
      ≡ sum_to n (λ i. f i (at l i)) + (f giver (at l giver - 1) + f taker (at l taker + 1))
  unfolding moved
  sum_moved f =
      let less : List ℕ = set l giver (at l giver - 1) in
      let kept : at less taker ≡ at l taker = get_or-set_other l giver taker (at l giver - 1) 0 other in
      omega (
        arith,
        sum_set n f l giver (at l giver - 1) long g,
        ap (f taker) kept,
        sum_set n f less taker (at l taker + 1) (length-set l giver (at l giver - 1) ∙ long) t,
      )

  total_moved : 0 < at l giver → total (moved l giver taker) ≡ total l
  total_moved holds = rw (length_moved, long) (omega (arith, sum_moved (λ i a. a)))

-- the squares fall where the giver stands more than a whole cent higher above its exact share than the taker
squares_moved : (pot : ℕ) (weights l : List ℕ) (giver taker : ℕ) → length l ≡ length weights
    → giver < length weights → taker < length weights → taker ≢ giver → 0 < total weights → 0 < at l giver
    → total weights * at l taker + pot * at weights giver + total weights < total weights * at l giver + pot * at weights taker
    → squares pot weights (moved l giver taker) < squares pot weights l
unfolding squares distance
squares_moved pot weights l giver taker long g t other some holds far =
    let falls = step_closer (total weights) (at l giver) (at l taker) (pot * at weights giver) (pot * at weights taker)
    some holds far in
    omega (
      arith,
      falls,
      sum_moved l (length weights) giver taker long g t other (λ i a. squared (total weights * a) (pot * at weights i)),
    )

-- two positions at which the test fails: the first stands more than a whole cent higher above its exact share
failing_pair : (pot : ℕ) (weights amounts : List ℕ) → level pot weights amounts ≡ false
    → (i : ℕ) × (j : ℕ) × (i < length weights) × (j < length weights)
    × (total weights * at amounts j + pot * at weights i + total weights < total weights * at amounts i + pot * at weights j)
unfolding level
failing_pair pot weights amounts e =
    let outer = some_failing (length weights) _ e in
    let inner = some_failing (length weights) _ outer.2 in
    (outer.0, inner.0, outer.1, inner.1, leb-false _ _ inner.2)

module _ (pot : ℕ) (weights amounts : List ℕ) (some : 0 < total weights) (same : length amounts ≡ length weights)
    (whole : total amounts ≡ pot) where
  -- the amount that stands highest above its exact share is not 0: else none would stand above, and each would be exact
  highest_holds : (i j : ℕ) → j < length weights
      → ((k : ℕ) → k < length weights → pot * at weights i + total weights * at amounts k ≤ pot * at weights k + total weights * at amounts i)
      → total weights * at amounts j + pot * at weights i + total weights < total weights * at amounts i + pot * at weights j
      → 0 < at amounts i
  highest_holds i j k highest far =
      ⊎_elim
      (λ (e : at amounts i ≡ 0).
      let empty : total weights * at amounts i ≡ 0 = rw e (omega arith) in
      let exact : total weights * at amounts j ≡ pot * at weights j =
      none_above pot weights amounts same whole (λ m b. omega (arith, highest m b)) j k in
      absurd (omega arith))
      (λ (holds : 0 < at amounts i). holds)
      (eq-zero-or-pos (at amounts i))

  -- where the test fails, the cent goes from the highest amount to the second of the failing pair
  closer : level pot weights amounts ≡ false
      → (others : List ℕ) × (length others ≡ length weights) × (total others ≡ total amounts)
      × (squares pot weights others < squares pot weights amounts)
  closer e =
      let pair = failing_pair pot weights amounts e in
      let high = lowest (length weights) (λ i. pot * at weights i) (λ i. total weights * at amounts i)
      (some_position (length weights) (at weights) some) in
      let i : ℕ = high.0 in
      let j : ℕ = pair.1 in
      let far : total weights * at amounts j + pot * at weights i + total weights < total weights * at amounts i + pot * at weights j =
      omega (arith, pair.4, high.2 pair.0 pair.2) in
      let holds : 0 < at amounts i = highest_holds i j pair.3 high.2 far in
      let other : j ≢ i = λ q.
      omega (arith, ap (λ k. total weights * at amounts k) q, ap (λ k. pot * at weights k) q) in (
        moved amounts i j,
        length_moved amounts i j ∙ same,
        total_moved amounts (length weights) i j same high.1 pair.3 other holds,
        squares_moved pot weights amounts i j same high.1 pair.3 other some holds far,
      )

  pub level_if_closest : Closest pot weights amounts → level pot weights amounts ≡ true
  level_if_closest least =
      ⊎_elim
      (λ (e : level pot weights amounts ≡ true). e)
      (λ (e : level pot weights amounts ≡ false).
      let better = closer e in
      absurd (omega (arith, better.3, least.none_closer better.0 better.1 better.2)))
      (true_or_false (level pot weights amounts))
