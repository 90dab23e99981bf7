-- How the shares are made: the remainders add up to the leftover cents, so there are fewer of those than positions with a
-- remainder above zero; exactly as many positions as there are leftover cents get one.
-- Assumes nothing.
use mathlib.Core.Path.{◌≡◌, refl, sym, ap, ◌∙◌}
use mathlib.Core.Logic.{⊎_elim}
use mathlib.Core.Bool.{Bool, true, false}
use mathlib.Core.List.{List}
use Prim.Native.Nat.{ℕ, ◌+◌, ◌*◌, ◌≤◌, ◌<◌}
use native.Mathlib.Nat.{le_trans, le_of_eq, div-add-mod, mod-lt, le_of_mul-le-mul_left, min-eq_left, mul_comm}
use native.Mathlib.Omega.{arith}
use lib.Dec.{ltb}
use lib.ListN.{length}
use borrow.Author.Tests.{lt-ltb, le-ltb, ltb-true, ltb-false}
use Rattle.lists.specs.Sums.{sum_to, at, total, bit, count, rank}
use Rattle.lists.proofs.Sums.{sum_add, sum_mul, sum_eq, sum_le, count_le, count_implied}
use Rattle.lists.proofs.Ranks.{Ordered, ranks_below, rank_less, largest_first_ordered, larger_first, lt_or_le}
use Rattle.division.specs.Shares.{quotient, remainder, leftover, comes_before, gets_cent, share}

-- whether anything was cut off at a position
cut_off : ℕ → List ℕ → ℕ → Bool
cut_off pot weights i = ltb 0 (remainder pot weights i)

pub share_is : (pot : ℕ) (weights : List ℕ) (i : ℕ) → share pot weights i ≡ quotient pot weights i + bit (gets_cent pot weights i)
unfolding share
share_is pot weights i = refl

module _ (pot : ℕ) (weights : List ℕ) (positive : 0 < total weights) where
  -- the exact share in parts of the weights' sum, taken apart
  pub exact : (i : ℕ) → total weights * quotient pot weights i + remainder pot weights i ≡ pot * at weights i
  unfolding quotient remainder
  exact i = div-add-mod (pot * at weights i) (total weights)

  pub remainder_below : (i : ℕ) → remainder pot weights i < total weights
  unfolding remainder
  remainder_below i = mod-lt (pot * at weights i) positive

  sums : total weights * sum_to (length weights) (quotient pot weights) + sum_to (length weights) (remainder pot weights) ≡ total weights * pot
  sums =
      ap (λ s. s + sum_to (length weights) (remainder pot weights)) (sym (sum_mul (length weights) (total weights) (quotient pot weights)))
      ∙ sym (sum_add (length weights) (λ i. total weights * quotient pot weights i) (remainder pot weights))
      ∙ sum_eq (length weights) (λ i. total weights * quotient pot weights i + remainder pot weights i) (λ i. pot * at weights i) (λ i b. exact i)
      ∙ sum_mul (length weights) pot (at weights)
      ∙ mul_comm pot (total weights)

  quotients_within : sum_to (length weights) (quotient pot weights) ≤ pot
  quotients_within = le_of_mul-le-mul_left (omega (arith, sums)) positive

  pub given_and_left : sum_to (length weights) (quotient pot weights) + leftover pot weights ≡ pot
  unfolding leftover
  given_and_left = omega (arith, quotients_within)

  remainders_sum : sum_to (length weights) (remainder pot weights) ≡ total weights * leftover pot weights
  remainders_sum =
      let spread : total weights * (sum_to (length weights) (quotient pot weights) + leftover pot weights) ≡ total weights * pot =
      ap (λ p. total weights * p) given_and_left in
      omega (arith, sums)

  capped : (i : ℕ) → remainder pot weights i ≤ total weights * bit (cut_off pot weights i)
  unfolding cut_off
  capped i =
      ⊎_elim
      (λ (l : 0 < remainder pot weights i). rw (lt-ltb 0 (remainder pot weights i) l) (omega (arith, remainder_below i)))
      (λ (g : remainder pot weights i ≤ 0). omega arith)
      (lt_or_le 0 (remainder pot weights i))

  -- no more cents are left over than there are positions at which something was cut off
  leftover_within : leftover pot weights ≤ count (length weights) (cut_off pot weights)
  leftover_within =
      le_of_mul-le-mul_left
      (le_trans (le_of_eq (sym remainders_sum))
      (le_trans
      (sum_le (length weights) (remainder pot weights) (λ i. total weights * bit (cut_off pot weights i)) (λ i b. capped i))
      (le_of_eq (sum_mul (length weights) (total weights) (λ i. bit (cut_off pot weights i))))))
      positive

  pub ordered : Ordered (comes_before pot weights)
  unfolding comes_before
  ordered = largest_first_ordered (remainder pot weights)

  -- exactly as many positions get a cent as there are cents left over
  pub winners : count (length weights) (gets_cent pot weights) ≡ leftover pot weights
  unfolding gets_cent
  winners =
      ranks_below (comes_before pot weights) ordered (length weights) (leftover pot weights)
      ∙ min-eq_left (le_trans leftover_within (count_le (length weights) (cut_off pot weights)))

  pub shares_sum : sum_to (length weights) (share pot weights) ≡ pot
  shares_sum =
      sum_eq (length weights) (share pot weights) (λ i. quotient pot weights i + bit (gets_cent pot weights i)) (λ i b. share_is pot weights i)
      ∙ sum_add (length weights) (quotient pot weights) (λ i. bit (gets_cent pot weights i))
      ∙ ap (λ k. sum_to (length weights) (quotient pot weights) + k) winners
      ∙ given_and_left

  -- a position that nothing was cut off gets no cent: all that have a remainder come before it
  pub nothing_cut : (i : ℕ) → remainder pot weights i ≡ 0 → gets_cent pot weights i ≡ false
  unfolding gets_cent comes_before cut_off
  nothing_cut i z =
      le-ltb (rank (length weights) (comes_before pot weights) i) (leftover pot weights)
      (le_trans leftover_within
      (count_implied (length weights) (cut_off pot weights) (λ j. comes_before pot weights j i)
      (λ j b h. larger_first (remainder pot weights) j i (let l : 0 < remainder pot weights j = ltb-true 0 (remainder pot weights j) h in omega arith))))

  -- of two positions the one with the larger remainder is not passed over
  pub larger_gets : (i j : ℕ) → j < length weights → gets_cent pot weights i ≡ true → gets_cent pot weights j ≡ false → remainder pot weights j ≤ remainder pot weights i
  unfolding gets_cent comes_before
  larger_gets i j bj gi gj =
      ⊎_elim
      (λ (l : remainder pot weights i < remainder pot weights j).
      let before : rank (length weights) (comes_before pot weights) i < leftover pot weights = ltb-true _ _ gi in
      let behind : leftover pot weights ≤ rank (length weights) (comes_before pot weights) j = ltb-false _ _ gj in
      let less : rank (length weights) (comes_before pot weights) j < rank (length weights) (comes_before pot weights) i =
      rank_less (comes_before pot weights) ordered (length weights) j i bj (larger_first (remainder pot weights) j i l) in
      absurd (omega arith))
      (λ (g : remainder pot weights j ≤ remainder pot weights i). g)
      (lt_or_le (remainder pot weights i) (remainder pot weights j))
