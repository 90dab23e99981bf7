-- Bounds of the parts of a division: a weight is at most the whole, its cents at most the pot, its remainder below the whole.
-- Assumes nothing.
use mathlib.Core.Path.{sym}
use Prim.Native.Nat.{ℕ, ◌*◌, ◌%◌, ◌≤◌, ◌<◌}
use native.Mathlib.Nat.{le_trans, le_of_eq, mul_comm, div-le_of_le-mul, mul-le-mul_left, mod-lt, mul-div-le, le_of_mul-le-mul_left}
use mathlib.Core.List.{List}
use lib.ListN.{length}
use Rattle.lists.specs.Sums.{sum_to, at}
use Rattle.lists.proofs.Sums.{le_sum, sum_le, sum_const, sum_mul}
use Rattle.cents.specs.Dealt.{most, Base, cents_of}

module _ (pot : ℕ) (weights : List ℕ) (whole : ℕ) (base : Base pot weights whole) where
  pub weight_fits : (i : ℕ) → i < length weights → at weights i ≤ whole
  weight_fits i h = le_trans (le_sum (length weights) (at weights) i h) base.adds_up

  pub cents_fit : (i : ℕ) → i < length weights → cents_of pot weights whole i ≤ pot
  cents_fit i h =
      div-le_of_le-mul whole (le_trans (mul-le-mul_left pot (weight_fits i h)) (le_of_eq (mul_comm pot whole)))

  pub given_fits : (n : ℕ) → n ≤ length weights → sum_to n (cents_of pot weights whole) ≤ n * most
  given_fits n h =
      le_trans
      (sum_le n (cents_of pot weights whole) (λ i. most)
      (λ i b. le_trans (cents_fit i (le_trans b h)) base.pot_fits))
      (le_of_eq (sum_const n most))

  -- what is given out is at most the pot: each weight's cents times the whole are at most pot times weight
  pub given_within : sum_to (length weights) (cents_of pot weights whole) ≤ pot
  given_within =
      let each : whole * sum_to (length weights) (cents_of pot weights whole) ≤ pot * sum_to (length weights) (at weights) =
      le_trans
      (le_of_eq (sym (sum_mul (length weights) whole (cents_of pot weights whole))))
      (le_trans
      (sum_le (length weights) (λ i. whole * cents_of pot weights whole i) (λ i. pot * at weights i)
      (λ i b. mul-div-le (pot * at weights i) whole))
      (le_of_eq (sum_mul (length weights) pot (at weights)))) in
      le_of_mul-le-mul_left
      (le_trans each (le_trans (mul-le-mul_left pot base.adds_up) (le_of_eq (mul_comm pot whole))))
      base.positive

  pub rest_fits : (i : ℕ) → pot * at weights i % whole < whole
  rest_fits i = mod-lt (pot * at weights i) base.positive
