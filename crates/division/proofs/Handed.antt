-- What is dealt out is the shares: the whole is the sum of the weights (or 1, where the pot is 0), the keys stand in the order of
-- the remainders, and the cents that are handed out are those left over.
-- Assumes nothing.
use mathlib.Core.Path.{◌≡◌, refl, sym, ap, ap₂, ◌∙◌}
use mathlib.Core.Logic.{◌⊎◌, inl, inr, ⊎_elim, ◌≢◌}
use mathlib.Core.Bool.{Bool, true, false, ◌&&◌, ◌||◌}
use mathlib.Core.List.{List}
use Prim.Native.Nat.{ℕ, ◌+◌, ◌-◌, ◌*◌, ◌/◌, ◌%◌, ◌≤◌, ◌<◌, max}
use native.Mathlib.Nat.{zero-mul, zero-div, zero-mod, le_trans}
use native.Mathlib.Omega.{arith}
use lib.Dec.{ltb, eqb}
use lib.ListN.{length}
use borrow.Author.Tests.{lt-ltb, le-ltb, eq-eqb, ltb-false}
use Rattle.lists.specs.Sums.{sum_to, at, total, bit, count, rank, largest_first}
use Rattle.lists.specs.Entries.{put}
use Rattle.lists.proofs.Sums.{sum_eq, neither}
use Rattle.lists.proofs.Entries.{put_eq}
use Rattle.lists.proofs.Ranks.{lt_or_le, larger_first, lower_first, smaller_later, higher_later}
use Rattle.cents.specs.Dealt.{Base, cents_of, key_of, dealt}
use Rattle.answer.proofs.Turns.{look_none, zero_or_not}
use Rattle.division.specs.Limits.{pot_limit, weight_limit, most_weights, size_refusal}
use Rattle.division.specs.Refused.{FineSize}
use Rattle.division.specs.Shares.{quotient, remainder, leftover, comes_before, gets_cent, share}

not_both : (s t : Bool) → (s && t) ≡ false → t ≡ true → s ≡ false
not_both true t e q = absurd (mathlib.Core.Bool.true≢false (sym q ∙ e))
not_both false t e q = refl

-- what is known of sizes that are not refused
pub sized : (pot w : ℕ) → size_refusal pot w ≡ 0 → FineSize pot w
unfolding size_refusal
sized pot w e =
    let big = look_none (ltb pot_limit pot || ltb weight_limit w) 8 _ (λ q. omega arith) e in
    let limits = neither (ltb pot_limit pot) (ltb weight_limit w) big.0 in
    let baseless = look_none (ltb 0 pot && eqb w 0) 9 0 (λ q. omega arith) big.1 in
    record {
      pot_fits = ltb-false pot_limit pot limits.0;
      weights_fit = ltb-false weight_limit w limits.1;
      has_base = λ z. let none : pot ≤ 0 = ltb-false 0 pot (not_both (ltb 0 pot) (eqb w 0) baseless.0 (eq-eqb w 0 z)) in omega arith;
    }

-- the whole that the code divides by is the sum, or 1 where the sum is 0 and so the pot is
module _ (pot w whole : ℕ) (size : FineSize pot w) (is_whole : whole ≡ max w 1) where
  same_or_none : (whole ≡ w) ⊎ (pot ≡ 0)
  same_or_none =
      ⊎_elim
      (λ (z : w ≡ 0). inr (size.has_base z))
      (λ (d : w ≢ 0). inl (omega (arith, d)))
      (zero_or_not w)

  pub same_quotient : (weight : ℕ) → pot * weight / whole ≡ pot * weight / w
  same_quotient weight =
      ⊎_elim
      (λ e. ap (λ k. pot * weight / k) e)
      (λ (z : pot ≡ 0). simp (z, zero-mul, zero-div))
      same_or_none

  pub same_remainder : (weight : ℕ) → pot * weight % whole ≡ pot * weight % w
  same_remainder weight =
      ⊎_elim
      (λ e. ap (λ k. pot * weight % k) e)
      (λ (z : pot ≡ 0). simp (z, zero-mul, zero-mod))
      same_or_none

pub base_of : (pot : ℕ) (weights : List ℕ) (whole : ℕ) → FineSize pot (total weights) → whole ≡ max (total weights) 1
    → Base pot weights whole
base_of pot weights whole size e =
    record { pot_fits = omega (arith, size.pot_fits); positive = omega arith; whole_fits = omega (arith, size.weights_fit); adds_up = omega arith }

-- keys are ordered as their remainders, lower position first among equals
pub keyed : (f : ℕ → ℕ) (i j : ℕ) → i < 64 → j < 64 → ltb (f i * 64 + (63 - i)) (f j * 64 + (63 - j)) ≡ largest_first f j i
keyed f i j bi bj =
    ⊎_elim
    (λ (l : f i < f j). lt-ltb (f i * 64 + (63 - i)) (f j * 64 + (63 - j)) (omega arith) ∙ sym (larger_first f j i l))
    (λ (g : f j ≤ f i).
    ⊎_elim
    (λ (l : f j < f i). le-ltb (f i * 64 + (63 - i)) (f j * 64 + (63 - j)) (omega arith) ∙ sym (smaller_later f j i l))
    (λ (h : f i ≤ f j).
    ⊎_elim
    (λ (l : j < i). lt-ltb (f i * 64 + (63 - i)) (f j * 64 + (63 - j)) (omega arith) ∙ sym (lower_first f j i (omega arith) l))
    (λ (l : i ≤ j). le-ltb (f i * 64 + (63 - i)) (f j * 64 + (63 - j)) (omega arith) ∙ sym (higher_later f j i (omega arith) l))
    (lt_or_le j i))
    (lt_or_le (f j) (f i)))
    (lt_or_le (f i) (f j))

module _
    (pot : ℕ) (weights : List ℕ) (whole : ℕ) (size : FineSize pot (total weights))
    (is_whole : whole ≡ max (total weights) 1) (few : length weights ≤ most_weights)
  where
    cents_is : (i : ℕ) → cents_of pot weights whole i ≡ quotient pot weights i
    unfolding quotient
    cents_is i = same_quotient pot (total weights) whole size is_whole (at weights i)

    key_is : (i : ℕ) → key_of pot weights whole i ≡ remainder pot weights i * 64 + (63 - i)
    unfolding remainder
    key_is i = ap (λ r. r * 64 + (63 - i)) (same_remainder pot (total weights) whole size is_whole (at weights i))

    left_is : pot - sum_to (length weights) (cents_of pot weights whole) ≡ leftover pot weights
    unfolding leftover
    left_is = ap (λ k. pot - k) (sum_eq (length weights) (cents_of pot weights whole) (quotient pot weights) (λ i b. cents_is i))

    standing_is : (i : ℕ) → i < length weights
        → count (length weights) (λ j. ltb (key_of pot weights whole i) (key_of pot weights whole j)) ≡ rank (length weights) (comes_before pot weights) i
    unfolding comes_before
    standing_is i b =
        sum_eq (length weights)
        (λ j. bit (ltb (key_of pot weights whole i) (key_of pot weights whole j)))
        (λ j. bit (largest_first (remainder pot weights) j i))
        (λ j h.
        ap₂ (λ x y. bit (ltb x y)) (key_is i) (key_is j)
        ∙ ap bit (keyed (remainder pot weights) i j (le_trans b few) (le_trans h few)))

    dealt_is : (i : ℕ) → i < length weights → dealt pot weights whole i ≡ share pot weights i
    unfolding dealt share gets_cent
    dealt_is i b = ap₂ ◌+◌ (cents_is i) (ap₂ (λ x y. bit (ltb x y)) (standing_is i b) left_is)

    pub shared_out : (out out' : List ℕ) → out' ≡ put (length weights) (dealt pot weights whole) out
        → out' ≡ put (length weights) (share pot weights) out
    shared_out out out' e = e ∙ put_eq (length weights) (dealt pot weights whole) (share pot weights) out dealt_is
