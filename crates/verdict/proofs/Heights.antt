-- Amounts that add up to the pot are level exactly where the highest of their heights is at most a cent above the lowest. The
-- heights are cut off below and above; where one is cut off, all others stand on one side of their exact shares, which the
-- equal sums rule out.
-- Assumes nothing.
use mathlib.Core.Path.{◌≡◌, refl, sym, ap, ◌∙◌}
use mathlib.Core.Logic.{⊎_elim, ◌≢◌}
use mathlib.Core.Bool.{Bool, true, false}
use mathlib.Core.List.{List}
use Prim.Native.Nat.{ℕ, zero, suc, ◌+◌, ◌-◌, ◌*◌, ◌≤◌, ◌<◌, min, max}
use native.Mathlib.Nat.{not-suc-le-zero, le_step, lt-suc_self, le_trans, le-max_left, le-max_right, max-le, min-le_left, min-le_right, le-min, mul_comm}
use native.Mathlib.Numerals.{add-one}
use native.Mathlib.Omega.{arith}
use lib.Dec.{leb}
use lib.ListN.{length}
use borrow.Author.Tests.{le-leb, leb-true}
use Rattle.lists.specs.Sums.{sum_to, at, total, every}
use Rattle.lists.proofs.Sums.{last_or_below, le_sum, sum_tight, sum_mul, every_at, every_from}
use Rattle.lists.proofs.Ranks.{lt_or_le}
use Rattle.answer.proofs.Turns.{zero_or_not}
use Rattle.closeness.specs.Closeness.{level}
use Rattle.verdict.specs.Steps.{height}
use Rattle.division.specs.Refused.{FineSize}

-- no entry is above what all add up to
pub entry_within : (l : List ℕ) (i : ℕ) → i < length l → at l i ≤ total l
entry_within l i b = le_sum (length l) (at l) i b

-- the largest of f 0, .. f (n − 1), 0 where there is none, and the smallest, at most c
unfoldable pub most : ℕ → (ℕ → ℕ) → ℕ
most zero f = 0
most (suc n) f = max (most n f) (f n)

unfoldable pub least : ℕ → ℕ → (ℕ → ℕ) → ℕ
least c zero f = c
least c (suc n) f = min (least c n f) (f n)

pub most_none : (f : ℕ → ℕ) → most 0 f ≡ 0
unfolding most
most_none f = refl

pub most_suc : (n : ℕ) (f : ℕ → ℕ) → most (n + 1) f ≡ max (most n f) (f n)
unfolding most
most_suc n f = rw add-one

pub least_none : (c : ℕ) (f : ℕ → ℕ) → least c 0 f ≡ c
unfolding least
least_none c f = refl

pub least_suc : (c n : ℕ) (f : ℕ → ℕ) → least c (n + 1) f ≡ min (least c n f) (f n)
unfolding least
least_suc c n f = rw add-one

most_at : (n : ℕ) (f : ℕ → ℕ) (i : ℕ) → i < n → f i ≤ most n f
unfolding most
most_at zero f i h = absurd (not-suc-le-zero h)
most_at (suc n) f i h =
    ⊎_elim
    (λ (e : i ≡ n). rw e (le-max_right (most n f) (f n)))
    (λ (b : i < n). le_trans (most_at n f i b) (le-max_left (most n f) (f n)))
    (last_or_below n i h)

most_le : (n : ℕ) (f : ℕ → ℕ) (b : ℕ) → ((i : ℕ) → i < n → f i ≤ b) → most n f ≤ b
unfolding most
most_le zero f b h = omega arith
most_le (suc n) f b h = max-le (most_le n f b (λ i k. h i (le_step k))) (h n (lt-suc_self n))

least_at : (c n : ℕ) (f : ℕ → ℕ) (i : ℕ) → i < n → least c n f ≤ f i
unfolding least
least_at c zero f i h = absurd (not-suc-le-zero h)
least_at c (suc n) f i h =
    ⊎_elim
    (λ (e : i ≡ n). rw e (min-le_right (least c n f) (f n)))
    (λ (b : i < n). le_trans (min-le_left (least c n f) (f n)) (least_at c n f i b))
    (last_or_below n i h)

least_ge : (c n : ℕ) (f : ℕ → ℕ) (b : ℕ) → b ≤ c → ((i : ℕ) → i < n → b ≤ f i) → b ≤ least c n f
unfolding least
least_ge c zero f b k h = k
least_ge c (suc n) f b k h = le-min (least_ge c n f b k (λ i l. h i (le_step l))) (h n (lt-suc_self n))

pub least_le : (c n : ℕ) (f : ℕ → ℕ) → least c n f ≤ c
unfolding least
least_le c zero f = omega arith
least_le c (suc n) f = le_trans (min-le_left (least c n f) (f n)) (least_le c n f)

-- what a walk over the amounts uses of them
pub ruleset heights = (entry_within, most_none, most_suc, least_none, least_suc, least_le)

-- the highest is at most w above the lowest exactly where each is at most w above each other
spread_all : (c n w : ℕ) (f : ℕ → ℕ) → most n f ≤ least c n f + w → (i j : ℕ) → i < n → j < n → f i ≤ f j + w
spread_all c n w f h i j bi bj = omega (arith, most_at n f i bi, least_at c n f j bj)

all_spread : (c n w : ℕ) (f : ℕ → ℕ) → ((i : ℕ) → i < n → f i ≤ c) → ((i j : ℕ) → i < n → j < n → f i ≤ f j + w)
    → most n f ≤ least c n f + w
all_spread c n w f k h =
    most_le n f (least c n f + w)
    (λ i bi.
    let low : f i - w ≤ least c n f =
    least_ge c n f (f i - w) (omega (arith, k i bi)) (λ j bj. let l : f i ≤ f j + w = h i j bi bj in omega arith) in
    omega arith)

-- heights of amounts a over exact shares x, both in parts of w
abbrev over : ℕ → ℕ → ℕ → ℕ
over w a x = min (a + w - x) (2 * w)

module _ (n w : ℕ) (a x : ℕ → ℕ) (positive : 0 < w) (equal : sum_to n a ≡ sum_to n x)
    (near : (i j : ℕ) → i < n → j < n → over w (a i) (x i) ≤ over w (a j) (x j) + w)
  where
    not_low : (k : ℕ) → k < n → x k < a k + w
    not_low k b =
        ⊎_elim
        (λ (l : x k < a k + w). l)
        (λ (g : a k + w ≤ x k).
        let all : (i : ℕ) → i < n → a i ≤ x i = λ i bi. let h : over w (a i) (x i) ≤ over w (a k) (x k) + w = near i k bi b in omega arith in
        let same : a k ≡ x k = sum_tight n a x all equal k b in
        absurd (omega arith))
        (lt_or_le (x k) (a k + w))

    not_high : (k : ℕ) → k < n → a k < x k + w
    not_high k b =
        ⊎_elim
        (λ (l : a k < x k + w). l)
        (λ (g : x k + w ≤ a k).
        let all : (i : ℕ) → i < n → x i ≤ a i = λ i bi. let h : over w (a k) (x k) ≤ over w (a i) (x i) + w = near k i b bi in omega arith in
        let same : x k ≡ a k = sum_tight n x a all (sym equal) k b in
        absurd (omega arith))
        (lt_or_le (a k) (x k + w))

    near_level : (i j : ℕ) → i < n → j < n → a i + x j ≤ a j + x i + w
    near_level i j bi bj = omega (arith, near i j bi bj, not_low i bi, not_high i bi, not_low j bj, not_high j bj)

level_near : (w ai aj xi xj : ℕ) → ai + xj ≤ aj + xi + w → over w ai xi ≤ over w aj xj + w
level_near w ai aj xi xj h = omega arith

same_truth : (s t : Bool) → (s ≡ true → t ≡ true) → (t ≡ true → s ≡ true) → s ≡ t
same_truth true t f g = sym (f refl)
same_truth false true f g = g refl
same_truth false false f g = refl

module _ (pot : ℕ) (weights amounts : List ℕ) (size : FineSize pot (total weights)) (same : length weights ≡ length amounts) (adds_up : total amounts ≡ pot) where
  over_is : (i : ℕ) → height pot weights (total weights) amounts i ≡ over (total weights) (total weights * at amounts i) (pot * at weights i)
  over_is i = omega (arith, mul_comm pot (at weights i))

  equal_sums : sum_to (length weights) (λ i. total weights * at amounts i) ≡ sum_to (length weights) (λ i. pot * at weights i)
  equal_sums =
      sum_mul (length weights) (total weights) (at amounts)
      ∙ ap (λ n. total weights * sum_to n (at amounts)) same
      ∙ ap (λ p. total weights * p) adds_up
      ∙ mul_comm (total weights) pot
      ∙ sym (sum_mul (length weights) pot (at weights))

  pub level_spread : leb (most (length weights) (height pot weights (total weights) amounts))
      (least (2 * total weights) (length weights) (height pot weights (total weights) amounts) + total weights)
      ≡ level pot weights amounts
  unfolding level
  level_spread =
      same_truth
      (leb (most (length weights) (height pot weights (total weights) amounts))
      (least (2 * total weights) (length weights) (height pot weights (total weights) amounts) + total weights))
      (every (length weights) (λ i. every (length weights) (λ j.
      leb (total weights * at amounts i + pot * at weights j) (total weights * at amounts j + pot * at weights i + total weights))))
      (λ t.
      every_from (length weights) _ (λ i bi. every_from (length weights) _ (λ j bj. le-leb _ _ (from_spread (leb-true _ _ t) i j bi bj))))
      (λ t.
      le-leb _ _
      (all_spread (2 * total weights) (length weights) (total weights) (height pot weights (total weights) amounts)
      (λ i b. omega arith)
      (λ i j bi bj.
      let far : total weights * at amounts i + pot * at weights j ≤ total weights * at amounts j + pot * at weights i + total weights =
      leb-true _ _ (every_at (length weights) _ (every_at (length weights) _ t i bi) j bj) in
      let h = level_near (total weights) (total weights * at amounts i) (total weights * at amounts j) (pot * at weights i) (pot * at weights j) far in
      omega (arith, over_is i, over_is j, h))))
    where
      from_spread : most (length weights) (height pot weights (total weights) amounts)
          ≤ least (2 * total weights) (length weights) (height pot weights (total weights) amounts) + total weights
          → (i j : ℕ) → i < length weights → j < length weights
          → total weights * at amounts i + pot * at weights j ≤ total weights * at amounts j + pot * at weights i + total weights
      from_spread h i j bi bj =
          ⊎_elim
          (λ (z : total weights ≡ 0).
          let none : pot * at weights j ≡ 0 * at weights j = ap (λ p. p * at weights j) (size.has_base z) in
          let no-sum : total weights * at amounts i ≡ 0 * at amounts i = ap (λ w. w * at amounts i) z in
          omega arith)
          (λ (d : total weights ≢ 0).
          near_level (length weights) (total weights) (λ k. total weights * at amounts k) (λ k. pot * at weights k)
          (omega (arith, d)) equal_sums
          (λ k l bk bl.
          let n : height pot weights (total weights) amounts k ≤ height pot weights (total weights) amounts l + total weights =
          spread_all (2 * total weights) (length weights) (total weights) (height pot weights (total weights) amounts) h k l bk bl in
          omega (arith, over_is k, over_is l))
          i j bi bj)
          (zero_or_not (total weights))
