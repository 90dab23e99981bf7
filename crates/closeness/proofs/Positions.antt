-- The position below n where a difference is smallest, found by trying one position after the other. And what one changed
-- entry does to a sum.
-- Assumes nothing.
use mathlib.Core.Path.{◌≡◌, ap, ◌∙◌}
use mathlib.Core.Logic.{⊎_elim}
use mathlib.Core.List.{List}
use Prim.Native.Nat.{ℕ, zero, suc, ◌+◌, ◌≤◌, ◌<◌}
use native.Mathlib.Nat.{le_step, lt-suc_self, le_refl, not-suc-le-zero, eq-zero-or-pos}
use native.Mathlib.Omega.{arith}
use lib.ListN.{length, set}
use lib.Seq.{get_or-set_same, get_or-set_other}
use Rattle.lists.specs.Sums.{sum_to, at}
use Rattle.lists.proofs.Sums.{last_or_below, sum_but_one}
use Rattle.lists.proofs.Ranks.{lt_or_le}

-- a sum that is not 0 has a position
pub some_position : (n : ℕ) (f : ℕ → ℕ) → 0 < sum_to n f → 0 < n
unfolding sum_to
some_position zero f h = h
some_position (suc n) f h = omega arith

-- the position where f stands lowest above g; with f and g exchanged, the one where g stands highest above f
pub lowest : (n : ℕ) (f g : ℕ → ℕ) → 0 < n → (j : ℕ) × (j < n) × ((k : ℕ) → k < n → f j + g k ≤ f k + g j)
lowest zero f g h = absurd (not-suc-le-zero h)
lowest (suc n) f g h =
    ⊎_elim
    (λ (only : n ≡ 0). (n, lt-suc_self n, λ k b. let e : k ≡ n = omega arith in rw e (le_refl (f n + g n))))
    (λ (more : 0 < n).
    let found = lowest n f g more in
    ⊎_elim
    (λ (less : f n + g found.0 < f found.0 + g n). (
      n,
      lt-suc_self n,
      λ k b.
          ⊎_elim
          (λ (e : k ≡ n). rw e (le_refl (f n + g n)))
          (λ (c : k < n). omega (arith, found.2 k c))
          (last_or_below n k b),
    ))
    (λ (least : f found.0 + g n ≤ f n + g found.0). (
      found.0,
      le_step found.1,
      λ k b.
          ⊎_elim
          (λ (e : k ≡ n). rw e least)
          (λ (c : k < n). found.2 k c)
          (last_or_below n k b),
    ))
    (lt_or_le (f n + g found.0) (f found.0 + g n)))
    (eq-zero-or-pos n)

-- a sum over the entries of a list, after one of them is replaced
pub sum_set : (n : ℕ) (f : ℕ → ℕ → ℕ) (l : List ℕ) (k v : ℕ) → length l ≡ n → k < n
    → sum_to n (λ i. f i (at (set l k v) i)) + f k (at l k) ≡ sum_to n (λ i. f i (at l i)) + f k v
sum_set n f l k v long h =
    sum_but_one n (λ i. f i (at (set l k v) i)) (λ i. f i (at l i)) k h (λ i b d. ap (f i) (get_or-set_other l k i v 0 d))
    ∙ ap (λ m. sum_to n (λ i. f i (at l i)) + f k m) (get_or-set_same l k v 0 (rw long h))
