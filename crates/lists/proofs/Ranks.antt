-- In a strict order of the positions below n, exactly k of them have a rank below k. By induction on n: the last position
-- has some rank R among the others; it moves those behind it up by one and leaves those before it.
-- Assumes nothing.
use mathlib.Core.Path.{◌≡◌, refl, sym, ap, ◌∙◌}
use mathlib.Core.Logic.{◌⊎◌, inl, inr, ⊎_elim, ◌≢◌}
use mathlib.Core.Bool.{Bool, true, false, not, true≢false, ◌&&◌, ◌||◌}
use Prim.Native.Nat.{ℕ, zero, suc, ◌+◌, ◌≤◌, ◌<◌, min}
use native.Mathlib.Nat.{le_refl, ne_of_lt}
use native.Mathlib.Omega.{arith}
use lib.Dec.{ltb, eqb}
use borrow.Author.Tests.{lt-ltb, le-ltb, ltb-true, ltb-false, eq-eqb, ne_eqb, eqb-true, eqb-false}
use Rattle.lists.specs.Sums.{sum_to, bit, count, rank, largest_first}
use Rattle.lists.proofs.Sums.{sum_eq, sum_zero, count_implied, count_more, count_le}

-- an order of positions in which none stands before itself, and of two one stands before the other
pub record Ordered (before : ℕ → ℕ → Bool) : Type 0 where
  pub irreflexive : (i : ℕ) → before i i ≡ false
  pub transitive : (i j k : ℕ) → before i j ≡ true → before j k ≡ true → before i k ≡ true
  pub connected : (i j : ℕ) → i ≢ j → before i j ≡ false → before j i ≡ true

pub true_or_false : (t : Bool) → (t ≡ true) ⊎ (t ≡ false)
true_or_false true = inl refl
true_or_false false = inr refl

pub lt_or_le : (a b : ℕ) → (a < b) ⊎ (b ≤ a)
lt_or_le a b = ⊎_elim (λ e. inl (ltb-true a b e)) (λ e. inr (ltb-false a b e)) (true_or_false (ltb a b))

pub equal_or_not : (a b : ℕ) → (a ≡ b) ⊎ (a ≢ b)
equal_or_not a b = ⊎_elim (λ e. inl (eqb-true a b e)) (λ e. inr (eqb-false a b e)) (true_or_false (eqb a b))

-- two tests that hold at the same time are equal
pub same_test : (s t : Bool) → (s ≡ true → t ≡ true) → (s ≡ false → t ≡ false) → s ≡ t
same_test true t h k = sym (h refl)
same_test false t h k = sym (k refl)

module _ (before : ℕ → ℕ → Bool) (o : Ordered before) where
  -- whoever stands before i, which stands before j, stands before j
  pub rank_less : (n i j : ℕ) → i < n → before i j ≡ true → rank n before i < rank n before j
  rank_less n i j h b =
      count_more n (λ k. before k i) (λ k. before k j) (λ k l e. o.transitive k i j e b) i h (o.irreflexive i) b

  -- i stands before j exactly where its rank is the lower
  before_rank : (n i j : ℕ) → i < n → i ≢ j → before i j ≡ ltb (rank n before i) (rank n before j)
  before_rank n i j h d =
      same_test (before i j) (ltb (rank n before i) (rank n before j))
      (λ e. lt-ltb _ _ (rank_less n i j h e))
      (λ e. le-ltb (rank n before i) (rank n before j)
      (count_implied n (λ k. before k j) (λ k. before k i) (λ k l b. o.transitive k j i b (o.connected i j d e))))

  opposite : (n i j : ℕ) → i < n → i ≢ j → before j i ≡ not (ltb (rank n before i) (rank n before j))
  opposite n i j h d =
      ⊎_elim
      (λ (e : before i j ≡ true).
      same_test (before j i) (not (ltb (rank n before i) (rank n before j)))
      (λ b. absurd (true≢false (sym (o.transitive i j i e b) ∙ o.irreflexive i)))
      (λ b. rw (← before_rank n i j h d, e)))
      (λ (e : before i j ≡ false). o.connected i j d e ∙ (rw (← before_rank n i j h d, e)))
      (true_or_false (before i j))

  -- the rank among n + 1 positions of one of the first n
  rank_more : (n i : ℕ) → i < n → rank (suc n) before i ≡ rank n before i + bit (not (ltb (rank n before i) (rank n before n)))
  unfolding sum_to
  rank_more n i h = ap (λ t. rank n before i + bit t) (opposite n i n h (ne_of_lt h))

  rank_last : (n : ℕ) → rank (suc n) before n ≡ rank n before n
  unfolding sum_to
  rank_last n = rw (o.irreflexive n) (omega arith)

-- a number r that moves up by one where it is not below a limit R: how it compares with k after that
moved_low : (r R k : ℕ) → k ≤ R → ltb (r + bit (not (ltb r R))) k ≡ ltb r k
moved_low r R k h =
    ⊎_elim
    (λ (l : r < R). rw (lt-ltb r R l) (ap (λ m. ltb m k) (let e : r + 0 ≡ r = omega arith in e)))
    (λ (l : R ≤ r). rw (le-ltb r R l) (le-ltb (r + 1) k (omega arith) ∙ sym (le-ltb r k (omega arith))))
    (lt_or_le r R)

moved_high : (r R k : ℕ) → R ≤ k → ltb (r + bit (not (ltb r R))) (suc k) ≡ ltb r k
moved_high r R k h =
    ⊎_elim
    (λ (l : r < R). rw (lt-ltb r R l) (lt-ltb (r + 0) (suc k) (omega arith) ∙ sym (lt-ltb r k (omega arith))))
    (λ (l : R ≤ r). rw (le-ltb r R l)
    (⊎_elim
    (λ (b : r < k). lt-ltb (r + 1) (suc k) (omega arith) ∙ sym (lt-ltb r k b))
    (λ (b : k ≤ r). le-ltb (r + 1) (suc k) (omega arith) ∙ sym (le-ltb r k b))
    (lt_or_le r k)))
    (lt_or_le r R)

module _ (before : ℕ → ℕ → Bool) (o : Ordered before) where
  none_below : (n : ℕ) → count n (λ i. ltb (rank n before i) 0) ≡ 0
  none_below n = sum_zero n (λ i. bit (ltb (rank n before i) 0)) (λ i h. rw (le-ltb (rank n before i) 0 (omega arith)))

  -- of n positions, as many have a rank below k as k says, or all where there are fewer
  pub ranks_below : (n k : ℕ) → count n (λ i. ltb (rank n before i) k) ≡ min k n
  unfolding sum_to
  ranks_below zero k = omega arith
  ranks_below (suc n) zero = none_below (suc n) ∙ omega arith
  ranks_below (suc n) (suc k) =
      ⊎_elim
      (λ (low : k < R).
      let others : count n (λ i. ltb (rank (suc n) before i) (suc k)) ≡ min (suc k) n =
      sum_eq n (λ i. bit (ltb (rank (suc n) before i) (suc k))) (λ i. bit (ltb (rank n before i) (suc k)))
      (λ i h. ap bit (ap (λ r. ltb r (suc k)) (rank_more before o n i h) ∙ moved_low (rank n before i) R (suc k) low))
      ∙ ranks_below n (suc k) in
      let last : bit (ltb (rank (suc n) before n) (suc k)) ≡ 0 =
      ap bit (ap (λ r. ltb r (suc k)) (rank_last before o n) ∙ le-ltb R (suc k) low) in
      omega (arith, count_le n (λ j. before j n)))
      (λ (high : R ≤ k).
      let others : count n (λ i. ltb (rank (suc n) before i) (suc k)) ≡ min k n =
      sum_eq n (λ i. bit (ltb (rank (suc n) before i) (suc k))) (λ i. bit (ltb (rank n before i) k))
      (λ i h. ap bit (ap (λ r. ltb r (suc k)) (rank_more before o n i h) ∙ moved_high (rank n before i) R k high))
      ∙ ranks_below n k in
      let last : bit (ltb (rank (suc n) before n) (suc k)) ≡ 1 =
      ap bit (ap (λ r. ltb r (suc k)) (rank_last before o n) ∙ lt-ltb R (suc k) (omega arith)) in
      omega arith)
      (lt_or_le k R)
    where
      R : ℕ
      R = rank n before n

-- largest first, lower position first among equals, is such an order
either : (s t u : Bool) → (s || (t && u)) ≡ true → (s ≡ true) ⊎ ((t ≡ true) × (u ≡ true))
either true t u e = inl refl
either false true u e = inr (refl, e)
either false false u e = absurd (true≢false (sym e))

pub comes_first : (f : ℕ → ℕ) (j i : ℕ) → largest_first f j i ≡ true → (f i < f j) ⊎ ((f i ≡ f j) × (j < i))
unfolding largest_first
comes_first f j i e =
    ⊎_elim
    (λ l. inl (ltb-true (f i) (f j) l))
    (λ b. inr (eqb-true (f i) (f j) b.0, ltb-true j i b.1))
    (either (ltb (f i) (f j)) (eqb (f i) (f j)) (ltb j i) e)

pub larger_first : (f : ℕ → ℕ) (j i : ℕ) → f i < f j → largest_first f j i ≡ true
unfolding largest_first
larger_first f j i l = rw (lt-ltb (f i) (f j) l)

pub lower_first : (f : ℕ → ℕ) (j i : ℕ) → f i ≡ f j → j < i → largest_first f j i ≡ true
unfolding largest_first
lower_first f j i e l = rw (le-ltb (f i) (f j) (omega arith), eq-eqb (f i) (f j) e, lt-ltb j i l)

pub smaller_later : (f : ℕ → ℕ) (j i : ℕ) → f j < f i → largest_first f j i ≡ false
unfolding largest_first
smaller_later f j i l = rw (le-ltb (f i) (f j) (omega arith), ne_eqb (f i) (f j) (λ e. omega arith))

pub higher_later : (f : ℕ → ℕ) (j i : ℕ) → f i ≡ f j → i ≤ j → largest_first f j i ≡ false
unfolding largest_first
higher_later f j i e l = rw (le-ltb (f i) (f j) (omega arith), eq-eqb (f i) (f j) e, le-ltb j i l)

pub largest_first_ordered : (f : ℕ → ℕ) → Ordered (largest_first f)
largest_first_ordered f =
    record {
      irreflexive = λ i. higher_later f i i refl (le_refl i);
      transitive = λ i j k a b.
          ⊎_elim
          (λ (x : f j < f i).
          ⊎_elim
          (λ (y : f k < f j). larger_first f i k (omega arith))
          (λ (y : (f k ≡ f j) × (j < k)). larger_first f i k (omega arith))
          (comes_first f j k b))
          (λ (x : (f j ≡ f i) × (i < j)).
          ⊎_elim
          (λ (y : f k < f j). larger_first f i k (omega arith))
          (λ (y : (f k ≡ f j) × (j < k)). lower_first f i k (omega arith) (omega arith))
          (comes_first f j k b))
          (comes_first f i j a);
      connected = λ i j d e.
          ⊎_elim
          (λ (x : f i < f j). larger_first f j i x)
          (λ (x : f j ≤ f i).
          ⊎_elim
          (λ (y : f j < f i). absurd (true≢false (sym (larger_first f i j y) ∙ e)))
          (λ (y : f i ≤ f j).
          ⊎_elim
          (λ (z : j < i). lower_first f j i (omega arith) z)
          (λ (z : i ≤ j). absurd (true≢false (sym (lower_first f i j (omega arith) (omega (arith, d))) ∙ e)))
          (lt_or_le j i))
          (lt_or_le (f j) (f i)))
          (lt_or_le (f i) (f j));
    }
