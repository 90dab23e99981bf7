-- Rows with numbers that strictly ascend: no two rows have one number, so a sum over the rows with a number has one row at most.
-- Assumes nothing.
use mathlib.Core.Path.{◌≡◌, refl, sym, ◌∙◌}
use mathlib.Core.Logic.{◌⊎◌, ◌↔◌, ⊎_elim, ◌≢◌}
use mathlib.Core.Bool.{Bool, true, false}
use Prim.Native.Nat.{ℕ, zero, suc, ◌-◌, ◌*◌, ◌≤◌, ◌<◌}
use native.Mathlib.Nat.{le_step, lt-suc_self, le_of_suc-le}
use native.Mathlib.Omega.{arith}
use lib.Dec.{eqb}
use borrow.Author.Tests.{eq-eqb, ne_eqb, eqb-true}
use Rattle.lists.specs.Sums.{sum_to, when, sum_where}
use Rattle.lists.proofs.Sums.{sum_zero, sum_one, le_sum, when_true, when_zero, when_eq}
use Rattle.lists.proofs.Ranks.{true_or_false, lt_or_le}
use Rattle.month.specs.Limits.{most_load}

-- the numbers of n rows strictly ascend
abbrev pub Ascends : ℕ → (ℕ → ℕ) → Type 0
Ascends n key = (i j : ℕ) → i < j → j < n → key i < key j

module _ (n : ℕ) (key : ℕ → ℕ) (up : Ascends n key) where
  pub distinct : (i j : ℕ) → i < n → j < n → i ≢ j → key i ≢ key j
  distinct i j h k d e =
      ⊎_elim
      (λ (l : i < j). omega (arith, up i j l k))
      (λ (l : j ≤ i). let less : j < i = omega (arith, d) in omega (arith, up j i less h))
      (lt_or_le i j)

  -- where row k has the number x, a sum over the rows with that number is row k's
  pub row_of : (x k v : ℕ) → k < n → key k ≡ x → sum_to n (λ i. when (eqb x (key i)) v) ≡ v
  row_of x k v h e =
      sum_one n (λ i. when (eqb x (key i)) v) k h
      (λ i b d. rw (ne_eqb x (key i) (λ q. distinct i k b h d (sym q ∙ sym e))))
      ∙ (rw (eq-eqb x (key k) (sym e)))

  -- .. and so is what the rows with row k's number have
  pub entry_of_lem : (f : ℕ → ℕ) (k x : ℕ) → k < n → key k ≡ x → sum_where n key f x ≡ f k
  unfolding sum_where
  entry_of_lem f k x h e =
      sum_one n (λ i. when (eqb (key i) x) (f i)) k h
      (λ i b d. rw (ne_eqb (key i) x (λ q. distinct i k b h d (q ∙ sym e))))
      ∙ (rw (eq-eqb (key k) x e))

-- where no row has the number x, nothing is in the sum
pub no_row_of : (n : ℕ) (key : ℕ → ℕ) (x v : ℕ) → ((i : ℕ) → i < n → x ≢ key i) → sum_to n (λ i. when (eqb x (key i)) v) ≡ 0
no_row_of n key x v none = sum_zero n (λ i. when (eqb x (key i)) v) (λ i b. rw (ne_eqb x (key i) (none i b)))

-- a number that is 0 where the test holds
pub when_none : (t : Bool) (v : ℕ) → (t ≡ true → v ≡ 0) → when t v ≡ 0
when_none t v none = when_eq t v 0 none ∙ when_zero t 0 refl

-- the rows with the number x add up to 0 exactly where each of them has 0
pub none_of : (n : ℕ) (key f : ℕ → ℕ) (x : ℕ) → (sum_where n key f x ≡ 0) ↔ ((i : ℕ) → i < n → key i ≡ x → f i ≡ 0)
unfolding sum_where
none_of n key f x = (
  (λ none i b e.
      let its = when_true (eqb (key i) x) (f i) (eq-eqb (key i) x e) in
      let least = le_sum n (λ j. when (eqb (key j) x) (f j)) i b in omega (arith, its, least, none)),
  (λ each. sum_zero n (λ i. when (eqb (key i) x) (f i)) (λ i b. when_none (eqb (key i) x) (f i) (λ t. each i b (eqb-true (key i) x t)))),
)

-- .. and so where no row has it
pub no_entry_of : (n : ℕ) (key f : ℕ → ℕ) (x : ℕ) → ((i : ℕ) → i < n → key i ≢ x) → sum_where n key f x ≡ 0
no_entry_of n key f x none = (none_of n key f x).1 (λ i b e. absurd (none i b e))

-- where rows ascend, what those with a number have is at most what one row can have
pub one_row_at_most : (n : ℕ) (key f : ℕ → ℕ) (x most : ℕ) → Ascends n key → ((i : ℕ) → i < n → f i ≤ most)
    → sum_where n key f x ≤ most
unfolding sum_to sum_where
one_row_at_most zero key f x most up within = omega arith
one_row_at_most (suc n) key f x most up within =
    ⊎_elim
    (λ (e : eqb (key n) x ≡ true).
    let before : sum_where n key f x ≡ 0 =
    sum_zero n (λ i. when (eqb (key i) x) (f i))
    (λ i b. rw (ne_eqb (key i) x (λ q. let p : key n ≡ x = eqb-true (key n) x e in omega (arith, up i n b (lt-suc_self n)))) refl) in
    rw (e, before) (omega (arith, within n (lt-suc_self n))))
    (λ (e : eqb (key n) x ≡ false).
    rw e (omega (arith, one_row_at_most n key f x most (λ i j l h. up i j l (le_step h)) (λ i b. within i (le_step b)))))
    (true_or_false (eqb (key n) x))

-- the rows ascend by account, then day
abbrev pub AscendsByDay : ℕ → (ℕ → ℕ) → (ℕ → ℕ) → Type 0
AscendsByDay n account day = (i j : ℕ) → i < j → j < n → (account i < account j) ⊎ ((account i ≡ account j) × (day i < day j))

-- Rows with an account and a day each, of which no two have both in common: an account has a row for each day at most.
module _ (n : ℕ) (account day f : ℕ → ℕ) (up : AscendsByDay n account day)
    (from_one : (i : ℕ) → i < n → 1 ≤ day i) (within : (i : ℕ) → i < n → f i ≤ most_load) (x : ℕ) where
  pub one_row_a_day : (k : ℕ) → k ≤ n → (last : ℕ) → ((i : ℕ) → i < k → account i ≡ x → day i ≤ last)
      → sum_where k account f x ≤ last * most_load
  unfolding sum_to sum_where
  one_row_a_day zero h last days = omega arith
  one_row_a_day (suc k) h last days =
      ⊎_elim
      (λ (e : eqb (account k) x ≡ true).
      let its : account k ≡ x = eqb-true (account k) x e in
      let earlier : sum_where k account f x ≤ (day k - 1) * most_load =
      one_row_a_day k (le_of_suc-le h) (day k - 1)
      (λ i b q. ⊎_elim (λ l. omega arith) (λ p. omega arith) (up i k b h)) in
      rw e (omega (arith, within k h, from_one k h, days k (lt-suc_self k) its)))
      (λ (e : eqb (account k) x ≡ false).
      rw e (omega (arith, one_row_a_day k (le_of_suc-le h) last (λ i b q. days i (le_step b) q))))
      (true_or_false (eqb (account k) x))
