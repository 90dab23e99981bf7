-- Laws of sums, counts and tests over positions. Each goes by induction on how many positions there are, adding the last one.
-- Assumes nothing.
use mathlib.Core.Path.{◌≡◌, refl, sym, ap, ap₂, ◌∙◌, subst}
use mathlib.Core.Logic.{◌⊎◌, inl, inr, ⊎_elim, ◌≢◌}
use mathlib.Core.Bool.{Bool, true, false, true≢false, ◌&&◌, ◌||◌, and-eq-true_iff}
use Prim.Native.Nat.{ℕ, zero, suc, ◌+◌, ◌*◌, ◌≤◌, ◌<◌}
use native.Mathlib.Nat.{add_comm, add_assoc, eq-or-lt_of_le, le_of_suc-le-suc, not-suc-le-zero, mul-add, mul-zero, le_step, lt-suc_self, zero-mul, suc-mul, le_refl, le_of_eq, ne_of_lt, ne_of_gt, mul-le-mul_right, le_trans}
use native.Mathlib.Numerals.{add-one}
use native.Mathlib.Omega.{arith}
use lib.Dec.{eqb}
use borrow.Author.Tests.{eqb-true}
use Rattle.lists.specs.Sums.{sum_to, bit, when, sum_where, count, every}

-- a position below n + 1 is n or below n
pub last_or_below : (n i : ℕ) → i < suc n → (i ≡ n) ⊎ (i < n)
last_or_below n i h = eq-or-lt_of_le (le_of_suc-le-suc h)

pub sum_none : (f : ℕ → ℕ) → sum_to 0 f ≡ 0
unfolding sum_to
sum_none f = refl

pub sum_suc : (n : ℕ) (f : ℕ → ℕ) → sum_to (n + 1) f ≡ sum_to n f + f n
unfolding sum_to
sum_suc n f = rw add-one

pub sum_eq : (n : ℕ) (f g : ℕ → ℕ) → ((i : ℕ) → i < n → f i ≡ g i) → sum_to n f ≡ sum_to n g
unfolding sum_to
sum_eq zero f g e = refl
sum_eq (suc n) f g e = ap₂ ◌+◌ (sum_eq n f g (λ i h. e i (le_step h))) (e n (lt-suc_self n))

pub sum_le : (n : ℕ) (f g : ℕ → ℕ) → ((i : ℕ) → i < n → f i ≤ g i) → sum_to n f ≤ sum_to n g
unfolding sum_to
sum_le zero f g e = le_refl 0
sum_le (suc n) f g e = omega (arith, sum_le n f g (λ i h. e i (le_step h)), e n (lt-suc_self n))

pub sum_add : (n : ℕ) (f g : ℕ → ℕ) → sum_to n (λ i. f i + g i) ≡ sum_to n f + sum_to n g
unfolding sum_to
sum_add zero f g = refl
sum_add (suc n) f g = omega (arith, sum_add n f g)

pub sum_mul : (n k : ℕ) (f : ℕ → ℕ) → sum_to n (λ i. k * f i) ≡ k * sum_to n f
unfolding sum_to
sum_mul zero k f = sym (mul-zero k)
sum_mul (suc n) k f = ap (λ m. m + k * f n) (sum_mul n k f) ∙ sym (mul-add k (sum_to n f) (f n))

pub sum_zero : (n : ℕ) (f : ℕ → ℕ) → ((i : ℕ) → i < n → f i ≡ 0) → sum_to n f ≡ 0
unfolding sum_to
sum_zero zero f e = refl
sum_zero (suc n) f e = omega (arith, sum_zero n f (λ i h. e i (le_step h)), e n (lt-suc_self n))

pub sum_const : (n k : ℕ) → sum_to n (λ i. k) ≡ n * k
unfolding sum_to
sum_const zero k = sym (zero-mul k)
sum_const (suc n) k = ap (λ m. m + k) (sum_const n k) ∙ sym (suc-mul n k)

-- so many entries, each at most so much
pub sum_at_most : (n limit most : ℕ) (f : ℕ → ℕ) → n ≤ limit → ((i : ℕ) → i < n → f i ≤ most) → sum_to n f ≤ limit * most
sum_at_most n limit most f few within =
    le_trans (sum_le n f (λ i. most) within) (le_trans (le_of_eq (sum_const n most)) (mul-le-mul_right most few))

-- one entry is at most the sum
pub le_sum : (n : ℕ) (f : ℕ → ℕ) (i : ℕ) → i < n → f i ≤ sum_to n f
unfolding sum_to
le_sum zero f i h = absurd (not-suc-le-zero h)
le_sum (suc n) f i h =
    ⊎_elim
    (λ (e : i ≡ n). let q : f i ≡ f n = ap f e in omega arith)
    (λ (b : i < n). omega (arith, le_sum n f i b))
    (last_or_below n i h)

-- the first position taken off a sum
pub sum_first : (n : ℕ) (f : ℕ → ℕ) → sum_to (suc n) f ≡ f 0 + sum_to n (λ i. f (suc i))
unfolding sum_to
sum_first zero f = add_comm 0 (f 0)
sum_first (suc n) f = ap (λ s. s + f (suc n)) (sum_first n f) ∙ add_assoc (f 0) (sum_to n (λ i. f (suc i))) (f (suc n))

-- a sum over fewer positions is at most one over more
pub sum_within : (f : ℕ → ℕ) (m n : ℕ) → m ≤ n → sum_to m f ≤ sum_to n f
unfolding sum_to
sum_within f m zero h = le_of_eq (ap (λ k. sum_to k f) (let e : m ≡ 0 = omega arith in e))
sum_within f m (suc n) h =
    ⊎_elim
    (λ (e : m ≡ suc n). le_of_eq (ap (λ k. sum_to k f) e))
    (λ (b : m < suc n). omega (arith, sum_within f m n (le_of_suc-le-suc b)))
    (eq-or-lt_of_le h)

-- sums whose entries agree except at one position
pub sum_but_one : (n : ℕ) (f g : ℕ → ℕ) (k : ℕ) → k < n → ((i : ℕ) → i < n → i ≢ k → f i ≡ g i) → sum_to n f + g k ≡ sum_to n g + f k
unfolding sum_to
sum_but_one zero f g k h e = absurd (not-suc-le-zero h)
sum_but_one (suc n) f g k h e =
    ⊎_elim
    (λ (q : k ≡ n).
    let others : sum_to n f ≡ sum_to n g = sum_eq n f g (λ i b. e i (le_step b) (ne_of_lt (rw q b))) in
    rw q (omega arith))
    (λ (b : k < n).
    omega (arith, sum_but_one n f g k b (λ i c. e i (le_step c)), e n (lt-suc_self n) (ne_of_gt b)))
    (last_or_below n k h)

-- a sum to which one position alone adds
pub sum_one : (n : ℕ) (f : ℕ → ℕ) (k : ℕ) → k < n → ((i : ℕ) → i < n → i ≢ k → f i ≡ 0) → sum_to n f ≡ f k
sum_one n f k h none = omega (arith, sum_but_one n f (λ i. 0) k h none, sum_zero n (λ i. 0) (λ i b. refl))

-- sums over pairs of positions may be taken in either order
pub sum_swap : (n m : ℕ) (f : ℕ → ℕ → ℕ) → sum_to n (λ i. sum_to m (f i)) ≡ sum_to m (λ j. sum_to n (λ i. f i j))
unfolding sum_to
sum_swap zero m f = sym (sum_zero m (λ j. 0) (λ i h. refl))
sum_swap (suc n) m f =
    ap (λ k. k + sum_to m (f n)) (sum_swap n m f) ∙ sym (sum_add m (λ j. sum_to n (λ i. f i j)) (f n))

-- where pointwise order holds and is strict at one position, the sums differ by at least as much
pub sum_lt : (n : ℕ) (f g : ℕ → ℕ) → ((i : ℕ) → i < n → f i ≤ g i) → (k : ℕ) → k < n → f k < g k → sum_to n f < sum_to n g
unfolding sum_to
sum_lt zero f g e k h l = absurd (not-suc-le-zero h)
sum_lt (suc n) f g e k h l =
    ⊎_elim
    (λ (q : k ≡ n).
    let last : f n < g n = subst (λ m. f m < g m) q l in
    omega (arith, sum_le n f g (λ i b. e i (le_step b))))
    (λ (b : k < n). omega (arith, sum_lt n f g (λ i b. e i (le_step b)) k b l, e n (lt-suc_self n)))
    (last_or_below n k h)

-- equal sums of pointwise ordered entries: the entries are equal
pub sum_tight : (n : ℕ) (f g : ℕ → ℕ) → ((i : ℕ) → i < n → f i ≤ g i) → sum_to n f ≡ sum_to n g → (k : ℕ) → k < n → f k ≡ g k
sum_tight n f g e q k h =
    ⊎_elim
    (λ (same : f k ≡ g k). same)
    (λ (less : f k < g k). let l : sum_to n f < sum_to n g = sum_lt n f g e k h less in absurd (omega arith))
    (eq-or-lt_of_le (e k h))

-- a number where a test holds, else 0
pub when_true : (t : Bool) (x : ℕ) → t ≡ true → when t x ≡ x
when_true t x e = rw e

pub when_false : (t : Bool) (x : ℕ) → t ≡ false → when t x ≡ 0
when_false t x e = rw e

pub when_zero : (t : Bool) (x : ℕ) → x ≡ 0 → when t x ≡ 0
when_zero true x e = e
when_zero false x e = refl

pub when_le : (t : Bool) (x : ℕ) → when t x ≤ x
when_le true x = omega arith
when_le false x = omega arith

pub when_eq : (t : Bool) (x y : ℕ) → (t ≡ true → x ≡ y) → when t x ≡ when t y
when_eq true x y e = e refl
when_eq false x y e = refl

pub when_mono : (t : Bool) (x y : ℕ) → x ≤ y → when t x ≤ when t y
when_mono true x y h = h
when_mono false x y h = le_refl 0

-- the values of the rows that have one number, added up
module _ (n : ℕ) (number_of f : ℕ → ℕ) (number : ℕ) where
  pub where_eq : (g : ℕ → ℕ) → ((i : ℕ) → i < n → number_of i ≡ number → f i ≡ g i) → sum_where n number_of f number ≡ sum_where n number_of g number
  unfolding sum_where
  where_eq g e =
      sum_eq n (λ i. when (eqb (number_of i) number) (f i)) (λ i. when (eqb (number_of i) number) (g i))
      (λ i b. when_eq (eqb (number_of i) number) (f i) (g i) (λ q. e i b (eqb-true (number_of i) number q)))

  pub where_mono : (g : ℕ → ℕ) → ((i : ℕ) → i < n → f i ≤ g i) → sum_where n number_of f number ≤ sum_where n number_of g number
  unfolding sum_where
  where_mono g h =
      sum_le n (λ i. when (eqb (number_of i) number) (f i)) (λ i. when (eqb (number_of i) number) (g i))
      (λ i b. when_mono (eqb (number_of i) number) (f i) (g i) (h i b))

  -- they are at most all values
  pub where_le : sum_where n number_of f number ≤ sum_to n f
  unfolding sum_where
  where_le = sum_le n (λ i. when (eqb (number_of i) number) (f i)) f (λ i b. when_le (eqb (number_of i) number) (f i))

pub bit_le : (t : Bool) → bit t ≤ 1
bit_le true = le_refl 1
bit_le false = omega arith

pub count_le : (n : ℕ) (t : ℕ → Bool) → count n t ≤ n
unfolding sum_to
count_le zero t = le_refl 0
count_le (suc n) t = omega (arith, count_le n t, bit_le (t n))

-- a test that holds wherever another does holds at least as often
implied : (s t : Bool) → (s ≡ true → t ≡ true) → bit s ≤ bit t
implied true t h = rw (h refl) (le_refl 1)
implied false t h = omega arith

pub count_implied : (n : ℕ) (s t : ℕ → Bool) → ((i : ℕ) → i < n → s i ≡ true → t i ≡ true) → count n s ≤ count n t
count_implied n s t h = sum_le n (λ i. bit (s i)) (λ i. bit (t i)) (λ i b. implied (s i) (t i) (h i b))

-- .. and strictly more often where it also holds at a position at which the other does not
pub count_more : (n : ℕ) (s t : ℕ → Bool) → ((i : ℕ) → i < n → s i ≡ true → t i ≡ true) → (k : ℕ) → k < n → s k ≡ false → t k ≡ true → count n s < count n t
count_more n s t h k b sk tk =
    sum_lt n (λ i. bit (s i)) (λ i. bit (t i)) (λ i b. implied (s i) (t i) (h i b)) k b
    (rw (sk, tk) (le_refl 1))

-- of two tests that hold, each
pub both_left : (s t : Bool) → (s && t) ≡ true → s ≡ true
both_left s t e = ((and-eq-true_iff s t).0 e).0

pub both_right : (s t : Bool) → (s && t) ≡ true → t ≡ true
both_right s t e = ((and-eq-true_iff s t).0 e).1

pub every_at : (n : ℕ) (t : ℕ → Bool) → every n t ≡ true → (i : ℕ) → i < n → t i ≡ true
unfolding every
every_at zero t e i h = absurd (not-suc-le-zero h)
every_at (suc n) t e i h =
    ⊎_elim
    (λ (q : i ≡ n). ap t q ∙ both_right (every n t) (t n) e)
    (λ (b : i < n). every_at n t (both_left (every n t) (t n) e) i b)
    (last_or_below n i h)

pub every_from : (n : ℕ) (t : ℕ → Bool) → ((i : ℕ) → i < n → t i ≡ true) → every n t ≡ true
unfolding every
every_from zero t h = refl
every_from (suc n) t h = (and-eq-true_iff (every n t) (t n)).1 (every_from n t (λ i b. h i (le_step b)), h n (lt-suc_self n))

-- two tests of which neither holds
pub neither : (s t : Bool) → (s || t) ≡ false → (s ≡ false) × (t ≡ false)
neither true t e = (e, absurd (true≢false e))
neither false t e = (refl, e)

-- two tests of which one holds
pub either : (s t : Bool) → (s || t) ≡ true → (s ≡ true) ⊎ (t ≡ true)
either true t e = inl refl
either false t e = inr e
