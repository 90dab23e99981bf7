-- Laws of lists made entry by entry: their length, their entries, and that storing one after the other leaves just the rest.
-- Assumes nothing.
use mathlib.Core.Path.{◌≡◌, refl, sym, ap, ap₂, ◌∙◌}
use mathlib.Core.Logic.{⊎_elim}
use mathlib.Core.List.{List, [], ◌∷◌, ◌++◌, append_assoc}
use Prim.Native.Nat.{ℕ, zero, suc, ◌+◌, ◌≤◌, ◌<◌}
use native.Mathlib.Nat.{le_of_suc-le, le_step, not-suc-le-zero, lt-suc_self}
use native.Mathlib.Numerals.{add-one}
use native.Mathlib.Omega.{arith}
use lib.ListN.{length, set, take, drop, length-set, length-append, get_or-append}
use lib.Seq.{length-take-le, get_or-take, drop-cons, set_at, get_or_at, ext_get_or, get_or-set_other, take_at, drop_at}
use Rattle.lists.specs.Sums.{sum_to, at, total}
use Rattle.lists.specs.Entries.{listed, put}
use Rattle.lists.proofs.Sums.{last_or_below, sum_eq}

pub length_listed : (n : ℕ) (f : ℕ → ℕ) → length (listed n f) ≡ n
unfolding listed
length_listed zero f = refl
length_listed (suc n) f = length-append (listed n f) (f n ∷ []) ∙ ap (λ k. k + 1) (length_listed n f) ∙ add-one n

pub at_listed : (n : ℕ) (f : ℕ → ℕ) (i : ℕ) → i < n → at (listed n f) i ≡ f i
unfolding listed
at_listed zero f i h = absurd (not-suc-le-zero h)
at_listed (suc n) f i h =
    ⊎_elim
    (λ (e : i ≡ n). rw e (get_or_at (listed n f) (f n) [] 0 n (length_listed n f)))
    (λ (b : i < n).
    let within : i < length (listed n f) = rw length_listed b in
    get_or-append (listed n f) (f n ∷ []) 0 i within ∙ at_listed n f i b)
    (last_or_below n i h)

pub total_listed : (n : ℕ) (f : ℕ → ℕ) → total (listed n f) ≡ sum_to n f
total_listed n f = rw length_listed (sum_eq n (at (listed n f)) f (at_listed n f))

-- the first entries of a list add up to the sum over their positions
pub total_take : (n : ℕ) (l : List ℕ) → n ≤ length l → total (take n l) ≡ sum_to n (at l)
total_take n l h = rw length-take-le (sum_eq n (at (take n l)) (at l) (λ i b. get_or-take n l i 0 b))

-- a list is its entries, listed
pub listed_at : (l : List ℕ) → listed (length l) (at l) ≡ l
listed_at l =
    ext_get_or 0 (listed (length l) (at l)) l (length_listed (length l) (at l))
    (λ i h. at_listed (length l) (at l) i (rw length_listed at h))

pub listed_eq : (n : ℕ) (f g : ℕ → ℕ) → ((i : ℕ) → i < n → f i ≡ g i) → listed n f ≡ listed n g
listed_eq n f g e =
    ext_get_or 0 (listed n f) (listed n g) (length_listed n f ∙ sym (length_listed n g))
    (λ i h. let b : i < n = rw length_listed at h in at_listed n f i b ∙ e i b ∙ sym (at_listed n g i b))

pub length_put : (n : ℕ) (f : ℕ → ℕ) (l : List ℕ) → length (put n f l) ≡ length l
unfolding put
length_put zero f l = refl
length_put (suc n) f l = length-set (put n f l) n (f n) ∙ length_put n f l

-- what is stored stands first, and what stood behind it stays
pub put_listed : (n : ℕ) (f : ℕ → ℕ) (l : List ℕ) → n ≤ length l → put n f l ≡ listed n f ++ drop n l
unfolding put listed
put_listed zero f l h = refl
put_listed (suc n) f l h =
    ap (λ k. set k n (f n)) (put_listed n f l (le_of_suc-le h) ∙ ap (λ k. listed n f ++ k) (drop-cons l n 0 h))
    ∙ set_at (listed n f) (at l n) (drop (suc n) l) (f n) n (length_listed n f)
    ∙ sym (append_assoc (listed n f) (f n ∷ []) (drop (suc n) l))

pub put_none : (f : ℕ → ℕ) (l : List ℕ) → put 0 f l ≡ l
unfolding put
put_none f l = refl

-- the words from n on are as they were
pub put_ahead : (n : ℕ) (f : ℕ → ℕ) (l : List ℕ) (i : ℕ) → n ≤ i → at (put n f l) i ≡ at l i
unfolding put
put_ahead zero f l i h = refl
put_ahead (suc n) f l i h =
    get_or-set_other (put n f l) n i (f n) 0 (λ e. let k : i ≡ n = e in omega arith) ∙ put_ahead n f l i (le_of_suc-le h)

pub put_suc : (n : ℕ) (f : ℕ → ℕ) (l : List ℕ) → put (n + 1) f l ≡ set (put n f l) n (f n)
unfolding put
put_suc n f l = rw add-one

pub put_eq : (n : ℕ) (f g : ℕ → ℕ) (l : List ℕ) → ((i : ℕ) → i < n → f i ≡ g i) → put n f l ≡ put n g l
unfolding put
put_eq zero f g l e = refl
put_eq (suc n) f g l e = ap₂ (λ k v. set k n v) (put_eq n f g l (λ i b. e i (le_step b))) (e n (lt-suc_self n))

pub at_put : (n : ℕ) (f : ℕ → ℕ) (l : List ℕ) → n ≤ length l → (i : ℕ) → i < n → at (put n f l) i ≡ f i
at_put n f l h i b =
    let within : i < length (listed n f) = rw length_listed b in
    ap (λ k. at k i) (put_listed n f l h) ∙ get_or-append (listed n f) (drop n l) 0 i within ∙ at_listed n f i b

-- what is stored, by itself
pub take_put : (n : ℕ) (f : ℕ → ℕ) (l : List ℕ) → n ≤ length l → take n (put n f l) ≡ listed n f
take_put n f l h = ap (take n) (put_listed n f l h) ∙ take_at (listed n f) (drop n l) n (length_listed n f)

-- storing over what was stored
pub put_over : (n : ℕ) (f g : ℕ → ℕ) (l : List ℕ) → n ≤ length l → put n g (put n f l) ≡ put n g l
put_over n f g l h =
    put_listed n g (put n f l) (rw length_put h)
    ∙ ap (λ k. listed n g ++ drop n k) (put_listed n f l h)
    ∙ ap (λ k. listed n g ++ k) (drop_at (listed n f) (drop n l) n (length_listed n f))
    ∙ sym (put_listed n g l h)

-- a list that was stored into keeps its length
pub put_long : {l : List ℕ} (n : ℕ) (f : ℕ → ℕ) (l₀ : List ℕ) → l ≡ put n f l₀ → length l ≡ length l₀
put_long n f l₀ e = ap length e ∙ length_put n f l₀
