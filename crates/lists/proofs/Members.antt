-- Laws of a list's members taken out: a member's place among them is how many members stand before it, and a sum over the
-- places is a sum over the members. Each goes by induction on how many positions there are, adding the last one.
-- Assumes nothing.
use mathlib.Core.Path.{◌≡◌, refl, sym, ap, ap₂, ◌∙◌}
use mathlib.Core.Logic.{⊎_elim}
use mathlib.Core.Bool.{Bool, true, false, cond}
use mathlib.Core.List.{[], ◌∷◌, ◌++◌}
use Prim.Native.Nat.{ℕ, zero, suc, ◌+◌, ◌≤◌, ◌<◌}
use native.Mathlib.Nat.{not-suc-le-zero, le_step, lt-suc_self, add-zero}
use native.Mathlib.Omega.{arith}
use lib.Dec.{ltb}
use lib.ListN.{length, length-append, get_or-append}
use lib.Seq.{get_or_at}
use borrow.Author.Tests.{lt-ltb, le-ltb}
use Rattle.lists.specs.Sums.{sum_to, at, bit, when, count}
use Rattle.lists.specs.Entries.{kept}
use Rattle.lists.proofs.Sums.{last_or_below, sum_suc}
use Rattle.lists.proofs.Ranks.{lt_or_le, true_or_false}

-- a member's place is below the place of every later position
pub place_below : (n : ℕ) (member : ℕ → Bool) (i : ℕ) → i < n → member i ≡ true → count i member < count n member
unfolding sum_to
place_below zero member i h m = absurd (not-suc-le-zero h)
place_below (suc n) member i h m =
    ⊎_elim
    (λ (e : i ≡ n).
    let one : bit (member n) ≡ 1 = ap bit (ap member (sym e) ∙ m) in
    let same : count i member ≡ count n member = ap (λ k. count k member) e in
    omega arith)
    (λ (b : i < n). omega (arith, place_below n member i b m))
    (last_or_below n i h)

pub place_order : (member : ℕ → Bool) (j i : ℕ) → member j ≡ true → member i ≡ true
    → ltb (count j member) (count i member) ≡ ltb j i
place_order member j i mj mi =
    ⊎_elim
    (λ (l : j < i). lt-ltb _ _ (place_below i member j l mj) ∙ sym (lt-ltb j i l))
    (λ (g : i ≤ j).
    ⊎_elim
    (λ (l : i < j).
    let below : count i member < count j member = place_below j member i l mi in
    le-ltb (count j member) (count i member) (omega arith) ∙ sym (le-ltb j i g))
    (λ (h : j ≤ i).
    let same : j ≡ i = omega arith in
    rw same (le-ltb (count i member) (count i member) (omega arith) ∙ sym (le-ltb i i (omega arith))))
    (lt_or_le i j))
    (lt_or_le j i)

pub length_kept : (n : ℕ) (member : ℕ → Bool) (f : ℕ → ℕ) → length (kept n member f) ≡ count n member
unfolding kept sum_to
length_kept zero member f = refl
length_kept (suc n) member f =
    length-append (kept n member f) (cond (member n) (f n ∷ []) []) ∙ ap₂ ◌+◌ (length_kept n member f) (one (member n))
  where
    one : (t : Bool) → length (cond t (f n ∷ []) []) ≡ bit t
    one true = refl
    one false = refl

pub at_kept : (n : ℕ) (member : ℕ → Bool) (f : ℕ → ℕ) (i : ℕ) → i < n → member i ≡ true → at (kept n member f) (count i member) ≡ f i
unfolding kept
at_kept zero member f i h m = absurd (not-suc-le-zero h)
at_kept (suc n) member f i h m =
    ⊎_elim
    (λ (e : i ≡ n).
    let last : member n ≡ true = ap member (sym e) ∙ m in
    rw (e, last) (get_or_at (kept n member f) (f n) [] 0 (count n member) (length_kept n member f)))
    (λ (b : i < n).
    let within : count i member < length (kept n member f) = rw length_kept (place_below n member i b m) in
    get_or-append (kept n member f) (cond (member n) (f n ∷ []) []) 0 (count i member) within ∙ at_kept n member f i b m)
    (last_or_below n i h)

-- what is taken out goes by the members' entries alone
pub kept_eq : (n : ℕ) (member : ℕ → Bool) (f g : ℕ → ℕ) → ((i : ℕ) → i < n → member i ≡ true → f i ≡ g i)
    → kept n member f ≡ kept n member g
unfolding kept
kept_eq zero member f g e = refl
kept_eq (suc n) member f g e =
    ap₂ ◌++◌ (kept_eq n member f g (λ i b. e i (le_step b)))
    (⊎_elim
    (λ (m : member n ≡ true). rw (m, e n (lt-suc_self n) m))
    (λ (m : member n ≡ false). rw m)
    (true_or_false (member n)))

-- a sum over the members' places is a sum over the members
pub sum_kept : (n : ℕ) (member : ℕ → Bool) (g : ℕ → ℕ) → sum_to (count n member) g ≡ sum_to n (λ i. when (member i) (g (count i member)))
unfolding sum_to
sum_kept zero member g = refl
sum_kept (suc n) member g = last (member n) ∙ ap (λ s. s + when (member n) (g (count n member))) (sum_kept n member g)
  where
    last : (t : Bool) → sum_to (count n member + bit t) g ≡ sum_to (count n member) g + when t (g (count n member))
    last true = sum_suc (count n member) g
    last false = ap (λ k. sum_to k g) (add-zero (count n member)) ∙ sym (add-zero (sum_to (count n member) g))
