-- Entries stored one after the other: two pieces in a row are one, the last entry may come first, and all but the piece stays.
-- Assumes nothing.
use mathlib.Core.Path.{◌≡◌, refl, sym, ap, ap₂, ◌∙◌}
use mathlib.Core.List.{List, [], ◌∷◌, ◌++◌, append_assoc}
use Prim.Native.Nat.{ℕ, suc, ◌+◌, ◌-◌, ◌≤◌, min}
use native.Mathlib.Nat.{zero-add, add-zero, add-suc, suc-add}
use native.Mathlib.Numerals.{add-one}
use native.Mathlib.Omega.{arith}
use lib.ListN.{length, take, drop, set, length-append}
use lib.Seq.{drop-drop, sets, sets-eq, set_comm}
use Rattle.text.specs.Places.{stored, PutAt, Sized}

pub stored_none : (l : List ℕ) (at : ℕ) → stored l at [] ≡ l
unfolding stored
stored_none l at = refl

pub stored_one : (l : List ℕ) (at v : ℕ) → stored l at (v ∷ []) ≡ set l at v
unfolding stored
stored_one l at v = refl

pub stored_first : (l : List ℕ) (at v : ℕ) (vs : List ℕ) → stored l at (v ∷ vs) ≡ stored (set l at v) (at + 1) vs
unfolding stored
stored_first l at v vs = rw add-one

-- the piece at its place, and everything else as it was
pub stored_is : (l : List ℕ) (at : ℕ) (vs : List ℕ) → at + length vs ≤ length l
    → stored l at vs ≡ (take at l ++ vs) ++ drop (at + length vs) l
unfolding stored
stored_is l at vs h = sets-eq vs l at h

-- .. as a slice's part is written
pub stored_part : (l : List ℕ) (at end : ℕ) (vs ws : List ℕ) → ws ≡ vs → end ≡ at + length vs → end ≤ length l
    → take at l ++ (ws ++ drop (end - at) (drop at l)) ≡ stored l at vs
stored_part l at end vs ws e q h =
    let size : at + (end - at) ≡ at + length vs = omega arith in
    ap₂ (λ x y. take at l ++ (x ++ y)) e (drop-drop (end - at) at l ∙ ap (λ k. drop k l) size)
    ∙ sym (append_assoc (take at l) vs (drop (at + length vs) l))
    ∙ sym (stored_is l at vs (omega arith))

-- .. in front
pub stored_in_front : (l vs : List ℕ) → length vs ≤ length l → stored l 0 vs ≡ vs ++ drop (length vs) l
stored_in_front l vs h = stored_is l 0 vs (omega arith) ∙ ap (λ n. vs ++ drop n l) (zero-add (length vs))

pub stored_append : (l : List ℕ) (at : ℕ) (x y : List ℕ) → stored l at (x ++ y) ≡ stored (stored l at x) (at + length x) y
unfolding stored
stored_append l at [] y = ap (λ k. sets l k y) (sym (add-zero at))
stored_append l at (v ∷ x) y =
    stored_append (set l at v) (suc at) x y
    ∙ ap (λ k. sets (sets (set l at v) (suc at) x) k y) (suc-add at (length x) ∙ sym (add-suc at (length x)))

-- the last entry stored before the others
pub stored_last : (l : List ℕ) (at : ℕ) (xs : List ℕ) (v : ℕ) → stored (set l (at + length xs) v) at xs ≡ stored l at (xs ++ (v ∷ []))
unfolding stored
stored_last l at [] v = ap (λ k. set l k v) (add-zero at)
stored_last l at (x ∷ xs) v =
    ap (λ k. sets k (suc at) xs) (set_comm l (at + suc (length xs)) at v x (λ e. let q : at + suc (length xs) ≡ at = e in omega arith))
    ∙ ap (λ k. sets (set (set l at x) k v) (suc at) xs) (add-suc at (length xs) ∙ sym (suc-add at (length xs)))
    ∙ stored_last (set l at x) (suc at) xs v

-- writers in a row
pub put_append : (l : List ℕ) (at : ℕ) (x y : List ℕ) (n m : ℕ) (k j : List ℕ) → PutAt l at x n k → PutAt k n y m j → PutAt l at (x ++ y) m j
put_append l at x y n m k j p q =
    record {
      onward =
          let size : length (x ++ y) ≡ length x + length y = length-append x y in
          let a : n ≡ at + length x = p.onward in
          let b : m ≡ n + length y = q.onward in
          omega arith;
      written =
          q.written ∙ ap₂ (λ k i. stored k i y) p.written p.onward ∙ sym (stored_append l at x y);
    }

pub put_nothing : (l : List ℕ) (at : ℕ) → PutAt l at [] at l
put_nothing l at = record { onward = sym (add-zero at); written = sym (stored_none l at) }

pub put_one : (l : List ℕ) (at v : ℕ) → PutAt l at (v ∷ []) (at + 1) (set l at v)
put_one l at v = record { onward = refl; written = sym (stored_one l at v) }

-- sizes in a row
pub sized_append : (before : ℕ) (x y : List ℕ) (cap n m : ℕ) → Sized before x cap n → Sized n y cap m → Sized before (x ++ y) cap m
sized_append before x y cap n m p q =
    record {
      capped =
          let size : length (x ++ y) ≡ length x + length y = length-append x y in
          let a : n ≡ min (before + length x) cap = p.capped in
          let b : m ≡ min (n + length y) cap = q.capped in
          omega arith;
    }

pub sized_most : (before : ℕ) (x : List ℕ) (cap n : ℕ) → Sized before x cap n → n ≤ cap
sized_most before x cap n p = let a : n ≡ min (before + length x) cap = p.capped in omega arith

-- room for two pieces is room for the first, and then for the second
pub fits_first : (l : List ℕ) (at : ℕ) (x y : List ℕ) → at + length (x ++ y) ≤ length l → at + length x ≤ length l
fits_first l at x y h = omega (arith, length-append x y)

pub fits_on : (l : List ℕ) (at : ℕ) (x y : List ℕ) (n : ℕ) (k : List ℕ) → PutAt l at x n k → length k ≡ length l → at + length (x ++ y) ≤ length l
    → n + length y ≤ length k
fits_on l at x y n k p e h =
    let a : n ≡ at + length x = p.onward in
    omega (arith, length-append x y)
