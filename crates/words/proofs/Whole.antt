-- Two slices of bytes are whole words or uneven, and never both.
-- Assumes nothing.
use mathlib.Core.Path.{◌≡◌}
use mathlib.Core.Bool.{true, false, not, or-true}
use mathlib.Core.Logic.{◌⊎◌, inl, inr, ⊎_elim, ◌≢◌}
use mathlib.Core.List.{List}
use Prim.Native.Nat.{ℕ, ◌%◌}
use lib.Dec.{eqb}
use lib.ListN.{length}
use borrow.Author.Tests.{eq-eqb, ne_eqb, eqb-true, not-false}
use Rattle.lists.proofs.Sums.{neither}
use Rattle.lists.proofs.Ranks.{equal_or_not}
use Rattle.words.specs.Words.{is_uneven, WholeWords}

-- slices of whole words are not uneven
pub even : (these those : List ℕ) → WholeWords these those → is_uneven (length these) (length those) ≡ false
even these those w = rw (eq-eqb (length these % 8) 0 w.these_whole, eq-eqb (length those % 8) 0 w.those_whole)

-- slices that are not uneven are whole words
pub whole_words : (these those : List ℕ) → is_uneven (length these) (length those) ≡ false → WholeWords these those
whole_words these those e =
    let both = neither (not (eqb (length these % 8) 0)) (not (eqb (length those % 8) 0)) e in
    record {
      these_whole = eqb-true _ _ (not-false _ both.0);
      those_whole = eqb-true _ _ (not-false _ both.1);
    }

-- slices of which one has a part of a word are uneven
pub uneven : (these those : List ℕ) → (length these % 8 ≢ 0) ⊎ (length those % 8 ≢ 0) → is_uneven (length these) (length those) ≡ true
uneven these those d =
    ⊎_elim
    (λ (first : length these % 8 ≢ 0). rw (ne_eqb (length these % 8) 0 first))
    (λ (second : length those % 8 ≢ 0). simp (or-true, ne_eqb (length those % 8) 0 second))
    d

-- one of the two is so
pub whole_or_not : (these those : List ℕ) → WholeWords these those ⊎ ((length these % 8 ≢ 0) ⊎ (length those % 8 ≢ 0))
whole_or_not these those =
    ⊎_elim
    (λ (e : length these % 8 ≡ 0).
    ⊎_elim (λ (f : length those % 8 ≡ 0). inl (record { these_whole = e; those_whole = f })) (λ d. inr (inr d)) (equal_or_not (length those % 8) 0))
    (λ d. inr (inl d))
    (equal_or_not (length these % 8) 0)
