-- How many keys are larger: fewer than a larger key has. So one key that gets a cent settles all larger ones, and one that gets
-- none all smaller ones.
-- Assumes nothing.
use mathlib.Core.Path.{◌≡◌, sym, ap, ◌∙◌}
use mathlib.Core.Logic.{◌⊎◌, inl, inr, ⊎_elim}
use mathlib.Core.List.{List}
use Prim.Native.Nat.{ℕ, ◌+◌, ◌^◌, ◌≤◌, ◌<◌}
use native.Mathlib.Nat.{le_refl, le_trans, le_of_eq}
use native.Mathlib.Omega.{arith}
use lib.Dec.{ltb, leb}
use lib.ListN.{length}
use borrow.Author.Tests.{lt-ltb, le-ltb, le-leb, lt-leb}
use Rattle.lists.specs.Sums.{at, bit}
use Rattle.lists.proofs.Sums.{sum_le, bit_le}
use Rattle.lists.proofs.Ranks.{lt_or_le}
use Rattle.cents.specs.Steps.{larger, Between, Settling}

fewer_larger : (keys : List ℕ) (x y : ℕ) → x ≤ y → larger keys y ≤ larger keys x
fewer_larger keys x y h =
    sum_le (length keys) (λ j. bit (ltb y (at keys j))) (λ j. bit (ltb x (at keys j)))
    (λ j b.
    ⊎_elim
    (λ (l : x < at keys j). le_trans (bit_le (ltb y (at keys j))) (le_of_eq (sym (ap bit (lt-ltb x (at keys j) l)))))
    (λ (g : at keys j ≤ x). let none : bit (ltb y (at keys j)) ≡ 0 = ap bit (le-ltb y (at keys j) (le_trans g h)) in omega arith)
    (lt_or_le x (at keys j)))

module _ (left : ℕ) (keys : List ℕ) where
  module _ (key low high : ℕ) (known : Between left keys low high) where
    pub as_known : (key < low) ⊎ (high ≤ key) → Settling left keys key low high
    as_known settled = record { between = known; settled = settled }

    pub gets_one : larger keys key < left → Settling left keys key low key
    gets_one some =
        record {
          between = record { some = λ x fits h. omega (arith, fewer_larger keys key x h); none = known.none };
          settled = inr (le_refl key);
        }

    pub gets_none : left ≤ larger keys key → Settling left keys key (key + 1) high
    gets_none none =
        record {
          between = record { some = known.some; none = λ x fits h. le_trans none (fewer_larger keys x key (omega arith)) };
          settled = inl (omega arith);
        }

  -- the test that the code makes
  pub told : (key low high : ℕ) → key < 2 ^ 63 → Settling left keys key low high → bit (leb high key) ≡ bit (ltb (larger keys key) left)
  told key low high fits s =
      ⊎_elim
      (λ (h : key < high).
      ⊎_elim
      (λ (l : key < low). ap bit (lt-leb high key h ∙ sym (le-ltb (larger keys key) left (s.between.none key fits l))))
      (λ (g : high ≤ key). absurd (omega arith))
      s.settled)
      (λ (h : high ≤ key). ap bit (le-leb high key h ∙ sym (lt-ltb (larger keys key) left (s.between.some key fits h))))
      (lt_or_le key high)
