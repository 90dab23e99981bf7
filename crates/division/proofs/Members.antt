-- Dividing among some of the positions by giving weight 0 to the others comes to the same as dividing among those alone: the
-- others have no quotient and no remainder, so the leftover cents and their order stay.
-- Assumes nothing.
use mathlib.Core.Path.{◌≡◌, sym, ap, ap₂, ◌∙◌}
use mathlib.Core.Logic.{⊎_elim}
use mathlib.Core.Bool.{Bool, true, false, ◌&&◌, ◌||◌}
use mathlib.Core.List.{List}
use Prim.Native.Nat.{ℕ, ◌+◌, ◌-◌, ◌*◌, ◌/◌, ◌%◌, ◌≤◌, ◌<◌}
use native.Mathlib.Nat.{mul-zero, zero-mod, zero-div}
use native.Mathlib.Omega.{arith}
use lib.Dec.{ltb, eqb}
use lib.ListN.{length}
use Rattle.lists.specs.Sums.{sum_to, at, total, bit, when, count, rank, largest_first}
use Rattle.lists.specs.Entries.{kept}
use Rattle.lists.proofs.Sums.{sum_eq}
use Rattle.lists.proofs.Ranks.{true_or_false, lt_or_le, smaller_later}
use Rattle.lists.proofs.Members.{place_order, length_kept, at_kept, sum_kept}
use Rattle.division.specs.Shares.{quotient, remainder, leftover, comes_before, gets_cent, share}
use Rattle.division.proofs.Parts.{nothing_cut, share_is}

-- a weight of 0 has no quotient and no remainder
pub no_quotient : (pot : ℕ) (weights : List ℕ) (i : ℕ) → at weights i ≡ 0 → quotient pot weights i ≡ 0
unfolding quotient
no_quotient pot weights i z = ap (λ w. pot * w / total weights) z ∙ ap (λ n. n / total weights) (mul-zero pot) ∙ zero-div (total weights)

pub no_remainder : (pot : ℕ) (weights : List ℕ) (i : ℕ) → at weights i ≡ 0 → remainder pot weights i ≡ 0
unfolding remainder
no_remainder pot weights i z = ap (λ w. pot * w % total weights) z ∙ ap (λ n. n % total weights) (mul-zero pot) ∙ zero-mod (total weights)

module _ (pot : ℕ) (weights : List ℕ) (member : ℕ → Bool)
    (others : (i : ℕ) → i < length weights → member i ≡ false → at weights i ≡ 0)
  where
    alone : List ℕ
    alone = kept (length weights) member (at weights)

    place : ℕ → ℕ
    place i = count i member

    weight_alone : (i : ℕ) → i < length weights → member i ≡ true → at alone (place i) ≡ at weights i
    unfolding alone place
    weight_alone i b m = at_kept (length weights) member (at weights) i b m

    -- a sum over the members alone, where the others add nothing
    sum_alone : (f g : ℕ → ℕ) → ((i : ℕ) → i < length weights → member i ≡ true → f (place i) ≡ g i)
        → ((i : ℕ) → i < length weights → member i ≡ false → g i ≡ 0)
        → sum_to (length alone) f ≡ sum_to (length weights) g
    unfolding alone place
    sum_alone f g same none =
        ap (λ n. sum_to n f) (length_kept (length weights) member (at weights))
        ∙ sum_kept (length weights) member f
        ∙ sum_eq (length weights) (λ i. when (member i) (f (place i))) g
        (λ i b.
        ⊎_elim
        (λ (m : member i ≡ true). ap (λ t. when t (f (place i))) m ∙ same i b m)
        (λ (m : member i ≡ false). ap (λ t. when t (f (place i))) m ∙ sym (none i b m))
        (true_or_false (member i)))

    total_alone : total alone ≡ total weights
    total_alone = sum_alone (at alone) (at weights) weight_alone others

    quotient_alone : (i : ℕ) → i < length weights → member i ≡ true → quotient pot alone (place i) ≡ quotient pot weights i
    unfolding quotient
    quotient_alone i b m = ap₂ (λ w s. pot * w / s) (weight_alone i b m) total_alone

    remainder_alone : (i : ℕ) → i < length weights → member i ≡ true → remainder pot alone (place i) ≡ remainder pot weights i
    unfolding remainder
    remainder_alone i b m = ap₂ (λ w s. pot * w % s) (weight_alone i b m) total_alone

    leftover_alone : leftover pot alone ≡ leftover pot weights
    unfolding leftover
    leftover_alone =
        ap (λ s. pot - s)
        (sum_alone (quotient pot alone) (quotient pot weights) quotient_alone (λ i b m. no_quotient pot weights i (others i b m)))

    order_alone : (j i : ℕ) → j < length weights → i < length weights → member j ≡ true → member i ≡ true
        → comes_before pot alone (place j) (place i) ≡ comes_before pot weights j i
    unfolding comes_before largest_first place
    order_alone j i bj bi mj mi =
        ap₂ (λ x y. ltb x y || (eqb x y && ltb (place j) (place i))) (remainder_alone i bi mi) (remainder_alone j bj mj)
        ∙ ap (λ t. ltb (remainder pot weights i) (remainder pot weights j) || (eqb (remainder pot weights i) (remainder pot weights j) && t))
        (place_order member j i mj mi)

    -- where something is cut off, no other position comes before
    rank_alone : (i : ℕ) → i < length weights → member i ≡ true → 0 < remainder pot weights i
        → rank (length alone) (comes_before pot alone) (place i) ≡ rank (length weights) (comes_before pot weights) i
    unfolding comes_before
    rank_alone i bi mi cut =
        sum_alone (λ p. bit (comes_before pot alone p (place i))) (λ j. bit (comes_before pot weights j i))
        (λ j bj mj. ap bit (order_alone j i bj bi mj mi))
        (λ j bj mj.
        let none : remainder pot weights j ≡ 0 = no_remainder pot weights j (others j bj mj) in
        ap bit (smaller_later (remainder pot weights) j i (omega arith)))

    gets_alone : 0 < total weights → (i : ℕ) → i < length weights → member i ≡ true → gets_cent pot alone (place i) ≡ gets_cent pot weights i
    unfolding gets_cent
    gets_alone positive i bi mi =
        ⊎_elim
        (λ (cut : 0 < remainder pot weights i). ap₂ ltb (rank_alone i bi mi cut) leftover_alone)
        (λ (g : remainder pot weights i ≤ 0).
        let none : remainder pot weights i ≡ 0 = omega arith in
        nothing_cut pot alone (rw total_alone positive) (place i) (remainder_alone i bi mi ∙ none)
        ∙ sym (nothing_cut pot weights positive i none))
        (lt_or_le 0 (remainder pot weights i))

    pub share_alone : 0 < total weights → (i : ℕ) → i < length weights → member i ≡ true
        → share pot (kept (length weights) member (at weights)) (count i member) ≡ share pot weights i
    unfolding alone place
    share_alone positive i bi mi =
        share_is pot alone (place i)
        ∙ ap₂ (λ q t. q + bit t) (quotient_alone i bi mi) (gets_alone positive i bi mi)
        ∙ sym (share_is pot weights i)

    pub total_kept : total (kept (length weights) member (at weights)) ≡ total weights
    unfolding alone
    total_kept = total_alone
