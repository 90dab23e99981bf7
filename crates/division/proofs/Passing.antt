-- Proofs of the promises of a division, from its parts and its laws.
-- Assumes nothing.
use mathlib.Core.Path.{◌≡◌, refl, ap, ◌∙◌}
use mathlib.Core.Logic.{◌⊎◌, inl, inr, ⊎_elim, ◌↔◌}
use mathlib.Core.Bool.{true, false}
use mathlib.Core.List.{List}
use Prim.Native.Nat.{ℕ, ◌+◌, ◌≤◌, ◌<◌}
use native.Mathlib.Omega.{arith}
use lib.ListN.{length}
use borrow.Author.Tests.{lt-ltb, ltb-true}
use Rattle.lists.specs.Sums.{at, total, bit, rank}
use Rattle.lists.proofs.Ranks.{true_or_false, rank_less, larger_first, lower_first}
use Rattle.closeness.specs.Closeness.{distance}
use Rattle.closeness.proofs.Promises.{level_within_a_cent}
use Rattle.division.specs.Limits.{most_weights, divide_refusal}
use Rattle.division.specs.Shares.{quotient, remainder, leftover, comes_before, gets_cent, share, shares}
use Rattle.division.proofs.Laws as laws
use Rattle.division.proofs.Parts.{ordered, share_is}
use Rattle.division.specs.Refused.{FineSize}
use Rattle.division.proofs.Reasons.{fits_size}
use Rattle.division.proofs.Refusals as refusals

pub divide_accepts : (pot : ℕ) (weights : List ℕ) (room : ℕ)
    → (divide_refusal pot weights room ≡ 0)
    ↔ ((length weights ≤ most_weights) × (length weights ≤ room) × FineSize pot (total weights))
divide_accepts pot weights room = (
  laws.divide_accepted pot weights room,
  λ g. refusals.by_size pot weights room g.0 g.1 ∙ fits_size pot (total weights) g.2,
)

pub shares_add_up : (pot : ℕ) (weights : List ℕ) → 0 < total weights → total (shares pot weights) ≡ pot
shares_add_up pot weights positive = laws.shares_add_up pot weights (λ z. absurd (omega arith))

pub no_pot_no_shares : (weights : List ℕ) (i : ℕ) → at (shares 0 weights) i ≡ 0
no_pot_no_shares weights i = let none : at (shares 0 weights) i ≤ 0 = laws.share_within 0 weights (λ z. refl) i in omega arith

pub quotient_or_one_more : (pot : ℕ) (weights : List ℕ) (i : ℕ)
    → (share pot weights i ≡ quotient pot weights i) ⊎ (share pot weights i ≡ quotient pot weights i + 1)
quotient_or_one_more pot weights i =
    ⊎_elim
    (λ (t : gets_cent pot weights i ≡ true). inr (share_is pot weights i ∙ ap (λ b. quotient pot weights i + bit b) t))
    (λ (f : gets_cent pot weights i ≡ false).
    inl (let e : share pot weights i ≡ quotient pot weights i + 0 = share_is pot weights i ∙ ap (λ b. quotient pot weights i + bit b) f in omega arith))
    (true_or_false (gets_cent pot weights i))

pub leftover_cents_to_the_largest : (pot : ℕ) (weights : List ℕ) → 0 < total weights
    → (i j : ℕ) → i < length weights → j < length weights
    → (remainder pot weights i < remainder pot weights j) ⊎ ((remainder pot weights i ≡ remainder pot weights j) × (j < i))
    → gets_cent pot weights i ≡ true → gets_cent pot weights j ≡ true
unfolding gets_cent comes_before
leftover_cents_to_the_largest pot weights positive i j bi bj first g =
    let before : comes_before pot weights j i ≡ true =
    ⊎_elim (λ l. larger_first (remainder pot weights) j i l) (λ b. lower_first (remainder pot weights) j i b.0 b.1) first in
    let less : rank (length weights) (comes_before pot weights) j < rank (length weights) (comes_before pot weights) i =
    rank_less (comes_before pot weights) (ordered pot weights positive) (length weights) j i bj before in
    let gets : rank (length weights) (comes_before pot weights) i < leftover pot weights = ltb-true _ _ g in
    lt-ltb (rank (length weights) (comes_before pot weights) j) (leftover pot weights) (omega arith)

pub share_within_a_cent : (pot : ℕ) (weights : List ℕ) → 0 < total weights
    → (i : ℕ) → i < length weights → distance pot weights (shares pot weights) i < total weights
share_within_a_cent pot weights positive i b =
    level_within_a_cent pot weights (shares pot weights) positive (laws.length_shares pot weights)
    (shares_add_up pot weights positive) (laws.shares_level pot weights positive) i b
