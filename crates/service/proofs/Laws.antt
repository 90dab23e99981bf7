-- What a service's divisions do with its pots, from what every division promises and nothing else.
-- Assumes nothing.
use mathlib.Core.Path.{◌≡◌, sym, ap, ◌∙◌}
use mathlib.Core.Logic.{◌⊎◌, ◌↔◌, ⊎_elim}
use mathlib.Core.Bool.{true, false}
use mathlib.Core.List.{[], ◌∷◌}
use Prim.Native.Nat.{ℕ, ◌+◌, ◌≤◌, ◌<◌}
use native.Mathlib.Nat.{le_trans, le_of_eq}
use native.Mathlib.Omega.{arith}
use lib.Dec.{ltb, lit<}
use borrow.Author.Tests.{ltb-false}
use Rattle.lists.specs.Sums.{sum_to, at, total, when}
use Rattle.lists.specs.Entries.{listed}
use Rattle.lists.proofs.Sums.{sum_eq, sum_zero, sum_le, when_true, when_zero, when_le}
use Rattle.lists.proofs.Ranks.{true_or_false}
use Rattle.lists.proofs.Entries.{total_listed, listed_at}
use Rattle.answer.specs.Numbers.{BIG, BASE}
use Rattle.division.specs.Limits.{pot_limit, weight_limit}
use Rattle.division.specs.Shares.{shares}
use Rattle.division.proofs.Laws.{length_shares, shares_add_up, no_weight_no_share, sized, size_exactly, never_big, never_base, share_fits}
use Rattle.groups.specs.Groups.{among, weights_in, is_member, group_refusal}
use Rattle.groups.proofs.Members.{listed_add_up, listed_none}
use Rattle.service.specs.Service.{Service, zone_use, nonzone_use, both_uses, zone_side, nonzone_side, zone_sides, nonzone_pot, nonzone_parts, nonzone_share}
use Rattle.service.specs.Turn.{split_refusal, share_refusal, nonzone_refusal, FineSplit, FineShare, FineNonzone, FineBefore, ServiceFine}

-- a split, a share and the non-zone pot's division are not refused exactly where their sizes are fine
pub split_exactly : (s : Service) (z : ℕ) → (split_refusal s z ≡ 0) ↔ FineSplit s z
unfolding split_refusal
split_exactly s z = size_exactly (s.pot z) (total (both_uses s))

pub share_exactly : (s : Service) (z : ℕ) → (share_refusal s z ≡ 0) ↔ FineShare s z
unfolding share_refusal group_refusal
share_exactly s z = size_exactly (zone_side s z) (total (weights_in (zone_sides s) z))

pub nonzone_exactly : (s : Service) → (nonzone_refusal s ≡ 0) ↔ FineNonzone s
unfolding nonzone_refusal
nonzone_exactly s = size_exactly (nonzone_pot s) (total (nonzone_parts s))

-- so none of the zones that are fine is refused ..
module _ {s : Service} {z : ℕ} (before : FineBefore s z) where
  pub splits_pass : (y : ℕ) → y < z → split_refusal s y ≡ 0
  splits_pass y b = (split_exactly s y).1 (before.splits y b)

  pub shares_pass : (y : ℕ) → y < z → share_refusal s y ≡ 0
  shares_pass y b = (share_exactly s y).1 (before.shares y b)

-- .. and nothing of a service that is accepted
pub nonzone_passes : {s : Service} → ServiceFine s → nonzone_refusal s ≡ 0
nonzone_passes {s} all = (nonzone_exactly s).1 all.nonzone_fine

pub uses_add_up : (s : Service) → total (both_uses s) ≡ zone_use s + nonzone_use s
unfolding both_uses sum_to
uses_add_up s = omega arith

-- a zone's pot by all zone use and all non-zone use is its two sides, and no more
pub split_by_uses : (s : Service) (z : ℕ)
    → (zone_side s z ∷ nonzone_side s z ∷ [])
    ≡ shares (s.pot z) (sum_to s.accounts s.zone_part ∷ sum_to s.accounts s.nonzone_part ∷ [])
unfolding zone_side nonzone_side both_uses zone_use nonzone_use listed
split_by_uses s z =
    ap (λ n. listed n (at (shares (s.pot z) (both_uses s)))) (sym (length_shares (s.pot z) (both_uses s)))
    ∙ listed_at (shares (s.pot z) (both_uses s))

module _ (s : Service) (z : ℕ) (fine : split_refusal s z ≡ 0) where
  -- it has a base
  pub split_base : total (both_uses s) ≡ 0 → s.pot z ≡ 0
  unfolding split_refusal
  split_base = (sized (s.pot z) (total (both_uses s)) fine).has_base

  -- the two sides are the pot
  pub sides_add_up : zone_side s z + nonzone_side s z ≡ s.pot z
  unfolding zone_side nonzone_side both_uses sum_to
  sides_add_up =
      let both : sum_to 2 (at (shares (s.pot z) (both_uses s))) ≡ s.pot z =
      ap (λ n. sum_to n (at (shares (s.pot z) (both_uses s)))) (sym (length_shares (s.pot z) (both_uses s)))
      ∙ shares_add_up (s.pot z) (both_uses s) split_base in
      omega arith

  -- no use, no side
  pub no_nonzone_use : nonzone_use s ≡ 0 → nonzone_side s z ≡ 0
  unfolding nonzone_side both_uses
  no_nonzone_use e = no_weight_no_share (s.pot z) (both_uses s) split_base 1 (lit< tt) e

  pub zone_side_fits : zone_side s z ≤ pot_limit
  unfolding zone_side split_refusal
  zone_side_fits = share_fits (s.pot z) (both_uses s) fine 0

  zone_weights_fit : total (weights_in (zone_sides s) z) ≤ weight_limit
  unfolding split_refusal weights_in among zone_use
  zone_weights_fit =
      let of-zone : total (weights_in (zone_sides s) z) ≤ zone_use s =
      le_trans (le_of_eq (total_listed s.accounts _))
      (sum_le s.accounts (λ a. when (is_member (zone_sides s) z a) (s.zone_part a)) s.zone_part
      (λ a b. when_le (is_member (zone_sides s) z a) (s.zone_part a))) in
      omega (arith, uses_add_up s, (sized (s.pot z) (total (both_uses s)) fine).weights_fit)

  -- after a split that is fine, a share is fine or BASE
  pub share_fine_or_base : (share_refusal s z ≡ 0) ⊎ (share_refusal s z ≡ BASE)
  unfolding share_refusal group_refusal
  share_fine_or_base = never_big (zone_side s z) (total (weights_in (zone_sides s) z)) zone_side_fits zone_weights_fit

module _ (s : Service) (fine : (z : ℕ) → z < s.zones → split_refusal s z ≡ 0) where
  -- where nobody has a non-zone part there is no non-zone pot
  pub no_nonzone_pot : nonzone_use s ≡ 0 → nonzone_pot s ≡ 0
  unfolding nonzone_pot
  no_nonzone_pot e = sum_zero s.zones (nonzone_side s) (λ z b. no_nonzone_use s z (fine z b) e)

  -- after splits that are all fine, the non-zone pot's division is fine or BIG
  pub nonzone_fine_or_big : (nonzone_refusal s ≡ 0) ⊎ (nonzone_refusal s ≡ BIG)
  unfolding nonzone_refusal nonzone_parts nonzone_use
  nonzone_fine_or_big =
      never_base (nonzone_pot s) (total (nonzone_parts s))
      (λ e. no_nonzone_pot (sym (total_listed s.accounts s.nonzone_part) ∙ e))

-- the non-zone pot's division, where it is fine
module _ (s : Service) (fine : nonzone_refusal s ≡ 0) where
  pub nonzone_add_up : sum_to s.accounts (nonzone_share s) ≡ nonzone_pot s
  unfolding nonzone_refusal nonzone_share nonzone_parts
  nonzone_add_up = listed_add_up (nonzone_pot s) s.accounts s.nonzone_part fine

  pub nonzone_none : (a : ℕ) → a < s.accounts → s.nonzone_part a ≡ 0 → nonzone_share s a ≡ 0
  unfolding nonzone_refusal nonzone_share nonzone_parts
  nonzone_none a b e = listed_none (nonzone_pot s) s.accounts s.nonzone_part fine a b e

  pub nonzone_to_parts : sum_to s.accounts (λ a. when (ltb 0 (s.nonzone_part a)) (nonzone_share s a)) ≡ nonzone_pot s
  nonzone_to_parts =
      sum_eq s.accounts (λ a. when (ltb 0 (s.nonzone_part a)) (nonzone_share s a)) (nonzone_share s)
      (λ a b.
      ⊎_elim
      (λ (some : ltb 0 (s.nonzone_part a) ≡ true). when_true (ltb 0 (s.nonzone_part a)) (nonzone_share s a) some)
      (λ (no : ltb 0 (s.nonzone_part a) ≡ false).
      let at_most : s.nonzone_part a ≤ 0 = ltb-false 0 (s.nonzone_part a) no in
      let none : nonzone_share s a ≡ 0 = nonzone_none a b (omega arith) in
      when_zero (ltb 0 (s.nonzone_part a)) (nonzone_share s a) none ∙ sym none)
      (true_or_false (ltb 0 (s.nonzone_part a))))
      ∙ nonzone_add_up
