-- What is promised of every service. Nothing else stands here; each proof puts together what the groups, the splits and the
-- non-zone pot promise.
-- Assumes nothing.
use mathlib.Core.Path.{◌≡◌, sym, ap, ap₂, ◌∙◌}
use mathlib.Core.Logic.{◌↔◌, ⊎_elim, ◌≢◌}
use mathlib.Core.List.{[], ◌∷◌}
use Prim.Native.Nat.{ℕ, ◌+◌, ◌≤◌, ◌<◌}
use native.Mathlib.Nat.{zero-add}
use native.Mathlib.Omega.{arith}
use lib.Dec.{eqb, ltb}
use borrow.Author.Tests.{eq-eqb, ne_eqb, lt-ltb, ltb-false}
use Rattle.lists.specs.Sums.{sum_to, at, total, when, count}
use Rattle.lists.specs.Entries.{kept}
use Rattle.lists.proofs.Sums.{sum_eq, sum_add}
use Rattle.lists.proofs.Ranks.{lt_or_le}
use Rattle.answer.specs.declared.Answer.{Answer}
use Rattle.answer.specs.Numbers.{BIG, BASE}
use Rattle.answer.specs.Turns.{accepted}
use Rattle.division.specs.Refused.{FineSize}
use Rattle.division.specs.Shares.{shares}
use Rattle.groups.specs.Groups.{weights_in, alone, amount_in_all}
use Rattle.groups.proofs.Members.{share_alone}
use Rattle.groups.proofs.Laws.{pots_divided, members_have_all, others_none, weightless_none_at_all, from_own_group, groupless_none, amount_alone}
use Rattle.service.specs.Service.{
  Service,
  nonzone_use,
  both_uses,
  zone_side,
  nonzone_side,
  zone_sides,
  zone_share,
  nonzone_pot,
  nonzone_parts,
  nonzone_share,
  account_charge,
}
use Rattle.service.specs.Turn.{split_refusal, share_refusal, nonzone_refusal, service_in_turn, ServiceFine, RefusedAt}
use Rattle.service.proofs.Laws as laws
use Rattle.service.proofs.Turns as turns

-- a service is accepted, with 0, 0, 0, exactly where every division of it is fine ..
pub accepted_exactly : (s : Service) (place : ℕ) → (service_in_turn s place ≡ accepted) ↔ ServiceFine s
accepted_exactly s place = (
  (λ e. turns.accepted_fine s place (ap (λ (r : Answer). r.number) e)),
  turns.fine_accepted s place,
)

-- .. and refused with an answer exactly when that is of the first that is not; at a share it is BASE, at the non-zone pot BIG
pub refused_exactly : (s : Service) (place : ℕ) (r : Answer) → RefusedAt s place r ↔ ((service_in_turn s place ≡ r) × (r.number ≢ 0))
refused_exactly = turns.refused_exactly

-- a split, a share and the non-zone pot's division are fine exactly where pot and weights are within their limits and a pot has a base
pub split_fine_exactly : (s : Service) (z : ℕ) → (split_refusal s z ≡ 0) ↔ FineSize (s.pot z) (total (both_uses s))
split_fine_exactly = laws.split_exactly

pub share_fine_exactly : (s : Service) (z : ℕ) → (share_refusal s z ≡ 0) ↔ FineSize (zone_side s z) (total (weights_in (zone_sides s) z))
share_fine_exactly = laws.share_exactly

pub nonzone_fine_exactly : (s : Service) → (nonzone_refusal s ≡ 0) ↔ FineSize (nonzone_pot s) (total (nonzone_parts s))
nonzone_fine_exactly = laws.nonzone_exactly

-- the two sides of a zone's pot are its division by all zone use and all non-zone use ..
pub split_by_uses : (s : Service) (z : ℕ)
    → (zone_side s z ∷ nonzone_side s z ∷ [])
    ≡ shares (s.pot z) (sum_to s.accounts s.zone_part ∷ sum_to s.accounts s.nonzone_part ∷ [])
split_by_uses = laws.split_by_uses

-- .. without loss
pub split_without_loss : (s : Service) → ServiceFine s → (z : ℕ) → z < s.zones → zone_side s z + nonzone_side s z ≡ s.pot z
split_without_loss s all z b = laws.sides_add_up s z (laws.splits_pass all.zones_fine z b)

-- all charges add up to all pots
pub charges_are_pots : (s : Service) → ServiceFine s → sum_to s.accounts (account_charge s) ≡ sum_to s.zones s.pot
unfolding account_charge nonzone_pot share_refusal
charges_are_pots s all =
    sum_add s.accounts (amount_in_all (zone_sides s)) (nonzone_share s)
    ∙ ap₂ ◌+◌ (pots_divided (zone_sides s) (laws.shares_pass all.zones_fine)) (laws.nonzone_add_up s (laws.nonzone_passes all))
    ∙ sym (sum_add s.zones (zone_side s) (nonzone_side s))
    ∙ sum_eq s.zones (λ z. zone_side s z + nonzone_side s z) s.pot (split_without_loss s all)

-- a zone side is fully charged to that zone's accounts ..
pub zone_side_to_its_accounts : (s : Service) → ServiceFine s → (z : ℕ) → z < s.zones
    → sum_to s.accounts (λ a. when (eqb (s.zone_of a) (s.zone_number z)) (zone_share s z a)) ≡ zone_side s z
unfolding zone_share share_refusal
zone_side_to_its_accounts s all z b = members_have_all (zone_sides s) z (laws.shares_pass all.zones_fine z b)

-- .. and nobody else has a share of it
pub zone_side_to_nobody_else : (s : Service) → ServiceFine s → (z a : ℕ) → z < s.zones → a < s.accounts
    → s.zone_of a ≢ s.zone_number z → zone_share s z a ≡ 0
unfolding zone_share share_refusal
zone_side_to_nobody_else s all z a b l d = others_none (zone_sides s) z (laws.shares_pass all.zones_fine z b) a l (ne_eqb (s.zone_of a) (s.zone_number z) d)

-- the non-zone sides are fully charged to the accounts that have a non-zone part ..
pub nonzone_sides_to_nonzone_parts : (s : Service) → ServiceFine s
    → sum_to s.accounts (λ a. when (ltb 0 (s.nonzone_part a)) (nonzone_share s a)) ≡ sum_to s.zones (nonzone_side s)
unfolding nonzone_pot
nonzone_sides_to_nonzone_parts s all = laws.nonzone_to_parts s (laws.nonzone_passes all)

-- .. and nobody else has a share of them
pub nonzone_sides_to_nobody_else : (s : Service) → ServiceFine s → (a : ℕ) → a < s.accounts → s.nonzone_part a ≡ 0 → nonzone_share s a ≡ 0
nonzone_sides_to_nobody_else s all = laws.nonzone_none s (laws.nonzone_passes all)

-- an account that uses nothing is charged nothing
pub idle_account_is_free : (s : Service) → ServiceFine s → (a : ℕ) → a < s.accounts
    → s.zone_part a ≡ 0 → s.nonzone_part a ≡ 0 → account_charge s a ≡ 0
unfolding account_charge share_refusal
idle_account_is_free s all a b e f =
    ap₂ ◌+◌ (weightless_none_at_all (zone_sides s) (laws.shares_pass all.zones_fine) a b e) (laws.nonzone_none s (laws.nonzone_passes all) a b f)

-- an account pays its share of its own zone's side and of the non-zone pot, where no two zones have one number ..
pub charge_in_a_zone : (s : Service) → ServiceFine s → (a z : ℕ) → a < s.accounts → z < s.zones → s.zone_of a ≡ s.zone_number z
    → ((y : ℕ) → y < s.zones → y ≢ z → s.zone_number y ≢ s.zone_number z) → account_charge s a ≡ zone_share s z a + nonzone_share s a
unfolding account_charge zone_share share_refusal
charge_in_a_zone s all a z b l e distinct =
    ap (λ n. n + nonzone_share s a)
    (from_own_group (zone_sides s) (laws.shares_pass all.zones_fine) a z b l (eq-eqb (s.zone_of a) (s.zone_number z) e) distinct)

-- .. and an account of no zone pays its share of the non-zone pot
pub charge_at_the_border : (s : Service) → ServiceFine s → (a : ℕ) → a < s.accounts
    → ((z : ℕ) → z < s.zones → s.zone_of a ≢ s.zone_number z) → account_charge s a ≡ nonzone_share s a
unfolding account_charge share_refusal
charge_at_the_border s all a b none =
    ap (λ n. n + nonzone_share s a)
    (groupless_none (zone_sides s) (laws.shares_pass all.zones_fine) a b (λ z l. ne_eqb (s.zone_of a) (s.zone_number z) (none z l)))
    ∙ zero-add (nonzone_share s a)

-- "zone 0": where no zone has that number, an account in it has no part in any zone side
pub border_has_no_zone_side : (s : Service) → ServiceFine s → ((z : ℕ) → z < s.zones → s.zone_number z ≢ 0)
    → (a : ℕ) → a < s.accounts → s.zone_of a ≡ 0 → (z : ℕ) → z < s.zones → zone_share s z a ≡ 0
border_has_no_zone_side s all named a b e z l = zone_side_to_nobody_else s all z a l b (λ same. named z l (sym same ∙ e))

-- the paper's words, "divided among that zone's accounts by use": an account's share is what it has where the zone's accounts are
-- a list of their own, at its place among them ..
pub zone_share_among_its_accounts : (s : Service) → ServiceFine s → (z a : ℕ) → z < s.zones → a < s.accounts → s.zone_of a ≡ s.zone_number z
    → zone_share s z a
    ≡ at (shares (zone_side s z) (kept s.accounts (λ b. eqb (s.zone_of b) (s.zone_number z)) s.zone_part))
    (count a (λ b. eqb (s.zone_of b) (s.zone_number z)))
unfolding zone_share share_refusal alone
zone_share_among_its_accounts s all z a b l e =
    amount_alone (zone_sides s) z (laws.shares_pass all.zones_fine z b) a l (eq-eqb (s.zone_of a) (s.zone_number z) e)

-- .. and likewise the accounts that have a non-zone part
pub nonzone_share_among_its_accounts : (s : Service) → ServiceFine s → (a : ℕ) → a < s.accounts → 0 < s.nonzone_part a
    → nonzone_share s a
    ≡ at (shares (nonzone_pot s) (kept s.accounts (λ b. ltb 0 (s.nonzone_part b)) s.nonzone_part))
    (count a (λ b. ltb 0 (s.nonzone_part b)))
unfolding nonzone_share nonzone_refusal nonzone_parts
nonzone_share_among_its_accounts s all a b some =
    share_alone s.accounts s.nonzone_part (λ c. ltb 0 (s.nonzone_part c))
    (λ c l m. let no : s.nonzone_part c ≤ 0 = ltb-false 0 (s.nonzone_part c) m in omega arith)
    (nonzone_pot s) (laws.nonzone_passes all) a b (lt-ltb 0 (s.nonzone_part a) some)

-- after a split that is fine, the share is never BIG
pub share_never_big : (s : Service) (z : ℕ) → split_refusal s z ≡ 0 → share_refusal s z ≢ BIG
share_never_big s z fine big =
    ⊎_elim (λ (e : share_refusal s z ≡ 0). omega arith) (λ (e : share_refusal s z ≡ BASE). omega arith) (laws.share_fine_or_base s z fine)

-- after splits that are all fine, a non-zone pot above zero has non-zone use above zero, so it is never BASE
pub nonzone_pot_has_use : (s : Service) → ((z : ℕ) → z < s.zones → split_refusal s z ≡ 0) → 0 < nonzone_pot s → 0 < nonzone_use s
nonzone_pot_has_use s fine some =
    ⊎_elim
    (λ (h : 0 < nonzone_use s). h)
    (λ (h : nonzone_use s ≤ 0). let none : nonzone_pot s ≡ 0 = laws.no_nonzone_pot s fine (omega arith) in absurd (omega arith))
    (lt_or_le 0 (nonzone_use s))

pub nonzone_never_base : (s : Service) → ((z : ℕ) → z < s.zones → split_refusal s z ≡ 0) → nonzone_refusal s ≢ BASE
nonzone_never_base s fine base =
    ⊎_elim (λ (e : nonzone_refusal s ≡ 0). omega arith) (λ (e : nonzone_refusal s ≡ BIG). omega arith) (laws.nonzone_fine_or_big s fine)
