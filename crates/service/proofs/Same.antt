-- Services that agree in every account and every zone have the same charges and the same answer. So what a call says of lists
-- that were filled from a month it says of the month.
-- Assumes nothing.
use mathlib.Core.Path.{◌≡◌, ap, ap₂, ◌∙◌}
use mathlib.Core.List.{List, [], ◌∷◌}
use Prim.Native.Nat.{ℕ, ◌+◌, ◌*◌, ◌<◌}
use Rattle.lists.specs.Sums.{sum_to, at, total}
use Rattle.lists.specs.Entries.{listed}
use Rattle.lists.proofs.Sums.{sum_eq}
use Rattle.lists.proofs.Entries.{length_listed, at_listed, listed_eq}
use Rattle.answer.specs.declared.Answer.{Answer}
use Rattle.answer.specs.Numbers.{DIVISIONS}
use Rattle.answer.specs.Turns.{refuse, ◌then◌, turns}
use Rattle.answer.proofs.Turns.{turns_eq}
use Rattle.division.specs.Limits.{size_refusal}
use Rattle.division.specs.Shares.{shares}
use Rattle.groups.proofs.Same as groups
use Rattle.service.specs.Service.{
  Service,
  zone_use,
  nonzone_use,
  both_uses,
  zone_side,
  nonzone_side,
  zone_sides,
  nonzone_pot,
  nonzone_parts,
  nonzone_share,
  account_charge,
  service_of,
}
use Rattle.service.specs.Turn.{split_refusal, share_refusal, nonzone_refusal, split_place, share_place, zone_turn, service_in_turn, Served}

pub record Same (s t : Service) : Type 0 where
  pub same_accounts : s.accounts ≡ t.accounts
  pub same_zone : (a : ℕ) → a < s.accounts → s.zone_of a ≡ t.zone_of a
  pub same_zone_part : (a : ℕ) → a < s.accounts → s.zone_part a ≡ t.zone_part a
  pub same_nonzone_part : (a : ℕ) → a < s.accounts → s.nonzone_part a ≡ t.nonzone_part a
  pub same_zones : s.zones ≡ t.zones
  pub same_number : (z : ℕ) → z < s.zones → s.zone_number z ≡ t.zone_number z
  pub same_pot : (z : ℕ) → z < s.zones → s.pot z ≡ t.pot z

module _ {s t : Service} (e : Same s t) where
  same_uses : both_uses s ≡ both_uses t
  unfolding both_uses zone_use nonzone_use
  same_uses =
      ap₂ (λ x y. x ∷ y ∷ [])
      (sum_eq s.accounts s.zone_part t.zone_part e.same_zone_part ∙ ap (λ n. sum_to n t.zone_part) e.same_accounts)
      (sum_eq s.accounts s.nonzone_part t.nonzone_part e.same_nonzone_part ∙ ap (λ n. sum_to n t.nonzone_part) e.same_accounts)

  same_sides : groups.Same (zone_sides s) (zone_sides t)
  unfolding zone_side
  same_sides =
      record {
        same_members = e.same_accounts;
        same_group = e.same_zone;
        same_weight = e.same_zone_part;
        same_groups = e.same_zones;
        same_number = e.same_number;
        same_pot = λ z b. ap₂ (λ pot l. at (shares pot l) 0) (e.same_pot z b) same_uses;
      }

  same_nonzone_pot : nonzone_pot s ≡ nonzone_pot t
  unfolding nonzone_pot nonzone_side
  same_nonzone_pot =
      sum_eq s.zones (nonzone_side s) (nonzone_side t) (λ z b. ap₂ (λ pot l. at (shares pot l) 1) (e.same_pot z b) same_uses)
      ∙ ap (λ n. sum_to n (nonzone_side t)) e.same_zones

  same_nonzone_parts : nonzone_parts s ≡ nonzone_parts t
  unfolding nonzone_parts
  same_nonzone_parts =
      listed_eq s.accounts s.nonzone_part t.nonzone_part e.same_nonzone_part
      ∙ ap (λ n. listed n t.nonzone_part) e.same_accounts

  pub same_charge : (a : ℕ) → account_charge s a ≡ account_charge t a
  unfolding account_charge nonzone_share
  same_charge a =
      ap₂ ◌+◌ (groups.same_amounts same_sides a) (ap₂ (λ pot l. at (shares pot l) a) same_nonzone_pot same_nonzone_parts)

  same_zone_turn : (place z : ℕ) → z < s.zones → zone_turn s place z ≡ zone_turn t place z
  unfolding zone_turn split_refusal share_refusal
  same_zone_turn place z b =
      ap₂ (λ n m. refuse n DIVISIONS (split_place place z) then refuse m DIVISIONS (share_place place z))
      (ap₂ (λ pot l. size_refusal pot (total l)) (e.same_pot z b) same_uses)
      (groups.same_refusal same_sides z b)

  pub same_turn : (place : ℕ) → service_in_turn s place ≡ service_in_turn t place
  unfolding service_in_turn nonzone_refusal
  same_turn place =
      ap₂ ◌then◌
      (turns_eq (zone_turn s place) (zone_turn t place) s.zones (same_zone_turn place) ∙ ap (turns (zone_turn t place)) e.same_zones)
      (ap₂ (λ n k. refuse n DIVISIONS (place + 2 * k))
      (ap₂ (λ pot l. size_refusal pot (total l)) same_nonzone_pot same_nonzone_parts) e.same_zones)

  pub same_served : (place : ℕ) (before after : List ℕ) (r : Answer) → Served s place before after r → Served t place before after r
  same_served place before after r v = groups.same_written v e.same_accounts (λ a b. same_charge a) (same_turn place)

-- the lists that a caller fills from a service
pub filled : (s : Service)
    → Same
    (service_of (listed s.zones s.pot) (listed s.zones s.zone_number) (listed s.accounts s.zone_part)
    (listed s.accounts s.nonzone_part) (listed s.accounts s.zone_of))
    s
filled s =
    record {
      same_accounts = length_listed s.accounts s.zone_part;
      same_zone = λ a b. at_listed s.accounts s.zone_of a (rw length_listed at b);
      same_zone_part = λ a b. at_listed s.accounts s.zone_part a (rw length_listed at b);
      same_nonzone_part = λ a b. at_listed s.accounts s.nonzone_part a (rw length_listed at b);
      same_zones = length_listed s.zones s.zone_number;
      same_number = λ z b. at_listed s.zones s.zone_number z (rw length_listed at b);
      same_pot = λ z b. at_listed s.zones s.pot z (rw length_listed at b);
    }
