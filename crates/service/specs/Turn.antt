-- The divisions of one service in turn, their places, and what a call asks, answers and writes.
-- Assumes nothing.
use Rattle.std.specs.Prelude.{◌≡◌, ◌⊎◌, List, ℕ, ◌+◌, ◌*◌, ◌<◌, ◌^◌, length}
use Rattle.lists.specs.Sums.{total}
use Rattle.answer.specs.declared.Answer.{Answer}
use Rattle.answer.specs.Numbers.{BIG, BASE, DIVISIONS}
use Rattle.answer.specs.Turns.{refuse, ◌then◌, turns}
use Rattle.answer.specs.Turns as answer
use Rattle.division.specs.Limits.{pot_limit, weight_limit, size_refusal}
use Rattle.division.specs.Refused.{FineSize, SizeRefused}
use Rattle.groups.specs.Columns.{ColumnWritten}
use Rattle.groups.specs.Groups.{weights_in, group_refusal, Together}
use Rattle.service.specs.Service.{Service, both_uses, zone_side, zone_sides, nonzone_pot, nonzone_parts, account_charge}

-- "each BIG, then BASE": the number of zone z's split, 0 where it is fine ..
unfoldable pub split_refusal : Service → ℕ → ℕ
split_refusal s z = size_refusal (s.pot z) (total (both_uses s))

-- .. of its share ..
unfoldable pub share_refusal : Service → ℕ → ℕ
share_refusal s z = group_refusal (zone_sides s) z

-- .. and of the non-zone pot's division
unfoldable pub nonzone_refusal : Service → ℕ
nonzone_refusal s = size_refusal (nonzone_pot s) (total (nonzone_parts s))

-- "black start zone i split k+1+2i ..", counted from the first split's place
abbrev pub split_place : ℕ → ℕ → ℕ
split_place place z = place + 2 * z

-- ".. and share k+2+2i .."
abbrev pub share_place : ℕ → ℕ → ℕ
share_place place z = place + 2 * z + 1

-- ".. its non-zone 3k+1"
abbrev pub nonzone_place : ℕ → Service → ℕ
nonzone_place place s = place + 2 * s.zones

-- the two divisions of zone z
unfoldable pub zone_turn : Service → ℕ → ℕ → Answer
zone_turn s place z =
    refuse (split_refusal s z) DIVISIONS (split_place place z)
    then refuse (share_refusal s z) DIVISIONS (share_place place z)

-- "then its divisions in turn": zone by zone, and the non-zone pot's last
unfoldable pub service_in_turn : Service → ℕ → Answer
service_in_turn s place = turns (zone_turn s place) s.zones then refuse (nonzone_refusal s) DIVISIONS (nonzone_place place s)

-- Lists that go together: a pot for each zone's number, a zone and two parts for each account, at most 64 zones and 64 accounts (the
-- paper has 16 and 32), and parts that add up to a word.
pub record ServiceTogether (pots numbers zoneparts nonzoneparts zones : List ℕ) : Type 0 where
  pub together : Together pots numbers zoneparts zones
  pub both_parts : length nonzoneparts ≡ length zoneparts
  pub zone_use_lem : total zoneparts < 2 ^ 64
  pub nonzone_use_lem : total nonzoneparts < 2 ^ 64

-- What `charge` answers and writes: each account's charge.
abbrev pub Served : Service → ℕ → List ℕ → List ℕ → Answer → Type 0
Served s place before after r = ColumnWritten s.accounts (account_charge s) (service_in_turn s place) before after r

-- The sizes of zone z's split can be divided: "P is at most 10^11", "W, at most 10^13", and no pot where the weights add up to zero ..
abbrev pub FineSplit : Service → ℕ → Type 0
FineSplit s z = FineSize (s.pot z) (total (both_uses s))

-- .. those of its share ..
abbrev pub FineShare : Service → ℕ → Type 0
FineShare s z = FineSize (zone_side s z) (total (weights_in (zone_sides s) z))

-- .. and those of the non-zone pot's division
abbrev pub FineNonzone : Service → Type 0
FineNonzone s = FineSize (nonzone_pot s) (total (nonzone_parts s))

-- Both divisions of every zone before zone z are fine.
pub record FineBefore (s : Service) (z : ℕ) : Type 0 where
  pub splits : (y : ℕ) → y < z → FineSplit s y
  pub shares : (y : ℕ) → y < z → FineShare s y

-- A service is accepted where every division of it is fine.
pub record ServiceFine (s : Service) : Type 0 where
  pub zones_fine : FineBefore s s.zones
  pub nonzone_fine : FineNonzone s

-- Where a service is refused and why, and that nothing before is: at the split of a zone, at its share, which is BASE, or at the
-- non-zone pot's division, which is BIG.
pub data RefusedAt (s : Service) (place : ℕ) (r : Answer) : Type 0 where
  at_split : (z n : ℕ) → z < s.zones → FineBefore s z → SizeRefused (s.pot z) (total (both_uses s)) n
      → r ≡ answer.refusal n DIVISIONS (split_place place z) → RefusedAt s place r
  at_share : (z : ℕ) → z < s.zones → FineBefore s z → FineSplit s z → 0 < zone_side s z → total (weights_in (zone_sides s) z) ≡ 0
      → r ≡ answer.refusal BASE DIVISIONS (share_place place z) → RefusedAt s place r
  at_nonzone : FineBefore s s.zones → (pot_limit < nonzone_pot s) ⊎ (weight_limit < total (nonzone_parts s))
      → r ≡ answer.refusal BIG DIVISIONS (nonzone_place place s) → RefusedAt s place r
