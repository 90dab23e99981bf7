-- The charges of one service, in the paper's words.
-- Assumes nothing.
use Rattle.std.specs.Prelude.{ℕ, ◌+◌, List, [], ◌∷◌, length}
use Rattle.lists.specs.Sums.{sum_to, at}
use Rattle.lists.specs.Entries.{listed}
use Rattle.division.specs.Shares.{shares}
use Rattle.groups.specs.Groups.{Pots, amount, amount_in_all}

-- One service: how many accounts there are, the zone, the zone part and the non-zone part of use of each; how many zones there
-- are, the number and the pot of each.
pub record Service : Type 0 where
  pub accounts : ℕ
  pub zone_of : ℕ → ℕ
  pub zone_part : ℕ → ℕ
  pub nonzone_part : ℕ → ℕ
  pub zones : ℕ
  pub zone_number : ℕ → ℕ
  pub pot : ℕ → ℕ

-- "all zone use"
unfoldable pub zone_use : Service → ℕ
zone_use s = sum_to s.accounts s.zone_part

-- "all non-zone use"
unfoldable pub nonzone_use : Service → ℕ
nonzone_use s = sum_to s.accounts s.nonzone_part

-- "first divided in two, by all zone use and all non-zone use, zone side first (the adjustment factor)"
unfoldable pub both_uses : Service → List ℕ
both_uses s = zone_use s ∷ nonzone_use s ∷ []

-- the zone side of zone z
unfoldable pub zone_side : Service → ℕ → ℕ
zone_side s z = at (shares (s.pot z) (both_uses s)) 0

-- the non-zone side of zone z
unfoldable pub nonzone_side : Service → ℕ → ℕ
nonzone_side s z = at (shares (s.pot z) (both_uses s)) 1

-- "The zone side is divided among that zone's accounts by use"
abbrev pub zone_sides : Service → Pots
zone_sides s =
    record {
      members = s.accounts;
      group_of = s.zone_of;
      weight = s.zone_part;
      groups = s.zones;
      group_number = s.zone_number;
      pot = zone_side s;
    }

-- what account a pays of the zone side of zone z
unfoldable pub zone_share : Service → ℕ → ℕ → ℕ
zone_share s z a = amount (zone_sides s) z a

-- "The non-zone sides of all zones make one pot"
unfoldable pub nonzone_pot : Service → ℕ
nonzone_pot s = sum_to s.zones (nonzone_side s)

-- ".. divided among zone 0's accounts by use" and those that "share in the non-zone pot beside zone 0's": by the non-zone part of each
-- account, 0 for all others
unfoldable pub nonzone_parts : Service → List ℕ
nonzone_parts s = listed s.accounts s.nonzone_part

-- what account a pays of the non-zone pot
unfoldable pub nonzone_share : Service → ℕ → ℕ
nonzone_share s a = at (shares (nonzone_pot s) (nonzone_parts s)) a

-- what account a is charged: its shares of all zone sides and of the non-zone pot
unfoldable pub account_charge : Service → ℕ → ℕ
account_charge s a = amount_in_all (zone_sides s) a + nonzone_share s a

-- the zones' pots and numbers, the accounts' two parts and their zones as plain lists
abbrev pub service_of : List ℕ → List ℕ → List ℕ → List ℕ → List ℕ → Service
service_of pots numbers zoneparts nonzoneparts zones =
    record {
      accounts = length zoneparts;
      zone_of = at zones;
      zone_part = at zoneparts;
      nonzone_part = at nonzoneparts;
      zones = length numbers;
      zone_number = at numbers;
      pot = at pots;
    }
