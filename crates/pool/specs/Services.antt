-- Black start and reactive: one service, by its number s, over the month.
-- Assumes nothing.
use Rattle.std.specs.Prelude.{ℕ, ◌+◌, cond, not, eqb}
use Rattle.lists.specs.Sums.{sum_where, when}
use Rattle.tables.specs.declared.Table.TheVariants.{Zones, Accounts}
use Rattle.tables.specs.Shape.{rows, Tables}
use Rattle.tables.specs.Columns.{
  zone_number,
  owner_number,
  unit_owner,
  unit_zone,
  unit_service,
  unit_requirement,
  unit_reserve,
  account_zone,
}
use Rattle.month.specs.Months.{twelfth}
use Rattle.service.specs.Service.{Service}
use Rattle.service.specs.Service as service
use Rattle.pool.specs.Input.{Input, unit_count}
use Rattle.pool.specs.Accounts.{network_use, energy_use}

-- "Zone use is the use of all accounts outside zone 0; non-zone use is that of zone 0", except that, for each service, "where a zone has
-- no unit with a nonzero credit this month", so where the credits of its units add up to 0, "the network part of its accounts' use counts
-- as non-zone use of that account for this service"; "Reservations delivered in such a zone stay zone use".
-- What of an account's use, network and energy, is zone use, by its zone's number and the credits of the zone's units ..
unfoldable pub zone_part : ℕ → ℕ → ℕ → ℕ → ℕ
zone_part zone credits network energy = cond (eqb zone 0) 0 (when (not (eqb credits 0)) network + energy)

-- .. and what is non-zone use
unfoldable pub nonzone_part : ℕ → ℕ → ℕ → ℕ → ℕ
nonzone_part zone credits network energy = cond (eqb zone 0) (network + energy) (when (eqb credits 0) network)

-- a service over a month's tables, by the network part and the energy part of each account's use, and the credits of the units of
-- the zone with a number: each account's zone and its two parts, each zone's number and its pot
abbrev pub service_over : Tables → (ℕ → ℕ) → (ℕ → ℕ) → (ℕ → ℕ) → Service
service_over t network energy credits =
    record {
      accounts = rows Accounts t.accounts;
      zone_of = account_zone t.accounts;
      zone_part = λ a. zone_part (account_zone t.accounts a) (credits (account_zone t.accounts a)) (network a) (energy a);
      nonzone_part = λ a. nonzone_part (account_zone t.accounts a) (credits (account_zone t.accounts a)) (network a) (energy a);
      zones = rows Zones t.zones;
      zone_number = zone_number t.zones;
      pot = λ z. credits (zone_number t.zones z);
    }

module _ (m : Input) where
  open m.tables use {zones, owners, units}

  -- "A unit's month m: the whole part of annual times m over 12, less .. (m-1) over 12. The reserve credit comes on top"
  unfoldable pub unit_credit : ℕ → ℕ
  unit_credit u = twelfth m.month (unit_requirement units u) + unit_reserve units u

  module _ (s : ℕ) where
    -- "For each service": the credit of unit u, where it is one of this service
    unfoldable pub credit_in : ℕ → ℕ
    credit_in u = when (eqb (unit_service units u) s) (unit_credit u)

    -- "The owner is credited with the sum": what owner o has of all units of this service
    unfoldable pub service_credit : ℕ → ℕ
    service_credit o = sum_where (unit_count m) (unit_owner units) credit_in (owner_number owners o)

    -- "its units' credits": those of the zone with a number
    unfoldable pub zone_credits : ℕ → ℕ
    zone_credits zone = sum_where (unit_count m) (unit_zone units) credit_in zone

    -- "a zone's pot is the sum of its units' credits"
    abbrev pub zone_pot : ℕ → ℕ
    zone_pot z = zone_credits (zone_number zones z)

    -- the service of the month
    abbrev pub service_in : Service
    service_in = service_over m.tables (network_use m) (energy_use m) zone_credits

    -- what account a is charged for it
    unfoldable pub service_charge : ℕ → ℕ
    service_charge a = service.account_charge service_in a
