-- What `settle` asks for and leaves: units whose credits and accounts whose use can be found and added up, and two columns with the
-- charges and the credits of one service.
-- Assumes nothing.
use Rattle.std.specs.Prelude.{◌≡◌, ℕ, ◌+◌, ◌≤◌, ◌<◌, List, length}
use Rattle.lists.specs.Sums.{at}
use Rattle.lists.specs.Entries.{put}
use Rattle.answer.specs.declared.Answer.{Answer}
use Rattle.service.specs.Service.{Service}
use Rattle.service.specs.Turn.{Served}
use Rattle.month.specs.Limits.{most_annual, most_reserve}
use Rattle.month.specs.Months.{months}
use Rattle.tables.specs.declared.Table.TheVariants.{Zones, Units, Accounts}
use Rattle.tables.specs.Shape.{limit, rows, Tables}
use Rattle.tables.specs.Columns.{unit_requirement, unit_reserve}
use Rattle.pool.specs.Input.{Input, month_of, plain_head, zone_count, owner_count, unit_count}
use Rattle.pool.specs.Services.{service_over, zone_credits, service_credit}
use Rattle.pool.specs.Filled.{most_use}

-- a month by its number and its tables alone, which is all that credits and pots come from
abbrev pub units_input : ℕ → Tables → Input
units_input month t = month_of (plain_head month 0 0) t

-- No unit's credit is more than the largest annual requirement, of which it has a twelfth, and the largest reserve credit.
abbrev pub most_credit : ℕ
most_credit = most_annual + most_reserve

-- units whose credits can be found and added up
pub record Creditable (m : Input) : Type 0 where
  pub first_month : 1 ≤ m.month
  pub last_month : m.month ≤ months
  pub few_units : unit_count m ≤ limit Units
  pub few_zones : zone_count m ≤ limit Zones
  pub requirement_within : (u : ℕ) → u < unit_count m → unit_requirement m.tables.units u ≤ most_annual
  pub reserve_within : (u : ℕ) → u < unit_count m → unit_reserve m.tables.units u ≤ most_reserve

-- accounts whose use, in its network part and its energy part, can be added up
pub record Usable (t : Tables) (networks energies : List ℕ) : Type 0 where
  pub few : rows Accounts t.accounts ≤ limit Accounts
  pub networks_long : rows Accounts t.accounts ≤ length networks
  pub energies_long : rows Accounts t.accounts ≤ length energies
  pub within : (a : ℕ) → a < rows Accounts t.accounts → at networks a + at energies a ≤ most_use

-- the service of a month, from the network part and the energy part of each account's use
abbrev pub service_from : Input → (ℕ → ℕ) → (ℕ → ℕ) → ℕ → Service
service_from m network energy s = service_over m.tables network energy (zone_credits m s)

-- each account is charged where no division refuses, and each owner credited in any case
pub record ServiceSettled (m : Input) (network energy : ℕ → ℕ) (s place : ℕ) (charges charges_after credits credits_after : List ℕ) (r : Answer) : Type 0 where
  pub served : Served (service_from m network energy s) place charges charges_after r
  pub credited : credits_after ≡ put (owner_count m) (service_credit m s) credits
