-- One service of the code's columns: the units' credits added up by zone and by owner are the pots and the owners' credits, and what
-- is charged over the columns is charged over the month.
-- Assumes nothing.
use mathlib.Core.Path.{◌≡◌, refl, sym, ap, ◌∙◌}
use mathlib.Core.List.{List}
use Prim.Native.Nat.{ℕ, ◌+◌, ◌^◌, ◌≤◌, ◌<◌}
use native.Mathlib.Nat.{le_trans, le_of_eq, lt_of_le_of_lt}
use native.Mathlib.Omega.{arith}
use lib.Dec.{eqb}
use lib.ListN.{length, take}
use Rattle.lists.specs.Sums.{sum_where, at, total}
use Rattle.lists.specs.Entries.{listed, put}
use Rattle.lists.proofs.Sums.{sum_at_most, when_le, where_eq}
use Rattle.lists.proofs.Entries.{total_listed, put_eq, put_long, at_put}
use Rattle.answer.specs.declared.Answer.{Answer}
use Rattle.service.specs.Service.{Service, service_of}
use Rattle.service.specs.Turn.{Served, ServiceTogether}
use Rattle.service.proofs.Same.{same_served, filled}
use Rattle.month.proofs.Months.{twelfth_within}
use Rattle.tables.specs.declared.Table.TheVariants.{Zones, Owners, Units, Accounts}
use Rattle.tables.specs.Shape.{rows, limit, Tables}
use Rattle.tables.specs.Columns.{zone_number, owner_number, unit_owner, unit_zone, unit_service, unit_requirement, account_zone}
use Rattle.columns.specs.Columns.{Summable}
use Rattle.columns.proofs.Fronts.{Front}
use Rattle.pool.specs.Services.{zone_part, nonzone_part, service_over, unit_credit, credit_in, service_credit, zone_credits}
use Rattle.pool.specs.Filled.{most_use}
use Rattle.pool.proofs.Parts.{parts_add_up}
use Rattle.services.specs.Settled.{units_input, most_credit, Creditable}
use Rattle.services.specs.Steps.{credits_from}

-- a column that the units' credits were stored in
module _ (month : ℕ) (t : Tables) (can : Creditable (units_input month t)) (s : ℕ) (before column : List ℕ) (long : rows Units t.units ≤ length before)
    (stored : column ≡ put (rows Units t.units) (credit_in (units_input month t) s) before) where
  open t use {owners, units}

  holds_credits : (u : ℕ) → u < rows Units units → at column u ≡ credit_in (units_input month t) s u
  holds_credits u b = ap (λ l. at l u) stored ∙ at_put (rows Units units) (credit_in (units_input month t) s) before long u b

  credit_within : (u : ℕ) → u < rows Units units → at column u ≤ most_credit
  unfolding credit_in unit_credit
  credit_within u b =
      let is : at column u ≡ credit_in (units_input month t) s u = holds_credits u b in
      omega (
        arith,
        when_le (eqb (unit_service units u) s) (unit_credit (units_input month t) u),
        twelfth_within month (unit_requirement units u) can.last_month,
        can.requirement_within u b,
        can.reserve_within u b,
      )

  pub credits_summable : Summable (rows Units units) column
  credits_summable =
      record {
        long = le_trans long (le_of_eq (sym (put_long (rows Units units) _ before stored)));
        fits = lt_of_le_of_lt (sum_at_most (rows Units units) (limit Units) most_credit (at column) can.few_units credit_within) (omega arith);
      }

  -- .. added up by zone are the zones' credits, and by owner the owners'
  pub zones_credited : (zone : ℕ) → credits_from t column zone ≡ zone_credits (units_input month t) s zone
  unfolding zone_credits
  zones_credited zone = where_eq (rows Units units) (unit_zone units) (at column) zone (credit_in (units_input month t) s) (λ u h q. holds_credits u h)

  pub owners_credited : (credits : List ℕ) {credits_after : List ℕ}
      → credits_after ≡ put (rows Owners owners) (λ o. sum_where (rows Units units) (unit_owner units) (at column) (owner_number owners o)) credits
      → credits_after ≡ put (rows Owners owners) (service_credit (units_input month t) s) credits
  unfolding service_credit
  owners_credited credits e =
      e ∙ put_eq (rows Owners owners) _ (service_credit (units_input month t) s) credits
      (λ o b. where_eq (rows Units units) (unit_owner units) (at column) (owner_number owners o) (credit_in (units_input month t) s) (λ u h q. holds_credits u h))

-- no part of an account's use is more than its use
pub parts_within : (zone credits network energy : ℕ)
    → (zone_part zone credits network energy ≤ network + energy) × (nonzone_part zone credits network energy ≤ network + energy)
parts_within zone credits network energy =
    let whole = parts_add_up zone credits network energy in (omega (arith, whole), omega (arith, whole))

-- the fronts of columns that a service is charged over
pub record Lists (s : Service) (zonecount count : ℕ) (pots numbers zoneparts nonzoneparts accountzones : List ℕ) : Type 0 where
  pub pots_front : Front s.zones s.pot zonecount pots
  pub numbers_front : Front s.zones s.zone_number zonecount numbers
  pub zoneparts_front : Front s.accounts s.zone_part count zoneparts
  pub nonzoneparts_front : Front s.accounts s.nonzone_part count nonzoneparts
  pub accountzones_front : Front s.accounts s.zone_of count accountzones

module _ {s : Service} {zonecount count : ℕ} {pots numbers zoneparts nonzoneparts accountzones : List ℕ}
    (lists : Lists s zonecount count pots numbers zoneparts nonzoneparts accountzones) where
  -- what all accounts have of a part of use adds up to a word
  part_fits : s.accounts ≤ limit Accounts → (part : ℕ → ℕ) → ((a : ℕ) → a < s.accounts → part a ≤ most_use) → total (listed s.accounts part) < 2 ^ 64
  part_fits few part within =
      lt_of_le_of_lt (le_trans (le_of_eq (total_listed s.accounts part)) (sum_at_most s.accounts (limit Accounts) most_use part few within)) (omega arith)

  pub lent : s.accounts ≤ limit Accounts → s.zones ≤ limit Zones
      → ((a : ℕ) → a < s.accounts → (s.zone_part a ≤ most_use) × (s.nonzone_part a ≤ most_use))
      → ServiceTogether (take zonecount pots) (take zonecount numbers) (take count zoneparts) (take count nonzoneparts) (take count accountzones)
  lent few few_zones within =
      record {
        together =
            record {
              few_members = omega (arith, lists.zoneparts_front.long, lists.zoneparts_front.counted, few);
              group_each = sym lists.accountzones_front.long ∙ lists.zoneparts_front.long;
              few_groups = omega (arith, lists.numbers_front.long, lists.numbers_front.counted, few_zones);
              pot_each = sym lists.pots_front.long ∙ lists.numbers_front.long;
            };
        both_parts = sym lists.nonzoneparts_front.long ∙ lists.zoneparts_front.long;
        zone_use_lem = rw lists.zoneparts_front.holds (part_fits few s.zone_part (λ a b. (within a b).0));
        nonzone_use_lem = rw lists.nonzoneparts_front.holds (part_fits few s.nonzone_part (λ a b. (within a b).1));
      }

  -- what is charged over them
  pub served_from : (place : ℕ) {before after : List ℕ} {r : Answer}
      → Served
      (service_of (take zonecount pots) (take zonecount numbers) (take count zoneparts) (take count nonzoneparts) (take count accountzones))
      place before after r
      → Served s place before after r
  served_from place {before} {after} {r} v =
      same_served (filled s) place before after r
      (rw (lists.pots_front.holds, lists.numbers_front.holds, lists.zoneparts_front.holds, lists.nonzoneparts_front.holds, lists.accountzones_front.holds) at v)

-- credits that agree zone by zone
pub served_same : (t : Tables) (network energy credits other : ℕ → ℕ) (place : ℕ) {before after : List ℕ} {r : Answer}
    → ((zone : ℕ) → credits zone ≡ other zone)
    → Served (service_over t network energy credits) place before after r → Served (service_over t network energy other) place before after r
served_same t network energy credits other place {before} {after} {r} e v =
    same_served
    (record {
      same_accounts = refl;
      same_zone = λ a b. refl;
      same_zone_part = λ a b. ap (λ k. zone_part (account_zone t.accounts a) k (network a) (energy a)) (e (account_zone t.accounts a));
      same_nonzone_part = λ a b. ap (λ k. nonzone_part (account_zone t.accounts a) k (network a) (energy a)) (e (account_zone t.accounts a));
      same_zones = refl;
      same_number = λ z b. refl;
      same_pot = λ z b. e (zone_number t.zones z);
    })
    place before after r v
