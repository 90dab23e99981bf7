-- What the figures of a good month can be at most: from the range of each entry, from one load a day and account, and from one
-- reservation an account.
-- Assumes nothing.
use mathlib.Core.Bool.{true, false, cond}
use Prim.Native.Nat.{ℕ, ◌*◌, ◌^◌, ◌≤◌, ◌<◌}
use native.Mathlib.Nat.{le_refl, le_trans, lt_of_le_of_lt}
use native.Mathlib.Omega.{arith}
use mathlib.Core.Path.{◌≡◌, refl, sym}
use mathlib.Core.Logic.{◌≢◌}
use borrow.Author.Tests.{eq-eqb, ne_eqb}
use lib.Dec.{eqb}
use Rattle.lists.proofs.Sums.{sum_at_most, where_mono}
use Rattle.tables.specs.declared.Table.{Table}
use Rattle.tables.specs.declared.Table.TheVariants.{Zones, Owners, Units, Accounts, Loads, Reservations, Firm}
use Rattle.tables.specs.Shape.{rows, limit, key_columns, words_of}
use Rattle.tables.specs.Columns.{entry, zone_number, zone_rate, owner_number, unit_requirement, account_number, account_zone, load_account, load_day, load_contribution, reservation_account, reservation_reserved, reservation_curtailed}
use Rattle.judgement.specs.Good.{Above}
use Rattle.judgement.proofs.Ascents.{first_above, load_above}
use Rattle.judgement.proofs.Promises.{strictly_ascend}
use Rattle.month.specs.Limits.{most_rate, most_load, most_energy}
use Rattle.month.specs.Quantities.{most_contributions}
use Rattle.month.proofs.Months.{InYear, month_within, twelfth_within}
use Rattle.month.proofs.Promises.{month_exactly}
use Rattle.month.proofs.Quantities as quantities
use Rattle.pool.specs.Input.{Input, zone_count, owner_count, unit_count, load_count, reservation_count}
use Rattle.pool.specs.Accounts.{reserved_of, curtailed_of, contributions, reserved, curtailed, account_use}
use Rattle.pool.specs.Network.{zone_rate_of, rate_of, rate, network_charge}
use Rattle.pool.specs.Services.{unit_credit}
use Rattle.columns.specs.Columns.{SumFits}
use Rattle.pool.specs.Filled.{most_use, most_charge}
use Rattle.services.specs.Settled.{most_credit}
use Rattle.settlement.specs.Accepted.{GoodInput}
use Rattle.settlement.specs.Steps.{Settleable}
use Rattle.settlement.proofs.Keys.{Ascends, AscendsByDay, entry_of_lem, one_row_at_most, one_row_a_day}

module _ (m : Input) (lent_charges lent_credits : ℕ) (good : GoodInput m lent_charges lent_credits) where
  open m.tables use {zones, owners, units, accounts, loads, reservations}

  above : (table : Table) (i j : ℕ) → i < j → j < rows table (words_of m.tables table) → Above m.tables table i j
  above table = strictly_ascend m.days m.tables table (good.tables table)

  -- by the first entry, in a table of which that is the key
  ascend : (table : Table) → key_columns table ≡ 1 → Ascends (rows table (words_of m.tables table)) (entry table 0 (words_of m.tables table))
  ascend table one i j l h = (first_above m.tables table one i j).0 (above table i j l h)

  pub zones_ascend : Ascends (zone_count m) (zone_number zones)
  zones_ascend = ascend Zones refl

  pub owners_ascend : Ascends (owner_count m) (owner_number owners)
  owners_ascend = ascend Owners refl

  reservations_ascend : Ascends (reservation_count m) (reservation_account reservations)
  reservations_ascend = ascend Reservations refl

  pub loads_ascend : AscendsByDay (load_count m) (load_account loads) (load_day loads)
  loads_ascend i j l h = (load_above m.tables i j).0 (above Loads i j l h)

  -- the rate of an account is its zone's, or the non-zone rate ..
  pub rate_of_zone : (a z : ℕ) → z < zone_count m → account_zone accounts a ≡ zone_number zones z → rate m a ≡ zone_rate zones z
  unfolding rate rate_of
  rate_of_zone a z b e =
      let least : 1 ≤ zone_number zones z = (good.tables Zones z b).in_range.zone.least in
      let inside : account_zone accounts a ≢ 0 = λ q. omega (arith, least, e, q) in
      sym
      (rw (ne_eqb (account_zone accounts a) 0 inside)
      (sym (entry_of_lem (zone_count m) (zone_number zones) zones_ascend (zone_rate zones) z (account_zone accounts a) b (sym e))))

  pub rate_at_the_border : (a : ℕ) → account_zone accounts a ≡ 0 → rate m a ≡ m.nonzone
  unfolding rate rate_of
  rate_at_the_border a e = rw (eq-eqb (account_zone accounts a) 0 e)

  -- .. and its energy that of its own reservation
  pub reservation_of : (a r : ℕ) → r < rows Reservations reservations → reservation_account reservations r ≡ account_number accounts a
      → (reserved m a ≡ reservation_reserved reservations r) × (curtailed m a ≡ reservation_curtailed reservations r)
  unfolding reserved curtailed
  reservation_of a r b e = (
    entry_of_lem (rows Reservations reservations) (reservation_account reservations) reservations_ascend (reservation_reserved reservations) r (account_number accounts a) b e,
    entry_of_lem (rows Reservations reservations) (reservation_account reservations) reservations_ascend (reservation_curtailed reservations) r (account_number accounts a) b e,
  )

  pub in_year : InYear m.month m.days
  in_year = month_within m.month m.days ((month_exactly m.month m.days).1 good.frame.month_known)

  pub contributions_within : (a : ℕ) → contributions m a ≤ most_contributions
  unfolding contributions
  contributions_within a =
      let by-days = one_row_a_day (rows Loads loads) (load_account loads) (load_day loads) (load_contribution loads) loads_ascend
      (λ i b. (good.tables Loads i b).in_range.day.least) (λ i b. (good.tables Loads i b).in_range.contribution.most)
      (account_number accounts a) (rows Loads loads) (le_refl (rows Loads loads)) m.days
      (λ i b e. (good.tables Loads i b).in_range.day.most) in
      omega (arith, by-days, in_year.short)

  pub reserved_of_within : (account : ℕ) → reserved_of reservations account ≤ most_energy
  reserved_of_within account =
      one_row_at_most (rows Reservations reservations) (reservation_account reservations) (reservation_reserved reservations) account most_energy
      reservations_ascend (λ i b. (good.tables Reservations i b).in_range.reserved.most)

  pub curtailed_of_within : (account : ℕ) → curtailed_of reservations account ≤ reserved_of reservations account
  curtailed_of_within account =
      where_mono (rows Reservations reservations) (reservation_account reservations) (reservation_curtailed reservations) account
      (reservation_reserved reservations) (λ r b. (good.tables Reservations r b).in_range.at_most_reserved)

  pub reserved_within : (a : ℕ) → reserved m a ≤ most_energy
  unfolding reserved
  reserved_within a = reserved_of_within (account_number accounts a)

  pub curtailed_within : (a : ℕ) → curtailed m a ≤ reserved m a
  unfolding reserved curtailed
  curtailed_within a = curtailed_of_within (account_number accounts a)

  pub use_within : (a : ℕ) → account_use m a ≤ most_use
  unfolding account_use
  use_within a = quantities.use_within (contributions m a) (reserved m a) (curtailed m a) (contributions_within a) (reserved_within a)

  zone_rate_within : (zone : ℕ) → zone_rate_of zones zone ≤ most_rate
  zone_rate_within zone =
      one_row_at_most (zone_count m) (zone_number zones) (zone_rate zones) zone most_rate zones_ascend
      (λ i b. (good.tables Zones i b).in_range.rate.most)

  pub rate_within : (a : ℕ) → rate m a ≤ most_rate
  unfolding rate rate_of
  rate_within a =
      elim (eqb (account_zone accounts a) 0) as (λ t. cond t m.nonzone (zone_rate_of zones (account_zone accounts a)) ≤ most_rate)
      [ true ↦ good.frame.head_in_range.nonzone.most | false ↦ zone_rate_within (account_zone accounts a) ]

  pub charge_within : (a : ℕ) → network_charge m a ≤ most_charge
  unfolding network_charge
  charge_within a = quantities.charge_within (contributions m a) (rate m a) (contributions_within a) (rate_within a)

  pub unit_credit_within : (u : ℕ) → u < unit_count m → unit_credit m u ≤ most_credit
  unfolding unit_credit
  unit_credit_within u b =
      let r = (good.tables Units u b).in_range in
      omega (arith, twelfth_within m.month (unit_requirement units u) in_year.last, r.requirement.most, r.reserve.most)

  -- every figure of a good month can be found, and added up
  fit : (table : Table) (most : ℕ) (value : ℕ → ℕ) → limit table * most < 2 ^ 64
      → ((i : ℕ) → i < rows table (words_of m.tables table) → value i ≤ most) → SumFits (rows table (words_of m.tables table)) value
  fit table most value fits within =
      lt_of_le_of_lt (sum_at_most (rows table (words_of m.tables table)) (limit table) most value (good.frame.counted table).few within) fits

  pub settleable : Settleable m
  unfolding contributions rate
  settleable =
      record {
        fillable = record {
          few = (good.frame.counted Accounts).few;
          loads_fit = fit Loads most_load (load_contribution loads) (omega arith) (λ i b. (good.tables Loads i b).in_range.contribution.most);
          contributions_within = contributions_within;
          rated = record {
            rates_fit = fit Zones most_rate (zone_rate zones) (omega arith) (λ i b. (good.tables Zones i b).in_range.rate.most);
            rate_within = rate_within;
          };
          energy = record {
            reserved_fit = fit Reservations most_energy (reservation_reserved reservations) (omega arith) (λ i b. (good.tables Reservations i b).in_range.reserved.most);
            curtailed_fit = fit Reservations most_energy (reservation_curtailed reservations) (omega arith) (λ i b. (good.tables Reservations i b).in_range.curtailed.most);
            reserved_within = reserved_of_within;
            curtailed_within = curtailed_of_within;
          };
        };
        creditable = record {
          first_month = in_year.first;
          last_month = in_year.last;
          few_units = (good.frame.counted Units).few;
          few_zones = (good.frame.counted Zones).few;
          requirement_within = λ u b. (good.tables Units u b).in_range.requirement.most;
          reserve_within = λ u b. (good.tables Units u b).in_range.reserve.most;
        };
        reservable = record {
          costable = record {
            few = (good.frame.counted Firm).few;
            daily_within = good.frame.head_in_range.daily.most;
            weekly_within = good.frame.head_in_range.weekly.most;
            monthly_within = good.frame.head_in_range.monthly.most;
            first_weekday = good.frame.head_in_range.weekday.least;
            last_weekday_lem = good.frame.head_in_range.weekday.most;
            first_day = λ i b. (good.tables Firm i b).in_range.day.least;
            last_day = λ i b. le_trans (good.tables Firm i b).in_range.day.most in_year.short;
            capacity_within = λ i b. (good.tables Firm i b).in_range.capacity.most;
          };
          few_accounts = (good.frame.counted Accounts).few;
          few_owners = (good.frame.counted Owners).few;
        };
        few_owners = (good.frame.counted Owners).few;
        charge_within = charge_within;
        use_within = use_within;
      }
