-- A row's number says which of its rules is the first that is broken. For each table the four looks are the tests of its four rules.
-- Assumes nothing.
use mathlib.Core.Path.{◌≡◌, refl, sym}
use mathlib.Core.Logic.{◌≢◌}
use mathlib.Core.Bool.{Bool, true, false}
use mathlib.Core.List.{List}
use Prim.Native.Nat.{ℕ}
use native.Mathlib.Omega.{arith}
use Rattle.month.specs.Limits.{most_rate, most_annual, most_load, most_energy, last_zone, last_owner, last_unit, last_account, last_customer, black_start, reactive, daily_term, monthly_term, miso_delivery, most_capacity, last_weekday}
use Rattle.tables.specs.declared.Head.{Head}
use Rattle.tables.specs.declared.Table.{Table}
use Rattle.tables.specs.declared.Table.TheVariants.{Zones, Owners, Units, Accounts, Loads, Reservations, Firm}
use Rattle.tables.specs.Shape.{Tables, words_of}
use Rattle.tables.specs.Columns.{
  zone_number,
  zone_rate,
  owner_number,
  owner_zone,
  owner_requirement,
  unit_number,
  unit_owner,
  unit_zone,
  unit_service,
  unit_requirement,
  unit_reserve,
  account_number,
  account_customer,
  account_zone,
  load_account,
  load_day,
  load_contribution,
  reservation_account,
  reservation_reserved,
  reservation_curtailed,
  firm_account,
  firm_term,
  firm_miso,
  firm_day,
  firm_capacity,
}
use Rattle.rows.specs.Rows.{row_number, not_above, zone_outside, owner_outside, unit_outside, account_outside, load_outside, reservation_outside, firm_outside, row_outside, row_above, row_unlinked, row_taken, row_of}
use Rattle.judgement.specs.Good.{ZoneInRange, OwnerInRange, UnitInRange, AccountInRange, LoadInRange, ReservationInRange, FirmInRange, InRange, Ascending, Linked, Unpaired, GoodRow, HeadInRange}
use Rattle.judgement.specs.Judgement.{head_outside}
use Rattle.judgement.specs.Refused.{FirstBroken, by_range, by_order, by_link, by_pair}
use Rattle.tables.proofs.Tests.{Tests, breaks, reworded, no_rule, also, both}
use Rattle.judgement.proofs.Keeping.{faulty, within, reserve, first_day, above_before, above_tested, known, unless_zero, own_pair}

-- RANGE of the head ..
pub head_range : (head : Head) → Tests (HeadInRange head) (head_outside head)
unfolding head_outside
head_range head =
    reworded
    (λ p. record { nonzone = p.0.0.0.0; daily = p.0.0.0.1; weekly = p.0.0.1; monthly = p.0.1; weekday = p.1 })
    (λ r. ((((r.nonzone, r.daily), r.weekly), r.monthly), r.weekday))
    (both
    (both
    (both (both (within 0 most_rate head.nonzone) (within 0 most_rate head.daily))
    (within 0 most_rate head.weekly))
    (within 0 most_rate head.monthly))
    (within 1 last_weekday head.weekday))

-- .. and table by table
zone_range : (zones : List ℕ) (i : ℕ) → Tests (ZoneInRange zones i) (zone_outside zones i)
unfolding zone_outside
zone_range zones i =
    reworded (λ p. record { zone = p.0; rate = p.1 }) (λ r. (r.zone, r.rate))
    (both (within 1 last_zone (zone_number zones i)) (within 0 most_rate (zone_rate zones i)))

owner_range : (owners : List ℕ) (i : ℕ) → Tests (OwnerInRange owners i) (owner_outside owners i)
unfolding owner_outside
owner_range owners i =
    reworded (λ p. record { owner = p.0.0; zone = p.0.1; requirement = p.1 }) (λ r. ((r.owner, r.zone), r.requirement))
    (both (both (within 1 last_owner (owner_number owners i)) (within 1 last_zone (owner_zone owners i)))
    (within 0 most_annual (owner_requirement owners i)))

unit_range : (units : List ℕ) (i : ℕ) → Tests (UnitInRange units i) (unit_outside units i)
unfolding unit_outside
unit_range units i =
    reworded
    (λ p. record {
      unit = p.0.0.0.0.0;
      owner = p.0.0.0.0.1;
      zone = p.0.0.0.1;
      service = p.0.0.1;
      requirement = p.0.1;
      reserve = p.1.0;
      none_for_reactive = p.1.1;
    })
    (λ r. (((((r.unit, r.owner), r.zone), r.service), r.requirement), (r.reserve, r.none_for_reactive)))
    (both
    (both
    (both
    (both (both (within 1 last_unit (unit_number units i)) (within 1 last_owner (unit_owner units i)))
    (within 1 last_zone (unit_zone units i)))
    (within black_start reactive (unit_service units i)))
    (within 0 most_annual (unit_requirement units i)))
    (reserve (unit_service units i) (unit_reserve units i)))

account_range : (accounts : List ℕ) (i : ℕ) → Tests (AccountInRange accounts i) (account_outside accounts i)
unfolding account_outside
account_range accounts i =
    reworded (λ p. record { account = p.0.0; customer = p.0.1; zone = p.1 }) (λ r. ((r.account, r.customer), r.zone))
    (both (both (within 1 last_account (account_number accounts i)) (within 1 last_customer (account_customer accounts i)))
    (within 0 last_zone (account_zone accounts i)))

load_range : (days : ℕ) (loads : List ℕ) (i : ℕ) → Tests (LoadInRange days loads i) (load_outside days loads i)
unfolding load_outside
load_range days loads i =
    reworded (λ p. record { account = p.0.0; day = p.0.1; contribution = p.1 }) (λ r. ((r.account, r.day), r.contribution))
    (both (both (within 1 last_account (load_account loads i)) (within 1 days (load_day loads i)))
    (within 0 most_load (load_contribution loads i)))

reservation_range : (reservations : List ℕ) (i : ℕ) → Tests (ReservationInRange reservations i) (reservation_outside reservations i)
unfolding reservation_outside
reservation_range reservations i =
    reworded
    (λ p. record { account = p.0.0.0; reserved = p.0.0.1; curtailed = p.0.1; at_most_reserved = p.1.most })
    (λ r. (((r.account, r.reserved), r.curtailed), record { least = r.curtailed.least; most = r.at_most_reserved }))
    (both
    (both (both (within 1 last_account (reservation_account reservations i)) (within 0 most_energy (reservation_reserved reservations i)))
    (within 0 most_energy (reservation_curtailed reservations i)))
    (within 0 (reservation_reserved reservations i) (reservation_curtailed reservations i)))

firm_range : (days : ℕ) (firm : List ℕ) (i : ℕ) → Tests (FirmInRange days firm i) (firm_outside days firm i)
unfolding firm_outside
firm_range days firm i =
    reworded
    (λ p. record {
      account = p.0.0.0.0.0;
      term = p.0.0.0.0.1;
      miso = p.0.0.0.1;
      day = p.0.0.1;
      monthly_on_first = p.0.1;
      capacity = p.1;
    })
    (λ r. (((((r.account, r.term), r.miso), r.day), r.monthly_on_first), r.capacity))
    (both
    (also
    (both
    (both (both (within 1 last_account (firm_account firm i)) (within daily_term monthly_term (firm_term firm i)))
    (within 0 miso_delivery (firm_miso firm i)))
    (within 1 days (firm_day firm i)))
    (λ p. first_day (firm_term firm i) days (firm_day firm i) p.1))
    (within 0 most_capacity (firm_capacity firm i)))

range_tested : (days : ℕ) (t : Tables) (table : Table) (i : ℕ) → Tests (InRange days t table i) (row_outside days table (words_of t table) i)
range_tested days t Zones i = zone_range t.zones i
range_tested days t Owners i = owner_range t.owners i
range_tested days t Units i = unit_range t.units i
range_tested days t Accounts i = account_range t.accounts i
range_tested days t Loads i = load_range days t.loads i
range_tested days t Reservations i = reservation_range t.reservations i
range_tested days t Firm i = firm_range days t.firm i

-- what a number says of a row: 0 that it is good, any other which rule is the first that is broken
pub data Ruling (days : ℕ) (t : Tables) (table : Table) (i n : ℕ) : Type 0 where
  fine : n ≡ 0 → GoodRow days t table i → Ruling days t table i n
  broken : n ≢ 0 → FirstBroken days t table i n → Ruling days t table i n

module _ (days : ℕ) (t : Tables) (table : Table) (i : ℕ) where
  -- four tests of a row's four rules, looked at in turn
  ruled : {range order link pair : Bool} → Tests (InRange days t table i) range → Tests (Ascending t table i) order → Tests (Linked t table i) link → Tests (Unpaired t table i) pair → Ruling days t table i (row_number range order link pair)
  unfolding row_number
  ruled {range = true} {order} {link} {pair} r o l p = broken (omega arith) (by_range refl (breaks r refl))
  ruled {range = false} {order = true} {link} {pair} r o l p = broken (omega arith) (by_order refl (r.holds refl) (breaks o refl))
  ruled {range = false} {order = false} {link = true} {pair} r o l p =
      broken (omega arith) (by_link refl (r.holds refl) (o.holds refl) (breaks l refl))
  ruled {range = false} {order = false} {link = false} {pair = true} r o l p =
      broken (omega arith) (by_pair refl (r.holds refl) (o.holds refl) (l.holds refl) (breaks p refl))
  ruled {range = false} {order = false} {link = false} {pair = false} r o l p =
      fine refl (record { in_range = r.holds refl; ascending = o.holds refl; linked = l.holds refl; unpaired = p.holds refl })

-- ORDER, LINK and PAIR, table by table
order_tested : (t : Tables) (table : Table) (i : ℕ) → Tests (Ascending t table i) (not_above (row_above table (words_of t table)) i)
order_tested t table i = above_before (row_above table (words_of t table)) (above_tested t table) i

link_tested : (t : Tables) (table : Table) (i : ℕ) → Tests (Linked t table i) (row_unlinked t table i)
link_tested t Zones i = no_rule
link_tested t Owners i = known Zones t.zones (owner_zone t.owners i)
link_tested t Units i = both (known Owners t.owners (unit_owner t.units i)) (known Zones t.zones (unit_zone t.units i))
link_tested t Accounts i = unless_zero (account_zone t.accounts i) (known Zones t.zones (account_zone t.accounts i))
link_tested t Loads i = known Accounts t.accounts (load_account t.loads i)
link_tested t Reservations i = known Accounts t.accounts (reservation_account t.reservations i)
link_tested t Firm i = known Accounts t.accounts (firm_account t.firm i)

pair_tested : (t : Tables) (table : Table) (i : ℕ) → Tests (Unpaired t table i) (row_taken table (words_of t table) i)
pair_tested t Zones i = no_rule
pair_tested t Owners i = no_rule
pair_tested t Units i = no_rule
pair_tested t Accounts i = own_pair t.accounts i
pair_tested t Loads i = no_rule
pair_tested t Reservations i = no_rule
pair_tested t Firm i = no_rule

pub row_ruled : (days : ℕ) (t : Tables) (table : Table) (i : ℕ) → Ruling days t table i (row_of days t table i)
unfolding row_of
row_ruled days t table i =
    ruled days t table i (range_tested days t table i) (order_tested t table i) (link_tested t table i) (pair_tested t table i)

-- a good row is numbered 0, and a row is numbered by the first rule that is broken
module _ (days : ℕ) (t : Tables) (table : Table) (i : ℕ) where
  numbered : {range order link pair : Bool} (n : ℕ) → Tests (InRange days t table i) range → Tests (Ascending t table i) order → Tests (Linked t table i) link → Tests (Unpaired t table i) pair
      → FirstBroken days t table i n → row_number range order link pair ≡ n
  unfolding row_number
  numbered n r o l p (by_range e out) = rw (faulty r out) (sym e)
  numbered n r o l p (by_order e g out) = rw (r.kept g, faulty o out) (sym e)
  numbered n r o l p (by_link e g h out) = rw (r.kept g, o.kept h, faulty l out) (sym e)
  numbered n r o l p (by_pair e g h k out) = rw (r.kept g, o.kept h, l.kept k, faulty p out) (sym e)

  pub row_numbered : (n : ℕ) → FirstBroken days t table i n → row_of days t table i ≡ n
  unfolding row_of
  row_numbered n = numbered n (range_tested days t table i) (order_tested t table i) (link_tested t table i) (pair_tested t table i)

  pub row_fine : GoodRow days t table i → row_of days t table i ≡ 0
  unfolding row_of row_number
  row_fine good =
      rw (
        (range_tested days t table i).kept good.in_range,
        (order_tested t table i).kept good.ascending,
        (link_tested t table i).kept good.linked,
        (pair_tested t table i).kept good.unpaired,
      )

  pub broken_number : (n : ℕ) → FirstBroken days t table i n → n ≢ 0
  broken_number n (by_range e out) z = omega arith
  broken_number n (by_order e r not_above_lem) z = omega arith
  broken_number n (by_link e r o missing) z = omega arith
  broken_number n (by_pair e r o l taken) z = omega arith
