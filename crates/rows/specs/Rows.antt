-- What is looked at in a row of each table, and the row's number: 0 where it is fine.
-- Assumes nothing.
use Rattle.std.specs.Prelude.{ℕ, ◌-◌, Bool, false, not, ◌&&◌, ◌||◌, List, eqb, ltb}
use Rattle.lists.specs.Sums.{any, every}
use Rattle.answer.specs.Numbers.{RANGE, ORDER, LINK, PAIR}
use Rattle.answer.specs.Turns.{look}
use Rattle.month.specs.Limits.{most_rate, most_annual, most_load, most_energy, last_zone, last_owner, last_unit, last_account, last_customer, black_start, reactive, reserve_limit, daily_term, monthly_term, miso_delivery, last_first_day, most_capacity}
use Rattle.tables.specs.declared.Table.{Table}
use Rattle.tables.specs.declared.Table.TheVariants.{Zones, Owners, Units, Accounts, Loads, Reservations, Firm}
use Rattle.tables.specs.Shape.{key_columns, rows, Tables, words_of}
use Rattle.tables.specs.Columns.{
  entry,
  zone_number,
  zone_rate,
  owner_number,
  owner_zone,
  owner_requirement,
  unit_number,
  unit_owner,
  unit_zone,
  unit_service,
  unit_requirement,
  unit_reserve,
  account_number,
  account_customer,
  account_zone,
  load_account,
  load_day,
  load_contribution,
  reservation_account,
  reservation_reserved,
  reservation_curtailed,
  firm_account,
  firm_term,
  firm_miso,
  firm_day,
  firm_capacity,
}

-- "an entry outside its range"
abbrev pub outside : ℕ → ℕ → ℕ → Bool
outside low high x = ltb x low || ltb high x

-- zones: "zone 1..999, rate"; "Rates are .. 0..10^8"
unfoldable pub zone_outside : List ℕ → ℕ → Bool
zone_outside zones i = outside 1 last_zone (zone_number zones i) || outside 0 most_rate (zone_rate zones i)

-- owners: "owner 1..9999, zone, annual transmission requirement"; "Zone 0 .. outside an account .. is RANGE. An entry that
-- names a row has that row's range"; "Annual requirements are 0..10^12"
unfoldable pub owner_outside : List ℕ → ℕ → Bool
owner_outside owners i =
    outside 1 last_owner (owner_number owners i)
    || outside 1 last_zone (owner_zone owners i)
    || outside 0 most_annual (owner_requirement owners i)

-- units: "unit 1..9999, owner, zone, service, annual requirement, reserve credit"; "Service is 1 black start or 2 reactive"
unfoldable pub unit_outside : List ℕ → ℕ → Bool
unit_outside units i =
    outside 1 last_unit (unit_number units i)
    || outside 1 last_owner (unit_owner units i)
    || outside 1 last_zone (unit_zone units i)
    || outside black_start reactive (unit_service units i)
    || outside 0 most_annual (unit_requirement units i)
    || outside 0 (reserve_limit (unit_service units i)) (unit_reserve units i)

-- accounts: "account 1..9999, customer 1..10^9, zone"; "Zone 0 means non-zone or border"
unfoldable pub account_outside : List ℕ → ℕ → Bool
account_outside accounts i =
    outside 1 last_account (account_number accounts i)
    || outside 1 last_customer (account_customer accounts i)
    || outside 0 last_zone (account_zone accounts i)

-- loads: "account, day, peak load contribution"; "A day is 1..days"; "Peak load is .. 0..10^6"
unfoldable pub load_outside : ℕ → List ℕ → ℕ → Bool
load_outside days loads i =
    outside 1 last_account (load_account loads i) || outside 1 days (load_day loads i) || outside 0 most_load (load_contribution loads i)

-- reservations: "account, reserved, curtailed"; "0..10^9, curtailed at most reserved"
unfoldable pub reservation_outside : List ℕ → ℕ → Bool
reservation_outside reservations i =
    outside 1 last_account (reservation_account reservations i)
    || outside 0 most_energy (reservation_reserved reservations i)
    || outside 0 most_energy (reservation_curtailed reservations i)
    || outside 0 (reservation_reserved reservations i) (reservation_curtailed reservations i)

-- firm reservations: "account, term (1 daily, 2 weekly, 3 monthly), MISO delivery 0 or 1, first day (1 for monthly) and capacity in
-- tenths of a MW, 0..10^6"; "A day is 1..days"
unfoldable pub firm_outside : ℕ → List ℕ → ℕ → Bool
firm_outside days firm i =
    outside 1 last_account (firm_account firm i)
    || outside daily_term monthly_term (firm_term firm i)
    || outside 0 miso_delivery (firm_miso firm i)
    || outside 1 days (firm_day firm i)
    || outside 1 (last_first_day (firm_term firm i) days) (firm_day firm i)
    || outside 0 most_capacity (firm_capacity firm i)

-- RANGE of row i of a table, in a month of so many days
abbrev pub row_outside : ℕ → Table → List ℕ → ℕ → Bool
row_outside days Zones words i = zone_outside words i
row_outside days Owners words i = owner_outside words i
row_outside days Units words i = unit_outside words i
row_outside days Accounts words i = account_outside words i
row_outside days Loads words i = load_outside days words i
row_outside days Reservations words i = reservation_outside words i
row_outside days Firm words i = firm_outside days words i

-- "a row not above the one before"; `above j i` is whether row i stands above row j
unfoldable pub not_above : (ℕ → ℕ → Bool) → ℕ → Bool
not_above above i = ltb 0 i && not (above (i - 1) i)

-- of two rows, given by their columns, the second stands above the first: in one of the first n columns it is larger, and in the
-- columns before that one the two are the same
unfoldable pub above : ℕ → (ℕ → ℕ) → (ℕ → ℕ) → Bool
above n lower upper = any n (λ c. every c (λ k. eqb (lower k) (upper k)) && ltb (lower c) (upper c))

-- ORDER of the rows of a table, by its key columns: "Zones, owners, units, accounts and reservations strictly ascend by their first
-- entry, loads by account, then day", table 10 "ascending by the first four"
abbrev pub row_above : Table → List ℕ → ℕ → ℕ → Bool
row_above table words j i = above (key_columns table) (λ c. entry table c words j) (λ c. entry table c words i)

-- row j has x as its first entry
abbrev pub names : Table → List ℕ → ℕ → ℕ → Bool
names table words x j = eqb (entry table 0 words j) x

-- "a named row doesn't exist"
unfoldable pub unknown : Table → List ℕ → ℕ → Bool
unknown table words x = not (any (rows table words) (names table words x))

-- LINK of row i of a month's table: "A zone, owner or account that a row refers to must have a row (account zone 0 excepted)";
-- "A unit may serve a zone that isn't its owner's"
abbrev pub row_unlinked : Tables → Table → ℕ → Bool
row_unlinked t Zones i = false
row_unlinked t Owners i = unknown Zones t.zones (owner_zone t.owners i)
row_unlinked t Units i = unknown Owners t.owners (unit_owner t.units i) || unknown Zones t.zones (unit_zone t.units i)
row_unlinked t Accounts i = not (eqb (account_zone t.accounts i) 0) && unknown Zones t.zones (account_zone t.accounts i)
row_unlinked t Loads i = unknown Accounts t.accounts (load_account t.loads i)
row_unlinked t Reservations i = unknown Accounts t.accounts (reservation_account t.reservations i)
row_unlinked t Firm i = unknown Accounts t.accounts (firm_account t.firm i)

-- two accounts "share customer and zone"
abbrev pub same_pair : List ℕ → ℕ → ℕ → Bool
same_pair accounts j i =
    eqb (account_customer accounts j) (account_customer accounts i) && eqb (account_zone accounts j) (account_zone accounts i)

-- "customer and zone already taken by an earlier account"
unfoldable pub taken : List ℕ → ℕ → Bool
taken accounts i = any i (λ j. same_pair accounts j i)

-- PAIR of row i of a table: only accounts have customer and zone
abbrev pub row_taken : Table → List ℕ → ℕ → Bool
row_taken Zones words i = false
row_taken Owners words i = false
row_taken Units words i = false
row_taken Accounts words i = taken words i
row_taken Loads words i = false
row_taken Reservations words i = false
row_taken Firm words i = false

-- "in a row RANGE, ORDER, LINK, PAIR": the number of the first of a row's four faults that is there
unfoldable pub row_number : Bool → Bool → Bool → Bool → ℕ
row_number range order link pair = look range RANGE (look order ORDER (look link LINK (look pair PAIR 0)))

-- the number of row i of a month's table, in a month of so many days
unfoldable pub row_of : ℕ → Tables → Table → ℕ → ℕ
row_of days t table i =
    row_number
    (row_outside days table (words_of t table) i)
    (not_above (row_above table (words_of t table)) i)
    (row_unlinked t table i)
    (row_taken table (words_of t table) i)
