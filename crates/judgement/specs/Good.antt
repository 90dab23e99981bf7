-- What a good month is, without any order of looking: its tables and its head. Its divisions can still be refused.
-- Assumes nothing.
use Rattle.std.specs.Prelude.{◌≡◌, ◌≢◌, List, ℕ, ◌+◌, ◌*◌, ◌≤◌, ◌<◌}
use Rattle.month.specs.Limits.{most_rate, most_annual, most_load, most_energy, last_zone, last_owner, last_unit, last_account, last_customer, black_start, reactive, most_reserve, daily_term, monthly_term, miso_delivery, most_capacity, last_weekday}
use Rattle.month.specs.Calendar.{InCalendar}
use Rattle.tables.specs.declared.Head.{Head}
use Rattle.tables.specs.declared.Table.{Table}
use Rattle.tables.specs.declared.Table.TheVariants.{Zones, Owners, Units, Accounts, Loads, Reservations, Firm}
use Rattle.tables.specs.Shape.{key_columns, charge_width, credit_width, rows, Tables, words_of}
use Rattle.tables.specs.Counts.{GoodCount}
use Rattle.tables.specs.Columns.{
  entry,
  zone_number,
  zone_rate,
  owner_number,
  owner_zone,
  owner_requirement,
  unit_number,
  unit_owner,
  unit_zone,
  unit_service,
  unit_requirement,
  unit_reserve,
  account_number,
  account_customer,
  account_zone,
  load_account,
  load_day,
  load_contribution,
  reservation_account,
  reservation_reserved,
  reservation_curtailed,
  firm_account,
  firm_term,
  firm_miso,
  firm_day,
  firm_capacity,
}

-- x is low..high
pub record Within (low high x : ℕ) : Type 0 where
  pub least : low ≤ x
  pub most : x ≤ high

-- every entry of row i in its range, table by table
pub record ZoneInRange (zones : List ℕ) (i : ℕ) : Type 0 where
  pub zone : Within 1 last_zone (zone_number zones i)
  pub rate : Within 0 most_rate (zone_rate zones i)

pub record OwnerInRange (owners : List ℕ) (i : ℕ) : Type 0 where
  pub owner : Within 1 last_owner (owner_number owners i)
  pub zone : Within 1 last_zone (owner_zone owners i)
  pub requirement : Within 0 most_annual (owner_requirement owners i)

pub record UnitInRange (units : List ℕ) (i : ℕ) : Type 0 where
  pub unit : Within 1 last_unit (unit_number units i)
  pub owner : Within 1 last_owner (unit_owner units i)
  pub zone : Within 1 last_zone (unit_zone units i)
  pub service : Within black_start reactive (unit_service units i)
  pub requirement : Within 0 most_annual (unit_requirement units i)
  pub reserve : Within 0 most_reserve (unit_reserve units i)
  pub none_for_reactive : unit_service units i ≡ reactive → unit_reserve units i ≡ 0

pub record AccountInRange (accounts : List ℕ) (i : ℕ) : Type 0 where
  pub account : Within 1 last_account (account_number accounts i)
  pub customer : Within 1 last_customer (account_customer accounts i)
  pub zone : Within 0 last_zone (account_zone accounts i)

pub record LoadInRange (days : ℕ) (loads : List ℕ) (i : ℕ) : Type 0 where
  pub account : Within 1 last_account (load_account loads i)
  pub day : Within 1 days (load_day loads i)
  pub contribution : Within 0 most_load (load_contribution loads i)

pub record ReservationInRange (reservations : List ℕ) (i : ℕ) : Type 0 where
  pub account : Within 1 last_account (reservation_account reservations i)
  pub reserved : Within 0 most_energy (reservation_reserved reservations i)
  pub curtailed : Within 0 most_energy (reservation_curtailed reservations i)
  pub at_most_reserved : reservation_curtailed reservations i ≤ reservation_reserved reservations i

pub record FirmInRange (days : ℕ) (firm : List ℕ) (i : ℕ) : Type 0 where
  pub account : Within 1 last_account (firm_account firm i)
  pub term : Within daily_term monthly_term (firm_term firm i)
  pub miso : Within 0 miso_delivery (firm_miso firm i)
  pub day : Within 1 days (firm_day firm i)
  pub monthly_on_first : firm_term firm i ≡ monthly_term → firm_day firm i ≡ 1
  pub capacity : Within 0 most_capacity (firm_capacity firm i)

abbrev pub InRange : ℕ → Tables → Table → ℕ → Type 0
InRange days t Zones i = ZoneInRange t.zones i
InRange days t Owners i = OwnerInRange t.owners i
InRange days t Units i = UnitInRange t.units i
InRange days t Accounts i = AccountInRange t.accounts i
InRange days t Loads i = LoadInRange days t.loads i
InRange days t Reservations i = ReservationInRange t.reservations i
InRange days t Firm i = FirmInRange days t.firm i

-- row i of a table stands above its row j, the lower row being named first: some column of the key is larger, and the columns before
-- it are the same. "Zones, owners, units, accounts and reservations strictly ascend by their first entry, loads by account, then day",
-- table 10 "ascending by the first four"
pub record Above (t : Tables) (table : Table) (j i : ℕ) : Type 0 where
  pub column : ℕ
  pub in_key : column < key_columns table
  pub same_before : (c : ℕ) → c < column → entry table c (words_of t table) j ≡ entry table c (words_of t table) i
  pub larger : entry table column (words_of t table) j < entry table column (words_of t table) i

-- a table has a row with x as its first entry
abbrev pub Known : Table → List ℕ → ℕ → Type 0
Known table words x = (j : ℕ) × (j < rows table words) × (entry table 0 words j ≡ x)

-- "A zone, owner or account that a row refers to must have a row (account zone 0 excepted)"
abbrev pub Linked : Tables → Table → ℕ → Type 0
Linked t Zones i = Unit {0}
Linked t Owners i = Known Zones t.zones (owner_zone t.owners i)
Linked t Units i = Known Owners t.owners (unit_owner t.units i) × Known Zones t.zones (unit_zone t.units i)
Linked t Accounts i = account_zone t.accounts i ≢ 0 → Known Zones t.zones (account_zone t.accounts i)
Linked t Loads i = Known Accounts t.accounts (load_account t.loads i)
Linked t Reservations i = Known Accounts t.accounts (reservation_account t.reservations i)
Linked t Firm i = Known Accounts t.accounts (firm_account t.firm i)

-- "No two accounts share customer and zone": no earlier one has both of account i
abbrev pub OwnPair : List ℕ → ℕ → Type 0
OwnPair accounts i = (j : ℕ) → j < i → account_customer accounts j ≡ account_customer accounts i → account_zone accounts j ≢ account_zone accounts i

abbrev pub Unpaired : Tables → Table → ℕ → Type 0
Unpaired t Zones i = Unit {0}
Unpaired t Owners i = Unit {0}
Unpaired t Units i = Unit {0}
Unpaired t Accounts i = OwnPair t.accounts i
Unpaired t Loads i = Unit {0}
Unpaired t Reservations i = Unit {0}
Unpaired t Firm i = Unit {0}

-- ORDER is "a row not above the one before": turned round, each row is above the one before
abbrev pub Ascending : Tables → Table → ℕ → Type 0
Ascending t table i = (j : ℕ) → i ≡ j + 1 → Above t table j i

-- row i of a table keeps its four rules
pub record GoodRow (days : ℕ) (t : Tables) (table : Table) (i : ℕ) : Type 0 where
  pub in_range : InRange days t table i
  pub ascending : Ascending t table i
  pub linked : Linked t table i
  pub unpaired : Unpaired t table i

abbrev pub GoodTable : ℕ → Tables → Table → Type 0
GoodTable days t table = (i : ℕ) → i < rows table (words_of t table) → GoodRow days t table i

-- the head's rates and the weekday of day 1 in their ranges
pub record HeadInRange (head : Head) : Type 0 where
  pub nonzone : Within 0 most_rate head.nonzone
  pub daily : Within 0 most_rate head.daily
  pub weekly : Within 0 most_rate head.weekly
  pub monthly : Within 0 most_rate head.monthly
  pub weekday : Within 1 last_weekday head.weekday

-- the lent outputs have a place for every figure
pub record Roomy (t : Tables) (lent_charges lent_credits : ℕ) : Type 0 where
  pub charges_fit : rows Accounts t.accounts * charge_width ≤ lent_charges
  pub credits_fit : rows Owners t.owners * credit_width ≤ lent_credits

-- what is right before any row is looked at
pub record GoodFrame (head : Head) (t : Tables) (lent_charges lent_credits : ℕ) : Type 0 where
  pub counted : (table : Table) → GoodCount t table
  pub roomy : Roomy t lent_charges lent_credits
  pub month_known : InCalendar head.month head.days
  pub head_in_range : HeadInRange head

pub record GoodMonth (head : Head) (t : Tables) (lent_charges lent_credits : ℕ) : Type 0 where
  pub frame : GoodFrame head t lent_charges lent_credits
  pub tables : (table : Table) → GoodTable head.days t table
