-- The limits of a month's entries, in the order of the paper's list of tables and of the paragraph below it.
-- Assumes nothing.
use Rattle.std.specs.Prelude.{ℕ, ◌^◌, cond, eqb}

-- "zone 1..999", "owner 1..9999", "unit 1..9999", "account 1..9999", "customer 1..10^9"
abbrev pub last_zone : ℕ
last_zone = 999

abbrev pub last_owner : ℕ
last_owner = 9999

abbrev pub last_unit : ℕ
last_unit = 9999

abbrev pub last_account : ℕ
last_account = 9999

abbrev pub last_customer : ℕ
last_customer = 10 ^ 9

-- "Rates are cents per MW-year, 0..10^8"; and for firm service "a rate for each term, 0..10^8 cents per MW"
abbrev pub most_rate : ℕ
most_rate = 10 ^ 8

-- "Annual requirements are 0..10^12"
abbrev pub most_annual : ℕ
most_annual = 10 ^ 12

-- "Service is 1 black start or 2 reactive"
abbrev pub black_start : ℕ
black_start = 1

abbrev pub reactive : ℕ
reactive = 2

-- "The reserve credit is 0..10^10, and 0 for reactive"
abbrev pub most_reserve : ℕ
most_reserve = 10 ^ 10

abbrev pub reserve_limit : ℕ → ℕ
reserve_limit service = cond (eqb service reactive) 0 most_reserve

-- "Peak load is tenths of a MW on one day, 0..10^6"
abbrev pub most_load : ℕ
most_load = 10 ^ 6

-- "reserved and curtailed energy is tenths of a MWh in the month, 0..10^9"
abbrev pub most_energy : ℕ
most_energy = 10 ^ 9

-- "term (1 daily, 2 weekly, 3 monthly)"
abbrev pub daily_term : ℕ
daily_term = 1

abbrev pub weekly_term : ℕ
weekly_term = 2

abbrev pub monthly_term : ℕ
monthly_term = 3

-- "MISO delivery 0 or 1"
abbrev pub miso_delivery : ℕ
miso_delivery = 1

-- "first day (1 for monthly)": the last day on which a reservation of a term may begin, in a month of so many days
abbrev pub last_first_day : ℕ → ℕ → ℕ
last_first_day term days = cond (eqb term monthly_term) 1 days

-- "capacity in tenths of a MW, 0..10^6"
abbrev pub most_capacity : ℕ
most_capacity = 10 ^ 6

-- "the weekday of day 1, 1..7 from Monday"
abbrev pub last_weekday : ℕ
last_weekday = 7
