-- The input of a month, and how many rows its tables have.
-- Assumes nothing.
use Rattle.std.specs.Prelude.{ℕ}
use Rattle.tables.specs.declared.Head.{Head}
use Rattle.tables.specs.declared.Table.TheVariants.{Zones, Owners, Units, Accounts, Loads, Reservations, Firm}
use Rattle.tables.specs.Shape.{rows, Tables}

-- "month 1..12, days, non-zone rate"; of firm service "a rate for each term" and "the weekday of day 1"; and the tables
pub record Input : Type 0 where
  pub month : ℕ
  pub days : ℕ
  pub nonzone : ℕ
  pub daily : ℕ
  pub weekly : ℕ
  pub monthly : ℕ
  pub weekday : ℕ
  pub tables : Tables

-- the month of a head and its tables: the one place where an input is made of them
abbrev pub month_of : Head → Tables → Input
month_of head t =
    record {
      month = head.month;
      days = head.days;
      nonzone = head.nonzone;
      daily = head.daily;
      weekly = head.weekly;
      monthly = head.monthly;
      weekday = head.weekday;
      tables = t;
    }

-- .. and the way back to its head
abbrev pub head_of : Input → Head
head_of m =
    record {
      month = m.month;
      days = m.days;
      nonzone = m.nonzone;
      daily = m.daily;
      weekly = m.weekly;
      monthly = m.monthly;
      weekday = m.weekday;
    }

-- a head with the numbers that the network and the services come from, and no rate for firm service, from a Monday on
abbrev pub plain_head : ℕ → ℕ → ℕ → Head
plain_head month days nonzone =
    record { month = month; days = days; nonzone = nonzone; daily = 0; weekly = 0; monthly = 0; weekday = 1 }

-- "rows laid end to end": how many of each
abbrev pub zone_count : Input → ℕ
zone_count m = rows Zones m.tables.zones

abbrev pub owner_count : Input → ℕ
owner_count m = rows Owners m.tables.owners

abbrev pub unit_count : Input → ℕ
unit_count m = rows Units m.tables.units

abbrev pub account_count : Input → ℕ
account_count m = rows Accounts m.tables.accounts

abbrev pub load_count : Input → ℕ
load_count m = rows Loads m.tables.loads

abbrev pub reservation_count : Input → ℕ
reservation_count m = rows Reservations m.tables.reservations

abbrev pub firm_count : Input → ℕ
firm_count m = rows Firm m.tables.firm
