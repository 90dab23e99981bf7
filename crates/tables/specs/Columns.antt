-- The entries of each table's rows by name, in the order in which the paper lists them.
-- Assumes nothing.
use Rattle.std.specs.Prelude.{ℕ, ◌+◌, ◌*◌, List}
use Rattle.lists.specs.Sums.{at}
use Rattle.tables.specs.declared.Table.{Table}
use Rattle.tables.specs.declared.Table.TheVariants.{Zones, Owners, Units, Accounts, Loads, Reservations, Firm}
use Rattle.tables.specs.Shape.{width}

-- the entry of row i in a column
abbrev pub entry : Table → ℕ → List ℕ → ℕ → ℕ
entry table column words i = at words (i * width table + column)

-- table 1: a zone, its rate
abbrev pub zone_number : List ℕ → ℕ → ℕ
zone_number zones i = entry Zones 0 zones i

abbrev pub zone_rate : List ℕ → ℕ → ℕ
zone_rate zones i = entry Zones 1 zones i

-- table 2: an owner, its zone, its annual transmission requirement
abbrev pub owner_number : List ℕ → ℕ → ℕ
owner_number owners i = entry Owners 0 owners i

abbrev pub owner_zone : List ℕ → ℕ → ℕ
owner_zone owners i = entry Owners 1 owners i

abbrev pub owner_requirement : List ℕ → ℕ → ℕ
owner_requirement owners i = entry Owners 2 owners i

-- table 3: a unit, its owner, its zone, its service, its annual requirement, its reserve credit
abbrev pub unit_number : List ℕ → ℕ → ℕ
unit_number units i = entry Units 0 units i

abbrev pub unit_owner : List ℕ → ℕ → ℕ
unit_owner units i = entry Units 1 units i

abbrev pub unit_zone : List ℕ → ℕ → ℕ
unit_zone units i = entry Units 2 units i

abbrev pub unit_service : List ℕ → ℕ → ℕ
unit_service units i = entry Units 3 units i

abbrev pub unit_requirement : List ℕ → ℕ → ℕ
unit_requirement units i = entry Units 4 units i

abbrev pub unit_reserve : List ℕ → ℕ → ℕ
unit_reserve units i = entry Units 5 units i

-- table 4: an account, its customer, its zone
abbrev pub account_number : List ℕ → ℕ → ℕ
account_number accounts i = entry Accounts 0 accounts i

abbrev pub account_customer : List ℕ → ℕ → ℕ
account_customer accounts i = entry Accounts 1 accounts i

abbrev pub account_zone : List ℕ → ℕ → ℕ
account_zone accounts i = entry Accounts 2 accounts i

-- table 5: an account, a day, its peak load contribution
abbrev pub load_account : List ℕ → ℕ → ℕ
load_account loads i = entry Loads 0 loads i

abbrev pub load_day : List ℕ → ℕ → ℕ
load_day loads i = entry Loads 1 loads i

abbrev pub load_contribution : List ℕ → ℕ → ℕ
load_contribution loads i = entry Loads 2 loads i

-- table 6: an account, its energy reserved and curtailed
abbrev pub reservation_account : List ℕ → ℕ → ℕ
reservation_account reservations i = entry Reservations 0 reservations i

abbrev pub reservation_reserved : List ℕ → ℕ → ℕ
reservation_reserved reservations i = entry Reservations 1 reservations i

abbrev pub reservation_curtailed : List ℕ → ℕ → ℕ
reservation_curtailed reservations i = entry Reservations 2 reservations i

-- table 10: an account, a term, MISO delivery, a first day, a capacity
abbrev pub firm_account : List ℕ → ℕ → ℕ
firm_account firm i = entry Firm 0 firm i

abbrev pub firm_term : List ℕ → ℕ → ℕ
firm_term firm i = entry Firm 1 firm i

abbrev pub firm_miso : List ℕ → ℕ → ℕ
firm_miso firm i = entry Firm 2 firm i

abbrev pub firm_day : List ℕ → ℕ → ℕ
firm_day firm i = entry Firm 3 firm i

abbrev pub firm_capacity : List ℕ → ℕ → ℕ
firm_capacity firm i = entry Firm 4 firm i
