-- The refusals' numbers and the tables' numbers, as the paper's lists have them.
-- Assumes nothing.
use Rattle.std.specs.Prelude.{ℕ}
use Rattle.answer.specs.declared.Refusal.{Refusal}
use Rattle.answer.specs.declared.Refusal.TheVariants.{Count, Room, Month, Range, Order, Link, Pair, Big, Base, Text}
use Rattle.answer.specs.declared.Part.{Part}
use Rattle.answer.specs.declared.Part.TheVariants.{Head, Zones, Owners, Units, Accounts, Loads, Reservations, Charges, Credits, Divisions, Firm}

abbrev pub COUNT : ℕ
COUNT = 1

abbrev pub ROOM : ℕ
ROOM = 2

abbrev pub MONTH : ℕ
MONTH = 3

abbrev pub RANGE : ℕ
RANGE = 4

abbrev pub ORDER : ℕ
ORDER = 5

abbrev pub LINK : ℕ
LINK = 6

abbrev pub PAIR : ℕ
PAIR = 7

abbrev pub BIG : ℕ
BIG = 8

abbrev pub BASE : ℕ
BASE = 9

abbrev pub TEXT : ℕ
TEXT = 10

abbrev pub HEAD : ℕ
HEAD = 0

abbrev pub ZONES : ℕ
ZONES = 1

abbrev pub OWNERS : ℕ
OWNERS = 2

abbrev pub UNITS : ℕ
UNITS = 3

abbrev pub ACCOUNTS : ℕ
ACCOUNTS = 4

abbrev pub LOADS : ℕ
LOADS = 5

abbrev pub RESERVATIONS : ℕ
RESERVATIONS = 6

abbrev pub CHARGES : ℕ
CHARGES = 7

abbrev pub CREDITS : ℕ
CREDITS = 8

abbrev pub DIVISIONS : ℕ
DIVISIONS = 9

abbrev pub FIRM : ℕ
FIRM = 10

-- the number of a refusal
abbrev pub refusal_number : Refusal → ℕ
refusal_number Count = COUNT
refusal_number Room = ROOM
refusal_number Month = MONTH
refusal_number Range = RANGE
refusal_number Order = ORDER
refusal_number Link = LINK
refusal_number Pair = PAIR
refusal_number Big = BIG
refusal_number Base = BASE
refusal_number Text = TEXT

-- the number of what it speaks of
abbrev pub part_number : Part → ℕ
part_number Head = HEAD
part_number Zones = ZONES
part_number Owners = OWNERS
part_number Units = UNITS
part_number Accounts = ACCOUNTS
part_number Loads = LOADS
part_number Reservations = RESERVATIONS
part_number Charges = CHARGES
part_number Credits = CREDITS
part_number Divisions = DIVISIONS
part_number Firm = FIRM
