-- The paper's list of tables 1 to 6, and table 10: each one's number, how many entries a row has, how many rows there may be, by
-- which entries they ascend.
-- Assumes nothing.
use Rattle.std.specs.Borrow.{Bor}
use Rattle.std.specs.Prelude.{ℕ, zero, suc, ◌/◌, List, [], length, map, get_or}
use Rattle.answer.specs.declared.Part.{Part}
use Rattle.answer.specs.declared.Part.TheVariants as parts
use Rattle.answer.specs.Numbers.{part_number}
use Rattle.tables.specs.declared.Shape.{Shape}
use Rattle.tables.specs.declared.Table.{Table}
use Rattle.tables.specs.declared.Table.TheVariants.{Zones, Owners, Units, Accounts, Loads, Reservations, Firm}

-- how many tables there are
abbrev pub table_count : ℕ
table_count = 7

-- tables 1 to 6 by their place, 0 to 5, and table 10 behind them; a place behind it is taken for the last
abbrev pub table_at : ℕ → Table
table_at zero = Zones
table_at (suc zero) = Owners
table_at (suc (suc zero)) = Units
table_at (suc (suc (suc zero))) = Accounts
table_at (suc (suc (suc (suc zero)))) = Loads
table_at (suc (suc (suc (suc (suc zero))))) = Reservations
table_at (suc (suc (suc (suc (suc (suc k)))))) = Firm

-- the paper's list: a table's place, what it is in a refusal ("Table numbers are used in refusals"), how many entries a row has, how many of them in
-- front are its key ("Zones, owners, units, accounts and reservations strictly ascend by their first entry, loads by account, then day",
-- table 10 "ascending by the first four"), and "at most" how many rows there are
abbrev pub shape_of : Table → Shape
shape_of Zones = record { place = 0; part = parts.Zones; width = 2; keys = 1; limit = 16 }
shape_of Owners = record { place = 1; part = parts.Owners; width = 3; keys = 1; limit = 64 }
shape_of Units = record { place = 2; part = parts.Units; width = 6; keys = 1; limit = 64 }
shape_of Accounts = record { place = 3; part = parts.Accounts; width = 3; keys = 1; limit = 32 }
shape_of Loads = record { place = 4; part = parts.Loads; width = 3; keys = 2; limit = 992 }
shape_of Reservations = record { place = 5; part = parts.Reservations; width = 3; keys = 1; limit = 32 }
shape_of Firm = record { place = 6; part = parts.Firm; width = 5; keys = 4; limit = 992 }

abbrev pub place_of : Table → ℕ
place_of table = (shape_of table).place

abbrev pub part : Table → Part
part table = (shape_of table).part

abbrev pub number : Table → ℕ
number table = part_number (part table)

abbrev pub width : Table → ℕ
width table = (shape_of table).width

abbrev pub key_columns : Table → ℕ
key_columns table = (shape_of table).keys

abbrev pub limit : Table → ℕ
limit table = (shape_of table).limit

-- "every account row's three charges", "every owner's four credits", and then "charge and credit rows and lines get a last figure"
abbrev pub charge_width : ℕ
charge_width = 4

abbrev pub credit_width : ℕ
credit_width = 5

-- "rows laid end to end": how many whole ones there are
abbrev pub rows : Table → List ℕ → ℕ
rows table words = length words / width table

-- what the tables hold, row by row; "every other table may be empty"
pub record Tables : Type 0 where
  pub zones : List ℕ
  pub owners : List ℕ
  pub units : List ℕ
  pub accounts : List ℕ
  pub loads : List ℕ
  pub reservations : List ℕ
  pub firm : List ℕ

-- the record of their lists
abbrev pub tables_of : List ℕ → List ℕ → List ℕ → List ℕ → List ℕ → List ℕ → List ℕ → Tables
tables_of z o u a l r f = record { zones = z; owners = o; units = u; accounts = a; loads = l; reservations = r; firm = f }

-- .. of a list of them, in their order
abbrev pub tables_from : List (List ℕ) → Tables
tables_from l = tables_of (get_or l 0 []) (get_or l 1 []) (get_or l 2 []) (get_or l 3 []) (get_or l 4 []) (get_or l 5 []) (get_or l 6 [])

-- .. of slices, as they are now
abbrev pub tables_now : List (Bor (List ℕ)) → Tables
tables_now slices = tables_from (map (λ x. x.now) slices)

-- the words of one of them
abbrev pub words_of : Tables → Table → List ℕ
words_of t Zones = t.zones
words_of t Owners = t.owners
words_of t Units = t.units
words_of t Accounts = t.accounts
words_of t Loads = t.loads
words_of t Reservations = t.reservations
words_of t Firm = t.firm
