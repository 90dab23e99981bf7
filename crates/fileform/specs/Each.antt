-- One rule for every table, in the order of their numbers.
-- Assumes nothing.
use Rattle.std.specs.Prelude.{List, [], ◌∷◌, ℕ}
use Rattle.tables.specs.declared.Table.{Table}
use Rattle.tables.specs.declared.Table.TheVariants.{Zones, Owners, Units, Accounts, Loads, Reservations, Firm}
use Rattle.tables.specs.Shape.{Tables, tables_of}

-- what a rule gives for each table, one after the other: the one at a table's place is that table's
abbrev pub in_order : {A : Type 0} → (Table → A) → List A
in_order f = f Zones ∷ f Owners ∷ f Units ∷ f Accounts ∷ f Loads ∷ f Reservations ∷ f Firm ∷ []

-- the tables whose words a rule gives
abbrev pub tables_by : (Table → List ℕ) → Tables
tables_by f = tables_of (f Zones) (f Owners) (f Units) (f Accounts) (f Loads) (f Reservations) (f Firm)
