-- `fileread::fill::fill` meets its contract: each table's rows stand where those of the one before end.
-- Assumes nothing.
use mathlib.Core.Path.{◌≡◌}
use mathlib.Core.List.{List}
use Prim.Native.Nat.{ℕ, ◌*◌, ◌≤◌}
use lib.ListN.{length, get_or, drop}
use Rattle.tables.specs.declared.Table.{Table}
use Rattle.tables.specs.declared.Table.TheVariants.{Zones, Owners, Units, Accounts, Loads, Reservations, Firm}
use Rattle.tables.specs.Shape.{place_of, width, Tables, tables_of, words_of}
use Rattle.text.specs.Places.{stored}
use Rattle.fileform.specs.Form.{kind_of, line_of}
use Rattle.fileform.specs.Reading.{nth, row_lines}
use Rattle.fileform.specs.Calls.{RowsTaken}
use Rattle.fileread.specs.Steps.{Ready, FilledFrom}
use Rattle.fileread.proofs.Filling.{Standing, Took, table_there, table_took, all_taken}
use Rattle.fileread.proofs.fill.fill.Goals as goal

-- how many rows of a table there are to take
abbrev count : List ℕ → Table → ℕ
count counts table = get_or counts (place_of table) 0

-- what holds of each table holds of every one
each : (P : Table → Type 0) → P Zones → P Owners → P Units → P Accounts → P Loads → P Reservations → P Firm → (table : Table) → P table
each P a b c d e f g Zones = a
each P a b c d e f g Owners = b
each P a b c d e f g Units = c
each P a b c d e f g Accounts = d
each P a b c d e f g Loads = e
each P a b c d e f g Reservations = f
each P a b c d e f g Firm = g

module _ {s : List ℕ} {body : ℕ} {counts : List ℕ} {lent : Tables} (r : Ready s body counts lent) where
  -- from a table on, the tables stand where the call before ended
  abbrev Stand : ℕ → ℕ → Type 0
  Stand place i = Standing s r.ts r.rest place i

  first_stands : Stand 0 body
  first_stands = record { inside = r.inside; read = r.read }

  -- what a call ensures of its table, whose rows begin at an offset
  abbrev Called : Table → ℕ → ℕ → List ℕ → Type 0
  Called table i next after =
      RowsTaken s (row_lines (line_of (kind_of table)) (count counts table) (drop i s)) (words_of lent table) next after

  -- what a call leaves of its table, and where the next one's rows begin
  abbrev Takes : Table → ℕ → List ℕ → Type 0
  Takes table next after = Took table s r.ts r.rest (words_of lent table) next after

  module _ (table : Table) {i : ℕ} (stands : Stand (place_of table) i) where
    there : (i ≤ length s) × ((row_lines (line_of (kind_of table)) (count counts table) (drop i s)).count ≡ count counts table)
        × (count counts table * width table ≤ length (words_of lent table))
    there = table_there table stands (count counts table) (r.counted table) (words_of lent table) (r.room table)

    takes : {next : ℕ} {after : List ℕ} → Called table i next after → Takes table next after
    takes called = table_took table stands (count counts table) (r.counted table) (words_of lent table) _ _ called

  -- the calls in turn, each from where the one before ended
  module _ {n1 : ℕ} {after1 : List ℕ} (called1 : Called Zones body n1 after1) where
    took1 : Takes Zones n1 after1
    took1 = takes Zones first_stands called1

    module _ {n2 : ℕ} {after2 : List ℕ} (called2 : Called Owners n1 n2 after2) where
      took2 : Takes Owners n2 after2
      took2 = takes Owners took1.stands called2

      module _ {n3 : ℕ} {after3 : List ℕ} (called3 : Called Units n2 n3 after3) where
        took3 : Takes Units n3 after3
        took3 = takes Units took2.stands called3

        module _ {n4 : ℕ} {after4 : List ℕ} (called4 : Called Accounts n3 n4 after4) where
          took4 : Takes Accounts n4 after4
          took4 = takes Accounts took3.stands called4

          module _ {n5 : ℕ} {after5 : List ℕ} (called5 : Called Loads n4 n5 after5) where
            took5 : Takes Loads n5 after5
            took5 = takes Loads took4.stands called5

            module _ {n6 : ℕ} {after6 : List ℕ} (called6 : Called Reservations n5 n6 after6) where
              took6 : Takes Reservations n6 after6
              took6 = takes Reservations took5.stands called6

              module _ {n7 : ℕ} {after7 : List ℕ} (called7 : Called Firm n6 n7 after7) where
                took7 : Takes Firm n7 after7
                took7 = takes Firm took6.stands called7

                -- every table, as its call leaves it
                abbrev left : Tables
                left = tables_of after1 after2 after3 after4 after5 after6 after7

                all_left : FilledFrom s body lent left
                all_left =
                    all_taken s body lent left r.ts r.rest first_stands
                    (each (λ table. words_of left table ≡ stored (words_of lent table) 0 (nth r.ts (place_of table)).words)
                    took1.taken took2.taken took3.taken took4.taken took5.taken took6.taken took7.taken)

pub take_table-first-requires : goal.take_table-first-requires
take_table-first-requires c = there c.requires Zones (first_stands c.requires)

pub take_table-second-requires : goal.take_table-second-requires
take_table-second-requires c = there c.requires Owners (took1 c.requires c.take_table-first.ensures).stands

pub take_table-third-requires : goal.take_table-third-requires
take_table-third-requires c =
    there c.requires Units
    (took2 c.requires c.take_table-first.ensures c.take_table-second.ensures).stands

pub take_table-fourth-requires : goal.take_table-fourth-requires
take_table-fourth-requires c =
    there c.requires Accounts
    (took3 c.requires c.take_table-first.ensures c.take_table-second.ensures c.take_table-third.ensures).stands

pub take_table-fifth-requires : goal.take_table-fifth-requires
take_table-fifth-requires c =
    there c.requires Loads
    (took4 c.requires c.take_table-first.ensures c.take_table-second.ensures c.take_table-third.ensures
    c.take_table-fourth.ensures).stands

pub take_table-sixth-requires : goal.take_table-sixth-requires
take_table-sixth-requires c =
    there c.requires Reservations
    (took5 c.requires c.take_table-first.ensures c.take_table-second.ensures c.take_table-third.ensures
    c.take_table-fourth.ensures c.take_table-fifth.ensures).stands

pub take_table-requires : goal.take_table-requires
take_table-requires c =
    there c.requires Firm
    (took6 c.requires c.take_table-first.ensures c.take_table-second.ensures c.take_table-third.ensures
    c.take_table-fourth.ensures c.take_table-fifth.ensures c.take_table-sixth.ensures).stands

pub returns : goal.returns
returns c =
    all_left c.requires c.take_table-first.ensures c.take_table-second.ensures c.take_table-third.ensures
    c.take_table-fourth.ensures c.take_table-fifth.ensures c.take_table-sixth.ensures c.take_table.ensures
