-- What is looked at before any row: whether a table is whole rows and no more than it may have, and whether an output is long enough.
-- Assumes nothing.
use Rattle.std.specs.Prelude.{◌≡◌, not, ◌||◌, ℕ, ◌/◌, ◌%◌, ◌≤◌, eqb, ltb, length}
use Rattle.answer.specs.declared.Answer.{Answer}
use Rattle.answer.specs.Numbers.{COUNT, ROOM}
use Rattle.answer.specs.Turns.{look, refuse, turns}
use Rattle.tables.specs.declared.Table.{Table}
use Rattle.tables.specs.Shape.{table_count, table_at, number, width, limit, rows, Tables, words_of}

-- "tables 1 to 6", and table 10 "after table 6", in turn
unfoldable pub tables_in_turn : (Table → Answer) → Answer
tables_in_turn f = turns (λ k. f (table_at k)) table_count

-- "COUNT .. a table isn't whole rows; a table .. is over its limit"
unfoldable pub counted : Table → ℕ → Answer
counted table words =
    refuse
    (look (not (eqb (words % width table) 0) || ltb (limit table) (words / width table)) COUNT 0)
    (number table)
    0

-- .. of every table in turn
unfoldable pub counts_in_turn : Tables → Answer
counts_in_turn t = tables_in_turn (λ table. counted table (length (words_of t table)))

-- "ROOM .. a lent output is too short"
unfoldable pub room_for : ℕ → ℕ → ℕ → Answer
room_for output needed lent = refuse (look (ltb lent needed) ROOM 0) output 0

-- a table is whole rows, and no more than it may have
pub record GoodCount (t : Tables) (table : Table) : Type 0 where
  pub whole : length (words_of t table) % width table ≡ 0
  pub few : rows table (words_of t table) ≤ limit table
