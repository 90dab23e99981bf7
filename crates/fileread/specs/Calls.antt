-- What `read` answers, and every lent word afterwards.
-- Assumes nothing.
use Rattle.std.specs.Prelude.{◌≡◌, cond, Result, Ok, Err, List, [], map, ℕ, ◌*◌, eqb, length, take, replicate}
use Rattle.lists.specs.Sums.{at}
use Rattle.answer.specs.declared.Answer.{Answer}
use Rattle.answer.specs.declared.Refused.{Refused}
use Rattle.answer.specs.Results.{refused_answer}
use Rattle.answer.specs.Turns.{accepted}
use Rattle.tables.specs.declared.Head.{Head}
use Rattle.tables.specs.declared.Table.{Table}
use Rattle.tables.specs.Shape.{number, table_count, place_of, width, limit, Tables, words_of}
use Rattle.tables.specs.Counts.{tables_in_turn, room_for}
use Rattle.text.specs.Places.{stored}
use Rattle.fileform.specs.Each.{tables_by}
use Rattle.fileform.specs.Form.{head_count, month_form}
use Rattle.fileform.specs.Reading.{Outcome, got, refused, Rows, nth, Contents, reading}
use Rattle.fileread.specs.declared.Held.{Held}
pub use Rattle.tables.specs.Heads.{head_read}

-- what `read` answers: the refusal or acceptance, the head, and each table's number of rows, by the table's place
pub record Reading : Type 0 where
  pub answer : Answer
  pub head : Head
  pub counts : List ℕ

-- "Reading wants tables lent at full size (ROOM, naming the first short table)"
abbrev pub full_size : Table → ℕ → Answer
full_size table words = room_for (number table) (limit table * width table) words

unfoldable pub read_room : Tables → Answer
read_room lent = tables_in_turn (λ table. full_size table (length (words_of lent table)))

-- ".. then takes lines in turn"
unfoldable pub read_outcome : List ℕ → Tables → Outcome Contents
read_outcome text lent = cond (eqb (read_room lent).number 0) (reading month_form text) (refused (read_room lent))

-- "each table's number of rows"
abbrev pub counts_of : List Rows → List ℕ
counts_of ts = map (λ (t : Rows). t.count) ts

-- "An accepted read answers the head and each table's number of rows .. a refused one answers zeros for both"
abbrev pub read_answer : Outcome Contents → Reading
read_answer (refused a) = record { answer = a; head = head_read (replicate head_count 0); counts = replicate table_count 0 }
read_answer (got c rest) = record { answer = accepted; head = head_read c.head; counts = counts_of c.tables }

-- the reading that a result of `read` stands for
abbrev pub held_reading : Result Held Refused → Reading
held_reading (Ok held) = record { answer = accepted; head = held.head; counts = held.counts }
held_reading (Err r) = read_answer (refused (refused_answer r))

-- the tables that an outcome holds, none where it is refused
abbrev pub tables_in : Outcome Contents → List Rows
tables_in (refused a) = []
tables_in (got c rest) = c.tables

-- ".. and writes those rows only"
abbrev pub filled : Tables → List Rows → Tables
filled lent ts = tables_by (λ table. stored (words_of lent table) 0 (nth ts (place_of table)).words)

-- the contract of `read`
pub record Reads (text : List ℕ) (lent after : Tables) (r : Reading) : Type 0 where
  pub answers : r ≡ read_answer (read_outcome text lent)
  pub stores : after ≡ filled lent (tables_in (read_outcome text lent))

-- how many rows of a table were read
abbrev pub count_in : Reading → Table → ℕ
count_in held table = at held.counts (place_of table)

-- the words of those rows, at the front of a lent table
abbrev pub words_read : Reading → Tables → Table → List ℕ
words_read held t table = take (count_in held table * width table) (words_of t table)

-- .. of every table: what was read
abbrev pub tables_read : Reading → Tables → Tables
tables_read held t = tables_by (words_read held t)
