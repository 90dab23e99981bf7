-- What the parts of `read` say among themselves, in terms of the text from an offset on. A reader who wants to know what is promised of
-- `read` needs none of it.
-- Assumes nothing.
use Rattle.std.specs.Prelude.{◌≡◌, Result, Ok, Err, List, [], ℕ, ◌*◌, ◌^◌, ◌≤◌, ◌<◌, length, drop, sum}
use Rattle.lists.specs.Sums.{at}
use Rattle.answer.specs.declared.Answer.{Answer}
use Rattle.answer.specs.declared.Refused.{Refused}
use Rattle.answer.specs.Results.{refused_answer}
use Rattle.tables.specs.declared.Table.{Table}
use Rattle.tables.specs.Shape.{place_of, width, limit, Tables, words_of}
use Rattle.tables.specs.Counts.{tables_in_turn}
use Rattle.text.specs.Places.{stored}
use Rattle.fileform.specs.Form.{month_form}
use Rattle.fileform.specs.Reading.{Outcome, got, refused, Rows, nth, Contents, rows_in_all, table_lines, ending, reading}
use Rattle.fileread.specs.declared.judge.FirstWalk.{FirstWalk}
use Rattle.fileread.specs.Calls.{full_size, held_reading, read_answer, filled}

-- the looks at ROOM in turn, for tables lent with so many words, by their place
unfoldable pub rooms_in_turn : List ℕ → Answer
rooms_in_turn lengths = tables_in_turn (λ table. full_size table (at lengths (place_of table)))

-- a walk over lines that goes on at an offset: what it found is stored at the front of a lent list
pub record WentOn {A : Type 0} (s : List ℕ) (o : Outcome A) (kept : A → List ℕ) (lent : List ℕ) (next : ℕ) (after : List ℕ) : Type 0 where
  pub inside : next ≤ length s
  pub its : A
  pub read : o ≡ got its (drop next s)
  pub kept_is : after ≡ stored lent 0 (kept its)

-- .. or was refused
abbrev pub Walked : {A : Type 0} → List ℕ → Outcome A → (A → List ℕ) → List ℕ → Result ℕ Refused → List ℕ → Type 0
Walked s o kept lent (Ok next) after = WentOn s o kept lent next after
Walked s o kept lent (Err r) after = o ≡ refused (refused_answer r)

-- every line in front of the last one: what they hold, how many rows that is, which is few enough to be added up, and where the tables
-- and the last line begin
pub record LinesRead (s : List ℕ) (walk : FirstWalk) : Type 0 where
  pub contents : Contents
  pub left : reading month_form s ≡ ending (length s) month_form.last contents (drop walk.last s)
  pub answers : held_reading (Ok walk.held) ≡ read_answer (got contents [])
  pub rows_are : rows_in_all contents.tables ≡ sum walk.held.counts
  pub few : sum walk.held.counts < 2 ^ 64
  pub inside : walk.body ≤ length s
  pub tables : table_lines month_form.kinds (drop walk.body s) ≡ got contents.tables (drop walk.last s)
  pub last_inside : walk.last ≤ length s

-- .. or their first refusal
abbrev pub LinesJudged : List ℕ → Result FirstWalk Refused → Type 0
LinesJudged s (Ok walk) = LinesRead s walk
LinesJudged s (Err r) = reading month_form s ≡ refused (refused_answer r)

-- contents that were read to their end, or a refusal
abbrev pub ended_as : Contents → Result (Unit {0}) Refused → Outcome Contents
ended_as c (Ok x) = got c []
ended_as c (Err r) = refused (refused_answer r)

-- the last line and what stands behind it, for contents with so many rows
abbrev pub Ended : List ℕ → List ℕ → List ℕ → ℕ → Result (Unit {0}) Refused → Type 0
Ended key s rest rows r = (c : Contents) → rows_in_all c.tables ≡ rows → ending (length s) key c rest ≡ ended_as c r

-- what the second walk may rely on: the tables are there, as many rows of each as were counted, and each is lent at full size
pub record Ready (s : List ℕ) (body : ℕ) (counts : List ℕ) (lent : Tables) : Type 0 where
  pub ts : List Rows
  pub rest : List ℕ
  pub inside : body ≤ length s
  pub read : table_lines month_form.kinds (drop body s) ≡ got ts rest
  pub counted : (table : Table) → at counts (place_of table) ≡ (nth ts (place_of table)).count
  pub room : (table : Table) → limit table * width table ≤ length (words_of lent table)

-- the rows that stand from an offset on, stored in the lent tables
pub record FilledFrom (s : List ℕ) (body : ℕ) (lent after : Tables) : Type 0 where
  pub fills : (ts : List Rows) (rest : List ℕ) → table_lines month_form.kinds (drop body s) ≡ got ts rest → after ≡ filled lent ts
