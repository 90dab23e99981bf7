-- What `write` answers, and every lent byte afterwards.
-- Assumes nothing.
use Rattle.std.specs.Prelude.{◌≡◌, cond, Result, Ok, Err, List, [], ℕ, ◌/◌, eqb, length}
use Rattle.answer.specs.declared.Answer.{Answer}
use Rattle.answer.specs.declared.Refused.{Refused}
use Rattle.answer.specs.Numbers as answers
use Rattle.answer.specs.Turns.{accepted, ◌then◌}
use Rattle.answer.specs.Results.{refused_answer}
use Rattle.tables.specs.declared.Head.{Head}
use Rattle.tables.specs.declared.Table.{Table}
use Rattle.tables.specs.Shape.{width, Tables, words_of}
use Rattle.tables.specs.Counts.{counts_in_turn, room_for}
use Rattle.text.specs.Places.{stored}
use Rattle.fileform.specs.Each.{in_order}
use Rattle.fileform.specs.Form.{month_form}
use Rattle.fileform.specs.Reading.{Rows, Contents}
use Rattle.fileform.specs.Writing.{file_text}
pub use Rattle.tables.specs.Heads.{numbers_of}

-- what `write` answers: the refusal or acceptance, and the text's length
pub record Written : Type 0 where
  pub answer : Answer
  pub length : ℕ

-- what a result of `write` stands for: a refusal has length 0
abbrev pub written_of : Result ℕ Refused → Written
written_of (Ok size) = record { answer = accepted; length = size }
written_of (Err r) = record { answer = refused_answer r; length = 0 }

-- a table's whole rows
abbrev pub whole_rows : Tables → Table → Rows
whole_rows t table = record { count = length (words_of t table) / width table; words = words_of t table }

-- .. of every table
abbrev pub all_rows : Tables → List Rows
all_rows t = in_order (whole_rows t)

-- what is written: a head and the tables
abbrev pub contents_of : Head → Tables → Contents
contents_of head t = record { head = numbers_of head; tables = all_rows t }

-- .. and its text
abbrev pub month_text : Head → Tables → List ℕ
month_text head t = file_text month_form (contents_of head t)

module _ (head : Head) (t : Tables) where
  -- "Writing refuses with COUNT (the first bad table), then ROOM (table 0)"
  unfoldable pub write_answer : ℕ → Answer
  write_answer room = counts_in_turn t then room_for answers.HEAD (length (month_text head t)) room

  -- what is written, of which it "answers the length, 0 where refused": the text where it is accepted, else nothing
  unfoldable pub text_written : ℕ → List ℕ
  text_written room = cond (eqb (write_answer room).number 0) (month_text head t) []

  -- the contract of `write`: the month is written to the front of the lent bytes, or nothing is
  pub record Writes (lent after : List ℕ) (r : Written) : Type 0 where
    pub answers : r.answer ≡ write_answer (length lent)
    pub length_is : r.length ≡ length (text_written (length lent))
    pub stores : after ≡ stored lent 0 (text_written (length lent))
