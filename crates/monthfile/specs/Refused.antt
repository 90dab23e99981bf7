-- Why `read` and `write` refuse, and that all that is looked at earlier is right.
-- Assumes nothing.
use Rattle.std.specs.Prelude.{◌≡◌, List, ℕ, ◌*◌, ◌≤◌, ◌<◌, length}
use Rattle.answer.specs.declared.Answer.{Answer}
use Rattle.answer.specs.Numbers as answers
use Rattle.answer.specs.Turns.{refusal}
use Rattle.tables.specs.declared.Head.{Head}
use Rattle.tables.specs.declared.Table.{Table}
use Rattle.tables.specs.Shape.{number, place_of, width, limit, Tables, words_of}
use Rattle.tables.specs.Counts.{GoodCount}
use Rattle.fileform.specs.Form.{kind_of, month_form}
use Rattle.fileform.specs.Refused.{AtMisfit, RowTooMany}
use Rattle.filewrite.specs.Calls.{month_text}

-- "tables lent at full size"
abbrev pub Full : Tables → Table → Type 0
Full lent table = limit table * width table ≤ length (words_of lent table)

module _ (text : List ℕ) (lent : Tables) (a : Answer) where
  -- "tables lent at full size (ROOM, naming the first short table), then takes lines in turn, TEXT before COUNT (row is the limit)"
  pub data ReadRefused : Type 0 where
    by_room : (table : Table) → a ≡ refusal answers.ROOM (number table) 0 → ((earlier : Table) → place_of earlier < place_of table → Full lent earlier)
        → ¬ Full lent table → ReadRefused
    by_text : AtMisfit month_form text a → ((table : Table) → Full lent table) → ReadRefused
    by_count : (table : Table) → a ≡ refusal answers.COUNT (number table) (limit table) → RowTooMany month_form (place_of table) (kind_of table) text
        → ((every : Table) → Full lent every) → ReadRefused

module _ (head : Head) (t : Tables) (room : ℕ) (a : Answer) where
  -- "Writing refuses with COUNT (the first bad table), then ROOM (table 0)"
  pub data WriteRefused : Type 0 where
    by_bad_table : (table : Table) → a ≡ refusal answers.COUNT (number table) 0 → ((earlier : Table) → place_of earlier < place_of table → GoodCount t earlier)
        → ¬ GoodCount t table → WriteRefused
    by_short_room : a ≡ refusal answers.ROOM answers.HEAD 0 → ((table : Table) → GoodCount t table) → room < length (month_text head t) → WriteRefused
