-- What the functions over one of the first lines, over the rows of one kind and over those of one table answer and leave.
-- Assumes nothing.
use Rattle.std.specs.Prelude.{◌≡◌, List, [], ◌∷◌, ℕ, Option, None, Some, ◌/◌, ◌≤◌, length, drop}
use Rattle.tables.specs.declared.Table.{Table}
use Rattle.tables.specs.Shape.{width}
use Rattle.text.specs.declared.number.Number.{Number}
use Rattle.text.specs.Numbers.{Found, found, missing}
use Rattle.text.specs.Places.{stored}
use Rattle.fileform.specs.declared.row.Counted.{Counted}
use Rattle.fileform.specs.Form.{kind_of, line_text_of}
use Rattle.fileform.specs.Reading.{RowsRead}
use Rattle.fileform.specs.Writing.{rows_text}

-- the number of a line with one field, with the offset behind the line, or none
abbrev pub OneTaken : List ℕ → Found (List ℕ) → Option Number → Type 0
OneTaken s o None = o ≡ missing
OneTaken s o (Some n) = (n.next ≤ length s) × (o ≡ found (n.value ∷ []) (drop n.next s))

-- rows that were counted in the text s, and the offset behind them
pub record CountedAt (s : List ℕ) (r : RowsRead) (c : Counted) : Type 0 where
  pub inside : c.next ≤ length s
  pub count_is : r.count ≡ c.count
  pub behind : r.rest ≡ drop c.next s

-- rows that were stored at the front of a lent table, and the offset behind them
pub record RowsTaken (s : List ℕ) (r : RowsRead) (lent : List ℕ) (next : ℕ) (after : List ℕ) : Type 0 where
  pub inside : next ≤ length s
  pub behind : r.rest ≡ drop next s
  pub written : after ≡ stored lent 0 r.words

-- the text of a table's whole rows
abbrev pub table_text : Table → List ℕ → List ℕ
table_text table words = rows_text (line_text_of (kind_of table)) (width table) (length words / width table) words
