-- "A reader steps from one line to the next inside the lent bytes."
-- Assumes nothing.
use Rattle.std.specs.Prelude.{◌≡◌, cond, List, ℕ, Option, None, Some, eqb, drop}
use Rattle.text.specs.declared.reader.Reader.{Reader}
use Rattle.text.specs.declared.reader.Ends.{Ends}
use Rattle.text.specs.Lines.{line}
use Rattle.text.specs.Places.{EndAt, FieldsTaken}

-- a reader before and after a step over a line: it holds the same text, and stands behind the line, or where it stood
pub record Stepped (before : Reader) (key : List ℕ) (width : ℕ) (after : Reader) : Type 0 where
  pub same : after.text ≡ before.text
  pub end_is : EndAt before.text.now before.at (line key width (drop before.at before.text.now)) after.at

-- a reader before and after a step over a line that it takes: the same text, behind the line, and the line's fields at their place
pub record TookOne (before : Reader) (key : List ℕ) (width : ℕ) (lent : List ℕ) (place : ℕ) (after : Reader) (words : List ℕ) : Type 0 where
  pub same : after.text ≡ before.text
  pub taken : FieldsTaken before.text.now (line key width (drop before.at before.text.now)) lent place after.at words

-- where one reader stood after each of two steps: the second line is looked for where the first one ended
pub record EndsAt (s : List ℕ) (at : ℕ) (one two : List ℕ) (width : ℕ) (ends : Ends) : Type 0 where
  pub first_is : EndAt s at (line one width (drop at s)) ends.first
  pub second_is : EndAt s ends.first (line two width (drop ends.first s)) ends.second

-- the offset that a step reached, none where it left the reader where it stood
abbrev pub reached_of : ℕ → ℕ → Option ℕ
reached_of before after = cond (eqb after before) None (Some after)
