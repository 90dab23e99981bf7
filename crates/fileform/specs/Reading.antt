-- What a text of a form holds, or the first refusal. The text is read from its front; at every place the rest of it is at hand, so
-- that a refusal's offset is what has been read: the whole length less the rest's.
-- Assumes nothing.
use Rattle.std.specs.Prelude.{ℕ, zero, suc, ◌+◌, ◌-◌, cond, List, [], ◌∷◌, ◌++◌, ltb, eqb, length, get_or}
use Rattle.lists.specs.Sums.{at}
use Rattle.answer.specs.declared.Answer.{Answer}
use Rattle.answer.specs.Numbers as answers
use Rattle.answer.specs.Turns.{refuse}
use Rattle.text.specs.Numbers.{Found, found, missing}
use Rattle.text.specs.Lines.{line}
use Rattle.fileform.specs.Form.{Kind, Form, line_of}

-- what reading gives: a value and the rest of the text, or a refusal
pub data Outcome (A : Type 0) : Type 0 where
  got : A → List ℕ → Outcome A
  refused : Answer → Outcome A

-- what is read behind a value, unless it was refused
abbrev pub onward : {A B : Type 0} → Outcome A → (A → List ℕ → Outcome B) → Outcome B
onward (got a s) go = go a s
onward (refused r) go = refused r

-- "TEXT has table 0 and, as row, the offset of the line's first byte, of the first byte after `end`, or the text's length where a
-- line is missing": the text has `size` bytes, and the rest of it is what doesn't fit
abbrev pub unfit : ℕ → List ℕ → Answer
unfit size rest = refuse answers.TEXT answers.HEAD (size - length rest)

-- the rows of a table: how many, and their entries laid end to end
pub record Rows : Type 0 where
  pub count : ℕ
  pub words : List ℕ

-- one of some tables by its place; a table that is not there is empty
abbrev pub no_rows : Rows
no_rows = record { count = 0; words = [] }

abbrev pub nth : List Rows → ℕ → Rows
nth ts k = get_or ts k no_rows

-- rows that were read, and the rest of the text
pub record RowsRead : Type 0 where
  pub count : ℕ
  pub words : List ℕ
  pub rest : List ℕ

-- what comes of a row that is there or not, with the rows behind it; s is the text that it was looked for in
abbrev pub rows_from : Found (List ℕ) → List ℕ → (List ℕ → RowsRead) → RowsRead
rows_from missing s more = record { count = 0; words = []; rest = s }
rows_from (found ns t) s more =
    let r : RowsRead = more t in
    record { count = suc r.count; words = ns ++ r.words; rest = r.rest }

-- the rows that a reader of lines finds at the front of a text, so many at most
unfoldable pub row_lines : (List ℕ → Found (List ℕ)) → ℕ → List ℕ → RowsRead
row_lines read zero s = record { count = 0; words = []; rest = s }
row_lines read (suc most) s = rows_from (read s) s (row_lines read most)

-- the lines with one number, in turn
abbrev pub head_from : ℕ → List ℕ → Found (List ℕ) → (List ℕ → Outcome (List ℕ)) → Outcome (List ℕ)
head_from size s missing more = refused (unfit size s)
head_from size s (found ns t) more = onward (more t) (λ ms u. got (ns ++ ms) u)

unfoldable pub head_lines : ℕ → List (List ℕ) → List ℕ → Outcome (List ℕ)
head_lines size [] s = got [] s
head_lines size (key ∷ keys) s = head_from size s (line key 1 s) (head_lines size keys)

-- the kinds of rows in turn, "TEXT before COUNT (row is the limit)": COUNT where a row more than the limit stands there with a line
-- that fits. A line that fits no kind whose turn is to come is left to `ending`, and is TEXT there
abbrev pub table_from : Kind → RowsRead → (List ℕ → Outcome (List Rows)) → Outcome (List Rows)
table_from kind r more =
    let go : Outcome (List Rows) = more r.rest in
    cond (ltb kind.limit r.count)
    (refused (refuse answers.COUNT kind.table kind.limit))
    (onward go (λ ts u. got (record { count = r.count; words = r.words } ∷ ts) u))

unfoldable pub table_lines : List Kind → List ℕ → Outcome (List Rows)
table_lines [] s = got [] s
table_lines (kind ∷ kinds) s = table_from kind (row_lines (line_of kind) (suc kind.limit) s) (table_lines kinds)

-- what a text holds: the numbers of its first lines, and its tables
pub record Contents : Type 0 where
  pub head : List ℕ
  pub tables : List Rows

-- "the number of rows of tables 1 to 6", and of table 10, whose lines are "counted by `end`"
unfoldable pub rows_in_all : List Rows → ℕ
rows_in_all [] = 0
rows_in_all (t ∷ ts) = t.count + rows_in_all ts

-- "Nothing follows `end`"
abbrev pub closed : ℕ → Contents → List ℕ → Outcome Contents
closed size contents [] = got contents []
closed size contents (byte ∷ s) = refused (unfit size (byte ∷ s))

-- "An `end` with another number is TEXT at its line"
abbrev pub end_from : ℕ → Contents → List ℕ → Found (List ℕ) → Outcome Contents
end_from size contents s missing = refused (unfit size s)
end_from size contents s (found ns t) =
    cond (eqb (at ns 0) (rows_in_all contents.tables)) (closed size contents t) (refused (unfit size s))

unfoldable pub ending : ℕ → List ℕ → Contents → List ℕ → Outcome Contents
ending size key contents s = end_from size contents s (line key 1 s)

-- "takes lines in turn"
unfoldable pub reading : Form → List ℕ → Outcome Contents
reading form text =
    onward (head_lines (length text) form.heads text) (λ head s.
    onward (table_lines form.kinds s) (λ ts t.
    ending (length text) form.last (record { head = head; tables = ts }) t))
