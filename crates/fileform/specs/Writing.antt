-- The text of what a month's file holds, and which contents have one.
-- Assumes nothing.
use Rattle.std.specs.Prelude.{ℕ, zero, suc, ◌*◌, ◌≤◌, ◌≡◌, List, [], ◌∷◌, ◌++◌, length, take, drop}
use Rattle.lists.specs.Sums.{at}
use Rattle.text.specs.Numbers.{Below}
use Rattle.text.specs.Lines.{line_text}
use Rattle.fileform.specs.Form.{Kind, Form, line_text_of}
use Rattle.fileform.specs.Reading.{Rows, Contents, rows_in_all}

-- so many rows of a width, a line each by what writes a line: "Fields .. in table order"
unfoldable pub rows_text : (List ℕ → List ℕ) → ℕ → ℕ → List ℕ → List ℕ
rows_text write width zero words = []
rows_text write width (suc n) words = write (take width words) ++ rows_text write width n (drop width words)

-- the first lines, a number each
unfoldable pub heads_text : List (List ℕ) → List ℕ → List ℕ
heads_text [] ns = []
heads_text (key ∷ keys) ns = line_text key (at ns 0 ∷ []) ++ heads_text keys (drop 1 ns)

-- "all `zone`, `owner`, .. lines"
unfoldable pub tables_text : List Kind → List Rows → List ℕ
tables_text [] ts = []
tables_text (kind ∷ kinds) [] = []
tables_text (kind ∷ kinds) (t ∷ ts) = rows_text (line_text_of kind) kind.width t.count t.words ++ tables_text kinds ts

-- ".. then `end` with the number of rows"
unfoldable pub file_text : Form → Contents → List ℕ
file_text form c =
    heads_text form.heads c.head ++ (tables_text form.kinds c.tables ++ line_text form.last (rows_in_all c.tables ∷ []))

-- a table within the limits: whole rows, not more than its kind may have, of numbers below 2^64
pub record Fits (kind : Kind) (t : Rows) : Type 0 where
  pub whole : length t.words ≡ t.count * kind.width
  pub few : t.count ≤ kind.limit
  pub below : Below t.words

-- as many tables as kinds, each within its limits
abbrev pub AllFit : List Kind → List Rows → Type 0
AllFit [] [] = Unit {0}
AllFit [] (t ∷ ts) = ⊥
AllFit (kind ∷ kinds) [] = ⊥
AllFit (kind ∷ kinds) (t ∷ ts) = Fits kind t × AllFit kinds ts

-- contents within the limits of a form
pub record ContentsFit (form : Form) (c : Contents) : Type 0 where
  pub one_each : length c.head ≡ length form.heads
  pub small : Below c.head
  pub fit : AllFit form.kinds c.tables
