-- Why a text of a form is refused: what stands in front is right, and what comes behind it does not fit or is a row too many.
-- Assumes nothing.
use Rattle.std.specs.Prelude.{◌≡◌, ◌≢◌, List, [], ◌∷◌, ◌++◌, ℕ, suc, ◌<◌, length, get_or, take}
use Rattle.answer.specs.declared.Answer.{Answer}
use Rattle.answer.specs.Numbers.{TEXT, HEAD}
use Rattle.answer.specs.Turns.{refusal}
use Rattle.text.specs.Numbers.{bound, Below}
use Rattle.text.specs.Lines.{line_text}
use Rattle.fileform.specs.Form.{Kind, Form, line_text_of}
use Rattle.fileform.specs.Reading.{Rows, nth, Contents, rows_in_all}
use Rattle.fileform.specs.Writing.{heads_text, tables_text, file_text, ContentsFit}

-- no line with so many numbers stands there, as they are written
abbrev pub NoLine : (List ℕ → List ℕ) → ℕ → List ℕ → Type 0
NoLine write width rest = (ns more : List ℕ) → length ns ≡ width → Below ns → rest ≢ write ns ++ more

-- every line of some contents but the last
abbrev pub before_end : Form → Contents → List ℕ
before_end form c = heads_text form.heads c.head ++ tables_text form.kinds c.tables

-- no row stands there whose turn is to come: none of a kind behind which no other kind has rows
abbrev pub NoRow : List Kind → List Rows → List ℕ → Type 0
NoRow [] ts rest = Unit {0}
NoRow (kind ∷ kinds) [] rest = Unit {0}
NoRow (kind ∷ kinds) (t ∷ ts) rest = (rows_in_all ts ≡ 0 → NoLine (line_text_of kind) kind.width rest) × NoRow kinds ts rest

module _ (form : Form) (front rest : List ℕ) where
  -- "a month file line that doesn't fit": every line in front fits in its turn, and what stands behind them does not
  pub data Misfit : Type 0 where
    -- k of the first lines, with their numbers, and the next is not there
    no_head : (k : ℕ) (ns : List ℕ) → k < length form.heads → length ns ≡ k → Below ns
        → front ≡ heads_text (take k form.heads) ns → NoLine (line_text (get_or form.heads k [])) 1 rest → Misfit
    -- neither a row whose turn is to come nor the last line
    no_line : (c : Contents) → ContentsFit form c
        → front ≡ before_end form c → NoRow form.kinds c.tables rest → NoLine (line_text form.last) 1 rest → Misfit
    -- "An `end` with another number is TEXT at its line"
    other_number : (c : Contents) (n : ℕ) (more : List ℕ) → ContentsFit form c → n < bound
        → front ≡ before_end form c → rest ≡ line_text form.last (n ∷ []) ++ more → n ≢ rows_in_all c.tables → Misfit
    -- "Nothing follows `end`", but bytes do
    bytes_behind : (c : Contents) (byte : ℕ) (more : List ℕ) → ContentsFit form c
        → front ≡ file_text form c → rest ≡ byte ∷ more → Misfit

-- "TEXT has table 0 and, as row, the offset of the line's first byte, of the first byte after `end`, or the text's length where a
-- line is missing": the length of what fits
pub record AtMisfit (form : Form) (text : List ℕ) (a : Answer) : Type 0 where
  pub front : List ℕ
  pub rest : List ℕ
  pub its : a ≡ refusal TEXT HEAD (length front)
  pub stands : text ≡ front ++ rest
  pub why : Misfit form front rest

-- a form with its first kinds alone
abbrev pub first_kinds : ℕ → Form → Form
first_kinds k form = record { heads = form.heads; kinds = take k form.kinds; last = form.last }

-- the kind at place k has a row too many: the kinds up to it stand in front, that one with as many rows as it may have, and one more
-- of its lines, which fits ("TEXT before COUNT")
pub record RowTooMany (form : Form) (k : ℕ) (kind : Kind) (text : List ℕ) : Type 0 where
  pub front : Contents
  pub row : List ℕ
  pub more : List ℕ
  pub within : ContentsFit (first_kinds (suc k) form) front
  pub at_limit : (nth front.tables k).count ≡ kind.limit
  pub wide : length row ≡ kind.width
  pub below : Below row
  pub stands : text ≡ before_end (first_kinds (suc k) form) front ++ (line_text_of kind row ++ more)
