-- From what `read` leaves in lent tables to the month that a text holds.
-- Assumes nothing.
use mathlib.Core.Path.{◌≡◌, sym, ap, ap₂, ◌∙◌}
use mathlib.Core.Logic.{◌≢◌}
use mathlib.Core.List.{List}
use Prim.Native.Nat.{ℕ, ◌*◌, ◌≤◌}
use native.Mathlib.Nat.{le_of_eq}
use lib.ListN.{length, replicate, length-replicate}
use Rattle.tables.specs.declared.Table.{Table}
use Rattle.tables.specs.Shape.{place_of, width, limit, Tables, words_of}
use Rattle.fileform.specs.Each.{tables_by}
use Rattle.fileform.specs.Form.{month_form}
use Rattle.fileform.specs.Reading.{Outcome, got, refused, nth, Contents, reading}
use Rattle.fileform.proofs.Each.{words_by, same_tables}
use Rattle.fileform.proofs.Contents.{written_then_read}
use Rattle.fileread.specs.Calls.{Reading, read_answer, Reads, count_in, words_read, tables_read}
use Rattle.monthfile.specs.Refused.{Full}
use Rattle.monthfile.proofs.ReadCalls.{outcome_full}
use Rattle.monthfile.proofs.RoundTrips.{TextRead, text_read}
use Rattle.pool.specs.Input.{month_of}
use Rattle.statement_lines.specs.Lines.{refuse_line}
use Rattle.statement_text.specs.Statement.{month_held, settled_text, found_text}

-- working memory of full size, all zeros
abbrev pub lent : Tables
lent = tables_by (λ table. replicate (limit table * width table) 0)

pub lent_full : (table : Table) → Full lent table
lent_full table =
    le_of_eq (sym (ap length (words_by (λ table. replicate (limit table * width table) 0) table) ∙ length-replicate {A = ℕ} (limit table * width table) 0))

module _ (text : List ℕ) (lent : Tables) (full : (table : Table) → Full lent table)
    (held : Reading) (after : Tables) (r : Reads text lent after held) where
  -- a text that is refused
  pub text_refused : held.answer.number ≢ 0 → refuse_line held.answer ≡ found_text (reading month_form text)
  text_refused d = by (reading month_form text) (r.answers ∙ ap read_answer (outcome_full text lent full))
    where
      by : (o : Outcome Contents) → held ≡ read_answer o → refuse_line held.answer ≡ found_text o
      by (refused a) q = ap (λ (h : Reading). refuse_line h.answer) q
      by (got c rest) q = absurd (d (ap (λ (h : Reading). h.answer.number) q))

  module _ (z : held.answer.number ≡ 0) where
    read : TextRead text held after
    read = text_read text lent after held r z

    -- the rows that were read are there ..
    pub rows_there : (table : Table) → count_in held table * width table ≤ length (words_of after table)
    rows_there table = (read.table_read table).there

    -- .. and are the month that the text holds
    same_words : (table : Table) → words_of (tables_read held after) table ≡ words_of (month_held read.contents).tables table
    same_words table =
        words_by (words_read held after) table
        ∙ (read.table_read table).front_is
        ∙ sym (words_by (λ table. (nth read.contents.tables (place_of table)).words) table)

    same_month : month_of held.head (tables_read held after) ≡ month_held read.contents
    same_month = ap₂ month_of (ap (λ (h : Reading). h.head) read.answers) (same_tables (tables_read held after) (month_held read.contents).tables same_words)

    pub text_month : settled_text (month_of held.head (tables_read held after)) ≡ found_text (reading month_form text)
    text_month =
        ap settled_text same_month
        ∙ sym (ap (λ l. found_text (reading month_form l)) read.written ∙ ap found_text (written_then_read read.contents read.within))
