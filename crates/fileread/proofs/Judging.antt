-- The first lines and the tables judged, one after the other: what they hold, or their first refusal.
-- Assumes nothing.
use mathlib.Core.Path.{◌≡◌, sym, ap, ap₂, ◌∙◌}
use mathlib.Core.List.{List}
use Prim.Native.Nat.{ℕ, ◌^◌, ◌<◌}
use native.Mathlib.Nat.{lt_of_le_of_lt}
use lib.Dec.{lit<}
use lib.ListN.{length, drop}
use Rattle.std.specs.List.{sum}
use Rattle.answer.specs.declared.Refused.{Refused}
use Rattle.answer.specs.Turns.{accepted}
use Rattle.answer.specs.Results.{refused_answer}
use Rattle.tables.specs.declared.Head.{Head}
use Rattle.tables.specs.Shape.{table_count}
use Rattle.fileform.specs.Form.{head_count, month_form}
use Rattle.fileform.specs.Reading.{refused, Rows, head_lines, table_lines, rows_in_all, reading}
use Rattle.fileform.specs.Writing.{AllFit}
use Rattle.fileread.specs.Calls.{Reading, head_read, counts_of}
use Rattle.fileread.specs.Steps.{WentOn, LinesRead}
use Rattle.fileform.proofs.Forms.{all_fit_length, heads_back, HeadsBack, tables_back, TablesBack, rows_in_most, most_rows}
use Rattle.fileread.proofs.LineWalks.{itself, counts_length, sum_counts, stored_all, reading_heads, reading_tables, reading_on}

month_rows : (ts : List Rows) → AllFit month_form.kinds ts → rows_in_all ts < 2 ^ 64
unfolding most_rows
month_rows ts f = lt_of_le_of_lt (rows_in_most month_form.kinds ts f) (lit< tt)

pub judged_heads : (s : List ℕ) (r : Refused) → head_lines (length s) month_form.heads s ≡ refused (refused_answer r) → reading month_form s ≡ refused (refused_answer r)
judged_heads s r e = reading_heads month_form s (refused_answer r) e

module _ {s : List ℕ} where
  module _ {lent head : List ℕ} {body : ℕ} (first : WentOn s (head_lines (length s) month_form.heads s) itself lent body head) where
    pub judged_tables : (r : Refused) → table_lines month_form.kinds (drop body s) ≡ refused (refused_answer r)
        → reading month_form s ≡ refused (refused_answer r)
    judged_tables r e = reading_tables month_form s first.its (drop body s) (refused_answer r) first.read e

    module _ {lent' counts : List ℕ} {last : ℕ} (second : WentOn s (table_lines month_form.kinds (drop body s)) counts_of lent' last counts)
        (room : length lent' ≡ table_count) where
      back : TablesBack month_form.kinds (drop body s) second.its (drop last s)
      back = tables_back month_form.kinds (drop body s) second.its (drop last s) second.read

      counts_are : counts ≡ counts_of second.its
      counts_are =
          second.kept_is
          ∙ stored_all lent' (counts_of second.its) (counts_length second.its ∙ all_fit_length month_form.kinds second.its back.fit ∙ sym room)

      rows_are : sum counts ≡ rows_in_all second.its
      rows_are = ap sum counts_are ∙ sum_counts second.its

      -- the rows of a text are few enough to be added up
      few_rows : sum counts < 2 ^ 64
      few_rows = rw rows_are (month_rows second.its back.fit)

      pub lines_read : length lent ≡ head_count → {held : Head} → held ≡ head_read head
          → LinesRead s (record { held = record { head = held; counts = counts }; body = body; last = last })
      lines_read room-head q =
          let hb : HeadsBack month_form.heads s first.its (drop body s) =
          heads_back (length s) month_form.heads s first.its (drop body s) first.read in
          let head-is : head ≡ first.its = first.kept_is ∙ stored_all lent first.its (hb.one_each ∙ sym room-head) in
          let answer : Head → List ℕ → Reading = λ h ns. record { answer = accepted; head = h; counts = ns } in
          record {
            contents = record { head = first.its; tables = second.its };
            left = reading_on month_form s first.its (drop body s) second.its (drop last s) first.read second.read;
            answers = ap₂ answer (q ∙ ap head_read head-is) counts_are;
            rows_are = sym rows_are;
            few = few_rows;
            inside = first.inside;
            tables = second.read;
            last_inside = second.inside;
          }
