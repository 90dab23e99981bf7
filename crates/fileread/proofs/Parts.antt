-- `read` from its parts: the look at ROOM, the judgement of the text, and the tables filled.
-- Assumes nothing.
use mathlib.Core.Path.{◌≡◌, sym, ap, ◌∙◌}
use mathlib.Core.List.{List, []}
use Prim.Native.Nat.{ℕ, ◌*◌}
use lib.ListN.{length, drop, get_or-map}
use borrow.Author.Tests.{eq-eqb, ne_eqb}
use Rattle.std.specs.List.{sum}
use Rattle.lists.specs.Sums.{at}
use Rattle.std.specs.Prelude.{Result, Ok, Err}
use Rattle.answer.specs.declared.Answer.{Answer}
use Rattle.answer.specs.declared.Refused.{Refused}
use Rattle.answer.specs.Turns.{accepted}
use Rattle.answer.specs.Results.{refused_answer}
use Rattle.answer.proofs.Results.{refused_some}
use Rattle.tables.specs.Shape.{number, place_of, width, limit, Tables, words_of}
use Rattle.tables.proofs.Stages.{in_turn_all}
use Rattle.text.specs.Places.{stored}
use Rattle.text.proofs.Stores.{stored_none}
use Rattle.fileform.specs.Form.{month_form}
use Rattle.fileform.specs.Reading.{got, refused, Rows, no_rows, nth, reading}
use Rattle.fileform.proofs.Each.{words_by, same_tables}
use Rattle.fileform.proofs.Rooms.{room_fits}
use Rattle.fileread.specs.declared.judge.FirstWalk.{FirstWalk}
use Rattle.fileread.specs.Calls.{Reading, held_reading, full_size, read_room, read_outcome, counts_of, read_answer, tables_in, filled, Reads}
use Rattle.fileread.specs.Steps.{LinesRead, Ended, ended_as, Ready, FilledFrom}

-- counts by their place
pub at_counts : (ts : List Rows) (k : ℕ) → at (counts_of ts) k ≡ (nth ts k).count
at_counts ts k = get_or-map (λ (t : Rows). t.count) ts k no_rows

-- no rows fill nothing
pub nothing_filled : (lent : Tables) → lent ≡ filled lent []
nothing_filled lent =
    same_tables lent (filled lent []) (λ table. sym (words_by (λ t. stored (words_of lent t) 0 []) table ∙ stored_none (words_of lent table) 0))

module _ (text : List ℕ) (lent : Tables) where
  -- a refusal stores nothing and answers zeros
  refuses : (r : Refused) → read_outcome text lent ≡ refused (refused_answer r) → Reads text lent lent (held_reading (Err r))
  refuses r e =
      record {
        answers = ap read_answer (sym e);
        stores = nothing_filled lent ∙ ap (λ o. filled lent (tables_in o)) (sym e);
      }

  pub read_no_room : (r : Refused) → refused_answer r ≡ read_room lent → Reads text lent lent (held_reading (Err r))
  unfolding read_outcome
  read_no_room r e =
      refuses r
      ((rw (ne_eqb (read_room lent).number 0 (λ z. refused_some r (ap (λ (a : Answer). a.number) e ∙ z)))) ∙ ap refused (sym e))

  module _ (room : accepted ≡ read_room lent) where
    by_text : read_outcome text lent ≡ reading month_form text
    unfolding read_outcome
    by_text = rw (eq-eqb (read_room lent).number 0 (ap (λ (a : Answer). a.number) (sym room)))

    pub read_refused : (r : Refused) → reading month_form text ≡ refused (refused_answer r) → Reads text lent lent (held_reading (Err r))
    read_refused r e = refuses r (by_text ∙ e)

    module _ (walk : FirstWalk) (lines : LinesRead text walk) where
      pub read_ready : Ready text walk.body walk.held.counts lent
      unfolding read_room
      read_ready =
          record {
            ts = lines.contents.tables;
            rest = drop walk.last text;
            inside = lines.inside;
            read = lines.tables;
            counted = λ table.
                ap (λ (h : Reading). at h.counts (place_of table)) lines.answers ∙ at_counts lines.contents.tables (place_of table);
            room = λ table.
                room_fits (number table) (limit table * width table) (length (words_of lent table))
                (in_turn_all (λ table. full_size table (length (words_of lent table))) (ap (λ (a : Answer). a.number) (sym room)) table);
          }

      module _ (r : Result (Unit {0}) Refused) (ended : Ended month_form.last text (drop walk.last text) (sum walk.held.counts) r) where
        whole : reading month_form text ≡ ended_as lines.contents r
        whole = lines.left ∙ ended lines.contents lines.rows_are

      pub read_cut : (r : Refused) → Ended month_form.last text (drop walk.last text) (sum walk.held.counts) (Err r) → Reads text lent lent (held_reading (Err r))
      read_cut r ended = read_refused r (whole (Err r) ended)

      pub read_filled : Ended month_form.last text (drop walk.last text) (sum walk.held.counts) (Ok tt) → (after : Tables) → FilledFrom text walk.body lent after
          → Reads text lent after (held_reading (Ok walk.held))
      read_filled ended after f =
          let outcome : read_outcome text lent ≡ got lines.contents [] = by_text ∙ whole (Ok tt) ended in
          record {
            answers = lines.answers ∙ ap read_answer (sym outcome);
            stores = f.fills lines.contents.tables (drop walk.last text) lines.tables ∙ ap (λ o. filled lent (tables_in o)) (sym outcome);
          }
