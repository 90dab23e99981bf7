-- The statement's call: its length is small enough to stand above a number, and what it leaves where there is room.
-- Assumes nothing.
use mathlib.Core.Path.{◌≡◌, refl, sym, ap, ap₂, ◌∙◌}
use mathlib.Core.List.{List, [], ◌++◌}
use Prim.Native.Nat.{ℕ, ◌≤◌, ◌<◌}
use native.Mathlib.Nat.{le_trans, le_of_eq}
use lib.ListN.{length, drop}
use Rattle.answer.specs.declared.Answer.{Answer}
use Rattle.answer.specs.Numbers.{ROOM, HEAD}
use Rattle.answer.proofs.Turns.{refuse_none, refuse_number}
use Rattle.text.specs.Places.{stored}
use Rattle.text.proofs.Stores.{stored_in_front, stored_none}
use Rattle.statement_lines.specs.Calls.{Shown}
use Rattle.statement_text.specs.Statement.{most_shown, statement_of}
use Rattle.statement_text.specs.Calls.{fitting, Shows}
use Rattle.statement_text.proofs.Promises.{statement_is_short}
use Rattle.host.specs.Calls.{word, HostStated}
use Rattle.fileform.proofs.Rooms.{room_short, room_enough}
use Rattle.statement_lines.proofs.Showing.{fitting_all, fitting_none, fitting_short}

module _ (text before after : List ℕ) (s : Shown) (shows : Shows (statement_of text) before after s) where
  pub length_small : s.length ≤ most_shown
  length_small =
      le_trans (le_of_eq shows.length_is) (le_trans (fitting_short (statement_of text) (length before)) (statement_is_short text))

  pub stated : (r : ℕ) → r ≡ word s.answer.number s.length → HostStated text before after r
  stated r e =
      record {
        answer = e ∙ ap₂ word (ap (λ (a : Answer). a.number) shows.answers) shows.length_is;
        lent = shows.stores;
      }

-- where there is no room, ROOM is all, and nothing is written
pub statement_without_room : (text before after : List ℕ) (r : ℕ) → HostStated text before after r → length before < length (statement_of text)
    → (r ≡ word ROOM 0) × (after ≡ before)
statement_without_room text before after r h short =
    let none : fitting (statement_of text) (length before) ≡ [] = fitting_none (statement_of text) (length before) short in (
      h.answer
          ∙ ap₂ word
          (ap (λ (a : Answer). a.number) (sym (room_short HEAD (length (statement_of text)) (length before) short)) ∙ refuse_number ROOM HEAD 0)
          (ap length none),
      h.lent ∙ ap (stored before 0) none ∙ stored_none before 0,
    )

-- where there is room, it stands first, and its length is the answer's value
pub statement_with_room : (text before after : List ℕ) (r : ℕ) → HostStated text before after r → length (statement_of text) ≤ length before
    → (r ≡ word 0 (length (statement_of text))) × (after ≡ statement_of text ++ drop (length (statement_of text)) before)
statement_with_room text before after r h enough =
    let all : fitting (statement_of text) (length before) ≡ statement_of text = fitting_all (statement_of text) (length before) enough in (
      h.answer
          ∙ ap₂ (λ (a : Answer) l. word a.number (length l))
          (sym (room_enough HEAD (length (statement_of text)) (length before) enough) ∙ refuse_none 0 HEAD 0 refl) all,
      h.lent ∙ ap (stored before 0) all ∙ stored_in_front before (statement_of text) enough,
    )
