-- `write` from its parts: the looks at COUNT and ROOM, and the text written.
-- Assumes nothing.
use mathlib.Core.Path.{◌≡◌, refl, sym, ap, ◌∙◌}
use mathlib.Core.Logic.{◌≢◌}
use mathlib.Core.List.{List, []}
use Rattle.std.specs.Prelude.{Ok, Err}
use Prim.Native.Nat.{ℕ, ◌+◌, ◌≤◌, ◌<◌, min}
use native.Mathlib.Nat.{zero-add}
use native.Mathlib.Omega.{arith}
use lib.ListN.{length}
use borrow.Author.Tests.{eq-eqb, ne_eqb}
use Rattle.answer.specs.declared.Answer.{Answer}
use Rattle.answer.specs.Numbers as answers
use Rattle.answer.specs.declared.Refused.{Refused}
use Rattle.answer.specs.Turns.{accepted, refusal}
use Rattle.answer.specs.Results.{refused_answer}
use Rattle.answer.proofs.Turns.{then_first, then_second, refuse_none, refuse_some}
use Rattle.answer.proofs.Results.{refused_some}
use Rattle.tables.specs.declared.Head.{Head}
use Rattle.tables.specs.Shape.{Tables}
use Rattle.tables.specs.Counts.{counts_in_turn, room_for}
use Rattle.text.specs.Places.{PutAt, Sized, stored}
use Rattle.text.proofs.Stores.{stored_none}
use Rattle.fileform.proofs.Rooms.{room_short, room_enough}
use Rattle.filewrite.specs.Calls.{month_text, write_answer, text_written, written_of, Writes}

-- nothing is written where `write` refuses, else the whole text
module _ (head : Head) (t : Tables) (room : ℕ) where
  pub none_written : (write_answer head t room).number ≢ 0 → text_written head t room ≡ []
  unfolding text_written
  none_written d = rw (ne_eqb (write_answer head t room).number 0 d)

  pub all_written : (write_answer head t room).number ≡ 0 → text_written head t room ≡ month_text head t
  unfolding text_written
  all_written z = rw (eq-eqb (write_answer head t room).number 0 z)

module _ (head : Head) (t : Tables) (lent : List ℕ) where
  abbrev short_or_not : Answer
  short_or_not = room_for answers.HEAD (length (month_text head t)) (length lent)

  -- a refusal writes nothing and answers 0
  refuses : (r : Refused) → refused_answer r ≡ write_answer head t (length lent) → Writes head t lent lent (written_of (Err r))
  refuses r e =
      let none : text_written head t (length lent) ≡ [] =
      none_written head t (length lent) (λ z. refused_some r (ap (λ (b : Answer). b.number) e ∙ z)) in
      record {
        answers = e;
        length_is = ap length (sym none);
        stores = sym (stored_none lent 0) ∙ ap (stored lent 0) (sym none);
      }

  pub write_counts : (r : Refused) → refused_answer r ≡ counts_in_turn t → Writes head t lent lent (written_of (Err r))
  unfolding write_answer
  write_counts r e = refuses r (e ∙ sym (then_first (counts_in_turn t) short_or_not (λ z. refused_some r (ap (λ (b : Answer). b.number) e ∙ z))))

  module _ (fine : accepted ≡ counts_in_turn t) (size : ℕ) (s : Sized 0 (month_text head t) (length lent + 1) size) where
    by_room : write_answer head t (length lent) ≡ short_or_not
    unfolding write_answer
    by_room = then_second (counts_in_turn t) short_or_not (ap (λ (b : Answer). b.number) (sym fine))

    pub write_short : length lent < size → (r : Refused) → refused_answer r ≡ refusal answers.ROOM answers.HEAD 0 → Writes head t lent lent (written_of (Err r))
    write_short h r e =
        let short : length lent < length (month_text head t) =
        (let q : size ≡ min (0 + length (month_text head t)) (length lent + 1) = s.capped in omega arith) in
        refuses r
        (e
        ∙ sym (refuse_some answers.ROOM answers.HEAD 0 (λ z. omega (arith, z)))
        ∙ room_short answers.HEAD (length (month_text head t)) (length lent) short
        ∙ sym by_room)

    write_fits : size ≤ length lent → 0 + length (month_text head t) ≤ length lent
    write_fits h = let q : size ≡ min (0 + length (month_text head t)) (length lent + 1) = s.capped in omega arith

    pub write_fine : size ≤ length lent → (n : ℕ) (after : List ℕ) → PutAt lent 0 (month_text head t) n after → Writes head t lent after (written_of (Ok n))
    write_fine h n after p =
        let room : short_or_not ≡ accepted =
        sym (room_enough answers.HEAD (length (month_text head t)) (length lent) (omega (arith, write_fits h))) ∙ refuse_none 0 answers.HEAD 0 refl in
        let all : text_written head t (length lent) ≡ month_text head t =
        all_written head t (length lent) (ap (λ (a : Answer). a.number) (by_room ∙ room)) in
        record {
          answers = sym (by_room ∙ room);
          length_is = p.onward ∙ zero-add (length (month_text head t)) ∙ ap length (sym all);
          stores = p.written ∙ ap (stored lent 0) (sym all);
        }
