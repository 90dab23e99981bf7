-- What the contract of `write` gives: what an accepted call answers and stores, that a refused one changes nothing, and which refusals
-- there are.
-- Assumes nothing.
use mathlib.Core.Path.{◌≡◌, refl, sym, ap, subst, ◌∙◌}
use mathlib.Core.Logic.{◌≢◌, ◌↔◌}
use mathlib.Core.List.{List}
use Prim.Native.Nat.{ℕ, ◌%◌, ◌≤◌}
use native.Mathlib.Omega.{arith}
use lib.ListN.{length}
use Rattle.answer.specs.declared.Answer.{Answer}
use Rattle.answer.specs.Numbers as answers
use Rattle.answer.specs.Turns.{accepted, refusal}
use Rattle.tables.specs.declared.Head.{Head}
use Rattle.tables.specs.declared.Table.{Table}
use Rattle.tables.specs.Shape.{number, width, limit, rows, Tables, words_of}
use Rattle.tables.specs.Counts.{GoodCount, counted, counts_in_turn, room_for}
use Rattle.tables.proofs.Tests.{reworded, both, equal, at_least}
use Rattle.tables.proofs.Stages.{Stage, passed, stopped, passed_on, then_stage, look_stage, in_turn_stage, first_broken}
use Rattle.text.specs.Places.{stored}
use Rattle.text.proofs.Stores.{stored_none, stored_in_front}
use Rattle.filewrite.specs.Calls.{Written}
use Rattle.filewrite.specs.Calls.{month_text, write_answer, text_written, Writes}
use Rattle.filewrite.proofs.Parts.{none_written, all_written}
use Rattle.monthfile.specs.Front.{at_front}
use Rattle.monthfile.specs.Refused.{WriteRefused, by_bad_table, by_short_room}

-- the looks at COUNT and ROOM, and the text that is written
module _ (head : Head) (t : Tables) (lent : List ℕ) where
  -- every table is whole rows within its limit and the text fits, or the refusal says why
  abbrev pub WriteLooked : Type 0
  WriteLooked =
      Stage (((table : Table) → GoodCount t table) × (length (month_text head t) ≤ length lent)) (WriteRefused head t (length lent))
      (write_answer head t (length lent))

  pub looks : WriteLooked
  unfolding write_answer counts_in_turn counted room_for
  looks =
      then_stage
      (in_turn_stage (GoodCount t) (WriteRefused head t (length lent)) (λ table. counted table (length (words_of t table)))
      (λ table before.
      look_stage answers.COUNT (number table) 0 (omega arith)
      (reworded (λ p. record { whole = p.0; few = p.1 }) (λ r. (r.whole, r.few))
      (both (equal (length (words_of t table) % width table) 0) (at_least (rows table (words_of t table)) (limit table))))
      (by_bad_table table refl before)))
      (λ all.
      passed_on (λ fits. (all, fits))
      (look_stage answers.ROOM answers.HEAD 0 (omega arith) (at_least (length (month_text head t)) (length lent)) (λ short. by_short_room refl all (omega arith))))

  module _ (after : List ℕ) (r : Written) (writes : Writes head t lent after r) where
    refused_write : WriteLooked
        → r.answer.number ≢ 0 → (r.length ≡ 0) × (after ≡ lent) × WriteRefused head t (length lent) r.answer
    refused_write (passed e g) d = absurd (d (ap (λ (a : Answer). a.number) (writes.answers ∙ e)))
    refused_write (stopped n why) d = (
      writes.length_is ∙ ap length (none_written head t (length lent) n),
      writes.stores ∙ ap (stored lent 0) (none_written head t (length lent) n) ∙ stored_none lent 0,
      subst (WriteRefused head t (length lent)) (sym writes.answers) why,
    )

    -- a refused write answers 0 and changes no lent byte
    pub write_refused : r.answer.number ≢ 0 → (r.length ≡ 0) × (after ≡ lent) × WriteRefused head t (length lent) r.answer
    write_refused d = refused_write looks d

    -- whatever reason is so, is answered
    write_why : (a : Answer) → WriteRefused head t (length lent) a → (r.answer ≡ a) × (a.number ≢ 0)
    write_why a why = let e : r.answer ≡ a = writes.answers ∙ go looks why in (e, λ z. number_of why z)
      where
        same : (b : Answer) → WriteRefused head t (length lent) b → WriteRefused head t (length lent) a → b ≡ a
        same b (by_bad_table x e before bad) (by_bad_table y q before' bad') =
            e ∙ ap (λ t. refusal answers.COUNT (number t) 0) (first_broken (GoodCount t) x y before bad before' bad') ∙ sym q
        same b (by_bad_table x e before bad) (by_short_room q all short) = absurd (bad (all x))
        same b (by_short_room e all short) (by_bad_table y q before bad) = absurd (bad (all y))
        same b (by_short_room e all short) (by_short_room q all' short') = e ∙ sym q

        go : WriteLooked → WriteRefused head t (length lent) a → write_answer head t (length lent) ≡ a
        go (passed e g) (by_bad_table x q before bad) = absurd (bad (g.0 x))
        go (passed e g) (by_short_room q all short) = absurd (let fits = g.1 in omega arith)
        go (stopped n w) so = same (write_answer head t (length lent)) w so

        number_of : WriteRefused head t (length lent) a → a.number ≢ 0
        number_of (by_bad_table x e before bad) z = let n : answers.COUNT ≡ 0 = ap (λ (k : Answer). k.number) (sym e) ∙ z in omega arith
        number_of (by_short_room e all short) z = let n : answers.ROOM ≡ 0 = ap (λ (k : Answer). k.number) (sym e) ∙ z in omega arith

    -- a write answers a refusal exactly when its reason is so
    pub write_refused_exactly : (a : Answer) → WriteRefused head t (length lent) a ↔ ((r.answer ≡ a) × (a.number ≢ 0))
    write_refused_exactly a = (
      write_why a,
      (λ w.
          subst (WriteRefused head t (length lent)) w.0
          (write_refused (λ z. w.1 (ap (λ (k : Answer). k.number) (sym w.0) ∙ z))).2),
    )

    written_by : WriteLooked
        → r.answer.number ≡ 0
        → (r.length ≡ length (month_text head t)) × (after ≡ at_front (month_text head t) lent)
    written_by (passed e g) z =
        let whole : text_written head t (length lent) ≡ month_text head t =
        all_written head t (length lent) (ap (λ (a : Answer). a.number) e) in
        (writes.length_is ∙ ap length whole, writes.stores ∙ ap (stored lent 0) whole ∙ stored_in_front lent (month_text head t) g.1)
    written_by (stopped n why) z = absurd (n (ap (λ (a : Answer). a.number) (sym writes.answers) ∙ z))

    -- an accepted write answers the text's length and has the text at the front, and behind it what was lent
    pub write_accepted : r.answer.number ≡ 0
        → (r.length ≡ length (month_text head t)) × (after ≡ at_front (month_text head t) lent)
    write_accepted z = written_by looks z

    -- tables of whole rows within their limits, in room for their text, are never refused
    pub good_write : ((table : Table) → GoodCount t table) → length (month_text head t) ≤ length lent → r.answer ≡ accepted
    good_write all fits = writes.answers ∙ go looks
      where
        go : WriteLooked
            → write_answer head t (length lent) ≡ accepted
        go (passed e g) = e
        go (stopped n (by_bad_table table e before bad)) = absurd (bad (all table))
        go (stopped n (by_short_room e counts short)) = absurd (omega arith)
