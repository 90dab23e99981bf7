-- What the contract of `read` gives: what an accepted call answers and stores, that a refused one changes nothing, and which refusals
-- there are.
-- Assumes nothing.
use mathlib.Core.Path.{◌≡◌, refl, sym, ap, subst, ◌∙◌}
use mathlib.Core.Logic.{⊎_elim, ◌≢◌, ◌↔◌}
use mathlib.Core.List.{List, []}
use Prim.Native.Nat.{ℕ, ◌*◌, ◌≤◌, ◌<◌}
use native.Mathlib.Nat.{le_trans, le_of_eq, mul-le-mul_right}
use native.Mathlib.Omega.{arith}
use lib.ListN.{length}
use borrow.Author.Tests.{eq-eqb, ne_eqb}
use Rattle.answer.specs.declared.Answer.{Answer}
use Rattle.answer.specs.Numbers.{COUNT, ROOM, TEXT}
use Rattle.answer.specs.Turns.{accepted, refusal}
use Rattle.tables.specs.declared.Table.{Table}
use Rattle.tables.specs.Shape.{number, table_at, place_of, width, limit, Tables, words_of}
use Rattle.tables.specs.Counts.{room_for}
use Rattle.tables.proofs.Places.{place_below, place_at}
use Rattle.tables.proofs.Tests.{at_least}
use Rattle.tables.proofs.Stages.{Stage, passed, stopped, first_broken, look_stage, in_turn_stage}
use Rattle.text.specs.Places.{stored}
use Rattle.text.proofs.Stores.{stored_in_front}
use Rattle.fileform.specs.Form.{Kind, kind_of, month_form}
use Rattle.fileform.specs.Reading.{Outcome, got, refused, Rows, nth, Contents, reading}
use Rattle.fileform.specs.Writing.{file_text, Fits, ContentsFit}
use Rattle.fileform.specs.Refused.{AtMisfit, RowTooMany}
use Rattle.fileform.proofs.Each.{words_by}
use Rattle.fileform.proofs.Forms.{kind_at, FileBack, file_back}
use Rattle.fileform.proofs.Contents.{month_sound, kind_placed, kind_at_lem, table_fits, written_then_read}
use Rattle.fileform.proofs.Refusals.{AtLimit, reading_refused}
use Rattle.fileform.proofs.Reasons.{misfit_refused, limit_refused}
use Rattle.fileread.specs.Calls.{Reading}
use Rattle.fileread.specs.Calls.{full_size, read_room, read_outcome, read_answer, tables_in, filled, Reads}
use Rattle.fileread.proofs.Parts.{nothing_filled}
use Rattle.monthfile.specs.Front.{at_front}
use Rattle.monthfile.specs.Refused.{Full, ReadRefused, by_room, by_text, by_count}

-- COUNT of one of the tables
table_over : (text : List ℕ) (a : Answer) → AtLimit month_form text a
    → (table : Table) × (a ≡ refusal COUNT (number table) (limit table)) × RowTooMany month_form (place_of table) (kind_of table) text
table_over text a over =
    let kind : kind_at month_form.kinds over.k ≡ kind_of (table_at over.k) = kind_at_lem over.k over.is_kind in (
      table_at over.k,
      over.its ∙ ap (λ (k : Kind). refusal COUNT k.table k.limit) kind,
      subst (λ p. RowTooMany month_form p (kind_of (table_at over.k)) text) (sym (place_at over.k over.is_kind))
          (subst (λ k. RowTooMany month_form over.k k text) kind over.why),
    )

-- rows within the limits fit in a table of full size
fits_front : (table : Table) (t : Rows) → Fits (kind_of table) t → {lent : ℕ} → limit table * width table ≤ lent → length t.words ≤ lent
fits_front table t f full = le_trans (le_of_eq f.whole) (le_trans (mul-le-mul_right (width table) f.few) full)

-- the look at ROOM, and the text behind it
module _ (text : List ℕ) (lent : Tables) where
  abbrev Short : Answer → Type 0
  Short a =
      (table : Table) × (a ≡ refusal ROOM (number table) 0) × ((earlier : Table) → place_of earlier < place_of table → Full lent earlier)
      × ¬ Full lent table

  abbrev RoomLooked : Type 0
  RoomLooked = Stage ((table : Table) → Full lent table) Short (read_room lent)

  rooms : RoomLooked
  unfolding read_room room_for
  rooms =
      in_turn_stage (Full lent) Short (λ table. full_size table (length (words_of lent table)))
      (λ table before.
      look_stage ROOM (number table) 0 (omega arith) (at_least (limit table * width table) (length (words_of lent table)))
      (λ short. (table, refl, before, short)))

  outcome_short : (read_room lent).number ≢ 0 → read_outcome text lent ≡ refused (read_room lent)
  unfolding read_outcome
  outcome_short d = rw (ne_eqb (read_room lent).number 0 d)

  outcome_read : read_room lent ≡ accepted → read_outcome text lent ≡ reading month_form text
  unfolding read_outcome
  outcome_read e = rw (eq-eqb (read_room lent).number 0 (ap (λ (a : Answer). a.number) e))

  -- tables of full size have the text read
  pub outcome_full : ((table : Table) → Full lent table) → read_outcome text lent ≡ reading month_form text
  outcome_full full = outcome_read (room_passed rooms)
    where
      room_passed : RoomLooked → read_room lent ≡ accepted
      room_passed (passed q g) = q
      room_passed (stopped d why) = absurd (why.3 (full why.0))

  -- an outcome that is refused says why, one that is not has lent tables of full size and the text read
  abbrev Way : Outcome Contents → Type 0
  Way (refused a) = ReadRefused text lent a
  Way (got c rest) = (reading month_form text ≡ got c rest) × ((table : Table) → Full lent table)

  way_read : ((table : Table) → Full lent table) → (o : Outcome Contents) → reading month_form text ≡ o → Way o
  way_read full (got c rest) e = (e, full)
  way_read full (refused a) e =
      ⊎_elim
      (λ (at : AtMisfit month_form text a). by_text at full)
      (λ (over : AtLimit month_form text a).
      let one = table_over text a over in
      by_count one.0 one.1 one.2 full)
      (reading_refused month_form text a e)

  way_of : RoomLooked → Way (read_outcome text lent)
  way_of (passed e full) =
      subst Way (sym (outcome_read e)) (way_read full (reading month_form text) refl)
  way_of (stopped d why) = subst Way (sym (outcome_short d)) (by_room why.0 why.1 why.2 why.3)

  way : Way (read_outcome text lent)
  way = way_of rooms

  refused_number : (a : Answer) → ReadRefused text lent a → a.number ≢ 0
  refused_number a (by_room table e before short) z = let n : ROOM ≡ 0 = ap (λ (k : Answer). k.number) (sym e) ∙ z in omega arith
  refused_number a (by_text at full) z = let n : TEXT ≡ 0 = ap (λ (k : Answer). k.number) (sym at.its) ∙ z in omega arith
  refused_number a (by_count table e why full) z = let n : COUNT ≡ 0 = ap (λ (k : Answer). k.number) (sym e) ∙ z in omega arith

  -- a text with a row too many
  full_table : (table : Table) → RowTooMany month_form (place_of table) (kind_of table) text
      → reading month_form text ≡ refused (refusal COUNT (number table) (limit table))
  full_table table why =
      limit_refused month_form month_sound text (place_of table) (place_below table)
      (subst (λ k. RowTooMany month_form (place_of table) k text) (sym (kind_placed table)) why)
      ∙ ap (λ (k : Kind). refused (refusal COUNT k.table k.limit)) (kind_placed table)

  -- whatever reason is so, is answered
  outcome_why : (a : Answer) → ReadRefused text lent a → read_outcome text lent ≡ refused a
  outcome_why a (by_room table e before short) = go rooms
    where
      go : RoomLooked → read_outcome text lent ≡ refused a
      go (passed q full) = absurd (short (full table))
      go (stopped d why) =
          outcome_short d
          ∙ ap refused (why.1 ∙ ap (λ t. refusal ROOM (number t) 0) (first_broken (Full lent) why.0 table why.2 why.3 before short) ∙ sym e)
  outcome_why a (by_text at full) = outcome_full full ∙ misfit_refused month_form month_sound text a at
  outcome_why a (by_count table e why full) = outcome_full full ∙ full_table table why ∙ ap refused (sym e)

  module _ (after : Tables) (r : Reading) (reads : Reads text lent after r) where
    -- a refused read answers zeros for the head and the rows, and changes no lent word
    refused_by : (o : Outcome Contents) → Way o → r ≡ read_answer o → after ≡ filled lent (tables_in o) → r.answer.number ≢ 0
        → (r ≡ read_answer (refused r.answer)) × (after ≡ lent) × ReadRefused text lent r.answer
    refused_by (refused a) why e s d =
        let same : a ≡ r.answer = sym (ap (λ (h : Reading). h.answer) e) in
        (e ∙ ap (λ k. read_answer (refused k)) same, s ∙ sym (nothing_filled lent), subst (ReadRefused text lent) same why)
    refused_by (got c rest) w e s d = absurd (d (ap (λ (h : Reading). h.answer.number) e))

    pub read_refused : r.answer.number ≢ 0 → (r ≡ read_answer (refused r.answer)) × (after ≡ lent) × ReadRefused text lent r.answer
    read_refused d = refused_by (read_outcome text lent) way reads.answers reads.stores d

    -- a read answers a refusal exactly when its reason is so
    pub read_refused_exactly : (a : Answer) → ReadRefused text lent a ↔ ((r.answer ≡ a) × (a.number ≢ 0))
    read_refused_exactly a = (
      (λ why. (ap (λ (h : Reading). h.answer) (reads.answers ∙ ap read_answer (outcome_why a why)), refused_number a why)),
      (λ w. subst (ReadRefused text lent) w.0 (read_refused (λ z. w.1 (ap (λ (k : Answer). k.number) (sym w.0) ∙ z))).2),
    )

    -- an accepted read has each table's rows at its front, and behind them what was lent
    accepted_by : (o : Outcome Contents) → Way o → r ≡ read_answer o → after ≡ filled lent (tables_in o) → r.answer.number ≡ 0
        → (c : Contents) × ContentsFit month_form c × (text ≡ file_text month_form c) × (r ≡ read_answer (got c []))
        × ((table : Table) → words_of after table ≡ at_front (nth c.tables (place_of table)).words (words_of lent table))
    accepted_by (refused a) w e s z = absurd (refused_number a w (ap (λ (h : Reading). h.answer.number) (sym e) ∙ z))
    accepted_by (got c rest) w e s z =
        let back : FileBack month_form text c = file_back month_form text c rest w.0 in
        let front : (table : Table) → length (nth c.tables (place_of table)).words ≤ length (words_of lent table) =
        λ table. fits_front table (nth c.tables (place_of table)) (table_fits c.tables back.within.fit table) (w.1 table) in (
          c,
          back.within,
          back.written,
          e,
          λ table. ap (λ k. words_of k table) s ∙ words_by (λ u. stored (words_of lent u) 0 (nth c.tables (place_of u)).words) table
              ∙ stored_in_front (words_of lent table) (nth c.tables (place_of table)).words (front table),
        )

    pub read_accepted : r.answer.number ≡ 0
        → (c : Contents) × ContentsFit month_form c × (text ≡ file_text month_form c) × (r ≡ read_answer (got c []))
        × ((table : Table) → words_of after table ≡ at_front (nth c.tables (place_of table)).words (words_of lent table))
    read_accepted z = accepted_by (read_outcome text lent) way reads.answers reads.stores z

    -- the text of contents within the limits, read into tables of full size, is accepted with these contents
    pub good_read : ((table : Table) → Full lent table) → (c : Contents) → ContentsFit month_form c → text ≡ file_text month_form c → r ≡ read_answer (got c [])
    good_read full c within e =
        reads.answers ∙ ap read_answer (outcome_full full ∙ ap (reading month_form) e ∙ written_then_read c within)
