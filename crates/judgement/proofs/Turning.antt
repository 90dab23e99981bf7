-- The judgement as the code takes it: each look behind those that found nothing, and the first refusal is what comes of it.
-- Assumes nothing.
use mathlib.Core.Path.{◌≡◌, refl, sym, ap, ◌∙◌}
use mathlib.Core.Logic.{◌⊎◌, inl, inr, ⊎_elim, ◌≢◌}
use mathlib.Core.Bool.{false, not}
use Prim.Native.Nat.{ℕ, ◌*◌, ◌/◌, ◌≤◌, ◌<◌}
use native.Mathlib.Nat.{div-lt_iff_lt-mul}
use native.Mathlib.Omega.{arith}
use lib.Dec.{ltb}
use borrow.Author.Tests.{lt-ltb, le-ltb}
use Rattle.std.specs.Prelude.{Result, Ok, Err, Option, Some, None}
use Rattle.std.specs.Option.{ok_or}
use Rattle.std.specs.Result.{IsErrAnd}
use Rattle.std.proofs.lemmas.Result.{err_from_is_err_and}
use Rattle.lists.proofs.Ranks.{lt_or_le}
use Rattle.answer.specs.declared.Answer.{Answer}
use Rattle.answer.specs.declared.Refused as refused
use Rattle.answer.specs.Numbers.{MONTH, CHARGES, CREDITS}
use Rattle.answer.specs.Numbers as numbers
use Rattle.answer.specs.Results.{refused_answer, result_answer, Answers}
use Rattle.answer.specs.Turns.{accepted, refusal, ◌then◌}
use Rattle.answer.proofs.Results.{refused_some}
use Rattle.answer.proofs.Turns.{then_first, then_second, then_on, then_stays, refuse_some, zero_or_not}
use Rattle.month.specs.declared.Month.{Month}
use Rattle.month.specs.Months.{is_month, made_of}
use Rattle.month.proofs.Months.{made_good, made_bad}
use Rattle.tables.specs.declared.Head.{Head}
use Rattle.tables.specs.declared.Table.TheVariants.{Owners, Accounts}
use Rattle.tables.specs.Shape.{charge_width, credit_width, rows, Tables}
use Rattle.tables.specs.Counts.{counts_in_turn, room_for, tables_in_turn}
use Rattle.judgement.specs.Judgement.{head_looked, head_judged, rows_judged, judged, month_in, good_or, judged_from, Judges}
use Rattle.judgement.proofs.Outcomes.{good_given, refused_given}

-- there are places for fewer rows than there are exactly where there are fewer places than figures
pub places : (lent width count : ℕ) → 0 < width → ltb (lent / width) count ≡ ltb lent (count * width)
places lent width count h =
    ⊎_elim
    (λ (l : lent / width < count). lt-ltb (lent / width) count l ∙ sym (lt-ltb lent (count * width) ((div-lt_iff_lt-mul h).0 l)))
    (λ (l : count ≤ lent / width).
    le-ltb (lent / width) count l
    ∙ sym (le-ltb lent (count * width) (fewer l (lt_or_le lent (count * width)))))
    (lt_or_le (lent / width) count)
  where
    fewer : count ≤ lent / width → (lent < count * width) ⊎ (count * width ≤ lent) → count * width ≤ lent
    fewer l (inl m) = absurd (omega (arith, (div-lt_iff_lt-mul h).1 m))
    fewer l (inr m) = m

-- a look behind two is one behind the second of them, behind the first
then_then : (a b c : Answer) → ((a then b) then c) ≡ (a then (b then c))
then_then a b c =
    ⊎_elim
    (λ (z : a.number ≡ 0). ap (λ k. k then c) (then_second a b z) ∙ sym (then_second a (b then c) z))
    (λ (d : a.number ≢ 0). then_stays {a = a then b} d c (then_first a b d) ∙ sym (then_first a (b then c) d))
    (zero_or_not a.number)

-- of two looks the refusal of the first is passed up, or the outcome is that of the second behind it
module _ {A : Type 0} (r : Result A refused.Refused) (e : refused.Refused) (up : IsErrAnd r (λ x. x ≡ e)) where
  passed_up : result_answer r ≡ refused_answer e
  passed_up = let told = err_from_is_err_and r up in ap result_answer told.1 ∙ ap refused_answer told.2

  pub first_refused : (a b : Answer) → refused_answer e ≡ a → Answers r (a then b)
  first_refused a b its = passed_up ∙ sym (then_stays (refused_some e) b (sym its))

pub second_given : {A : Type 0} (r : Result A refused.Refused) (a b : Answer) → accepted ≡ a → Answers r b → Answers r (a then b)
second_given r a b fine its = its ∙ sym (then_on (sym fine) refl)

-- a month that was looked up: there is one, or none
month_found : (o : Option Month) (e : refused.Refused) (m : Month) → Ok m ≡ ok_or o e → o ≡ Some m
month_found None e m h = let never : ◌≡◌ {A = ℕ} 0 1 = cc in absurd (omega arith)
month_found (Some x) e m h = let same : m ≡ x = cc in ap Some (sym same)

month_missing : (o : Option Month) (e r : refused.Refused) → Err r ≡ ok_or o e → (o ≡ None) × (r ≡ e)
month_missing None e r h = (refl, cc)
month_missing (Some x) e r h = let never : ◌≡◌ {A = ℕ} 0 1 = cc in absurd (omega arith)

module _ (head : Head) (t : Tables) (lent_charges lent_credits : ℕ) where
  -- ROOM of both outputs
  abbrev room : Answer
  room = room_for CHARGES (rows Accounts t.accounts * charge_width) lent_charges then room_for CREDITS (rows Owners t.owners * credit_width) lent_credits

  abbrev all_rows : Answer
  all_rows = tables_in_turn (rows_judged head.days t)

  in_stages : judged head t lent_charges lent_credits ≡ (counts_in_turn t then room then head_judged head then all_rows)
  unfolding judged
  in_stages = ap (λ k. k then head_judged head then all_rows) (then_then (counts_in_turn t) (room_for CHARGES (rows Accounts t.accounts * charge_width) lent_charges) (room_for CREDITS (rows Owners t.owners * credit_width) lent_credits))

  -- a refusal of the judgement is what comes of it
  module _ (r : Result Month refused.Refused) (e : refused.Refused) (up : IsErrAnd r (λ x. x ≡ e)) where
    refused_by : judged head t lent_charges lent_credits ≡ refused_answer e → Judges head t lent_charges lent_credits r
    refused_by its =
        let told = err_from_is_err_and r up in
        ap judged_from told.1
        ∙ ap (λ k. judged_from (Err k)) told.2
        ∙ sym (ap (good_or (month_in head)) its ∙ refused_given (month_in head) (refused_answer e) (refused_some e))

    pub count_refused : refused_answer e ≡ counts_in_turn t → Judges head t lent_charges lent_credits r
    count_refused its =
        let d = refused_some e in
        refused_by (in_stages ∙ then_stays d all_rows (then_stays d (head_judged head) (then_stays d room (sym its))))

    module _ (counted : accepted ≡ counts_in_turn t) where
      pub room_refused : refused_answer e ≡ room → Judges head t lent_charges lent_credits r
      room_refused its =
          let d = refused_some e in
          refused_by (in_stages ∙ then_stays d all_rows (then_stays d (head_judged head) (then_on (sym counted) (sym its))))

      module _ (roomy : accepted ≡ room) where
        head_refused : head_judged head ≡ refused_answer e → Judges head t lent_charges lent_credits r
        head_refused its =
            refused_by (in_stages ∙ then_stays (refused_some e) all_rows (then_on (then_on (sym counted) (sym roomy)) its))

        -- where there is no month, MONTH is refused ..
        pub month_refused : (o : Option Month) (f : refused.Refused) → o ≡ made_of head.month head.days → Err e ≡ ok_or o f → refused_answer f ≡ refusal MONTH numbers.HEAD 0 → Judges head t lent_charges lent_credits r
        unfolding head_looked
        month_refused o f made found its =
            let told = month_missing o f e found in
            let none : is_month head.month head.days ≡ false = made_bad head.month head.days (sym made ∙ told.0) in
            head_refused (rw none (refuse_some MONTH numbers.HEAD 0 (omega arith)) ∙ sym its ∙ sym (ap refused_answer told.1))

        -- .. and where there is one, what is looked at behind it
        module _ (month : Month) (o : Option Month) (f : refused.Refused) (made : o ≡ made_of head.month head.days) (found : Ok month ≡ ok_or o f) where
          pub range_refused : refused_answer e ≡ head_looked false head → Judges head t lent_charges lent_credits r
          range_refused its =
              let known = (made_good head.month head.days month (sym made ∙ month_found o f month found)).0 in
              head_refused (ap (λ b. head_looked (not b) head) known ∙ sym its)

          pub rows_refused : accepted ≡ head_looked false head → refused_answer e ≡ tables_in_turn (rows_judged month.days t) → Judges head t lent_charges lent_credits r
          rows_refused fine its =
              let known = made_good head.month head.days month (sym made ∙ month_found o f month found) in
              refused_by
              (in_stages
              ∙ then_on (then_on (then_on (sym counted) (sym roomy)) (ap (λ b. head_looked (not b) head) known.0 ∙ sym fine))
              (sym (its ∙ ap (λ m. tables_in_turn (rows_judged m.days t)) known.1)))

  -- where nothing is refused, the month is
  pub all_fine : (month : Month) (o : Option Month) (f : refused.Refused) → accepted ≡ counts_in_turn t → accepted ≡ room → o ≡ made_of head.month head.days → Ok month ≡ ok_or o f
      → accepted ≡ head_looked false head → accepted ≡ tables_in_turn (rows_judged month.days t) → Judges head t lent_charges lent_credits (Ok month)
  all_fine month o f counted roomy made found fine rowed =
      let known = made_good head.month head.days month (sym made ∙ month_found o f month found) in
      let all : judged head t lent_charges lent_credits ≡ accepted =
      in_stages
      ∙ then_on (then_on (then_on (sym counted) (sym roomy)) (ap (λ b. head_looked (not b) head) known.0 ∙ sym fine))
      (sym (rowed ∙ ap (λ m. tables_in_turn (rows_judged m.days t)) known.1)) in
      ap judged_from (ap Ok known.1) ∙ sym (good_given (month_in head) (judged head t lent_charges lent_credits) (ap (λ (a : Answer). a.number) all))
