-- What the judgement of a month's input promises.
-- Assumes nothing.
use mathlib.Core.Path.{◌≡◌, sym, ap, subst, ◌∙◌}
use mathlib.Core.Logic.{◌⊎◌, ⊎_elim, ◌≢◌, ◌↔◌}
use Prim.Native.Nat.{ℕ, ◌<◌}
use native.Mathlib.Omega.{arith}
use Rattle.answer.specs.declared.Answer.{Answer}
use Rattle.answer.specs.Numbers.{MONTH}
use Rattle.answer.specs.Turns.{accepted}
use Rattle.answer.proofs.Turns.{zero_or_not}
use Rattle.month.specs.declared.Month.{Month}
use Rattle.month.specs.Calendar.{InCalendar}
use Rattle.tables.specs.declared.Head.{Head}
use Rattle.tables.specs.declared.Table.{Table}
use Rattle.tables.specs.declared.Table.TheVariants.{Zones, Accounts, Firm}
use Rattle.tables.specs.Shape.{rows, Tables, words_of}
use Rattle.tables.specs.Columns.{account_zone, firm_account, firm_term, firm_miso, firm_day}
use Rattle.judgement.specs.Judgement.{judged, month_in, good_or, judged_as, judged_answer}
use Rattle.judgement.specs.Judgement as outcome
use Rattle.judgement.specs.Good.{Above, Known, Linked, GoodRow, GoodTable, HeadInRange, Roomy, GoodFrame, GoodMonth}
use Rattle.tables.specs.Counts.{GoodCount}
use Rattle.judgement.specs.Refused.{Refused}
use Rattle.judgement.proofs.Outcomes.{good_given, refused_given, good_told, refused_told}
use Rattle.judgement.proofs.Ascents.{climb, above_transitive, above_by_columns}
use Rattle.judgement.proofs.Judging.{judged_good, judged_why, month_why}
use Rattle.judgement.proofs.Reasons.{good_unrefused, judged_exactly}

module _ (head : Head) (t : Tables) (lent_charges lent_credits : ℕ) where
  -- what is accepted is a good month ..
  pub accepted_good : judged head t lent_charges lent_credits ≡ accepted → GoodMonth head t lent_charges lent_credits
  accepted_good e = judged_good head t lent_charges lent_credits (ap (λ (a : Answer). a.number) e)

  -- .. whichever table and row the answer names ..
  pub unrefused_good : (judged head t lent_charges lent_credits).number ≡ 0 → GoodMonth head t lent_charges lent_credits
  unrefused_good = judged_good head t lent_charges lent_credits

  -- .. and none that keeps them is refused here; its divisions come after
  pub good_accepted : GoodMonth head t lent_charges lent_credits → judged head t lent_charges lent_credits ≡ accepted
  good_accepted good = good_unrefused head t lent_charges lent_credits good

  -- a month is refused with an answer exactly when that names the first rule that is broken, and where: all that is looked at
  -- earlier is right
  pub refused_exactly : (a : Answer) → Refused head t lent_charges lent_credits a ↔ ((judged head t lent_charges lent_credits ≡ a) × (a.number ≢ 0))
  refused_exactly = judged_exactly head t lent_charges lent_credits

  -- the answer is a month exactly where the input is good, and it is the month of the head ..
  pub month_given : (m : Month) → (judged_as head t lent_charges lent_credits ≡ outcome.Good m) ↔ (GoodMonth head t lent_charges lent_credits × (m ≡ month_in head))
  month_given m = (
    (λ e. let told = good_told (month_in head) m (judged head t lent_charges lent_credits) e in (unrefused_good told.0, told.1)),
    λ p.
        good_given (month_in head) (judged head t lent_charges lent_credits) (ap (λ (a : Answer). a.number) (good_accepted p.0))
        ∙ ap outcome.Good (sym p.1),
  )

  -- .. else it is the refusal with its reason ..
  pub refusal_given : (a : Answer) → (judged_as head t lent_charges lent_credits ≡ outcome.Refused a) ↔ Refused head t lent_charges lent_credits a
  refusal_given a = (
    (λ e.
        let told = refused_told (month_in head) (judged head t lent_charges lent_credits) a e in
        (refused_exactly a).1 (told.1, λ z. told.0 (ap (λ (b : Answer). b.number) told.1 ∙ z))),
    λ why.
        let its = (refused_exactly a).0 why in
        ap (good_or (month_in head)) its.0 ∙ refused_given (month_in head) a its.1,
  )

  -- .. and in either case it says the paper's answer
  pub answer_given : judged_answer (judged_as head t lent_charges lent_credits) ≡ judged head t lent_charges lent_credits
  answer_given =
      ⊎_elim
      (λ (z : (judged head t lent_charges lent_credits).number ≡ 0).
      ap judged_answer (good_given (month_in head) (judged head t lent_charges lent_credits) z) ∙ sym (good_accepted (unrefused_good z)))
      (λ (d : (judged head t lent_charges lent_credits).number ≢ 0). ap judged_answer (refused_given (month_in head) (judged head t lent_charges lent_credits) d))
      (zero_or_not (judged head t lent_charges lent_credits).number)

  -- before any row is looked at, all is right exactly where tables and outputs are, the month is the calendar's and the head in range
  pub frame_exactly : GoodFrame head t lent_charges lent_credits
      ↔ (((table : Table) → GoodCount t table) × Roomy t lent_charges lent_credits × InCalendar head.month head.days × HeadInRange head)
  frame_exactly = (
    (λ good. (good.counted, good.roomy, good.month_known, good.head_in_range)),
    λ parts. record { counted = parts.0; roomy = parts.1; month_known = parts.2; head_in_range = parts.3 },
  )

  -- what is refused with MONTH is not the calendar's
  pub month_refused_why : (judged head t lent_charges lent_credits).number ≡ MONTH → ¬ InCalendar head.month head.days
  month_refused_why e =
      month_why head t lent_charges lent_credits (judged head t lent_charges lent_credits) (judged_why head t lent_charges lent_credits (λ z. omega arith)) e

-- "Zones, owners, units, accounts and reservations strictly ascend by their first entry, loads by account, then day", table 10
-- "ascending by the first four": of two rows the later stands above the earlier ..
pub strictly_ascend : (days : ℕ) (t : Tables) (table : Table) → GoodTable days t table → (i j : ℕ) → i < j → j < rows table (words_of t table) → Above t table i j
strictly_ascend days t table good =
    climb (Above t table) (above_transitive t table) (rows table (words_of t table)) (λ i h. (good i h).ascending)

-- .. for a firm reservation by account, then term, then MISO delivery, then first day
pub firm_above : (t : Tables) (j i : ℕ)
    → Above t Firm j i
    ↔ ((firm_account t.firm j < firm_account t.firm i)
    ⊎ ((firm_account t.firm j ≡ firm_account t.firm i)
    × ((firm_term t.firm j < firm_term t.firm i)
    ⊎ ((firm_term t.firm j ≡ firm_term t.firm i)
    × ((firm_miso t.firm j < firm_miso t.firm i)
    ⊎ ((firm_miso t.firm j ≡ firm_miso t.firm i) × (firm_day t.firm j < firm_day t.firm i)))))))
firm_above t = above_by_columns t Firm

-- LINK and PAIR never compete: an account that shares customer and zone with an earlier good one names a zone that is there
pub paired_linked : (days : ℕ) (t : Tables) (i j : ℕ) → GoodRow days t Accounts j → account_zone t.accounts j ≡ account_zone t.accounts i → Linked t Accounts i
paired_linked days t i j good e nonzero =
    subst (Known Zones t.zones) e (good.linked (λ z. nonzero (sym e ∙ z)))
