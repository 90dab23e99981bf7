-- The judgement is a stage: it passes where the month is good, and stops where a rule is broken. Each look of it is a test of one rule.
-- Assumes nothing.
use mathlib.Core.Path.{◌≡◌, refl, sym, ap, ◌∙◌}
use mathlib.Core.Logic.{⊎_elim, ◌≢◌}
use mathlib.Core.Bool.{Bool, true, false, true≢false, not}
use Prim.Native.Nat.{ℕ, ◌*◌, ◌≤◌, ◌<◌}
use native.Mathlib.Omega.{arith}
use lib.ListN.{length}
use Rattle.answer.specs.declared.Answer.{Answer}
use Rattle.answer.specs.Numbers.{COUNT, ROOM, MONTH, RANGE, CHARGES, CREDITS}
use Rattle.answer.specs.Numbers as numbers
use Rattle.answer.specs.Turns.{look, refuse, first, refusal}
use Rattle.answer.proofs.Turns.{zero_or_not, first_none, first_all, first_refused, RefusedAt}
use Rattle.month.specs.Months.{is_month}
use Rattle.month.specs.Calendar.{InCalendar}
use Rattle.month.proofs.Promises.{month_exactly}
use Rattle.tables.specs.declared.Head.{Head}
use Rattle.tables.specs.declared.Table.{Table}
use Rattle.tables.specs.declared.Table.TheVariants.{Owners, Accounts}
use Rattle.tables.specs.Shape.{place_of, number, charge_width, credit_width, rows, Tables, words_of}
use Rattle.rows.specs.Rows.{row_of}
use Rattle.tables.specs.Counts.{counted, counts_in_turn, room_for, GoodCount}
use Rattle.judgement.specs.Judgement.{head_outside, head_looked, head_judged, rows_judged, judged}
use Rattle.judgement.specs.Good.{GoodRow, GoodTable, Roomy, GoodFrame, GoodMonth}
use Rattle.judgement.specs.Refused.{FirstBroken, by_range, by_order, by_link, by_pair, Refused, by_count, by_charges, by_credits, by_month, by_head, by_row}
use Rattle.tables.proofs.Tests.{at_least}
use Rattle.judgement.proofs.Keeping.{count_tested}
use Rattle.judgement.proofs.Rulings.{head_range, Ruling, fine, broken, row_ruled}
use Rattle.tables.proofs.Stages.{Stage, passed, stopped, passed_on, then_stage, refuse_stage, look_stage, in_turn_stage}

-- a row that is numbered 0 is good, and one that is not breaks the rule of its number
row_good : (days : ℕ) (t : Tables) (table : Table) (i : ℕ) → row_of days t table i ≡ 0 → GoodRow days t table i
row_good days t table i z =
    elim (row_ruled days t table i) as (λ r. GoodRow days t table i) [ fine e g ↦ g | broken d b ↦ absurd (d z) ]

row_broken : (days : ℕ) (t : Tables) (table : Table) (i n : ℕ) → row_of days t table i ≡ n → n ≢ 0 → FirstBroken days t table i n
row_broken days t table i n e d = rw (← e) (go (row_ruled days t table i))
  where
    go : Ruling days t table i (row_of days t table i) → FirstBroken days t table i (row_of days t table i)
    go (fine z g) = absurd (d (sym e ∙ z))
    go (broken b w) = w

module _ (head : Head) (t : Tables) (lent_charges lent_credits : ℕ) where
  abbrev Why : Answer → Type 0
  Why = Refused head t lent_charges lent_credits

  counts : Stage ((table : Table) → GoodCount t table) Why (counts_in_turn t)
  unfolding counts_in_turn counted
  counts =
      in_turn_stage (GoodCount t) Why (λ table. counted table (length (words_of t table)))
      (λ table before.
      look_stage COUNT (number table) 0 (omega arith)
      (count_tested t table)
      (by_count table refl before))

  charges_room_lem : ((table : Table) → GoodCount t table) → Stage (rows Accounts t.accounts * charge_width ≤ lent_charges) Why (room_for CHARGES (rows Accounts t.accounts * charge_width) lent_charges)
  unfolding room_for
  charges_room_lem all =
      look_stage ROOM CHARGES 0 (omega arith) (at_least (rows Accounts t.accounts * charge_width) lent_charges)
      (λ short. by_charges refl all (omega arith))

  credits_room_lem : ((table : Table) → GoodCount t table) → rows Accounts t.accounts * charge_width ≤ lent_charges → Stage (Roomy t lent_charges lent_credits) Why (room_for CREDITS (rows Owners t.owners * credit_width) lent_credits)
  unfolding room_for
  credits_room_lem all fit =
      passed_on (λ fit₂. record { charges_fit = fit; credits_fit = fit₂ })
      (look_stage ROOM CREDITS 0 (omega arith) (at_least (rows Owners t.owners * credit_width) lent_credits)
      (λ short. by_credits refl all fit (omega arith)))

  no_month : is_month head.month head.days ≡ false → ¬ InCalendar head.month head.days
  no_month e known = true≢false (sym ((month_exactly head.month head.days).1 known) ∙ e)

  frame : ((table : Table) → GoodCount t table) → Roomy t lent_charges lent_credits → Stage (GoodFrame head t lent_charges lent_credits) Why (head_judged head)
  unfolding head_looked
  frame all roomy = go (is_month head.month head.days) refl
    where
      go : (m : Bool) → is_month head.month head.days ≡ m → Stage (GoodFrame head t lent_charges lent_credits) Why (refuse (look (not m) MONTH (look (head_outside head) RANGE 0)) numbers.HEAD 0)
      go false e = refuse_stage MONTH numbers.HEAD 0 (λ z. absurd (omega arith)) (λ d. by_month refl all roomy (no_month e))
      go true e =
          let known = (month_exactly head.month head.days).0 e in
          passed_on (λ w. record { counted = all; roomy = roomy; month_known = known; head_in_range = w })
          (look_stage RANGE numbers.HEAD 0 (omega arith) (head_range head) (by_head refl all roomy known))

  table_rows : GoodFrame head t lent_charges lent_credits → (table : Table) → ((earlier : Table) → place_of earlier < place_of table → GoodTable head.days t earlier) → Stage (GoodTable head.days t table) Why (rows_judged head.days t table)
  unfolding rows_judged
  table_rows good table before =
      ⊎_elim
      (λ (z : a.number ≡ 0).
      let all : (i : ℕ) → i < n → row_of head.days t table i ≡ 0 = first_all (number table) (row_of head.days t table) n z in
      passed (first_none (number table) (row_of head.days t table) n all) (λ i h. row_good head.days t table i (all i h)))
      (λ (d : a.number ≢ 0).
      let at : RefusedAt (number table) (row_of head.days t table) n a = first_refused (number table) (row_of head.days t table) n d in
      stopped d
      (by_row table a.row a.number (ap (λ k. refusal a.number k a.row) at.at_table)
      (record {
        frame = good;
        earlier_tables = before;
        is_row = at.at_row;
        earlier_rows = λ j h. row_good head.days t table j (at.earlier_fine j h);
        broken = row_broken head.days t table a.row a.number at.its_number d;
      })))
      (zero_or_not a.number)
    where
      n : ℕ
      n = rows table (words_of t table)

      a : Answer
      a = first (number table) (row_of head.days t table) n

  pub judged_stage : Stage (GoodMonth head t lent_charges lent_credits) Why (judged head t lent_charges lent_credits)
  unfolding judged
  judged_stage =
      then_stage
      (then_stage {G = ((table : Table) → GoodCount t table) × Roomy t lent_charges lent_credits}
      (then_stage {G = ((table : Table) → GoodCount t table) × (rows Accounts t.accounts * charge_width ≤ lent_charges)}
      (then_stage counts (λ all. passed_on (λ fit. (all, fit)) (charges_room_lem all)))
      (λ p. passed_on (λ roomy. (p.0, roomy)) (credits_room_lem p.0 p.1)))
      (λ p. frame p.0 p.1))
      (λ good.
      passed_on (λ all. record { frame = good; tables = all })
      (in_turn_stage (GoodTable head.days t) Why (rows_judged head.days t) (table_rows good)))

  pub judged_good : (judged head t lent_charges lent_credits).number ≡ 0 → GoodMonth head t lent_charges lent_credits
  judged_good e =
      elim judged_stage as (λ s. GoodMonth head t lent_charges lent_credits) [ passed q g ↦ g | stopped d w ↦ absurd (d e) ]

  pub judged_why : (judged head t lent_charges lent_credits).number ≢ 0 → Why (judged head t lent_charges lent_credits)
  judged_why bad =
      elim judged_stage as (λ s. Why (judged head t lent_charges lent_credits))
      [ passed q g ↦ absurd (bad (ap (λ (a : Answer). a.number) q)) | stopped d w ↦ w ]

  -- what is refused with MONTH is no month
  broken_not_month : (table : Table) (i n : ℕ) → FirstBroken head.days t table i n → n ≢ MONTH
  broken_not_month table i n (by_range e out) z = omega arith
  broken_not_month table i n (by_order e r not_above_lem) z = omega arith
  broken_not_month table i n (by_link e r o missing) z = omega arith
  broken_not_month table i n (by_pair e r o l taken) z = omega arith

  pub month_why : (a : Answer) → Why a → a.number ≡ MONTH → ¬ InCalendar head.month head.days
  month_why a (by_count table e before short) z = absurd (omega (arith, ap (λ (b : Answer). b.number) e))
  month_why a (by_charges e all short) z = absurd (omega (arith, ap (λ (b : Answer). b.number) e))
  month_why a (by_credits e all fit short) z = absurd (omega (arith, ap (λ (b : Answer). b.number) e))
  month_why a (by_month e all roomy bad) z = bad
  month_why a (by_head e all roomy known out) z = absurd (omega (arith, ap (λ (b : Answer). b.number) e))
  month_why a (by_row table i n e at) z = absurd (broken_not_month table i n at.broken (sym (ap (λ (b : Answer). b.number) e) ∙ z))
