-- A reason that is so is what a month is refused with: all that is looked at earlier passes, and the look that it names does not.
-- Assumes nothing.
use mathlib.Core.Path.{◌≡◌, refl, sym, ap, subst, ◌∙◌}
use mathlib.Core.Logic.{⊎_elim, ◌↔◌, ◌≢◌}
use mathlib.Core.Bool.{Bool, true, false}
use Prim.Native.Nat.{ℕ, ◌*◌, ◌≤◌, ◌<◌}
use native.Mathlib.Omega.{arith}
use lib.ListN.{length}
use Rattle.lists.proofs.Ranks.{true_or_false}
use Rattle.answer.specs.declared.Answer.{Answer}
use Rattle.answer.specs.Numbers.{COUNT, ROOM, MONTH, RANGE, CHARGES, CREDITS}
use Rattle.answer.specs.Numbers as numbers
use Rattle.answer.specs.Turns.{look, accepted, refuse, refusal, ◌then◌}
use Rattle.answer.proofs.Turns.{zero_or_not, look_fault, look_fine, then_on, then_stays, refuse_none, refuse_some, refuse_number, first_none, first_all, first_at}
use Rattle.month.specs.Months.{is_month}
use Rattle.month.specs.Calendar.{InCalendar}
use Rattle.month.proofs.Promises.{month_exactly}
use Rattle.tables.specs.declared.Head.{Head}
use Rattle.tables.specs.declared.Table.{Table}
use Rattle.tables.specs.declared.Table.TheVariants.{Owners, Accounts}
use Rattle.tables.specs.Shape.{place_of, number, charge_width, credit_width, rows, Tables, words_of}
use Rattle.tables.specs.Counts.{counted, counts_in_turn, room_for, tables_in_turn, GoodCount}
use Rattle.tables.proofs.Tests.{Tests, at_least}
use Rattle.tables.proofs.Stages.{Stage, passed, stopped, first_broken, in_turn_stage}
use Rattle.rows.specs.Rows.{row_of}
use Rattle.judgement.specs.Judgement.{head_looked, head_judged, rows_judged, judged}
use Rattle.judgement.specs.Good.{GoodTable, HeadInRange, Roomy, GoodFrame, GoodMonth}
use Rattle.judgement.specs.Refused.{RowRefused, Refused, by_count, by_charges, by_credits, by_month, by_head, by_row}
use Rattle.judgement.proofs.Keeping.{faulty, count_tested}
use Rattle.judgement.proofs.Rulings.{head_range, row_fine, row_numbered, broken_number}
use Rattle.judgement.proofs.Judging.{judged_why}

-- a look passes where its rule holds, and stops where it does not
look_passes : {Rule : Type 0} {fault : Bool} (n table row : ℕ) → Tests Rule fault → Rule → refuse (look fault n 0) table row ≡ accepted
look_passes {Rule} {fault} n table row test rule = refuse_none (look fault n 0) table row (look_fine fault n 0 (test.kept rule))

look_stops : {Rule : Type 0} {fault : Bool} (n table row : ℕ) → n ≢ 0 → Tests Rule fault → ¬ Rule
    → refuse (look fault n 0) table row ≡ refusal n table row
look_stops {Rule} {fault} n table row d test broken =
    ap (λ k. refuse k table row) (look_fault fault n 0 (faulty test broken)) ∙ refuse_some n table row d

-- the tables in turn, of which those with number 0 are accepted: the first that is refused has the answer
module _ (f : Table → Answer) (zero : (table : Table) → (f table).number ≡ 0 → f table ≡ accepted) where
  abbrev First : Answer → Type 0
  First a = (table : Table) × (a ≡ f table) × ((earlier : Table) → place_of earlier < place_of table → f earlier ≡ accepted)

  abbrev Looked : Type 0
  Looked = Stage ((table : Table) → f table ≡ accepted) First (tables_in_turn f)

  looked : Looked
  looked =
      in_turn_stage (λ table. f table ≡ accepted) First f
      (λ table before.
      ⊎_elim
      (λ (z : (f table).number ≡ 0). passed (zero table z) (zero table z))
      (λ (d : (f table).number ≢ 0). stopped d (table, refl, before))
      (zero_or_not (f table).number))

  tables_pass : ((table : Table) → f table ≡ accepted) → tables_in_turn f ≡ accepted
  tables_pass fine = go looked
    where
      go : Looked → tables_in_turn f ≡ accepted
      go (passed e all) = e
      go (stopped d why) = why.1 ∙ fine why.0

  table_stops : (table : Table) (r : Answer) → ((earlier : Table) → place_of earlier < place_of table → f earlier ≡ accepted)
      → f table ≡ r → r.number ≢ 0 → tables_in_turn f ≡ r
  table_stops table r before its bad = go looked
    where
      go : Looked → tables_in_turn f ≡ r
      go (passed e all) = absurd (bad (ap (λ (k : Answer). k.number) (sym its ∙ all table)))
      go (stopped d why) =
          why.1
          ∙ ap f
          (first_broken (λ k. f k ≡ accepted) why.0 table
          why.2 (λ e. d (ap (λ (k : Answer). k.number) (why.1 ∙ e)))
          before (λ e. bad (ap (λ (k : Answer). k.number) (sym its ∙ e))))
          ∙ its

module _ (head : Head) (t : Tables) (lent_charges lent_credits : ℕ) where
  -- the counts of the tables
  abbrev count_of : Table → Answer
  count_of table = counted table (length (words_of t table))

  count_zero : (table : Table) → (count_of table).number ≡ 0 → count_of table ≡ accepted
  unfolding counted
  count_zero table z = refuse_none _ (number table) 0 (sym (refuse_number _ (number table) 0) ∙ z)

  count_passes : (table : Table) → GoodCount t table → count_of table ≡ accepted
  unfolding counted
  count_passes table = look_passes COUNT (number table) 0 (count_tested t table)

  count_stops : (table : Table) → ¬ GoodCount t table → count_of table ≡ refusal COUNT (number table) 0
  unfolding counted
  count_stops table = look_stops COUNT (number table) 0 (omega arith) (count_tested t table)

  counts_pass : ((table : Table) → GoodCount t table) → counts_in_turn t ≡ accepted
  unfolding counts_in_turn
  counts_pass all = tables_pass count_of count_zero (λ table. count_passes table (all table))

  -- the room of an output
  room_passes : (output needed lent : ℕ) → needed ≤ lent → room_for output needed lent ≡ accepted
  unfolding room_for
  room_passes output needed lent = look_passes ROOM output 0 (at_least needed lent)

  room_stops : (output needed lent : ℕ) → lent < needed → room_for output needed lent ≡ refusal ROOM output 0
  unfolding room_for
  room_stops output needed lent short = look_stops ROOM output 0 (omega arith) (at_least needed lent) (λ (fits : needed ≤ lent). omega arith)

  abbrev charges_room : Answer
  charges_room = room_for CHARGES (rows Accounts t.accounts * charge_width) lent_charges

  abbrev credits_room : Answer
  credits_room = room_for CREDITS (rows Owners t.owners * credit_width) lent_credits

  abbrev head_read : Answer
  head_read = head_judged head

  abbrev all_rows : Answer
  all_rows = tables_in_turn (rows_judged head.days t)

  before_head : ((table : Table) → GoodCount t table) → Roomy t lent_charges lent_credits → (counts_in_turn t then charges_room then credits_room) ≡ accepted
  before_head all roomy =
      then_on (then_on (counts_pass all) (room_passes CHARGES _ lent_charges roomy.charges_fit)) (room_passes CREDITS _ lent_credits roomy.credits_fit)

  -- the head
  is_month_lem : InCalendar head.month head.days → is_month head.month head.days ≡ true
  is_month_lem = (month_exactly head.month head.days).1

  not_month : ¬ InCalendar head.month head.days → is_month head.month head.days ≡ false
  not_month none =
      ⊎_elim
      (λ (e : is_month head.month head.days ≡ true). absurd (none ((month_exactly head.month head.days).0 e)))
      (λ (e : is_month head.month head.days ≡ false). e)
      (true_or_false (is_month head.month head.days))

  no_month : ¬ InCalendar head.month head.days → head_judged head ≡ refusal MONTH numbers.HEAD 0
  unfolding head_looked
  no_month none = rw (not_month none) (refuse_some MONTH numbers.HEAD 0 (omega arith))

  head_stops : InCalendar head.month head.days → ¬ HeadInRange head → head_judged head ≡ refusal RANGE numbers.HEAD 0
  unfolding head_looked
  head_stops known out = rw (is_month_lem known) (look_stops RANGE numbers.HEAD 0 (omega arith) (head_range head) out)

  head_passes : GoodFrame head t lent_charges lent_credits → head_judged head ≡ accepted
  unfolding head_looked
  head_passes good = rw (is_month_lem good.month_known) (look_passes RANGE numbers.HEAD 0 (head_range head) good.head_in_range)

  -- the rows of a table
  rows_zero : (table : Table) → (rows_judged head.days t table).number ≡ 0 → rows_judged head.days t table ≡ accepted
  unfolding rows_judged
  rows_zero table z = first_none (number table) (row_of head.days t table) _ (first_all (number table) (row_of head.days t table) _ z)

  rows_pass : (table : Table) → GoodTable head.days t table → rows_judged head.days t table ≡ accepted
  unfolding rows_judged
  rows_pass table good = first_none (number table) (row_of head.days t table) _ (λ i b. row_fine head.days t table i (good i b))

  row_stops : (table : Table) (i n : ℕ) → RowRefused head t lent_charges lent_credits table i n → n ≢ 0
      → rows_judged head.days t table ≡ refusal n (number table) i
  unfolding rows_judged
  row_stops table i n why d =
      let its : row_of head.days t table i ≡ n = row_numbered head.days t table i n why.broken in
      first_at (number table) (row_of head.days t table) _ i why.is_row
      (λ j b. row_fine head.days t table j (why.earlier_rows j b)) (λ z. d (sym its ∙ z))
      ∙ ap (λ k. refuse k (number table) i) its
      ∙ refuse_some n (number table) i d

  abbrev Why : Answer → Type 0
  Why = Refused head t lent_charges lent_credits

  pub why_number : (a : Answer) → Why a → a.number ≢ 0
  why_number a (by_count table e before short) z = omega (arith, ap (λ (b : Answer). b.number) e)
  why_number a (by_charges e all short) z = omega (arith, ap (λ (b : Answer). b.number) e)
  why_number a (by_credits e all fit short) z = omega (arith, ap (λ (b : Answer). b.number) e)
  why_number a (by_month e all roomy bad) z = omega (arith, ap (λ (b : Answer). b.number) e)
  why_number a (by_head e all roomy known out) z = omega (arith, ap (λ (b : Answer). b.number) e)
  why_number a (by_row table i n e why) z = broken_number head.days t table i n why.broken (sym (ap (λ (b : Answer). b.number) e) ∙ z)

  pub why_judged : (a : Answer) → Why a → judged head t lent_charges lent_credits ≡ a
  unfolding judged counts_in_turn
  why_judged a why = go why (why_number a why)
    where
      go : Why a → a.number ≢ 0 → judged head t lent_charges lent_credits ≡ a
      go (by_count table e before short) d =
          then_stays d all_rows (then_stays d head_read (then_stays d credits_room (then_stays d charges_room
          (table_stops count_of count_zero table a (λ earlier l. count_passes earlier (before earlier l)) (count_stops table short ∙ sym e) d))))
      go (by_charges e all short) d =
          then_stays d all_rows (then_stays d head_read (then_stays d credits_room (then_on (counts_pass all) (room_stops CHARGES _ lent_charges short ∙ sym e))))
      go (by_credits e all fit short) d =
          then_stays d all_rows
          (then_stays d head_read (then_on (then_on (counts_pass all) (room_passes CHARGES _ lent_charges fit)) (room_stops CREDITS _ lent_credits short ∙ sym e)))
      go (by_month e all roomy bad) d = then_stays d all_rows (then_on (before_head all roomy) (no_month bad ∙ sym e))
      go (by_head e all roomy known out) d = then_stays d all_rows (then_on (before_head all roomy) (head_stops known out ∙ sym e))
      go (by_row table i n e why) d =
          then_on (then_on (before_head why.frame.counted why.frame.roomy) (head_passes why.frame))
          (table_stops (rows_judged head.days t) rows_zero table a (λ earlier l. rows_pass earlier (why.earlier_tables earlier l))
          (row_stops table i n why (broken_number head.days t table i n why.broken) ∙ sym e) d)

  pub judged_exactly : (a : Answer) → Why a ↔ ((judged head t lent_charges lent_credits ≡ a) × (a.number ≢ 0))
  judged_exactly a = (
    (λ why. (why_judged a why, why_number a why)),
    λ p. subst Why p.0 (judged_why head t lent_charges lent_credits (λ z. p.1 (ap (λ (b : Answer). b.number) (sym p.0) ∙ z))),
  )

  pub good_unrefused : GoodMonth head t lent_charges lent_credits → judged head t lent_charges lent_credits ≡ accepted
  unfolding judged
  good_unrefused good =
      then_on (then_on (before_head good.frame.counted good.frame.roomy) (head_passes good.frame))
      (tables_pass (rows_judged head.days t) rows_zero (λ table. rows_pass table (good.tables table)))
