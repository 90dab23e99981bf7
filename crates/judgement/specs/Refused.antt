-- What a refusal says: which rule is broken where, and that all that is looked at earlier is right.
-- Assumes nothing.
use Rattle.std.specs.Prelude.{◌≡◌, ℕ, ◌*◌, ◌<◌, ◌≤◌}
use Rattle.answer.specs.declared.Answer.{Answer}
use Rattle.answer.specs.Numbers.{COUNT, ROOM, MONTH, RANGE, ORDER, LINK, PAIR, CHARGES, CREDITS}
use Rattle.answer.specs.Numbers as numbers
use Rattle.answer.specs.Turns.{refusal}
use Rattle.month.specs.Calendar.{InCalendar}
use Rattle.tables.specs.declared.Head.{Head}
use Rattle.tables.specs.declared.Table.{Table}
use Rattle.tables.specs.declared.Table.TheVariants.{Owners, Accounts}
use Rattle.tables.specs.Shape.{place_of, number, charge_width, credit_width, rows, Tables, words_of}
use Rattle.tables.specs.Counts.{GoodCount}
use Rattle.judgement.specs.Good.{InRange, Ascending, Linked, Unpaired, GoodRow, GoodTable, HeadInRange, Roomy, GoodFrame}

-- "in a row RANGE, ORDER, LINK, PAIR": n is the number of the first of row i's rules that is broken
module _ (days : ℕ) (t : Tables) (table : Table) (i n : ℕ) where
  pub data FirstBroken : Type 0 where
    by_range : n ≡ RANGE → ¬ InRange days t table i → FirstBroken
    by_order : n ≡ ORDER → InRange days t table i → ¬ Ascending t table i → FirstBroken
    by_link : n ≡ LINK → InRange days t table i → Ascending t table i → ¬ Linked t table i → FirstBroken
    by_pair : n ≡ PAIR → InRange days t table i → Ascending t table i → Linked t table i → ¬ Unpaired t table i → FirstBroken

module _ (head : Head) (t : Tables) (lent_charges lent_credits : ℕ) where
  -- row i of a table is the first that is not good, in the first table that is not
  pub record RowRefused (table : Table) (i n : ℕ) : Type 0 where
    pub frame : GoodFrame head t lent_charges lent_credits
    pub earlier_tables : (earlier : Table) → place_of earlier < place_of table → GoodTable head.days t earlier
    pub is_row : i < rows table (words_of t table)
    pub earlier_rows : (j : ℕ) → j < i → GoodRow head.days t table j
    pub broken : FirstBroken head.days t table i n

  -- the answer a refuses, and why; "row from 0; 0 for COUNT, ROOM and the head"
  pub data Refused (a : Answer) : Type 0 where
    by_count :
        (table : Table)
        → a ≡ refusal COUNT (number table) 0
        → ((earlier : Table) → place_of earlier < place_of table → GoodCount t earlier)
        → ¬ GoodCount t table
        → Refused a
    by_charges :
        a ≡ refusal ROOM CHARGES 0
        → ((table : Table) → GoodCount t table)
        → lent_charges < rows Accounts t.accounts * charge_width
        → Refused a
    by_credits :
        a ≡ refusal ROOM CREDITS 0
        → ((table : Table) → GoodCount t table)
        → rows Accounts t.accounts * charge_width ≤ lent_charges
        → lent_credits < rows Owners t.owners * credit_width
        → Refused a
    by_month :
        a ≡ refusal MONTH numbers.HEAD 0
        → ((table : Table) → GoodCount t table)
        → Roomy t lent_charges lent_credits
        → ¬ InCalendar head.month head.days
        → Refused a
    by_head :
        a ≡ refusal RANGE numbers.HEAD 0
        → ((table : Table) → GoodCount t table)
        → Roomy t lent_charges lent_credits
        → InCalendar head.month head.days
        → ¬ HeadInRange head
        → Refused a
    by_row : (table : Table) (i n : ℕ) → a ≡ refusal n (number table) i → RowRefused table i n → Refused a
