-- What a settlement looks at before its divisions, in turn, and what comes of it.
-- Assumes nothing.
use Rattle.std.specs.Prelude.{◌≡◌, ℕ, ◌*◌, Bool, cond, not, ◌||◌, eqb, Result, Ok, Err}
use Rattle.answer.specs.declared.Answer.{Answer}
use Rattle.answer.specs.declared.Refused as refused
use Rattle.answer.specs.Numbers.{MONTH, RANGE, CHARGES, CREDITS}
use Rattle.answer.specs.Numbers as numbers
use Rattle.answer.specs.Turns.{look, accepted, refuse, ◌then◌, first}
use Rattle.answer.specs.Results.{refused_answer}
use Rattle.month.specs.declared.Month.{Month}
use Rattle.month.specs.Limits.{most_rate, last_weekday}
use Rattle.month.specs.Months.{is_month}
use Rattle.tables.specs.declared.Head.{Head}
use Rattle.tables.specs.declared.Table.{Table}
use Rattle.tables.specs.declared.Table.TheVariants.{Owners, Accounts}
use Rattle.tables.specs.Shape.{number, rows, charge_width, credit_width, Tables, words_of}
use Rattle.tables.specs.Counts.{tables_in_turn, counts_in_turn, room_for}
use Rattle.rows.specs.Rows.{outside, row_of}

-- RANGE of a head: the non-zone rate; then "a rate for each term, 0..10^8 cents per MW, and the weekday of day 1, 1..7 from Monday"
unfoldable pub head_outside : Head → Bool
head_outside head =
    outside 0 most_rate head.nonzone
    || outside 0 most_rate head.daily
    || outside 0 most_rate head.weekly
    || outside 0 most_rate head.monthly
    || outside 1 last_weekday head.weekday

-- "MONTH, the non-zone rate's RANGE", "RANGE for the head's new entries after the non-zone rate": whether there is no such month, and
-- the head
unfoldable pub head_looked : Bool → Head → Answer
head_looked none head = refuse (look none MONTH (look (head_outside head) RANGE 0)) numbers.HEAD 0

-- .. of a head whose month is looked up
abbrev pub head_judged : Head → Answer
head_judged head = head_looked (not (is_month head.month head.days)) head

-- a table "row by row"
unfoldable pub rows_judged : ℕ → Tables → Table → Answer
rows_judged days t table = first (number table) (row_of days t table) (rows table (words_of t table))

-- "A settlement looks at COUNT for tables 1 to 6, ROOM (charges are table 7, credits 8), MONTH, the non-zone rate's RANGE, then
-- tables 1 to 6 row by row", with table 10 "after table 6" both times; the last two arguments are the lengths of the lent outputs
unfoldable pub judged : Head → Tables → ℕ → ℕ → Answer
judged head t lent_charges lent_credits =
    counts_in_turn t
    then room_for CHARGES (rows Accounts t.accounts * charge_width) lent_charges
    then room_for CREDITS (rows Owners t.owners * credit_width) lent_credits
    then head_judged head
    then tables_in_turn (rows_judged head.days t)

-- the month that a head names
abbrev pub month_in : Head → Month
month_in head = record { number = head.month; days = head.days }

-- what comes of a month's input: its month, or the first refusal
pub data Judged : Type 0 where
  Good : Month → Judged
  Refused : Answer → Judged

-- a month where an answer accepts, and the answer where it refuses
unfoldable pub good_or : Month → Answer → Judged
good_or month a = cond (eqb a.number 0) (Good month) (Refused a)

-- what comes of a month's input: the month of its head where nothing is refused, else the refusal
abbrev pub judged_as : Head → Tables → ℕ → ℕ → Judged
judged_as head t lent_charges lent_credits = good_or (month_in head) (judged head t lent_charges lent_credits)

-- the paper's answer in each case: "acceptance answers 0, 0, 0", and a refusal its "number, table, row"
abbrev pub judged_answer : Judged → Answer
judged_answer (Good month) = accepted
judged_answer (Refused a) = a

-- .. of a result
abbrev pub judged_from : Result Month refused.Refused → Judged
judged_from (Ok month) = Good month
judged_from (Err r) = Refused (refused_answer r)

-- a month's input has this result
abbrev pub Judges : Head → Tables → ℕ → ℕ → Result Month refused.Refused → Type 0
Judges head t lent_charges lent_credits r = judged_from r ≡ judged_as head t lent_charges lent_credits
