-- The month: its number, its length and its twelfth of an annual figure.
-- Assumes nothing.
use Rattle.std.specs.Prelude.{ℕ, ◌*◌, ◌/◌, ◌-◌, Bool, cond, ◌&&◌, ◌||◌, List, [], ◌∷◌, eqb, leb, Option, Some, None}
use Rattle.lists.specs.Sums.{at}
use Rattle.answer.specs.Numbers.{MONTH}
use Rattle.month.specs.declared.Month.{Month}

-- "month 1..12"
abbrev pub months : ℕ
months = 12

-- "the month's length", January's first; February's is the shorter one
abbrev pub lengths : List ℕ
lengths = 31 ∷ 28 ∷ 31 ∷ 30 ∷ 31 ∷ 30 ∷ 31 ∷ 31 ∷ 30 ∷ 31 ∷ 30 ∷ 31 ∷ []

-- the month whose length is "28 or 29"
abbrev pub february : ℕ
february = 2

-- .. and the longer one of the two
abbrev pub leap_length : ℕ
leap_length = 29

-- "Days must be the month's length, February 28 or 29"
abbrev pub is_length : ℕ → ℕ → Bool
is_length month days = eqb days (at lengths (month - 1)) || (eqb month february && eqb days leap_length)

-- "month not 1..12, or days not its length", turned round
unfoldable pub is_month : ℕ → ℕ → Bool
is_month month days = leb 1 month && leb month months && is_length month days

-- what comes of a number of a month and a number of days
unfoldable pub made_of : ℕ → ℕ → Option Month
made_of month days = cond (is_month month days) (Some (record { number = month; days = days })) None

-- the paper's number of what was made: 0, or MONTH
abbrev pub made_number : Option Month → ℕ
made_number (Some m) = 0
made_number None = MONTH

-- the month that was made; none is zeros
abbrev pub made_month : Option Month → Month
made_month (Some m) = m
made_month None = record { number = 0; days = 0 }

-- "the whole part of annual times m over 12": what the months 1, 2, .. m have together
unfoldable pub through : ℕ → ℕ → ℕ
through month annual = annual * month / months

-- ".. less the whole part of annual times (m-1) over 12"
unfoldable pub twelfth : ℕ → ℕ → ℕ
twelfth month annual = through month annual - through (month - 1) annual
