-- Laws of the month. The answer is by the test alone; a month's number and its days are within bounds; and the twelfths of the
-- months 1 to n add up to what these have together, since each is the difference of two neighbours.
-- Assumes nothing.
use mathlib.Core.Path.{◌≡◌, refl, sym, ap}
use mathlib.Core.Logic.{◌⊎◌, inl, inr, ⊎_elim}
use mathlib.Core.Bool.{Bool, true, false, cond, ◌&&◌, and-eq-true_iff}
use Prim.Native.Nat.{ℕ, zero, suc, ◌+◌, ◌-◌, ◌≤◌, ◌<◌}
use native.Mathlib.Nat.{mul-le-mul_left, add-sub_cancel}
use native.Mathlib.Numerals.{add-one}
use native.Mathlib.Omega.{arith}
use lib.Dec.{leb, eqb}
use borrow.Author.Tests.{leb-true, eqb-true}
use Rattle.std.specs.Prelude.{Some, None}
use Rattle.lists.specs.Sums.{sum_to, at, every}
use Rattle.lists.proofs.Sums.{every_at, either}
use Rattle.month.specs.declared.Month.{Month}
use Rattle.month.specs.Quantities.{most_days}
use Rattle.month.specs.Months.{months, lengths, february, leap_length, is_length, is_month, made_of, through, twelfth}

picked : (t : Bool) (a m : Month) → cond t (Some a) None ≡ Some m → (t ≡ true) × (m ≡ a)
picked true a m e = (refl, cc)
picked false a m e = let z : ◌≡◌ {A = ℕ} 0 1 = cc in absurd (omega arith)

-- a month that was made is the one asked for, and one of the calendar
pub made_good : (month days : ℕ) (m : Month) → made_of month days ≡ Some m → (is_month month days ≡ true) × (m ≡ record { number = month; days = days })
unfolding made_of
made_good month days m e = picked (is_month month days) (record { number = month; days = days }) m e

not_picked : (t : Bool) (a : Month) → cond t (Some a) None ≡ None → t ≡ false
not_picked true a e = let z : ◌≡◌ {A = ℕ} 0 1 = cc in absurd (omega arith)
not_picked false a e = refl

-- where none was made there is none
pub made_bad : (month days : ℕ) → made_of month days ≡ None → is_month month days ≡ false
unfolding made_of
made_bad month days e = not_picked (is_month month days) (record { number = month; days = days }) e

-- the longest of the lengths
lengths_within : (i : ℕ) → i < months → at lengths i ≤ most_days
unfolding every
lengths_within i h = leb-true _ _ (every_at months (λ k. leb (at lengths k) most_days) refl i h)

-- a length is the list's, or the longer one of February
pub length_is : (month days : ℕ) → is_length month days ≡ true → (days ≡ at lengths (month - 1)) ⊎ ((month ≡ february) × (days ≡ leap_length))
length_is month days e =
    ⊎_elim
    (λ (p : eqb days (at lengths (month - 1)) ≡ true). inl (eqb-true days (at lengths (month - 1)) p))
    (λ (p : (eqb month february && eqb days leap_length) ≡ true).
    let both = (and-eq-true_iff (eqb month february) (eqb days leap_length)).0 p in
    inr (eqb-true month february both.0, eqb-true days leap_length both.1))
    (either (eqb days (at lengths (month - 1))) (eqb month february && eqb days leap_length) e)

length_within : (month days : ℕ) → month ≤ months → is_length month days ≡ true → days ≤ most_days
length_within month days h e =
    ⊎_elim
    (λ (p : days ≡ at lengths (month - 1)).
    let place : month - 1 < months = omega arith in
    omega (arith, lengths_within (month - 1) place))
    (λ (p : (month ≡ february) × (days ≡ leap_length)). omega (arith, p.1))
    (length_is month days e)

-- a month is one of twelve and has no more days than the longest
pub record InYear (month days : ℕ) : Type 0 where
  pub first : 1 ≤ month
  pub last : month ≤ months
  pub short : days ≤ most_days

pub month_within : (month days : ℕ) → is_month month days ≡ true → InYear month days
unfolding is_month
month_within month days e =
    let parts = (and-eq-true_iff (leb 1 month && leb month months) (is_length month days)).0 e in
    let ends = (and-eq-true_iff (leb 1 month) (leb month months)).0 parts.0 in
    let last : month ≤ months = leb-true month months ends.1 in
    record { first = leb-true 1 month ends.0; last = last; short = length_within month days last parts.1 }

through_none : (annual : ℕ) → through 0 annual ≡ 0
unfolding through
through_none annual = omega arith

pub through_all : (annual : ℕ) → through months annual ≡ annual
unfolding through
through_all annual = omega arith

-- the months through one have no less than those before it
pub through_grows : (month annual : ℕ) → through (month - 1) annual ≤ through month annual
unfolding through
through_grows month annual =
    let before : month - 1 ≤ month = omega arith in
    omega (arith, mul-le-mul_left annual before)

-- the twelfths of the months 1, 2, .. n add up to what these have together
pub twelfths_through : (n annual : ℕ) → sum_to n (λ i. twelfth (i + 1) annual) ≡ through n annual
unfolding sum_to twelfth
twelfths_through zero annual = sym (through_none annual)
twelfths_through (suc n) annual =
    let before : through (n + 1 - 1) annual ≡ through n annual = ap (λ m. through m annual) (add-sub_cancel n 1) in
    let next : through (n + 1) annual ≡ through (suc n) annual = ap (λ m. through m annual) (add-one n) in
    omega (arith, twelfths_through n annual, through_grows (n + 1) annual)

-- a month has no more than the annual figure
pub twelfth_within : (month annual : ℕ) → month ≤ months → twelfth month annual ≤ annual
unfolding twelfth through
twelfth_within month annual h = omega (arith, mul-le-mul_left annual h)
