-- The calendar, month by month.
-- Assumes nothing.
use Rattle.std.specs.Prelude.{◌≡◌, ℕ}

-- "month 1..12", and "the month's length, February 28 or 29"
pub data InCalendar (month days : ℕ) : Type 0 where
  in_january : month ≡ 1 → days ≡ 31 → InCalendar month days
  in_february : month ≡ 2 → days ≡ 28 → InCalendar month days
  in_leap_february : month ≡ 2 → days ≡ 29 → InCalendar month days
  in_march : month ≡ 3 → days ≡ 31 → InCalendar month days
  in_april : month ≡ 4 → days ≡ 30 → InCalendar month days
  in_may : month ≡ 5 → days ≡ 31 → InCalendar month days
  in_june : month ≡ 6 → days ≡ 30 → InCalendar month days
  in_july : month ≡ 7 → days ≡ 31 → InCalendar month days
  in_august : month ≡ 8 → days ≡ 31 → InCalendar month days
  in_september : month ≡ 9 → days ≡ 30 → InCalendar month days
  in_october : month ≡ 10 → days ≡ 31 → InCalendar month days
  in_november : month ≡ 11 → days ≡ 30 → InCalendar month days
  in_december : month ≡ 12 → days ≡ 31 → InCalendar month days
