-- The test of a month is the calendar, month by month: each length is looked up in the list.
-- Assumes nothing.
use mathlib.Core.Path.{◌≡◌, refl, ap₂}
use mathlib.Core.Logic.{⊎_elim}
use mathlib.Core.Bool.{true, ◌&&◌, and-eq-true_iff}
use Prim.Native.Nat.{ℕ, zero, suc, ◌-◌, ◌≤◌}
use native.Mathlib.Omega.{arith}
use lib.Dec.{leb}
use Rattle.lists.specs.Sums.{at}
use Rattle.month.specs.Months.{months, lengths, february, leap_length, is_length, is_month}
use Rattle.month.specs.Calendar.{
  InCalendar,
  in_january,
  in_february,
  in_leap_february,
  in_march,
  in_april,
  in_may,
  in_june,
  in_july,
  in_august,
  in_september,
  in_october,
  in_november,
  in_december,
}
use Rattle.month.proofs.Months.{length_is, month_within}

-- the length that the list has for a month
listed_length : (month days : ℕ) → 1 ≤ month → month ≤ months → days ≡ at lengths (month - 1) → InCalendar month days
listed_length zero days first last e = absurd (omega arith)
listed_length (suc zero) days first last e = in_january refl e
listed_length (suc (suc zero)) days first last e = in_february refl e
listed_length (suc (suc (suc zero))) days first last e = in_march refl e
listed_length (suc (suc (suc (suc zero)))) days first last e = in_april refl e
listed_length (suc (suc (suc (suc (suc zero))))) days first last e = in_may refl e
listed_length (suc (suc (suc (suc (suc (suc zero)))))) days first last e = in_june refl e
listed_length (suc (suc (suc (suc (suc (suc (suc zero))))))) days first last e = in_july refl e
listed_length (suc (suc (suc (suc (suc (suc (suc (suc zero)))))))) days first last e = in_august refl e
listed_length (suc (suc (suc (suc (suc (suc (suc (suc (suc zero))))))))) days first last e = in_september refl e
listed_length (suc (suc (suc (suc (suc (suc (suc (suc (suc (suc zero)))))))))) days first last e = in_october refl e
listed_length (suc (suc (suc (suc (suc (suc (suc (suc (suc (suc (suc zero))))))))))) days first last e = in_november refl e
listed_length (suc (suc (suc (suc (suc (suc (suc (suc (suc (suc (suc (suc zero)))))))))))) days first last e = in_december refl e
listed_length (suc (suc (suc (suc (suc (suc (suc (suc (suc (suc (suc (suc (suc n))))))))))))) days first last e = absurd (omega arith)

pub month_calendar : (month days : ℕ) → is_month month days ≡ true → InCalendar month days
unfolding is_month
month_calendar month days e =
    let within = month_within month days e in
    ⊎_elim
    (λ (listed : days ≡ at lengths (month - 1)). listed_length month days within.first within.last listed)
    (λ (leap : (month ≡ february) × (days ≡ leap_length)). in_leap_february leap.0 leap.1)
    (length_is month days ((and-eq-true_iff (leb 1 month && leb month months) (is_length month days)).0 e).1)

pub calendar_month : (month days : ℕ) → InCalendar month days → is_month month days ≡ true
unfolding is_month
calendar_month month days (in_january m d) = ap₂ is_month m d
calendar_month month days (in_february m d) = ap₂ is_month m d
calendar_month month days (in_leap_february m d) = ap₂ is_month m d
calendar_month month days (in_march m d) = ap₂ is_month m d
calendar_month month days (in_april m d) = ap₂ is_month m d
calendar_month month days (in_may m d) = ap₂ is_month m d
calendar_month month days (in_june m d) = ap₂ is_month m d
calendar_month month days (in_july m d) = ap₂ is_month m d
calendar_month month days (in_august m d) = ap₂ is_month m d
calendar_month month days (in_september m d) = ap₂ is_month m d
calendar_month month days (in_october m d) = ap₂ is_month m d
calendar_month month days (in_november m d) = ap₂ is_month m d
calendar_month month days (in_december m d) = ap₂ is_month m d
