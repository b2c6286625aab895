-- The dates, day by day, are those of the Gregorian calendar.
use Rattle.std.proofs.Common.{◌≡◌, ◌∙◌, refl, ap, ℕ, zero, suc, ◌+◌, ◌<◌, ◌≤◌, Bool, true, false, List, arith, ℤ, pos}
use Rattle.std.proofs.lemmas.Int.{ints}
use Rattle.std.proofs.lemmas.Bool.Decides.{nat_tests}
use Rattle.std.specs.Int.{IsInRange}
use Rattle.std.specs.Prelude.{nat_lt, if◌then◌else◌}
use Rattle.jiff_core.proofs.CalendarLemmas.{day_count-epoch, days_from_civil-day_count, day_count-later_year, day_count-next_year, day_count-day_of_year, day_count-end, days_in_month_bounds}
use Rattle.jiff_core.proofs.DateLemmas.{epoch_day_range, days_from_civil-day, days_from_civil-next_month, days_from_civil-next_year}
use Rattle.jiff_core.specs.Calendar.{days_from_civil, days_in_month}
use Rattle.pt_base_values.specs.DateText.{IsDateText}
use Rattle.pt_manifest.specs.Days.{CivilDate, next_date, date_of, day_text, DayTextIsDate}

-- the calendar has the date, and it is that of the day with this number
record IsDateOf (day : ℕ) (date : CivilDate) : Type 0 where
  in_year : IsInRange 1 12 date.month
  in_month : IsInRange 1 (days_in_month (pos date.year) date.month) date.day
  counted : days_from_civil (pos date.year) date.month date.day ≡ pos day

either : (P : CivilDate → Type 0) (test : Bool) (one other : CivilDate) → (test ≡ true → P one) → (test ≡ false → P other)
    → P (if test then one else other)
either P true one other whether otherwise = whether refl
either P false one other whether otherwise = otherwise refl

below-test : (a b : ℕ) → nat_lt a b ≡ true → a < b
below-test a b test = grind (arith, nat_tests)

above-test : (a b : ℕ) → nat_lt a b ≡ false → b ≤ a
above-test a b test = grind (arith, nat_tests)

in_same_month : (day : ℕ) (date : CivilDate) → IsDateOf day date → nat_lt date.day (days_in_month (pos date.year) date.month) ≡ true
    → IsDateOf (suc day) (record { year = date.year; month = date.month; day = date.day + 1 })
in_same_month day date is before =
    let first = is.in_month.0 in
    let below = below-test _ _ before in
    let step = days_from_civil-day (pos date.year) date.month date.day (date.day + 1) first (omega arith) in
    record { in_year = is.in_year; in_month = (omega arith, omega arith); counted = omega (arith, ints, step, is.counted) }

in_next_month : (day : ℕ) (date : CivilDate) → IsDateOf day date → nat_lt date.day (days_in_month (pos date.year) date.month) ≡ false
    → nat_lt date.month 12 ≡ true → IsDateOf (suc day) (record { year = date.year; month = date.month + 1; day = 1 })
in_next_month day date is last before =
    let least = is.in_year.0 in
    let below = below-test _ _ before in
    let above = above-test _ _ last in
    let most = is.in_month.1 in
    let step = days_from_civil-next_month (pos date.year) date.month date.day least (omega arith) in
    let long = (days_in_month_bounds (pos date.year) (date.month + 1)).1 in
    record { in_year = (omega arith, omega arith); in_month = (omega arith, omega arith); counted = omega (arith, ints, step, is.counted) }

december-days : (year : ℤ) (month day : ℕ) → month ≡ 12 → day ≡ days_in_month year month → day ≡ 31
december-days year month day december last = last ∙ ap (days_in_month year) december

in_next_year : (day : ℕ) (date : CivilDate) → IsDateOf day date → nat_lt date.day (days_in_month (pos date.year) date.month) ≡ false
    → nat_lt date.month 12 ≡ false → IsDateOf (suc day) (record { year = date.year + 1; month = 1; day = 1 })
in_next_year day date is last over =
    let most_days = is.in_month.1 in
    let above = above-test _ _ last in
    let most_months = is.in_year.1 in
    let beyond = above-test _ _ over in
    let december : date.month ≡ 12 = omega arith in
    let end : date.day ≡ 31 = december-days (pos date.year) date.month date.day december (omega arith) in
    let counted : days_from_civil (pos date.year) 12 31 ≡ pos day = rw (december, end) at is.counted in
    let step = days_from_civil-next_year (pos date.year) (pos (date.year + 1)) (omega (arith, ints)) (omega (arith, ints)) in
    let long = (days_in_month_bounds (pos (date.year + 1)) 1).1 in
    record { in_year = (omega arith, omega arith); in_month = (omega arith, omega arith); counted = omega (arith, ints, step, counted) }

next_date-is : (day : ℕ) (date : CivilDate) → IsDateOf day date → IsDateOf (suc day) (next_date date)
next_date-is day date is =
    either (IsDateOf (suc day)) (nat_lt date.day (days_in_month (pos date.year) date.month)) _ _ (in_same_month day date is)
    (λ last. either (IsDateOf (suc day)) (nat_lt date.month 12) _ _ (in_next_month day date is last) (in_next_year day date is last))

first_date-is : IsDateOf 0 (record { year = 1970; month = 1; day = 1 })
first_date-is =
    let long = (days_in_month_bounds (pos 1970) 1).1 in
    let count = days_from_civil-day_count (pos 1970) 1 1 in
    record { in_year = (omega arith, omega arith); in_month = (omega arith, omega arith); counted = omega (arith, ints, count, day_count-epoch) }

date_of-is : (day : ℕ) → IsDateOf day (date_of day)
unfolding date_of
date_of-is zero = first_date-is
date_of-is (suc day) = next_date-is day (date_of day) (date_of-is day)

-- no day up to 9999-12-31 is in a later year
year-over : (day : ℕ) (date : CivilDate) → IsDateOf day date → day ≤ 2_932_896 → 9999 < date.year → ⊥
year-over day date is within over =
    let later = day_count-later_year (pos 9999) (pos date.year) (omega (arith, ints)) (omega (arith, ints)) in
    let next = day_count-next_year (pos 9999) (pos 10000) (omega (arith, ints)) (omega (arith, ints)) in
    let in_year = day_count-day_of_year (pos date.year) date.month date.day is.in_month.0 in
    let from_epoch = days_from_civil-day_count (pos date.year) date.month date.day in
    let count = rw is.counted at from_epoch in
    omega (arith, ints, later, next, day_count-end, in_year, count)

year-in : (day : ℕ) (date : CivilDate) → IsDateOf day date → day ≤ 2_932_896 → date.year ≤ 9999
year-in day date is within = let over = year-over day date is within in omega arith

date_text-is : (day : ℕ) → day ≤ 2_932_896 → IsDateText (pos day) (day_text day)
unfolding day_text
date_text-is day within =
    let is = date_of-is day in
    let low = year-in day (date_of day) is within in
    record {
      date = record {
        year = pos (date_of day).year;
        month = (date_of day).month;
        day = (date_of day).day;
        year_in = (omega (arith, ints), omega (arith, ints));
        month_in = is.in_year;
        day_in = is.in_month;
      };
      four_digits = omega (arith, ints);
      day = is.counted;
      spelled = refl;
    }

pub day_text-is_date : DayTextIsDate
day_text-is_date day is_day = let last = is_day.1 in date_text-is day (omega arith)

-- if a day has a date text at all, it is this one
pub day_text-named : (day : ℕ) (text : List ℕ) → IsDateText (pos day) text → IsDateText (pos day) (day_text day)
day_text-named day text is =
    let last = (epoch_day_range is.date).1 in
    let within = rw is.day at last in
    date_text-is day (omega (arith, ints))
