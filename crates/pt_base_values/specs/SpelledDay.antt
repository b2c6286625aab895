-- Days written as `YYYY-MM-DD`.
use Rattle.std.specs.Prelude.{ℕ, ◌+◌, ◌*◌, ◌-◌, ◌&&◌, ℤ, pos, negsuc, Bool, List, Option, Some, None, slice_index}
use Rattle.std.specs.Prelude.{nat_le}
use Rattle.std.specs.Prelude.{bytes_eq, if◌then◌else◌}
use Rattle.jiff_core.specs.Calendar.{days_from_civil, days_in_month}
use Rattle.pt_base_values.specs.DateText.{IsDateText, text_of}
use Rattle.pt_base_values.specs.Day.{IsDay}
use Rattle.pt_base_values.specs.Ranges.{first_day, last_day}
use Rattle.pt_base_values.specs.SpelledNumber.{is_within}

-- the text is the day with this number, of the years 2000 to 2099, as `YYYY-MM-DD`
abbrev pub SpellsDay : List ℕ → ℕ → Type 0
SpellsDay text day = IsDay day × IsDateText (pos day) text

-- the value of the digit at this place of a text
abbrev pub digit_at : List ℕ → ℕ → ℕ
digit_at text place = slice_index text place - 48

-- the year, the month and the day of the month at their places in a text `YYYY-MM-DD`
abbrev pub year_in : List ℕ → ℕ
year_in text = digit_at text 0 * 1000 + digit_at text 1 * 100 + digit_at text 2 * 10 + digit_at text 3

abbrev pub month_in : List ℕ → ℕ
month_in text = digit_at text 5 * 10 + digit_at text 6

abbrev pub date_in : List ℕ → ℕ
date_in text = digit_at text 8 * 10 + digit_at text 9

-- the calendar has this date
abbrev pub has_date : ℕ → ℕ → ℕ → Bool
has_date year month day =
    nat_le year 9_999 && is_within 1 12 month && is_within 1 (days_in_month (pos year) month) day

-- the day's number if it lies in the years 2000 to 2099, else None
abbrev pub of_century : ℤ → Option ℕ
of_century (pos day) = if is_within first_day last_day day then Some day else None
of_century (negsuc before) = None

-- the number of this date if the text spells it and the calendar has it in 2000 to 2099, else None
abbrev pub day_of_date : List ℕ → ℕ → ℕ → ℕ → Option ℕ
day_of_date text year month day =
    if bytes_eq (text_of year month day) text && has_date year month day then of_century (days_from_civil (pos year)
    month day)
    else None

-- the day that a text `YYYY-MM-DD` spells, else None
unfoldable pub day_from : List ℕ → Option ℕ
day_from text = day_of_date text (year_in text) (month_in text) (date_in text)
