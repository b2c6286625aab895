-- Dates of days in the Gregorian calendar.
use Rattle.std.specs.Prelude.{ℕ, zero, suc, ◌+◌, nat_lt, if◌then◌else◌, List, pos}
use Rattle.jiff_core.specs.Calendar.{days_in_month}
use Rattle.pt_base_values.specs.DateText.{IsDateText, text_of}
use Rattle.pt_base_values.specs.Day.{IsDay}

-- a date from 1970 on; month 1 is January
pub record CivilDate : Type 0 where
  pub year : ℕ
  pub month : ℕ
  pub day : ℕ

-- the next date: in the same month, in the next month, or in the next year
abbrev pub next_date : CivilDate → CivilDate
next_date date =
    if nat_lt date.day (days_in_month (pos date.year) date.month) then record date { day = date.day + 1 }
    else (if nat_lt date.month 12 then record { year = date.year; month = date.month + 1; day = 1 }
    else record { year = date.year + 1; month = 1; day = 1 })

-- the date of the day with this number: day 0 was 1 January 1970
unfoldable pub date_of : ℕ → CivilDate
date_of zero = record { year = 1970; month = 1; day = 1 }
date_of (suc day) = next_date (date_of day)

-- the date of a day as `YYYY-MM-DD`
unfoldable pub day_text : ℕ → List ℕ
day_text day = text_of (date_of day).year (date_of day).month (date_of day).day

-- the text is the one date of that day in the calendar
abbrev pub DayTextIsDate : Type 0
DayTextIsDate = (day : ℕ) → IsDay day → IsDateText (pos day) (day_text day)
