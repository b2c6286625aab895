-- Dates of the civil calendar as texts.
use Rattle.std.specs.Prelude.{◌≡◌, ℕ, List, [], ◌∷◌, ◌++◌, ℤ, pos, ◌≤ℤ◌}
use Rattle.jiff_core.specs.declared.civil.date.Date.{Date}
use Rattle.jiff_core.specs.Date.{epoch_day}
use Rattle.jiff_fmt.specs.Text.{pad2, pad4, date_text}

-- the text is `YYYY-MM-DD`: the civil calendar's date, in the years 0 to 9999, of the day with this number
pub record IsDateText (number : ℤ) (text : List ℕ) : Type 0 where
  pub date : Date
  pub four_digits : pos 0 ≤ℤ date.year
  pub day : epoch_day date ≡ number
  pub spelled : date_text date ≡ text

-- by the civil calendar the day with this number is in this month, from 1 for January
pub record IsInMonth (number : ℤ) (month : ℕ) : Type 0 where
  pub date : Date
  pub day : epoch_day date ≡ number
  pub has_month : date.month ≡ month

-- a date's text: a year below 10000 in four digits, its month and day in two each
abbrev pub text_of : ℕ → ℕ → ℕ → List ℕ
text_of year month day = pad4 year ++ 45 ∷ [] ++ pad2 month ++ 45 ∷ [] ++ pad2 day
