-- Days of the calendar from 1970 on.
use Rattle.std.proofs.Common.{◌≡◌, ℕ, ◌<◌, ◌+◌, ◌/◌, ◌%◌, get_or, unsigned_abs, List, ◌++◌, [], ◌∷◌, refl, sym, ap, ◌∙◌, arith, ℤ, pos, negsuc, ◌≤ℤ◌, ◌<ℤ◌}
use Rattle.std.proofs.lemmas.Int.{ints}
use Rattle.jiff_core.specs.Calendar.{IsCivilDate, days_from_civil, day_count}
use Rattle.jiff_core.specs.Date.{epoch_day}
use Rattle.jiff_core.specs.declared.civil.date.Date.{Date}
use Rattle.jiff_core.proofs.CalendarLemmas.{days_from_civil-day_count, day_count-lt_year, day_count-epoch}
use Rattle.jiff_core.proofs.DateLemmas.{civil, epoch_day_injective, epoch_day_same}
use Rattle.jiff_fmt.specs.Text.{pad2, year_text, date_text}
use Rattle.pt_base_values.specs.DateText.{IsDateText, IsInMonth, text_of}
use Rattle.pt_base_values.proofs.DateTextLemmas.{date_text-text_of, pos-unsigned_abs}

year_from : (y : ℤ) (m d n : ℕ) → IsCivilDate y m d → days_from_civil y m d ≡ pos n → pos 0 ≤ℤ y
year_from (pos k) m d n is day = omega (arith, ints)
year_from (negsuc k) m d n is day =
    let earlier : negsuc k <ℤ pos 1970 = omega (arith, ints) in
    let less : day_count (negsuc k) m d < day_count (pos 1970) 1 1 = day_count-lt_year (negsuc k) m d (pos 1970) 1 1 is (omega arith) earlier in
    let counted = days_from_civil-day_count (negsuc k) m d in
    absurd (omega (arith, ints, rw day at counted, rw day_count-epoch at less))

-- a day from 1970 on lies in no year before 0
pub epoch_day-four_digits : (date : Date) (n : ℕ) → epoch_day date ≡ pos n → pos 0 ≤ℤ date.year
epoch_day-four_digits date n day = year_from date.year date.month date.day n (civil date) day

same_text : (y y' : ℤ) (m m' d d' : ℕ) → y ≡ y' → m ≡ m' → d ≡ d' → year_text y ++ 45 ∷ [] ++ pad2 m ++ 45 ∷ [] ++ pad2 d ≡ year_text y' ++ 45 ∷ [] ++ pad2 m' ++ 45 ∷ [] ++ pad2 d'
same_text y y' m m' d d' a b c = rw (a, b, c) refl

-- a day has one text
pub date_text-unique : (a b : Date) → epoch_day a ≡ epoch_day b → date_text a ≡ date_text b
date_text-unique a b same =
    let is = epoch_day_injective a b same in
    same_text a.year b.year a.month b.month a.day b.day is.0 is.1 is.2

-- and each text is of one day
pub IsDateText-text : (date : Date) (number : ℤ) (text : List ℕ) → epoch_day date ≡ number → IsDateText number text → date_text date ≡ text
IsDateText-text date number text day is = date_text-unique date is.date (day ∙ sym is.day) ∙ is.spelled

-- a text of digits has one year, month and day
text_of_injective : (y m d y' m' d' : ℕ) → text_of y m d ≡ text_of y' m' d' → (y ≡ y') × (m ≡ m') × (d ≡ d')
text_of_injective y m d y' m' d' same =
    let y0 : 48 + (y / 100) / 10 ≡ 48 + (y' / 100) / 10 = ap (λ t. get_or t 0 0) same in
    let y1 : 48 + (y / 100) % 10 ≡ 48 + (y' / 100) % 10 = ap (λ t. get_or t 1 0) same in
    let y2 : 48 + (y % 100) / 10 ≡ 48 + (y' % 100) / 10 = ap (λ t. get_or t 2 0) same in
    let y3 : 48 + (y % 100) % 10 ≡ 48 + (y' % 100) % 10 = ap (λ t. get_or t 3 0) same in
    let m0 : 48 + m / 10 ≡ 48 + m' / 10 = ap (λ t. get_or t 5 0) same in
    let m1 : 48 + m % 10 ≡ 48 + m' % 10 = ap (λ t. get_or t 6 0) same in
    let d0 : 48 + d / 10 ≡ 48 + d' / 10 = ap (λ t. get_or t 8 0) same in
    let d1 : 48 + d % 10 ≡ 48 + d' % 10 = ap (λ t. get_or t 9 0) same in
    (omega arith, omega arith, omega arith)

-- all dates with one text are the same day
pub IsDateText-day : (date : Date) (text : List ℕ) (number : ℤ) → date_text date ≡ text → pos 0 ≤ℤ date.year → IsDateText number text → epoch_day date ≡ number
IsDateText-day date text number spelled four is =
    let texts : text_of (unsigned_abs date.year) date.month date.day ≡ text_of (unsigned_abs is.date.year) is.date.month is.date.day =
    sym (date_text-text_of date four) ∙ spelled ∙ sym is.spelled ∙ date_text-text_of is.date is.four_digits in
    let numbers = text_of_injective _ _ _ _ _ _ texts in
    let years : date.year ≡ is.date.year = sym (pos-unsigned_abs date.year four) ∙ ap pos numbers.0 ∙ pos-unsigned_abs is.date.year is.four_digits in
    epoch_day_same date is.date years numbers.1 numbers.2 ∙ is.day

-- a day is in one month
pub IsInMonth-month : (number : ℤ) (a b : ℕ) → IsInMonth number a → IsInMonth number b → a ≡ b
IsInMonth-month number a b p q = sym p.has_month ∙ (epoch_day_injective p.date q.date (p.day ∙ sym q.day)).1 ∙ q.has_month
