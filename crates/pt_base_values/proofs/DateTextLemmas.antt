-- Dates and the numbers in their texts.
use Rattle.std.proofs.Common.{rules, unwrap_or, ◌≡◌, ℕ, ◌<◌, ◌≤◌, ◌↔◌, List, [], ◌∷◌, ◌++◌, Option, Some, IsNone, Result, Ok, Err, IsOk, refl, sym, ap, ◌∙◌, arith, ℤ, pos, negsuc, ◌≤ℤ◌, unsigned_abs}
use Rattle.std.proofs.lemmas.Int.{ints}
use Rattle.std.specs.Result.{result_ok}
use Rattle.jiff_core.specs.Calendar.{IsDate, IsYear}
use Rattle.jiff_core.specs.declared.civil.date.Date.{Date}
use Rattle.jiff_core.proofs.CalendarLemmas.{days_in_month_bounds}
use Rattle.jiff_fmt.specs.Text.{pad2, year_text, date_text}
use Rattle.pt_base_values.specs.DateText.{text_of}

spelled_of : (y : ℤ) (m d : ℕ) → pos 0 ≤ℤ y → year_text y ++ 45 ∷ [] ++ pad2 m ++ 45 ∷ [] ++ pad2 d ≡ text_of (unsigned_abs y) m d
spelled_of (pos n) m d h = refl
spelled_of (negsuc n) m d h = absurd (omega (arith, ints))

-- a date's text has its numbers
pub date_text-text_of : (date : Date) → pos 0 ≤ℤ date.year → date_text date ≡ text_of (unsigned_abs date.year) date.month date.day
date_text-text_of date h = spelled_of date.year date.month date.day h

pub pos-unsigned_abs : (y : ℤ) → pos 0 ≤ℤ y → pos (unsigned_abs y) ≡ y
pos-unsigned_abs (pos n) h = refl
pos-unsigned_abs (negsuc n) h = absurd (omega (arith, ints))

is_date : (date : Date) → IsDate date.year (pos date.month) (pos date.day)
is_date date =
    let month_in = date.month_in in
    let day_in = date.day_in in
    (date.year_in, (omega (arith, ints), omega (arith, ints)), (omega (arith, ints), omega (arith, ints)))

-- the numbers of a date's text, in any integer type, make a date
pub numbers_make_date : (date : Date) (text : List ℕ) (numbers : Option (ℕ × ℕ × ℕ)) (y m d : ℕ) (year month day : ℤ) → pos 0 ≤ℤ date.year → date_text date ≡ text
    → ((year month day : ℕ) → year < 10_000 → month < 100 → day < 100 → (numbers ≡ Some (year, month, day)) ↔ (text_of year month day ≡ text))
    → numbers ≡ Some (y, m, d) → year ≡ pos y → month ≡ pos m → day ≡ pos d → IsDate year month day
numbers_make_date date text numbers y m d year month day four spelled reads is year_is month_is day_is =
    let year_in : IsYear date.year = date.year_in in
    let month_in = date.month_in in
    let day_in = date.day_in in
    let whole : pos (unsigned_abs date.year) ≡ date.year = pos-unsigned_abs date.year four in
    let year_below : unsigned_abs date.year < 10_000 = omega (arith, ints) in
    let day_most : date.day ≤ 31 = omega (arith, (days_in_month_bounds date.year date.month).0) in
    let told : numbers ≡ Some (unsigned_abs date.year, date.month, date.day) =
    (reads (unsigned_abs date.year) date.month date.day year_below (omega arith) (omega arith)).1 (sym (date_text-text_of date four) ∙ spelled) in
    let same : ◌≡◌ {A = Option (ℕ × ℕ × ℕ)} (Some (y, m, d)) (Some (unsigned_abs date.year, date.month, date.day)) = sym is ∙ told in
    let year_same : y ≡ unsigned_abs date.year = ap (λ (o : Option (ℕ × ℕ × ℕ)). (unwrap_or o (0, 0, 0)).0) same in
    let month_same : m ≡ date.month = ap (λ (o : Option (ℕ × ℕ × ℕ)). (unwrap_or o (0, 0, 0)).1) same in
    let day_same : d ≡ date.day = ap (λ (o : Option (ℕ × ℕ × ℕ)). (unwrap_or o (0, 0, 0)).2) same in
    rw (year_is ∙ ap pos year_same ∙ whole, month_is ∙ ap pos month_same, day_is ∙ ap pos day_same) (is_date date)

pub ok_is_some : {A E : Type 0} (r : Result A E) → IsOk r → IsNone (result_ok r) → ⊥
ok_is_some (Ok x) ok none = search rules
ok_is_some (Err e) ok none = search rules
