-- A text spells a day exactly if its parts give it.
use Rattle.std.proofs.Common.{◌≡◌, ◌∙◌, refl, sym, ap, subst, ℕ, ◌≤◌, List, Some, ℤ, pos, negsuc, unsigned_abs, arith}
use Rattle.std.proofs.lemmas.Bool.Decides.{Decides-and}
use Rattle.std.proofs.lemmas.Int.{ints}
use Rattle.std.proofs.lemmas.Slice.Eq.{bytes_eq-Decides}
use Rattle.std.specs.Int.{IsInRange}
use Rattle.std.specs.Prelude.{Decides, ◌&&◌, bytes_eq}
use Rattle.jiff_core.proofs.CalendarLemmas.{days_in_month_bounds}
use Rattle.jiff_core.specs.Calendar.{days_from_civil, days_in_month}
use Rattle.pt_base_values.proofs.DateTextLemmas.{date_text-text_of, pos-unsigned_abs}
use Rattle.pt_base_values.specs.DateText.{text_of}
use Rattle.pt_base_values.specs.Day.{IsDay}
use Rattle.pt_base_values.specs.Ranges.{first_day, last_day}
use Rattle.pt_base_values.proofs.ChoiceLemmas.{Decides-le, Decides-within, chosen, chosen-known}
use Rattle.pt_base_values.specs.SpelledDay.{SpellsDay, year_in, month_in, date_in, has_date, of_century, day_of_date}
use Rattle.pt_base_values.specs.SpelledDay.{day_from}

of_century-day : (number : ℤ) (day : ℕ) → of_century number ≡ Some day → (number ≡ pos day) × IsDay day
of_century-day (pos n) day e =
    let is = chosen _ (Some n) day (Decides-within first_day last_day n) e in
    let same : n ≡ day = cc is.1 in
    (ap pos same, subst IsDay same is.0)
of_century-day (negsuc n) day e = cc e

-- the calendar has the date
abbrev HasDate : ℕ → ℕ → ℕ → Type 0
HasDate year month day = ((year ≤ 9_999) × IsInRange 1 12 month) × IsInRange 1 (days_in_month (pos year) month) day

Decides-dated : (text : List ℕ) (year month day : ℕ) → Decides (bytes_eq
    (text_of year month day) text && has_date year month day) ((text_of year month day ≡ text) × HasDate year month day)
Decides-dated text year month day =
    Decides-and _ _ (bytes_eq-Decides (text_of year month day) text)
    (Decides-and _ _ (Decides-and _ _ (Decides-le year 9_999) (Decides-within 1 12 month)) (Decides-within 1
    (days_in_month (pos year) month) day))

day_of_date-spelled : (text : List ℕ) (year month date day : ℕ) → day_of_date text year month date ≡ Some day
    → SpellsDay text day
day_of_date-spelled text year month date day e =
    let is = chosen _ (of_century (days_from_civil (pos year) month date)) day (Decides-dated text year month date) e in
    let dated = is.0.1 in
    let low = dated.0.0 in
    let numbered = of_century-day _ day is.1 in (
      numbered.1,
      record {
        date = record {
          year = pos year;
          month = month;
          day = date;
          year_in = (omega (arith, ints), omega (arith, ints));
          month_in = dated.0.1;
          day_in = dated.1;
        };
        four_digits = omega (arith, ints);
        day = numbered.0;
        spelled = is.0.0;
      },
    )

-- the parts of a date's text are those of the date
text_of-parts : (year month day : ℕ) → year ≤ 9_999 → month ≤ 12 → day ≤ 31
    → (year_in (text_of year month day) ≡ year) × (month_in (text_of year month day) ≡ month) × (date_in
    (text_of year month day) ≡ day)
text_of-parts year month day years months days = (omega arith, omega arith, omega arith)

of_date-known : (year month date day : ℕ) → HasDate year month date → days_from_civil (pos year) month date ≡ pos day
    → IsDay day → day_of_date (text_of year month date) year month date ≡ Some day
of_date-known year month date day has counted is =
    chosen-known _ (of_century (days_from_civil (pos year) month date)) (Decides-dated
    (text_of year month date) year month date) (refl, has)
    ∙ ap of_century counted
    ∙ chosen-known _ (Some day) (Decides-within first_day last_day day) is

day_from-date : (year month date day : ℕ) → HasDate year month date → days_from_civil (pos year) month date ≡ pos day
    → IsDay day → day_from (text_of year month date) ≡ Some day
unfolding day_from
day_from-date year month date day has counted is =
    let long = (days_in_month_bounds (pos year) month).0 in
    let most = has.1.1 in
    let parts = text_of-parts year month date has.0.0 has.0.1.1 (omega arith) in
    let text = text_of year month date in
    ap (λ (n : ℕ). day_of_date text n (month_in text) (date_in text)) parts.0
    ∙ ap (λ (n : ℕ). day_of_date text year n (date_in text)) parts.1
    ∙ ap (λ (n : ℕ). day_of_date text year month n) parts.2
    ∙ of_date-known year month date day has counted is

-- a text spells a day exactly if the day is read from it
pub day_from-known : (text : List ℕ) (day : ℕ) → SpellsDay text day → day_from text ≡ Some day
day_from-known text day spelled =
    let date = spelled.1.date in
    let year = unsigned_abs date.year in
    let same : pos year ≡ date.year = pos-unsigned_abs date.year spelled.1.four_digits in
    let low = date.year_in.1 in
    let has : HasDate year date.month date.day
    = (
      (omega (arith, ints), date.month_in),
      subst (λ (y : ℤ). IsInRange 1 (days_in_month y date.month) date.day)
          (sym same) date.day_in,
    ) in
    let counted = subst (λ (y : ℤ). days_from_civil y date.month date.day ≡ pos day) (sym same) spelled.1.day in
    let texts : text_of year date.month date.day ≡ text = sym (date_text-text_of date spelled.1.four_digits)
    ∙ spelled.1.spelled in
    subst (λ (t : List ℕ). day_from t ≡ Some day) texts (day_from-date year date.month date.day day has counted
    spelled.0)

pub day_from-spelled : (text : List ℕ) (day : ℕ) → day_from text ≡ Some day → SpellsDay text day
unfolding day_from
day_from-spelled text day e = day_of_date-spelled text (year_in text) (month_in text) (date_in text) day e
