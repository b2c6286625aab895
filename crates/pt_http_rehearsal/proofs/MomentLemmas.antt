-- Moments at the front of bytes.
use Rattle.std.proofs.Common.{suc, ◌≡◌, ◌≢◌, ◌⊎◌, ℕ, ◌+◌, ◌<◌, ◌≤◌, List, [], ◌∷◌, ◌++◌, codes, length, drop, All}
use Rattle.std.proofs.Common.{Option, Some, None, IsNone, Result, Ok, Err, sym, ap, ◌∙◌, subst, append_assoc}
use Rattle.std.proofs.Common.{append-nil, length-append, arith, inl, inr, ℤ, pos, unsigned_abs, get_or}
use Rattle.std.proofs.lemmas.Int.{ints}
use Rattle.std.proofs.lemmas.List.Elements.{All-from_recursion, All-weaker, All-from_get_or}
use Rattle.std.proofs.lemmas.Str.{IsUtf8-append, IsUtf8-from_ascii}
use Rattle.std.proofs.lemmas.Str.Ascii.{IsAscii-nil, IsAscii-cons, IsAscii-from_all}
use denote.Ref.{Bor}
use Rattle.std.specs.Prelude.{IsAscii, IsUtf8, IfSome, MatchOption, MatchResult}
use Rattle.std.specs.Result.{result_ok}
use Rattle.std.specs.Str.Lines.{strip_carriage_return}
use Rattle.std.specs.Str.Pattern.{StripsPrefix, FindsTextPrefix}
use Rattle.jiff_core.specs.Calendar.{IsYear}
use Rattle.jiff_core.proofs.CalendarLemmas.{days_in_month_bounds}
use Rattle.pt_base_values.specs.DateText.{IsDateText, text_of}
use Rattle.pt_base_values.proofs.DateTextLemmas.{date_text-text_of, pos-unsigned_abs}
use Rattle.pt_base_values.proofs.NumberLemmas.{digits-utf8}
use Rattle.pt_http_rehearsal.specs.Moment.{IsMoment, AreParts, BeginsWithMoment}
use Rattle.pt_http_rehearsal.proofs.LineLemmas.{cut_unique, line_of_front, length-strip_carriage_return}

-- a byte of ASCII that is written, as a space is not
abbrev IsGraphic : ℕ → Type 0
IsGraphic byte = (33 ≤ byte) × (byte < 128)

text_of-graphic : (year month day : ℕ) → year < 10_000 → month < 100 → day < 100
    → All IsGraphic (text_of year month day)
text_of-graphic year month day a b c = All-from_recursion IsGraphic (text_of year month day) (
  (omega arith, omega arith),
  (
    (omega arith, omega arith),
    (
      (omega arith, omega arith),
      (
        (omega arith, omega arith),
        (
          (omega arith, omega arith),
          (
            (omega arith, omega arith),
            (
              (omega arith, omega arith),
              (
                (omega arith, omega arith),
                ((omega arith, omega arith), ((omega arith, omega arith), tt)),
              ),
            ),
          ),
        ),
      ),
    ),
  ),
)

-- a date has ten bytes, none of them a space
date_bytes : (number : ℤ) (text : List ℕ) → IsDateText number text → (length text ≡ 10) × All IsGraphic text
date_bytes number text is =
    let date = is.date in
    let year_in : IsYear date.year = date.year_in in
    let month_in = date.month_in in
    let day_in = date.day_in in
    let whole : pos (unsigned_abs date.year) ≡ date.year = pos-unsigned_abs date.year is.four_digits in
    let year_below : unsigned_abs date.year < 10_000 = omega (arith, ints) in
    let day_most : date.day ≤ 31 = omega (arith, (days_in_month_bounds date.year date.month).0) in
    let same : text_of (unsigned_abs date.year) date.month date.day ≡ text
    = sym (date_text-text_of date is.four_digits) ∙ is.spelled in (
      sym (ap length same),
      subst (All IsGraphic) same (text_of-graphic (unsigned_abs date.year) date.month date.day
          year_below (omega arith) (omega arith)),
    )

-- a moment is text
pub moment_utf8 : (text : List ℕ) (day minute : ℕ) → IsMoment text day minute → IsUtf8 text
moment_utf8 text day minute is =
    let ascii : IsAscii is.date = IsAscii-from_all is.date (All-weaker IsGraphic (λ byte. byte < 128)
    (λ byte graphic. graphic.1) is.date (date_bytes (pos day) is.date is.day_of_date.1).1) in
    let front : IsUtf8 (codes "@ " ++ is.date) = IsUtf8-from_ascii (codes "@ " ++ is.date)
    (IsAscii-cons 64 (32 ∷ is.date) (omega arith) (IsAscii-cons 32 is.date (omega arith) ascii)) in
    let space : IsUtf8 (32 ∷ []) = IsUtf8-from_ascii (32 ∷ []) (IsAscii-cons 32 [] (omega arith) IsAscii-nil) in
    let back : IsUtf8 (32 ∷ is.digits) = IsUtf8-append (32 ∷ []) is.digits space
    (digits-utf8 is.digits is.minute_of_digits.0.1) in
    subst IsUtf8 (sym is.spelled) (IsUtf8-append (codes "@ " ++ is.date) (32 ∷ is.digits) front back)

-- its date and its digits are its parts
pub parts_of_moment : (text : List ℕ) (day minute : ℕ) → (is : IsMoment text day minute)
    → AreParts text is.date is.digits
parts_of_moment text day minute is = record {
  spelled = is.spelled;
  one_word = All-weaker IsGraphic (λ byte. byte ≢ 32) (λ byte graphic. omega arith) is.date
      (date_bytes (pos day) is.date is.day_of_date.1).1;
}

length-moment : (text : List ℕ) (day minute : ℕ) → IsMoment text day minute → length text ≤ 17
length-moment text day minute is =
    let ten : length is.date ≡ 10 = (date_bytes (pos day) is.date is.day_of_date.1).0 in
    let few : length is.digits ≤ 4 = is.minute_of_digits.1 in
    let whole : length text ≡ 2 + (length is.date + (1 + length is.digits)) = ap length is.spelled
    ∙ omega (arith, length-append is.date (32 ∷ is.digits)) in
    omega arith

-- a line with a moment has at most 19 bytes, including its newline
line_is_short : (line : List ℕ) (day minute : ℕ) → IsMoment (strip_carriage_return line) day minute
    → length line + 1 ≤ 19
line_is_short line day minute is = omega (
  arith,
  length-strip_carriage_return line,
  length-moment
      (strip_carriage_return line) day minute is,
)

pub moment_is_short : (bytes : List ℕ) (day minute : ℕ) (rest : List ℕ) → BeginsWithMoment bytes day minute rest
    → length bytes ≤ 19 + length rest
moment_is_short bytes day minute rest is =
    let whole : length bytes ≡ length is.line + (1 + length rest) = ap length is.first.begins
    ∙ omega (arith, length-append is.line (10 ∷ rest)) in
    omega (arith, line_is_short is.line day minute is.moment)

-- a moment at the front stays there as more bytes come
pub moment_before : (held more : List ℕ) (day minute : ℕ) (rest : List ℕ) → BeginsWithMoment held day minute rest
    → BeginsWithMoment (held ++ more) day minute (rest ++ more)
moment_before held more day minute rest is = record {
  line = is.line;
  first = record {
    begins = ap (λ bytes. bytes ++ more) is.first.begins ∙ append_assoc is.line (10 ∷ rest) more;
    one_line = is.first.one_line;
  };
  moment = is.moment;
}

-- a moment at the front of more bytes is at the front of the held bytes, if these are enough for its line
moment_in_front : (held more : List ℕ) (day minute : ℕ) (rest : List ℕ) → 19 ≤ length held
    → BeginsWithMoment (held ++ more) day minute rest → (left : List ℕ) × BeginsWithMoment held day minute left
moment_in_front held more day minute rest enough is =
    let within : length is.line < length held = omega (arith, line_is_short is.line day minute is.moment) in (
      drop (suc (length is.line)) held,
      record {
        line = is.line;
        first = record {
          begins = line_of_front held more is.line rest is.first.begins within;
          one_line =
              is.first.one_line;
        };
        moment = is.moment;
      },
    )

-- bytes without a moment have none when more come, if they are enough for its line or are the whole input
pub no_moment_after : (held more : List ℕ) → (19 ≤ length held) ⊎ (more ≡ [])
    → ((day minute : ℕ) (rest : List ℕ) → ¬ (BeginsWithMoment held day minute rest)) → (day minute : ℕ) (rest : List ℕ)
    → ¬ (BeginsWithMoment (held ++ more) day minute rest)
no_moment_after held more (inl enough) none day minute rest is =
    let front = moment_in_front held more day minute rest enough is in
    none day minute front.0 front.1
no_moment_after held more (inr ended) none day minute rest is =
    let same : held ++ more ≡ held = ap (λ bytes. held ++ bytes) ended ∙ append-nil held in
    none day minute rest (subst (λ bytes. BeginsWithMoment bytes day minute rest) same is)

-- ---- results of reading a moment's parts

pub text_of_ok : {A E : Type 0} (r : Result A E) (x : A) (P : A → Type 0) (Q : E → Type 0) → result_ok r ≡ Some x
    → MatchResult r P Q → P x
text_of_ok (Ok y) x P Q some cases = let same : y ≡ x = cc in subst P same cases
text_of_ok (Err e) x P Q some cases = cc

pub stripped : (text rest : List ℕ) → StripsPrefix (FindsTextPrefix (codes "@ ")) text rest → text ≡ codes "@ " ++ rest
stripped text rest is = is.1.1 ∙ ap (λ back. codes "@ " ++ back) (sym is.2)

pub none_is_none : {A : Type 0} (o : Option A) (Q : A → Type 0) → IsNone o → MatchOption o ⊥ Q → ⊥
none_is_none None Q none cases = cases
none_is_none (Some x) Q none cases = cc

-- a text has its parts in one way
pub parts_unique : (text date digits other more : List ℕ) → AreParts text date digits → AreParts text other more
    → (date ≡ other) × (digits ≡ more)
parts_unique text date digits other more one two =
    let same : date ++ 32 ∷ digits ≡ other ++ 32 ∷ more = ap (λ whole. drop 2 whole) (sym one.spelled ∙ two.spelled) in
    cut_unique 32 date other digits more same one.one_word two.one_word

pub rest_of_parts : (text rest date digits : List ℕ) → text ≡ codes "@ " ++ rest → AreParts text date digits
    → rest ≡ date ++ 32 ∷ digits
rest_of_parts text rest date digits stripped is = ap (λ whole. drop 2 whole) (sym stripped ∙ is.spelled)

pub parts_given : (text rest : List ℕ) (r : Option (Bor (List ℕ) × Bor (List ℕ))) (N : Type 0)
    → text ≡ codes "@ " ++ rest → MatchOption r N (λ x. (rest ≡ x.0.now ++ 32 ∷ x.1.now) ×
    ((i : ℕ) → i < length x.0.now → get_or x.0.now i 0 ≢ 32)) → IfSome r
    (λ parts. AreParts text parts.0.now parts.1.now)
parts_given text rest None N stripped cut = tt
parts_given text rest (Some x) N stripped cut = record {
  spelled = stripped ∙ ap (λ back. codes "@ " ++ back) cut.0;
  one_word = All-from_get_or (λ byte. byte ≢ 32) x.0.now 0 cut.1;
}
