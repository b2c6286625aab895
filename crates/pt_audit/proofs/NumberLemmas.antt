-- A number at the front of a text, as its digits are read one by one.
use Rattle.std.proofs.Common.{◌≡◌, ℕ, ◌+◌, ◌*◌, ◌/◌, ◌%◌, ◌≤◌, ◌<◌, ◌≢◌, List, [], ◌∷◌, ◌++◌, length, get_or, drop, decimal, refl, sym, ap, ◌∙◌, arith, append_assoc, append-nil, ◌-◌, ◌^◌, inl, inr}
use Rattle.std.specs.Char.{digit_value}
use Rattle.std.specs.Str.Parse.{AllDigits, digits_value, digits_value_after}
use Rattle.std.proofs.lemmas.Fmt.{decimal_is_IsNumeral, decimal_injective, decimal_digit, decimal_step, first_decimal}
use Rattle.std.proofs.lemmas.Str.Parse.{digit_from_value}
use Rattle.std.proofs.lemmas.Bool.{cases_lt}
use Rattle.std.proofs.lemmas.List.{get_or_append_left}
use Rattle.std.specs.Prelude.{Option, None, Some, IfSome}
use Rattle.pt_audit.specs.Text.{IsNumber, number_text}

-- the text does not begin with a digit
abbrev pub HasNoDigit : List ℕ → Type 0
HasNoDigit text = (digit : ℕ) (more : List ℕ) → digit < 10 → text ≢ (48 + digit) ∷ more

below-digits : (text : List ℕ) → get_or text 0 0 < 48 → HasNoDigit text
below-digits text low digit more small is = omega (arith, low, ap (λ t. get_or t 0 0) is)

not-first : (text : List ℕ) (c : ℕ) (more : List ℕ) → HasNoDigit text → digit_value c < 10 → text ≢ c ∷ more
not-first text c more over worth is =
    let digit = digit_from_value c worth in
    let d : ℕ = c - 48 in
    let same : c ≡ 48 + d = omega (arith, digit.0) in
    over d more (omega (arith, digit.1)) (is ∙ ap (λ x. x ∷ more) same)

-- further digits make a number no smaller
grows : (m : ℕ) (ds : List ℕ) → m ≤ digits_value_after 10 m ds
grows m [] = omega arith
grows m (c ∷ ds) = omega (arith, grows (m * 10 + digit_value c) ds)

value-more : (m : ℕ) (ds es : List ℕ) → digits_value_after 10 m (ds ++ es) ≡ digits_value_after 10 (digits_value_after 10 m ds) es
value-more m [] es = refl
value-more m (d ∷ ds) es = value-more (m * 10 + digit_value d) ds es

-- digits at the front of a text that begins with all digits of another number are among these
record IsAmong (ds es after more : List ℕ) : Type 0 where
  left : List ℕ
  longer : es ≡ ds ++ left
  digits : AllDigits 10 left
  stands : after ≡ left ++ more

among : (ds es after more : List ℕ) → AllDigits 10 ds → AllDigits 10 es → HasNoDigit more → ds ++ after ≡ es ++ more → IsAmong ds es after more
among [] es after more one other over is = record { left = es; longer = refl; digits = other; stands = is }
among (d ∷ ds) [] after more one other over is = absurd (not-first more d (ds ++ after) over one.0 (sym is))
among (d ∷ ds) (e ∷ es) after more one other over is =
    let same : d ≡ e = ap (λ t. get_or t 0 0) is in
    let tails : ds ++ after ≡ es ++ more = ap (drop 1) is in
    let rest = among ds es after more one.1 other.1 over tails in
    record { left = rest.left; longer = ap (λ x. x ∷ es) (sym same) ∙ ap (λ t. d ∷ t) rest.longer; digits = rest.digits; stands = rest.stands }

-- if a text begins with the digits of one number, these begin the digits of a number that is there whole
two_numbers : (m n : ℕ) (after more : List ℕ) → m < 2 ^ 64 → IsNumber n → get_or more 0 0 < 48 → decimal m ++ after ≡ decimal n ++ more → IsAmong (decimal m) (decimal n) after more
two_numbers m n after more fits small ends is = among (decimal m) (decimal n) after more (decimal_is_IsNumeral m fits).0.1 (decimal_is_IsNumeral n (omega arith)).0.1 (below-digits more ends) is

-- a number is no smaller than what its first digits make
pub no_smaller : (m n : ℕ) (after more : List ℕ) → m < 2 ^ 64 → IsNumber n → get_or more 0 0 < 48 → decimal m ++ after ≡ decimal n ++ more → m ≤ n
no_smaller m n after more fits small ends is =
    let found = two_numbers m n after more fits small ends is in
    omega (
      arith,
      (decimal_is_IsNumeral m fits).1,
      (decimal_is_IsNumeral n (omega arith)).1,
      ap (digits_value 10)
          found.longer,
      value-more 0 (decimal m) found.left,
      grows (digits_value 10 (decimal m)) found.left,
    )

-- if no digit follows it, the number is read whole
pub whole_number : (m n : ℕ) (after more : List ℕ) → m < 2 ^ 64 → IsNumber n → get_or more 0 0 < 48 → HasNoDigit after → decimal m ++ after ≡ decimal n ++ more → (m ≡ n) × (after ≡ more)
whole_number m n after more fits small ends over is =
    let found = two_numbers m n after more fits small ends is in
    go found.left found.longer found.digits found.stands
  where
    go : (left : List ℕ) → decimal n ≡ decimal m ++ left → AllDigits 10 left → after ≡ left ++ more → (m ≡ n) × (after ≡ more)
    go [] longer digits stands = (decimal_injective m n fits (omega arith) (sym (longer ∙ append-nil (decimal m))), stands)
    go (c ∷ left) longer digits stands = absurd (not-first after c (left ++ more) over digits.0 stands)

-- one more digit of a number above 0
pub longer_number : (number digit longer : ℕ) (rest after : List ℕ) → 0 < number → number < 2 ^ 32 → digit < 10
    → longer ≡ number * 10 + digit → rest ≡ (48 + digit) ∷ after → decimal number ++ rest ≡ decimal longer ++ after
longer_number number digit longer rest after some fits small is front =
    let tens : longer / 10 ≡ number = omega (arith, is, small) in
    let last : longer % 10 ≡ digit = omega (arith, is, small) in
    let step = decimal_step longer (omega (arith, is, some)) (omega (arith, is, fits, small)) in
    let spelled : decimal longer ≡ decimal number ++ (48 + digit) ∷ [] = step ∙ ap (λ x. decimal x ++ (48 + longer % 10) ∷ []) tens ∙ ap (λ x. decimal number ++ (48 + x) ∷ []) last in
    ap (λ t. decimal number ++ t) front ∙ sym (append_assoc (decimal number) ((48 + digit) ∷ []) after) ∙ ap (λ t. t ++ after) (sym spelled)

-- a digit above 0 begins a number
pub first_number : (digit : ℕ) (text rest : List ℕ) → digit < 10 → text ≡ (48 + digit) ∷ rest → decimal digit ++ rest ≡ text
first_number digit text rest small front = ap (λ t. t ++ rest) (decimal_digit digit small) ∙ sym front

-- a 0 at the front is the whole number
pub zero_number : (n : ℕ) (text rest more : List ℕ) → IsNumber n → text ≡ 48 ∷ rest → text ≡ decimal n ++ more → (0 ≡ n) × (rest ≡ more)
zero_number n text rest more small front is = elim (cases_lt 0 n) [
  | inl some ↦
      let numeral = decimal_is_IsNumeral n (omega arith) in
      let first = first_decimal n some (omega arith) in
      absurd (omega (arith, first, ap (λ t. get_or t 0 0) (sym front ∙ is), get_or_append_left (decimal n) more 0 0 numeral.0.0))
  | inr none ↦
      let zero : 0 ≡ n = omega arith in
      let spelled : decimal n ≡ 48 ∷ [] = ap decimal (sym zero) ∙ decimal_digit 0 (omega arith) in
      (zero, ap (drop 1) (sym front ∙ is ∙ ap (λ t. t ++ more) spelled))
]

-- a number begins with a digit
pub some_digit : (n : ℕ) (text more : List ℕ) → IsNumber n → HasNoDigit text → ¬ (text ≡ decimal n ++ more)
some_digit n text more small over is = go (decimal n) (decimal_is_IsNumeral n (omega arith)).0 is
  where
    go : (ds : List ℕ) → (0 < length ds) × AllDigits 10 ds → text ≡ ds ++ more → ⊥
    go [] numeral is = omega (arith, numeral.0)
    go (c ∷ ds) numeral is = not-first text c (ds ++ more) over numeral.1.0 is

-- the number 0 after a space
pub zero_spelled : (text digits rest : List ℕ) (space first : ℕ) → text ≡ space ∷ digits → space ≡ 32 → digits ≡ (48 + first) ∷ rest → first ≡ 0 → text ≡ number_text 0 ++ rest
zero_spelled text digits rest space first front is here none =
    front ∙ ap (λ (x : ℕ). x ∷ digits) is
    ∙ ap (λ (t : List ℕ). 32 ∷ t) (here ∙ ap (λ (x : ℕ). (48 + x) ∷ rest) none ∙ ap (λ (t : List ℕ). t ++ rest) (sym (decimal_digit 0 (omega arith))))

-- a number after a space, of which a digit was read, and the others then
pub number_spelled : (text digits rest after : List ℕ) (space first value number : ℕ) → text ≡ space ∷ digits → space ≡ 32 → first < 10 → digits ≡ (48 + first) ∷ rest → value ≡ first
    → decimal value ++ rest ≡ decimal number ++ after → text ≡ number_text number ++ after
number_spelled text digits rest after space first value number front is small here same spelled =
    front ∙ ap (λ (x : ℕ). x ∷ digits) is
    ∙ ap (λ (t : List ℕ). 32 ∷ t) (sym (first_number first digits rest small here) ∙ ap (λ (x : ℕ). decimal x ++ rest) (sym same) ∙ spelled)

pub if_some : {A : Type 0} (r : Option A) (P Q : A → Type 0) → IfSome r P → ((x : A) → P x → Q x) → IfSome r Q
if_some None P Q holds step = tt
if_some (Some x) P Q holds step = step x holds
