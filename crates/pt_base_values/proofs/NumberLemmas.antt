-- Decimal digits.
use Rattle.std.proofs.Common.{◌≡◌, ◌∙◌, refl, ap, ℕ, ◌<◌, ◌≤◌, List, [], ◌∷◌, Some, arith}
use Rattle.std.proofs.lemmas.Bool.Decides.{Decides-and, Decides-ltb, nat_tests}
use Rattle.std.proofs.lemmas.Str.{IsUtf8-from_ascii}
use Rattle.std.proofs.lemmas.Str.Ascii.{IsAscii-nil, IsAscii-cons}
use Rattle.std.specs.Char.{digit_value, is_digit}
use Rattle.std.specs.List.{list_all}
use Rattle.std.specs.Prelude.{Decides, IsAscii, IsUtf8, length, nat_lt, nat_le, ◌&&◌}
use Rattle.std.specs.Str.Parse.{AllDigits, IsNumeral, digits_value}
use Rattle.pt_base_values.proofs.ChoiceLemmas.{Decides-le, chosen, chosen-known}
use Rattle.pt_base_values.specs.SpelledNumber.{SpellsNumber, number_from}

Decides-digits : (text : List ℕ) → Decides (list_all (λ byte. is_digit byte 10) text) (AllDigits 10 text)
Decides-digits [] = (λ e. tt, λ digits. refl)
Decides-digits (c ∷ text) = Decides-and _ _ (Decides-ltb (digit_value c) 10) (Decides-digits text)

Decides-number : (digits most : ℕ) (text : List ℕ) → Decides (nat_lt 0 (length text) && list_all
    (λ byte. is_digit byte 10) text && nat_le (length text) digits && nat_le (digits_value 10 text) most)
    ((IsNumeral 10 text × (length text ≤ digits)) × (digits_value 10 text ≤ most))
Decides-number digits most text =
    Decides-and _ _ (Decides-and _ _ (Decides-and _ _ (Decides-ltb 0 (length text)) (Decides-digits text)) (Decides-le
    (length text) digits))
    (Decides-le (digits_value 10 text) most)

-- a text spells a number exactly if the number is read from it
pub number_from-known : (digits most : ℕ) (text : List ℕ) (number : ℕ) → SpellsNumber digits most text number
    → number_from digits most text ≡ Some number
unfolding number_from
number_from-known digits most text number is =
    let low = is.3 in
    let e = is.2 in
    chosen-known _ (Some (digits_value 10 text)) (Decides-number digits most text) ((is.0, is.1), omega (arith, e))
    ∙ ap (λ (n : ℕ). Some n) e

pub number_from-spelled : (digits most : ℕ) (text : List ℕ) (number : ℕ) → number_from digits most text ≡ Some number
    → SpellsNumber digits most text number
unfolding number_from
number_from-spelled digits most text number e =
    let is = chosen _ (Some (digits_value 10 text)) number (Decides-number digits most text) e in
    let same : digits_value 10 text ≡ number = cc is.1 in
    let low = is.0.1 in
    (is.0.0.0, is.0.0.1, same, omega (arith, same))

-- a decimal digit is ASCII
digit-ascii : (c : ℕ) → digit_value c < 10 → c < 128
digit-ascii c digit = grind (arith, nat_tests)

digits-ascii : (text : List ℕ) → AllDigits 10 text → IsAscii text
digits-ascii [] digits = IsAscii-nil
digits-ascii (c ∷ text) digits = IsAscii-cons c text (digit-ascii c digits.0) (digits-ascii text digits.1)

-- decimal digits are text
pub digits-utf8 : (text : List ℕ) → AllDigits 10 text → IsUtf8 text
digits-utf8 text digits = IsUtf8-from_ascii text (digits-ascii text digits)
