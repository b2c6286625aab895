-- Numbers written in decimal digits.
use Rattle.std.specs.Prelude.{◌≡◌, ℕ, ◌≤◌, ◌&&◌, Bool, List, length, nat_lt, nat_le, Option, Some, None}
use Rattle.std.specs.Prelude.{if◌then◌else◌}
use Rattle.std.specs.Char.{is_digit}
use Rattle.std.specs.List.{list_all}
use Rattle.std.specs.Str.Parse.{IsNumeral, digits_value}

-- whether the number lies in this range
abbrev pub is_within : ℕ → ℕ → ℕ → Bool
is_within least most number = nat_le least number && nat_le number most

-- the text has 1 to `digits` decimal digits, leading zeros included, and its value is this number, at most `most`
abbrev pub SpellsNumber : ℕ → ℕ → List ℕ → ℕ → Type 0
SpellsNumber digits most text number =
    IsNumeral 10 text × (length text ≤ digits) × (digits_value 10 text ≡ number) × (number ≤ most)

-- the number that a text spells within these limits, else None
unfoldable pub number_from : ℕ → ℕ → List ℕ → Option ℕ
number_from digits most text =
    if nat_lt 0 (length text) && list_all (λ byte. is_digit byte 10) text && nat_le (length text) digits
    && nat_le (digits_value 10 text) most
    then Some (digits_value 10 text) else None
