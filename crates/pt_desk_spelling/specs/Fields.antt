-- How the fields of requests and replies are spelled in bytes.
use Rattle.std.specs.Prelude.{ℕ, ◌+◌, ◌*◌, ℤ, List, [], ◌∷◌, ◌++◌, length, flat_map, Bool, false, Option, None, Some}
use Rattle.std.specs.Prelude.{slice_get}
use Rattle.std.specs.Int.{w32, to_be_bytes, cast_unsigned, from_bool}
use Rattle.std.specs.Option.{unwrap_or}

-- a number: four bytes, the most significant first
unfoldable pub number_bytes : ℕ → List ℕ
number_bytes n = to_be_bytes w32 n

-- numbers, one after the other
abbrev pub numbers_bytes : List ℕ → List ℕ
numbers_bytes numbers = flat_map number_bytes numbers

-- a number of either sign: its two's complement
abbrev pub signed_bytes : ℤ → List ℕ
signed_bytes z = number_bytes (cast_unsigned w32 z)

-- a truth value: 0 or 1
abbrev pub truth_bytes : Bool → List ℕ
truth_bytes value = from_bool value ∷ []

-- 1 if the set of weekdays has the weekday with this number, counted from 0 for Monday; else 0
abbrev pub day_bit : List Bool → ℕ → ℕ
day_bit days number = from_bool (unwrap_or (slice_get days number) false)

-- a set of weekdays: a byte with a bit for each, the lowest for Monday
abbrev pub days_byte : List Bool → ℕ
days_byte days =
    day_bit days 0 + 2 * day_bit days 1 + 4 * day_bit days 2 + 8 * day_bit days 3
    + 16 * day_bit days 4 + 32 * day_bit days 5 + 64 * day_bit days 6

-- a number that may be absent: 0, or 1 and the number
abbrev pub optional_bytes : Option ℕ → List ℕ
optional_bytes None = 0 ∷ []
optional_bytes (Some n) = 1 ∷ number_bytes n

-- a text: its length and its bytes
abbrev pub text_bytes : List ℕ → List ℕ
text_bytes text = number_bytes (length text) ++ text

-- a list: its length and its items
abbrev pub list_bytes : {A : Type 0} → (A → List ℕ) → List A → List ℕ
list_bytes item_bytes items = number_bytes (length items) ++ flat_map item_bytes items
