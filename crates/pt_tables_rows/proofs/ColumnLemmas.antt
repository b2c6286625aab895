-- The values in the columns of a row.
use Rattle.std.proofs.Common.{◌≡◌, ℕ, List, Option, None, Some, refl}
use Rattle.std.specs.Prelude.{ℤ, pos, negsuc}
use Rattle.sqlite.specs.declared.types.Value.{Value}
use Rattle.sqlite.specs.declared.types.Value.TheVariants.{Null, Int, Real, Text, Blob}
use Rattle.sqlite.specs.Order.{Row, bytes, column}
use Rattle.pt_tables_rows.specs.Rows.{optional_value}

-- the number of a value, or 0 if it has none
abbrev pub integer_of : Value → ℤ
integer_of Null = pos 0
integer_of (Int z) = z
integer_of (Real x) = pos 0
integer_of (Text t) = pos 0
integer_of (Blob b) = pos 0

abbrev pub natural_of : ℤ → ℕ
natural_of (pos n) = n
natural_of (negsuc n) = 0

abbrev pub known_of : ℤ → Option ℕ
known_of (pos n) = Some n
known_of (negsuc n) = None

abbrev pub integer_in : ℕ → Row → ℤ
integer_in place row = integer_of (column row place)

abbrev pub number_in : ℕ → Row → ℕ
number_in place row = natural_of (integer_in place row)

abbrev pub known_in : ℕ → Row → Option ℕ
known_in place row = known_of (integer_in place row)

abbrev pub bytes_in : ℕ → Row → List ℕ
bytes_in place row = bytes (column row place)

-- the value of a column determines an optional number
pub known-value : (n : Option ℕ) → known_of (integer_of (optional_value n)) ≡ n
known-value None = refl
known-value (Some n) = refl
