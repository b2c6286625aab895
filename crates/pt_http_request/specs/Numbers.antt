-- Numbers in decimal digits, as paths and headers have them.
use Rattle.std.specs.Prelude.{ℕ, ◌^◌, ◌-◌, ◌&&◌, List, nat_lt, Option, Some, None}
use Rattle.std.specs.Prelude.{option_and_then, if◌then◌else◌}
use Rattle.pt_base_values.specs.SpelledNumber.{number_from}
use Rattle.pt_rights_files.specs.Limits.{most_entries}

-- the number, if a record may have it: 1 to 4,294,967,295
abbrev pub id_of : ℕ → Option ℕ
id_of number = if nat_lt 0 number && nat_lt number (2 ^ 32) then Some number else None

-- the number of a record that one to ten digits spell
abbrev pub id_from : List ℕ → Option ℕ
id_from text = option_and_then id_of (number_from 10 4_294_967_295 text)

-- the last position in a case file, counted from 0
abbrev pub last_position : ℕ
last_position = most_entries - 1

-- the position in a case file that one to ten digits spell
abbrev pub position_from : List ℕ → Option ℕ
position_from text = number_from 10 last_position text
