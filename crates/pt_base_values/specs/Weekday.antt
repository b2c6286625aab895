-- Weekdays and sets of them.
use Rattle.std.specs.Prelude.{◌≡◌, ℕ, List, Bool, true, Some, slice_get}
use Rattle.pt_base_values.specs.declared.weekday.Weekday.{Weekday}
use Rattle.pt_base_values.specs.declared.weekday.Weekday.TheVariants.{Monday, Tuesday, Wednesday, Thursday, Friday}
use Rattle.pt_base_values.specs.declared.weekday.Weekday.TheVariants.{Saturday, Sunday}

-- days since Monday
abbrev pub number_of : Weekday → ℕ
number_of Monday = 0
number_of Tuesday = 1
number_of Wednesday = 2
number_of Thursday = 3
number_of Friday = 4
number_of Saturday = 5
number_of Sunday = 6

-- the set includes the weekday with this number; the list says of each weekday, from Monday on, whether it is in
abbrev pub Includes : List Bool → ℕ → Type 0
Includes days number = slice_get days number ≡ Some true
