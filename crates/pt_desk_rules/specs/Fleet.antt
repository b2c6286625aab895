-- The agency's vehicles and their versions. A version is in force from its day until the next version's day.
use Rattle.std.specs.Prelude.{ℕ, ◌+◌, ◌≤◌, ◌==◌, ◌&&◌, nat_le, nat_lt, Bool, false, not, if◌then◌else◌, List, []}
use Rattle.std.specs.Prelude.{◌∷◌, filter, find, slice_get, Option}
use Rattle.std.specs.Option.{unwrap_or}
use Rattle.std.specs.List.{list_any}
use Rattle.pt_base_values.specs.Day.{weekday_of}
use Rattle.pt_base_values.specs.Ranges.{last_minute}
use Rattle.pt_base_values.specs.declared.vehicle.Vehicle.{Vehicle}

-- the vehicle is back by the last minute of the day
abbrev pub ClosesInDay : Vehicle → Type 0
ClosesInDay version = version.closes ≤ last_minute

-- some version of this vehicle is among these
abbrev pub has_version : ℕ → List Vehicle → Bool
has_version id vehicles = list_any (λ version. version.id == id) vehicles

-- the number of different vehicles in the list: each is counted at the last of its versions
abbrev pub vehicle_count : List Vehicle → ℕ
vehicle_count [] = 0
vehicle_count (version ∷ later) = if has_version version.id later then vehicle_count later else vehicle_count later + 1

-- the versions of other vehicles
abbrev pub versions_of_others : ℕ → List Vehicle → List Vehicle
versions_of_others id vehicles = filter (λ version. not (version.id == id)) vehicles

-- the versions of a vehicle, and those of them before a day
abbrev pub versions_of : ℕ → List Vehicle → List Vehicle
versions_of id vehicles = filter (λ version. version.id == id) vehicles

abbrev pub versions_before : ℕ → ℕ → List Vehicle → List Vehicle
versions_before id day vehicles = filter (λ version. version.id == id && nat_lt version.from_day day) vehicles

-- a later version of the same vehicle, whose day has come
abbrev pub is_newer : ℕ → Vehicle → Vehicle → Bool
is_newer day version other =
    other.id == version.id && nat_lt version.from_day other.from_day && nat_le other.from_day day

-- the version's day has come, and no later version's day has come
abbrev pub is_in_force : ℕ → List Vehicle → Vehicle → Bool
is_in_force day vehicles version = nat_le version.from_day day && not (list_any (is_newer day version) vehicles)

-- the versions in force on a day, in their order
abbrev pub in_force : ℕ → List Vehicle → List Vehicle
in_force day vehicles = filter (is_in_force day vehicles) vehicles

-- the version runs on the day's weekday
abbrev pub has_weekday : ℕ → Vehicle → Bool
has_weekday day version = unwrap_or (slice_get version.days (weekday_of day)) false

-- a version is on duty on a day if it is in force and runs on that weekday
abbrev pub is_on_duty : ℕ → List Vehicle → Vehicle → Bool
is_on_duty day vehicles version = is_in_force day vehicles version && has_weekday day version

-- the vehicles on duty on a day, in the order of their versions
abbrev pub on_duty : ℕ → List Vehicle → List Vehicle
on_duty day vehicles = filter (is_on_duty day vehicles) vehicles

-- the version of a vehicle that is on duty on a day, if one is
abbrev pub duty_of : ℕ → ℕ → List Vehicle → Option Vehicle
duty_of id day vehicles = find (λ version. version.id == id && is_on_duty day vehicles version) vehicles
