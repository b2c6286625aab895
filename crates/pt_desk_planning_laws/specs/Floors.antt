-- Service times of an old route are lower bounds for those of the route with one more trip.
use Rattle.std.specs.Prelude.{◌≤◌, ℕ, List, Option}
use Rattle.pt_base_values.specs.Ranges.{last_minute}
use Rattle.pt_base_values.specs.declared.vehicle.Vehicle.{Vehicle}
use Rattle.pt_desk_rules.specs.ServiceTimes.{IsLeastSchedule, IsNeverLater, TimesFit}
use Rattle.pt_desk_rules.specs.Stop.{Stop}
use Rattle.pt_insertion_search.specs.Insertion.{IsWithout, with_trip}
use Rattle.pt_insertion_search.specs.Removal.{times_without_trip}
use Rattle.pt_insertion_search.specs.TravelTimes.{KeepsTriangleLaw}
use Rattle.pt_insertion_search.specs.declared.asked.Asked.{Asked}

-- Times that fit a route with an added trip are, at the old stops, never earlier than the least schedule without the
-- trip.
abbrev pub OldSchedulesAreFloors : Type 0
OldSchedulesAreFloors =
    (minutes : ℕ → ℕ → Option ℕ) (vehicle : Vehicle) (asked : Asked) (i j : ℕ) (stops : List Stop) (least b : List ℕ) →
    KeepsTriangleLaw minutes → vehicle.closes ≤ last_minute → i ≤ j → IsWithout asked.trip stops →
    IsLeastSchedule minutes vehicle stops least → TimesFit minutes vehicle (with_trip asked i j stops) b →
    IsNeverLater least (times_without_trip asked.trip (with_trip asked i j stops) b)
