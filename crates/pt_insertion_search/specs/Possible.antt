-- Where a trip can be put into a vehicle's route (Cordeau and Laporte 2003, with one route given and its order kept).
use Rattle.std.specs.Prelude.{ℕ, ◌+◌, ◌≤◌, List, length, Option, IsSome}
use Rattle.pt_base_values.specs.declared.vehicle.Vehicle.{Vehicle}
use Rattle.pt_feasible.specs.Pairing.{most_stops}
use Rattle.pt_feasible.specs.declared.stop.Stop.{Stop}
use Rattle.pt_feasible.specs.Loads.{LoadsFit}
use Rattle.pt_feasible.specs.ServiceTimes.{TimesFit}
use Rattle.pt_insertion_search.specs.declared.asked.Asked.{Asked}
use Rattle.pt_insertion_search.specs.Insertion.{with_trip}

-- the pickup after i old stops and the drop after j leave a route that its vehicle can drive
pub record IsPossible (minutes : ℕ → ℕ → Option ℕ) (vehicle : Vehicle) (stops : List Stop) (asked : Asked)
    (i j : ℕ) : Type 0 where
  -- there is a way from the origin to the goal
  pub direct : IsSome (minutes asked.origin asked.goal)
  pub room : length stops + 2 ≤ most_stops
  pub drop_later : i ≤ j
  pub among : j ≤ length stops
  pub loads : LoadsFit vehicle (with_trip asked i j stops)
  pub times : (b : List ℕ) × TimesFit minutes vehicle (with_trip asked i j stops) b
