-- The choice among all places for a trip: least added driving, then the lowest vehicle, then the earliest places.
use Rattle.std.specs.Prelude.{◌≡◌, ℕ, ◌-◌, ◌≤◌, List, Option}
use Rattle.pt_base_values.specs.declared.vehicle.Vehicle.{Vehicle}
use Rattle.pt_feasible.specs.declared.stop.Stop.{Stop}
use Rattle.pt_feasible.specs.ServiceTimes.{IsLeastSchedule}
use Rattle.pt_insertion_search.specs.declared.asked.Asked.{Asked}
use Rattle.pt_insertion_search.specs.declared.chosen.Chosen.{Chosen}
use Rattle.pt_insertion_search.specs.Driving.{driving}
use Rattle.pt_insertion_search.specs.Insertion.{with_trip}
use Rattle.pt_insertion_search.specs.Possible.{IsPossible}

-- the driving minutes of the route with the trip less those of the route without it
abbrev pub added_driving : (ℕ → ℕ → Option ℕ) → Vehicle → List Stop → Asked → ℕ → ℕ → ℕ
added_driving minutes vehicle stops asked i j =
    driving minutes vehicle (with_trip asked i j stops) - driving minutes vehicle stops

-- no possible place makes the driving of the route less
abbrev pub NeverTakesAwayDriving : (ℕ → ℕ → Option ℕ) → Vehicle → List Stop → Asked → Type 0
NeverTakesAwayDriving minutes vehicle stops asked = (i j : ℕ) → IsPossible minutes vehicle stops asked i j →
    driving minutes vehicle stops ≤ driving minutes vehicle (with_trip asked i j stops)

-- the choice is possible in this vehicle's route, with its least schedule and its added driving
pub record IsChosenIn (minutes : ℕ → ℕ → Option ℕ) (vehicle : Vehicle) (stops : List Stop) (asked : Asked)
    (chosen : Chosen) : Type 0 where
  pub vehicle_number : chosen.vehicle ≡ vehicle.id
  pub possible : IsPossible minutes vehicle stops asked chosen.i chosen.j
  pub schedule : IsLeastSchedule minutes vehicle (with_trip asked chosen.i chosen.j stops) chosen.schedule.items
  pub added : chosen.added ≡ added_driving minutes vehicle stops asked chosen.i chosen.j

-- The choice adds no more driving than this place. If equal, its vehicle's number is no higher.
-- If equal, its pickup is no later. If equal, its drop is no later.
pub record IsNoWorseThan (chosen : Chosen) (added vehicle i j : ℕ) : Type 0 where
  pub driving_first : chosen.added ≤ added
  pub then_vehicle : chosen.added ≡ added → chosen.vehicle ≤ vehicle
  pub then_pickup : chosen.added ≡ added → chosen.vehicle ≡ vehicle → chosen.i ≤ i
  pub then_drop : chosen.added ≡ added → chosen.vehicle ≡ vehicle → chosen.i ≡ i → chosen.j ≤ j

-- no possible place in this vehicle's route comes before the choice
abbrev pub IsBestIn : (ℕ → ℕ → Option ℕ) → Vehicle → List Stop → Asked → Chosen → Type 0
IsBestIn minutes vehicle stops asked chosen = (i j : ℕ) → IsPossible minutes vehicle stops asked i j →
    IsNoWorseThan chosen (added_driving minutes vehicle stops asked i j) vehicle.id i j
