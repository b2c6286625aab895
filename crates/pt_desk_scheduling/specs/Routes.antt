-- The routes of a day's vehicles, without one trip.
use Rattle.std.specs.Prelude.{ℕ, ◌≤◌, List, Option, length, map}
use Rattle.pt_base_values.specs.declared.trip.Trip.{Trip}
use Rattle.pt_base_values.specs.declared.vehicle.Vehicle.{Vehicle}
use Rattle.pt_feasible.specs.Loads.{LoadsFit}
use Rattle.pt_feasible.specs.Pairing.{most_stops, IsPaired}
use Rattle.pt_feasible.specs.ServiceTimes.{TimesFit}
use Rattle.pt_feasible.specs.declared.stop.Stop.{Stop}
use Rattle.pt_desk_booking.specs.Planning.{OnDuty}
use Rattle.pt_feasible.specs.Route.{stops_of}
use Rattle.pt_desk_scheduling.specs.declared.routes.DayRoute.{DayRoute}
use Rattle.pt_desk_scheduling.specs.Plan.{Plan, planned_stops, stops_among, without}

-- the stops of a vehicle on a day
abbrev pub stops_on : ℕ → List Trip → List Plan → ℕ → List Stop
stops_on day trips plans vehicle = stops_among trips (planned_stops vehicle day plans)

-- the stops of a vehicle on a day, without those of this trip
abbrev pub stops_without : ℕ → ℕ → List Trip → List Plan → ℕ → List Stop
stops_without trip day trips plans vehicle = stops_among trips (without trip (planned_stops vehicle day plans))

-- each of the vehicles with its stops
abbrev pub routes_without : ℕ → ℕ → List Trip → List Plan → List Vehicle → List OnDuty
routes_without trip day trips plans vehicles =
    map (λ vehicle. record { vehicle = vehicle; stops = stops_without trip day trips plans vehicle.id }) vehicles

-- at most as many stops as a route may have, each pickup with its later drop
pub record IsRoute (stops : List Stop) : Type 0 where
  pub few : length stops ≤ most_stops
  pub paired : IsPaired stops

-- the vehicle can drive these stops: its loads fit, and there are service times that meet every limit (Cordeau and
-- Laporte 2003)
pub record IsFeasible (minutes : ℕ → ℕ → Option ℕ) (vehicle : Vehicle) (stops : List Stop) : Type 0 where
  pub loads : LoadsFit vehicle stops
  pub times : (b : List ℕ) × TimesFit minutes vehicle stops b

-- a day's vehicle and route, as a vehicle on duty and its stops
abbrev pub day_route : DayRoute → OnDuty
day_route there = record { vehicle = there.vehicle; stops = stops_of there.route }
