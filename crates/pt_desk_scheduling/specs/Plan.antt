-- What is planned for a vehicle on a day: the stops of the trips that are not cancelled, each named by its trip.
use Rattle.std.specs.Prelude.{◌≡◌, ℕ, ◌==◌, ◌≤◌, not, List, [], ◌∷◌, length, filter, Option, Some, None}
use Rattle.pt_base_values.specs.declared.trip.Trip.{Trip}
use Rattle.pt_feasible.specs.Pairing.{most_stops}
use Rattle.pt_feasible.specs.declared.stop.Stop.{Stop}
use Rattle.pt_feasible.specs.declared.stop.StopKind.{StopKind}
use Rattle.pt_feasible.specs.declared.stop.StopKind.TheVariants.{Pickup, Drop}
use Rattle.pt_insertion_search.specs.Asked.{pickup_stop, drop_stop}
use Rattle.pt_desk_booking.specs.Planning.{asked_of}
use Rattle.pt_base_records.specs.Keys.{pair_key}
use Rattle.pt_base_records.specs.Records.{record_at}
use Rattle.pt_desk_scheduling.specs.declared.planned.PlannedStop.{PlannedStop}

-- the stops of a vehicle on a day, in their order
pub record Plan : Type 0 where
  pub vehicle : ℕ
  pub day : ℕ
  pub stops : List PlannedStop

-- a vehicle and a day as one number
abbrev pub plan_key : Plan → ℕ
plan_key plan = pair_key plan.vehicle plan.day

-- a vehicle that has no plan for the day has no stops on it
abbrev pub stops_of_plan : Option Plan → List PlannedStop
stops_of_plan None = []
stops_of_plan (Some plan) = plan.stops

-- the stops of a vehicle on a day
abbrev pub planned_stops : ℕ → ℕ → List Plan → List PlannedStop
planned_stops vehicle day plans = stops_of_plan (record_at plan_key (pair_key vehicle day) plans)

-- the stops of the other trips
abbrev pub without : ℕ → List PlannedStop → List PlannedStop
without trip stops = filter (λ stop. not (stop.trip == trip)) stops

-- a trip's stop of this kind, with all that was fixed when the trip was booked
abbrev pub trip_stop : StopKind → Trip → Stop
trip_stop Pickup trip = pickup_stop (asked_of trip)
trip_stop Drop trip = drop_stop (asked_of trip)

abbrev pub after_stop : Option Trip → StopKind → List Stop → List Stop
after_stop None kind later = later
after_stop (Some trip) kind later = trip_stop kind trip ∷ later

-- the planned stops whose trips are in the list, with all their fields
abbrev pub stops_among : List Trip → List PlannedStop → List Stop
stops_among trips [] = []
stops_among trips (stop ∷ later) =
    after_stop (record_at (λ trip. trip.id) stop.trip trips) stop.kind (stops_among trips later)

-- a stop by its trip
abbrev pub planned_stop : Stop → PlannedStop
planned_stop stop = record { trip = stop.trip; kind = stop.kind }

-- the stops of one trip
abbrev pub stops_of_trip : ℕ → List PlannedStop → List PlannedStop
stops_of_trip trip stops = filter (λ stop. stop.trip == trip) stops

-- no stops, or a pickup and then a drop
abbrev pub IsPair : List PlannedStop → Type 0
IsPair [] = Unit {0}
IsPair (stop ∷ []) = ⊥
IsPair (first ∷ second ∷ []) = (first.kind ≡ Pickup) × (second.kind ≡ Drop)
IsPair (first ∷ second ∷ third ∷ later) = ⊥

-- At most as many stops as a route may have. Each trip has no stop, or its pickup and then its drop (Cordeau and
-- Laporte 2003).
pub record IsPlannedRoute (stops : List PlannedStop) : Type 0 where
  pub few : length stops ≤ most_stops
  pub paired : (trip : ℕ) → IsPair (stops_of_trip trip stops)

-- the stops of the plan form a route
abbrev pub IsRoutePlan : Plan → Type 0
IsRoutePlan plan = IsPlannedRoute plan.stops
