-- The result of a request for a trip: a plan with the trip at the best place of the day, or the first rule that fails.
use Rattle.std.specs.Prelude.{◌≡◌, ◌⊎◌, ℕ, ◌<◌, List, map, Any, All, AllPairs, Option, Some, None}
use Rattle.pt_base_values.specs.declared.rule.Rule.TheVariants.{NoVehicle}
use Rattle.pt_base_values.specs.declared.trip.Trip.{Trip}
use Rattle.pt_feasible.specs.declared.stop.Stop.{Stop}
use Rattle.pt_insertion_search.specs.Insertion.{IsWithout}
use Rattle.pt_insertion_search.specs.declared.chosen.Chosen.{Chosen}
use Rattle.pt_desk_booking.specs.Booking.{IsNewRoute, IsTripOf}
use Rattle.pt_desk_booking.specs.Planning.{OnDuty, asked_for, booking_rules, IsBestPlace}
use Rattle.pt_desk_booking.specs.Request.{Request}
use Rattle.pt_desk_booking.specs.Rules.{IsFirstFailing}
use Rattle.pt_desk_scheduling.specs.Plan.{Plan, planned_stop}
use Rattle.pt_desk_scheduling.specs.Routes.{IsRoute}
use Rattle.pt_desk_scheduling.specs.declared.scheduling.Scheduled.{Scheduled}
use Rattle.pt_desk_scheduling.specs.declared.scheduling.Scheduled.TheVariants.{Booked, Denied}

-- the vehicles of a day by rising number, each with a route that has no stop of this trip
pub record AreRoutes (trip : ℕ) (vehicles : List OnDuty) : Type 0 where
  pub rising : AllPairs (λ first second. first.vehicle.id < second.vehicle.id) vehicles
  pub routes : All (λ duty. IsRoute duty.stops) vehicles
  pub new_trip : All (λ duty. IsWithout trip duty.stops) vehicles

-- the plan of the chosen vehicle: its new route, each stop by its trip
abbrev pub IsPlanWith : (ℕ → ℕ → Option ℕ) → OnDuty → Trip → Chosen → Plan → Type 0
IsPlanWith minutes duty trip chosen plan =
    (stops : List Stop) × IsNewRoute minutes duty trip chosen stops
    × (plan ≡ record { vehicle = chosen.vehicle; day = trip.wish.day; stops = map planned_stop stops })

-- the trip and the plan of its vehicle, at the best place of the day
pub record IsBookedAt (minutes : ℕ → ℕ → Option ℕ) (vehicles : List OnDuty) (request : Request) (trip : Trip)
    (plan : Plan) (chosen : Chosen) : Type 0 where
  pub best : IsBestPlace minutes vehicles (asked_for minutes request) chosen
  pub trip_of : IsTripOf minutes request chosen trip
  pub plan_of : Any (λ duty. IsPlanWith minutes duty trip chosen plan) vehicles

-- the trip and the plan of its vehicle, at some best place of the day
abbrev pub IsBookedIn : (ℕ → ℕ → Option ℕ) → List OnDuty → Request → Trip → Plan → Type 0
IsBookedIn minutes vehicles request trip plan = (chosen : Chosen) × IsBookedAt minutes vehicles request trip plan chosen

-- Booked at the best place if no rule fails, or denied by the first rule that fails. If the vehicles and their stops
-- are not routes without the trip (`AreRoutes`), the rule is `NoVehicle`.
abbrev pub IsScheduled : (ℕ → ℕ → Option ℕ) → List OnDuty → Request → Scheduled → Type 0
IsScheduled minutes vehicles request (Denied rule) =
    IsFirstFailing (booking_rules minutes vehicles request) (Some rule)
    ⊎ ((¬ AreRoutes request.trip vehicles) × (rule ≡ NoVehicle))
IsScheduled minutes vehicles request (Booked trip plan) =
    IsFirstFailing (booking_rules minutes vehicles request) None × IsBookedIn minutes vehicles request trip plan
