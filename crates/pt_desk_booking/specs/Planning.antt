-- Planning the trip of a request: the vehicles on duty, what is asked of them, and whether one can take it.
use Rattle.std.specs.Prelude.{ℕ, ◌+◌, List, [], ◌∷◌, ◌++◌, map, Any, All, Option, unwrap_or}
use Rattle.pt_base_values.specs.Ranges.{last_minute}
use Rattle.pt_base_values.specs.declared.rule.Rule.{Rule}
use Rattle.pt_base_values.specs.declared.rule.Rule.TheVariants.{NoVehicle}
use Rattle.pt_base_values.specs.declared.trip.Trip.{Trip}
use Rattle.pt_base_values.specs.declared.vehicle.Vehicle.{Vehicle}
use Rattle.pt_feasible.specs.Route.{stops_of}
use Rattle.pt_feasible.specs.declared.stop.Stop.{Stop}
use Rattle.pt_insertion_search.specs.Choice.{IsChosenIn, IsBestIn}
use Rattle.pt_insertion_search.specs.Possible.{IsPossible}
use Rattle.pt_insertion_search.specs.declared.asked.Asked.{Asked}
use Rattle.pt_insertion_search.specs.declared.chosen.Chosen.{Chosen}
use Rattle.pt_insertion_search.specs.declared.duty.Duty.{Duty}
use Rattle.pt_party.specs.Party.{load_of}
use Rattle.pt_desk_booking.specs.Request.{Request, party_of}
use Rattle.pt_desk_booking.specs.Rules.{riders_rules}
use Rattle.pt_desk_booking.specs.Window.{wished_window}

-- a vehicle on duty on the trip's day, and the stops of its route of that day
pub record OnDuty : Type 0 where
  pub vehicle : Vehicle
  pub stops : List Stop

-- the vehicles and routes of these duties
abbrev pub on_duty : List Duty → List OnDuty
on_duty duties = map (λ duty. record { vehicle = duty.vehicle.now; stops = stops_of duty.route.now }) duties

-- the most minutes of the ride: the direct time plus the policy's extra minutes (our choice); only the extra minutes if
-- there is no way
abbrev pub ride_limit : (ℕ → ℕ → Option ℕ) → Request → ℕ
ride_limit minutes request = unwrap_or (minutes request.wish.from request.wish.to) 0 + request.policy.extra_ride

-- What is asked of the vehicles: the trip with its pickup in the wished window. Its drop is by the minute that the
-- rider names, or within the day.
abbrev pub asked_for : (ℕ → ℕ → Option ℕ) → Request → Asked
asked_for minutes request = record {
  trip = request.trip;
  origin = request.wish.from;
  goal = request.wish.to;
  lo = (wished_window request.wish.pickup).from;
  hi = (wished_window request.wish.pickup).to;
  latest = unwrap_or request.wish.by last_minute;
  service = request.policy.service;
  ride = ride_limit minutes request;
  load = load_of (party_of request.wish) request.rider.wheelchair;
}

-- a booked trip as its vehicle's route has it: its pickup in the promised window, and what was fixed when it was
-- booked
abbrev pub asked_of : Trip → Asked
asked_of trip = record {
  trip = trip.id;
  origin = trip.wish.from;
  goal = trip.wish.to;
  lo = trip.window_from;
  hi = trip.window_to;
  latest = unwrap_or trip.wish.by last_minute;
  service = trip.service;
  ride = trip.ride;
  load = load_of (party_of trip.wish) trip.wheelchair;
}

-- some vehicle on duty can take the trip: there are places in its route, and service times, that meet every limit
-- (Cordeau and Laporte 2003)
abbrev pub SomeVehicleCan : (ℕ → ℕ → Option ℕ) → List OnDuty → Asked → Type 0
SomeVehicleCan minutes vehicles asked =
    Any (λ duty. (i : ℕ) × (j : ℕ) × IsPossible minutes duty.vehicle duty.stops asked i j) vehicles

-- no vehicle on duty has a better place for the trip
pub record IsBestPlace (minutes : ℕ → ℕ → Option ℕ) (vehicles : List OnDuty) (asked : Asked) (chosen : Chosen)
    : Type 0 where
  pub possible : Any (λ duty. IsChosenIn minutes duty.vehicle duty.stops asked chosen) vehicles
  pub least : All (λ duty. IsBestIn minutes duty.vehicle duty.stops asked chosen) vehicles

-- all rules of a booking; the rule on vehicles comes last
abbrev pub booking_rules : (ℕ → ℕ → Option ℕ) → List OnDuty → Request → List (Rule × Type 0)
booking_rules minutes vehicles request =
    riders_rules request ++ (NoVehicle, SomeVehicleCan minutes vehicles (asked_for minutes request)) ∷ []
