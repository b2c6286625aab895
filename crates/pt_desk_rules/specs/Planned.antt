-- The trips that are planned, by rider, by day, and by vehicle.
use Rattle.std.specs.Prelude.{ℕ, ◌==◌, ◌&&◌, nat_le, Bool, true, List, filter, Option, Some, None}
use Rattle.std.specs.List.{list_any}
use Rattle.pt_base_values.specs.TripStatus.{stands}
use Rattle.pt_base_values.specs.declared.trip.Trip.{Trip}
use Rattle.pt_desk_scheduling.specs.Plan.{Plan}

-- the trip is in the vehicle, if one is given
abbrev pub is_of : Option ℕ → Trip → Bool
is_of None trip = true
is_of (Some vehicle) trip = trip.vehicle == vehicle

-- the trip is not cancelled, is on that day or later, and is in the vehicle if one is given
abbrev pub is_standing_from : Option ℕ → ℕ → Trip → Bool
is_standing_from vehicle day trip = stands trip.status && nat_le day trip.wish.day && is_of vehicle trip

-- some trip is not cancelled, is on that day or later, and is in the vehicle if one is given
abbrev pub is_booked_from : Option ℕ → ℕ → List Trip → Bool
is_booked_from vehicle day trips = list_any (is_standing_from vehicle day) trips

-- all trips of a rider, whatever their status
abbrev pub trips_of : ℕ → List Trip → List Trip
trips_of rider trips = filter (λ trip. trip.rider == rider) trips

-- the trips of a day
abbrev pub trips_on : ℕ → List Trip → List Trip
trips_on day trips = filter (λ trip. trip.wish.day == day) trips

-- the plans of the vehicles on a day
abbrev pub planned_on : ℕ → List Plan → List Plan
planned_on day plans = filter (λ plan. plan.day == day) plans
