-- A trip that is booked, and its vehicle's new route.
use Rattle.std.specs.Prelude.{◌≡◌, ℕ, ◌+◌, ◌↔◌, Bool, IsTrue, List, Option, Result, Ok, Err, slice_index}
use Rattle.pt_base_values.specs.declared.trip.Trip.{Trip}
use Rattle.pt_base_values.specs.declared.trip_status.TripStatus.TheVariants as status
use Rattle.pt_corridor.specs.Corridor.{HasOneRoute}
use Rattle.pt_feasible.specs.Loads.{LoadsFit}
use Rattle.pt_feasible.specs.ServiceTimes.{IsLeastSchedule}
use Rattle.pt_feasible.specs.declared.stop.Stop.{Stop}
use Rattle.pt_insertion_search.specs.Insertion.{with_trip}
use Rattle.pt_insertion_search.specs.declared.chosen.Chosen.{Chosen}
use Rattle.pt_party.specs.Fare.{fare_of}
use Rattle.pt_desk_booking.specs.Planning.{OnDuty, asked_of, ride_limit}
use Rattle.pt_desk_booking.specs.Request.{Request}
use Rattle.pt_desk_booking.specs.Window.{wished_window, promised_window}
use Rattle.pt_desk_booking.specs.declared.booking.Booking.{Booking}
use Rattle.pt_desk_booking.specs.declared.booking.BookingDecision.{BookingDecision}
use Rattle.pt_desk_booking.specs.declared.booking.BookingDecision.TheVariants.{Booked, Denied}
use Rattle.pt_base_values.specs.declared.window.Window.{Window}

-- the fare, by whether one route that runs at the day and the wished minute joins both ends (49 CFR 37.131(c)(1))
abbrev pub IsFare : Request → ℕ → Type 0
IsFare request fare =
    (joined : Bool)
    × (IsTrue joined ↔ HasOneRoute request.routes request.from request.to request.wish.day request.wish.pickup)
    × (fare ≡ fare_of request.policy joined)

-- the least minute at which the pickup can begin at the chosen place
abbrev pub planned_pickup : Chosen → ℕ
planned_pickup chosen = slice_index chosen.schedule.items (chosen.i + 1)

-- the window that is promised at the chosen place
abbrev pub promised_at : Request → Chosen → Window
promised_at request chosen = promised_window (wished_window request.wish.pickup) (planned_pickup chosen)

-- the trip as it is stored: the wish, and what is fixed at booking, with a vehicle and a promised window
pub record IsTripIn (minutes : ℕ → ℕ → Option ℕ) (request : Request) (vehicle : ℕ) (promised : Window)
    (trip : Trip) : Type 0 where
  pub number : trip.id ≡ request.trip
  pub rider : trip.rider ≡ request.rider.id
  pub wish : trip.wish ≡ request.wish
  pub wheelchair : trip.wheelchair ≡ request.rider.wheelchair
  pub fare : IsFare request trip.fare
  pub service : trip.service ≡ request.policy.service
  pub ride : trip.ride ≡ ride_limit minutes request
  pub vehicle_number : trip.vehicle ≡ vehicle
  pub window_from : trip.window_from ≡ promised.from
  pub window_to : trip.window_to ≡ promised.to
  pub status : trip.status ≡ status.Booked

-- the trip in the chosen vehicle, with the window that is promised there
abbrev pub IsTripOf : (ℕ → ℕ → Option ℕ) → Request → Chosen → Trip → Type 0
IsTripOf minutes request chosen trip = IsTripIn minutes request chosen.vehicle (promised_at request chosen) trip

-- The new route of the chosen vehicle: its old stops with the trip's two at the chosen places, under the promised
-- window. Its loads fit, and the schedule of the choice is its least.
pub record IsNewRoute (minutes : ℕ → ℕ → Option ℕ) (duty : OnDuty) (trip : Trip) (chosen : Chosen)
    (stops : List Stop) : Type 0 where
  pub vehicle : duty.vehicle.id ≡ chosen.vehicle
  pub stops_with_trip : stops ≡ with_trip (asked_of trip) chosen.i chosen.j duty.stops
  pub loads : LoadsFit duty.vehicle stops
  pub schedule : IsLeastSchedule minutes duty.vehicle stops chosen.schedule.items

-- the trip is booked, or the call ran out of memory; no rule denies it
abbrev pub IsAllowed : {E : Type 0} → Result BookingDecision E → Type 0
IsAllowed (Ok (Booked booking)) = Unit {0}
IsAllowed (Ok (Denied rule)) = ⊥
IsAllowed (Err error) = Unit {0}

-- P holds for the booking, if there is one
abbrev pub IfBooked : {E : Type 0} → Result BookingDecision E → (Booking → Type 0) → Type 0
IfBooked (Ok (Booked booking)) P = P booking
IfBooked (Ok (Denied rule)) P = Unit {0}
IfBooked (Err error) P = Unit {0}
