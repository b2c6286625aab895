-- Trips that are booked, changed and cancelled.
use Rattle.std.specs.Prelude.{◌≡◌, ℕ, ◌==◌, ◌&&◌, ◌||◌, nat_lt, Bool, true, false, List, [], ◌∷◌, ◌++◌, Option}
use Rattle.std.specs.Prelude.{Some, None, is_some}
use Rattle.pt_base_values.specs.declared.place.Place.{Place}
use Rattle.pt_base_values.specs.declared.trip.Trip.{Trip}
use Rattle.pt_base_values.specs.declared.trip.Wish.{Wish}
use Rattle.pt_base_values.specs.declared.trip_status.TripStatus.{TripStatus}
use Rattle.pt_base_values.specs.declared.trip_status.TripStatus.TheVariants.{Booked, Cancelled}
use Rattle.pt_base_values.specs.Moment.{Moment}
use Rattle.pt_desk_booking.specs.Request.{party_of}
use Rattle.pt_party.specs.Fare.{due_of}
use Rattle.pt_base_records.specs.Keys.{pair_key}
use Rattle.pt_base_records.specs.Records.{Edit, record_at}
use Rattle.pt_base_records.specs.declared.span.Span.{Span}
use Rattle.pt_desk_scheduling.specs.Plan.{Plan, stops_of_plan, without}
use Rattle.pt_desk_scheduling.specs.declared.planned.PlannedStop.{PlannedStop}
use Rattle.pt_desk_rules.specs.State.{place_key}
use Rattle.pt_desk_requests.specs.declared.request.Confirmation.{Confirmation}

-- both places of a wish exist
abbrev pub has_ends : Wish → List Place → Bool
has_ends wish places = is_some (record_at place_key wish.from places) && is_some (record_at place_key wish.to places)

abbrev pub is_booked : TripStatus → Bool
is_booked Booked = true
is_booked _ = false

-- a booked trip may be changed until its day
abbrev pub is_changeable : ℕ → Option Trip → Bool
is_changeable today None = false
is_changeable today (Some trip) = is_booked trip.status && nat_lt today trip.wish.day

-- a booked trip may be cancelled until its promised window begins
abbrev pub is_cancellable : Moment → Option Trip → Bool
is_cancellable now None = false
is_cancellable now (Some trip) =
    is_booked trip.status
    && (nat_lt now.0 trip.wish.day || (now.0 == trip.wish.day && nat_lt now.1 trip.window_from))

-- the confirmation of a booked trip
pub record IsConfirmation (trip : Trip) (told : Confirmation) : Type 0 where
  pub number : told.trip ≡ trip.id
  pub vehicle : told.vehicle ≡ trip.vehicle
  pub window_from : told.window_from ≡ trip.window_from
  pub window_to : told.window_to ≡ trip.window_to
  pub fare : told.fare ≡ trip.fare
  pub due : told.due ≡ due_of trip.fare (party_of trip.wish)

-- the trip with the status cancelled
abbrev pub cancelled : Trip → Trip
cancelled trip = record trip { status = Cancelled }

-- the key of the plan that has a trip's stops, as a span
abbrev pub plan_span : Trip → Span
plan_span trip = record { from = pair_key trip.vehicle trip.wish.day; to = pair_key trip.vehicle trip.wish.day }

-- a plan of these stops in a trip's vehicle on its day; no plan if there are no stops
abbrev pub plan_of_stops : Trip → List PlannedStop → List Plan
plan_of_stops trip [] = []
plan_of_stops trip (stop ∷ stops) =
    record { vehicle = trip.vehicle; day = trip.wish.day; stops = stop ∷ stops } ∷ []

-- an edit that removes a trip's stops from their plan
abbrev pub gives_up : Trip → Option Plan → Edit Plan
gives_up trip plan = record {
  away = plan_span trip ∷ [];
  puts = plan_of_stops trip (without trip.id (stops_of_plan plan));
}

-- an edit that removes a trip's stops from their plan, and puts a new plan
abbrev pub moves_to : Trip → Option Plan → Plan → Edit Plan
moves_to trip plan new = record {
  away = plan_span trip ∷ [];
  puts = plan_of_stops trip (without trip.id (stops_of_plan plan)) ++ new ∷ [];
}
