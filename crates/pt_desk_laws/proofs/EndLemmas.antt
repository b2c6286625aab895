-- A sound state stays sound when a booked trip gets its outcome.
use Rattle.std.proofs.Common.{rules, ◌≡◌, ℕ, true, IsTrue, List, [], ◌∷◌, Option, Some, refl, sym, ap, ◌∙◌, subst, inl, inr}
use Rattle.std.proofs.lemmas.Option.{same_Some}
use Rattle.pt_desk_rules.specs.TripStatuses.{stands}
use Rattle.pt_desk_rules.specs.Trip.{Trip}
use Rattle.pt_desk_rules.specs.TripStatus.{TripStatus}
use Rattle.pt_desk_rules.specs.TripStatus.TheVariants.{Booked}
use Rattle.pt_base_records.specs.Keys.{pair_key}
use Rattle.pt_base_records.specs.Records.{put, record_at, Each}
use Rattle.pt_base_records.proofs.OrderLemmas.{record_at-put_other, record_at-put_same, Each-put, Each-weaker, IsInOrder-put}
use Rattle.pt_base_records.proofs.TableLemmas.{same_or_other}
use Rattle.pt_desk_rules.specs.Outcome.{Outcome}
use Rattle.pt_desk_rules.specs.Outcome.TheVariants as outcome
use Rattle.pt_desk_rules.specs.Stop.{Stop}
use Rattle.pt_desk_rules.specs.StopKind.{StopKind}
use Rattle.pt_desk_rules.specs.StopKind.TheVariants.{Pickup, Drop}
use Rattle.pt_desk_scheduling.specs.Plan.{Plan, after_stop, plan_key, stops_among, trip_stop}
use Rattle.pt_desk_scheduling.specs.declared.planned.PlannedStop.{PlannedStop}
use Rattle.pt_desk_scheduling.proofs.PlanLemmas.{found_key}
use Rattle.pt_desk_scheduling.proofs.RouteLemmas.{Each-found}
use Rattle.pt_desk_rules.specs.Outcomes.{ended, status_of}
use Rattle.pt_desk_rules.specs.Sound.{IsSound, IsNumberedTo, HasPlaces, HasStandingTrips, IsOfRider, IsPlanned, StandsIn}
use Rattle.pt_desk_rules.specs.State.{State, trip_key, trip_of}
use Rattle.pt_desk_rules.specs.Trips.{is_booked}
use Rattle.pt_desk_laws.proofs.FitLemmas.{each_drive, each_load, planned_fit, CanServe, FitsIn}
use Rattle.pt_desk_laws.proofs.PlannedLemmas.{put_stands, still_stands}
use Rattle.pt_desk_rules.specs.Ranges.{KeepsRanges}

-- a trip with an outcome is not cancelled
ended_stands : (end : Outcome) → stands (status_of end) ≡ true
ended_stands outcome.Ridden = refl
ended_stands outcome.MissedRider = refl
ended_stands outcome.MissedOperator = refl

booked_stands : (status : TripStatus) → IsTrue (is_booked status) → IsTrue (stands status)
booked_stands Booked booked = refl
booked_stands status booked = absurd (cc)

-- it is still in its vehicle on its day
stands_on : (end : Outcome) (trip : Trip) (trips : List Trip) (key number : ℕ)
    → record_at trip_key trip.id trips ≡ Some trip → StandsIn trips key number
    → StandsIn (put trip_key (ended end trip) trips) key number
stands_on end trip trips key number here (there, found, standing, at) = elim (same_or_other number trip.id) [
  | inl same ↦
      let one : there ≡ trip = same_Some there trip (sym found ∙ ap (λ (n : ℕ). record_at trip_key n trips) same ∙ here) in
      subst (λ (n : ℕ). StandsIn (put trip_key (ended end trip) trips) key n) (sym same)
      (put_stands trips (ended end trip) key (ended_stands end) (sym (ap (λ (t : Trip). pair_key t.vehicle t.wish.day) one) ∙ at))
  | inr other ↦ still_stands trips (ended end trip) key number other (there, found, standing, at)
]

plans_stand : (end : Outcome) (trip : Trip) (trips : List Trip) (plans : List Plan)
    → record_at trip_key trip.id trips ≡ Some trip → Each (HasStandingTrips trips) plans
    → Each (HasStandingTrips (put trip_key (ended end trip) trips)) plans
plans_stand end trip trips plans here each =
    Each-weaker (HasStandingTrips trips) (HasStandingTrips (put trip_key (ended end trip) trips))
    (λ plan standing. Each-weaker (λ (stop : PlannedStop). StandsIn trips (plan_key plan) stop.trip) (λ (stop : PlannedStop). StandsIn (put trip_key (ended end trip) trips) (plan_key plan) stop.trip)
    (λ stop on. stands_on end trip trips (plan_key plan) stop.trip here on) plan.stops standing) plans each

same_stop : (kind : StopKind) (end : Outcome) (trip : Trip) → trip_stop kind (ended end trip) ≡ trip_stop kind trip
same_stop Pickup end trip = refl
same_stop Drop end trip = refl

-- the stops of all routes are unchanged
pub ended_stops : (end : Outcome) (trip : Trip) (trips : List Trip) → record_at trip_key trip.id trips ≡ Some trip
    → (stops : List PlannedStop) → stops_among (put trip_key (ended end trip) trips) stops ≡ stops_among trips stops
ended_stops end trip trips here [] = refl
ended_stops end trip trips here (stop ∷ later) =
    let new = put trip_key (ended end trip) trips in
    elim (same_or_other stop.trip trip.id) [
      | inl same ↦
          ap (λ (n : ℕ). after_stop (record_at trip_key n new) stop.kind (stops_among new later)) same
          ∙ ap (λ (found : Option Trip). after_stop found stop.kind (stops_among new later)) (record_at-put_same trip_key (ended end trip) trips)
          ∙ ap (λ (s : Stop). s ∷ stops_among new later) (same_stop stop.kind end trip)
          ∙ ap (λ (rest : List Stop). trip_stop stop.kind trip ∷ rest) (ended_stops end trip trips here later)
          ∙ ap (λ (found : Option Trip). after_stop found stop.kind (stops_among trips later)) (sym here)
          ∙ ap (λ (n : ℕ). after_stop (record_at trip_key n trips) stop.kind (stops_among trips later)) (sym same)
      | inr other ↦
          ap (λ (found : Option Trip). after_stop found stop.kind (stops_among new later)) (record_at-put_other trip_key stop.trip (ended end trip) trips (λ is. other (sym is)))
          ∙ ap (λ (rest : List Stop). after_stop (record_at trip_key stop.trip trips) stop.kind rest) (ended_stops end trip trips here later)
    ]

pub end_sound : (end : Outcome) (id : ℕ) (trip : Trip) (s : State) → IsSound s → trip_of id s ≡ Some trip → IsTrue (is_booked trip.status)
    → KeepsRanges (record s { trips = put trip_key (ended end trip) s.trips }) → IsSound (record s { trips = put trip_key (ended end trip) s.trips })
end_sound end id trip s sound found booked ranges =
    let here : record_at trip_key trip.id s.trips ≡ Some trip = subst (λ (n : ℕ). record_at trip_key n s.trips ≡ Some trip) (sym (found_key trip_key id trip s.trips found)) found in
    let order = IsInOrder-put trip_key (ended end trip) s.trips sound.trips_in_order in
    let numbered = Each-put (IsNumberedTo s.last_trip) trip_key (ended end trip) s.trips sound.trips_numbered
    (Each-found (IsNumberedTo s.last_trip) trip_key id trip s.trips sound.trips_numbered found) in
    let riders = Each-put (IsOfRider s.riders) trip_key (ended end trip) s.trips sound.trips_of_riders (Each-found (IsOfRider s.riders) trip_key id trip s.trips sound.trips_of_riders found) in
    let ends = Each-put (HasPlaces s.places) trip_key (ended end trip) s.trips sound.trip_places_there (Each-found (HasPlaces s.places) trip_key id trip s.trips sound.trip_places_there found) in
    let standing = plans_stand end trip s.trips s.planned here sound.planned_trips_stand in
    let planned = Each-put (IsPlanned s.planned) trip_key (ended end trip) s.trips sound.standing_planned
    (λ _. Each-found (IsPlanned s.planned) trip_key id trip s.trips sound.standing_planned found
    (booked_stands trip.status booked)) in
    let fit = Each-weaker (FitsIn s.vehicles s.travel s.trips) (FitsIn s.vehicles s.travel (put trip_key (ended end trip) s.trips))
    (λ plan fits. subst (λ (stops : List Stop). CanServe s.vehicles s.travel plan.vehicle plan.day stops) (sym (ended_stops end trip s.trips here plan.stops)) fits)
    s.planned (planned_fit s sound) in
    let drive = each_drive s.vehicles s.travel (put trip_key (ended end trip) s.trips) s.planned fit in
    let load = each_load s.vehicles s.travel (put trip_key (ended end trip) s.trips) s.planned fit in
    search rules
