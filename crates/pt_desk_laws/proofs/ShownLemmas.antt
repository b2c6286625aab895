-- In a sound state the manifest of a vehicle shows only its trips of the day that are not cancelled.
use Rattle.std.proofs.Common.{◌≡◌, ℕ, List, [], ◌∷◌, Option, Some, None, refl, sym, ap, ◌∙◌, subst}
use Rattle.std.specs.Prelude.{◌==◌, slice_get}
use Rattle.pt_desk_rules.specs.Load.{Load}
use Rattle.pt_desk_rules.specs.Day.{IsDay}
use Rattle.pt_desk_rules.specs.Trip.{Trip}
use Rattle.pt_desk_rules.specs.Vehicle.{Vehicle}
use Rattle.pt_desk_rules.specs.Stop.{Stop}
use Rattle.pt_desk_rules.specs.Tour.{Tour}
use Rattle.pt_desk_rules.specs.TourStop.{TourStop}
use Rattle.pt_desk_rules.specs.VehicleSheet.{VehicleSheet}
use Rattle.pt_base_records.specs.Keys.{pair_key}
use Rattle.pt_base_records.specs.Records.{record_at, Each}
use Rattle.pt_base_records.proofs.TableLemmas.{Each-filter}
use Rattle.pt_desk_scheduling.specs.Plan.{Plan, after_stop, planned_stops, stops_among}
use Rattle.pt_desk_scheduling.specs.Routes.{stops_on}
use Rattle.pt_desk_scheduling.specs.declared.planned.PlannedStop.{PlannedStop}
use Rattle.pt_desk_scheduling.proofs.PlanLemmas.{found_key, stop_trip}
use Rattle.pt_desk_scheduling.proofs.RouteLemmas.{Each-found}
use Rattle.pt_desk_rules.specs.Booking.{rows_of}
use Rattle.pt_desk_rules.specs.Facts.{day_of}
use Rattle.pt_desk_rules.specs.Fleet.{duty_of, is_on_duty, on_duty}
use Rattle.pt_desk_rules.specs.Planned.{planned_on, trips_on}
use Rattle.pt_desk_rules.specs.Sound.{HasDay, HasStandingTrips, IsSound, StandsIn}
use Rattle.pt_desk_rules.specs.State.{trip_key, State}
use Rattle.pt_desk_rules.specs.Tours.{tour_stop, IsManifestOf, IsShownAt, IsTourOrNone, ShowStandingTrips, StandsOn}
use Rattle.pt_desk_rules.specs.Travel.{table_on}
use Rattle.pt_desk_laws.proofs.DutyLemmas.{id_of}
use Rattle.pt_desk_laws.proofs.HasTourLemmas.{find_both}
use Rattle.pt_desk_laws.proofs.PlannedLemmas.{standing_at}
use Rattle.pt_desk_laws.proofs.StandingLemmas.{same_day, same_vehicle}
use Rattle.pt_desk_rules.proofs.TourLemmas.{each_at}
use Rattle.pt_desk_rules.proofs.RangeLemmas.{trip_days}

after_of : (P : ℕ → Type 0) (trips : List Trip) (stop : PlannedStop) (found : Option Trip) (rest : List Stop)
    → record_at trip_key stop.trip trips ≡ found → P stop.trip → Each (λ (s : Stop). P s.trip) rest
    → Each (λ (s : Stop). P s.trip) (after_stop found stop.kind rest)
after_of P trips stop None rest found holds each = each
after_of P trips stop (Some trip) rest found holds each = (
  subst P (sym (stop_trip stop.kind trip ∙ found_key trip_key stop.trip trip trips found)) holds,
  each,
)

-- a property of the trips of planned stops holds for the trips of the stops that are selected from them
each_among : (P : ℕ → Type 0) (trips : List Trip) (stops : List PlannedStop)
    → Each (λ (stop : PlannedStop). P stop.trip) stops → Each (λ (s : Stop). P s.trip) (stops_among trips stops)
each_among P trips [] each = tt
each_among P trips (stop ∷ later) each =
    after_of P trips stop (record_at trip_key stop.trip trips) (stops_among trips later) refl each.0
    (each_among P trips later each.1)

-- a trip in the vehicle and on the day of a plan that is not cancelled
stands_on : (s : State) (id day vehicle number : ℕ) → IsSound s → IsDay day → vehicle ≡ id
    → StandsIn s.trips (pair_key vehicle day) number → StandsOn s id day number
stands_on s id day vehicle number sound is_day own (trip, found, standing, place) =
    let on = Each-found HasDay trip_key number trip s.trips (trip_days s sound) found in (
      trip,
      found,
      standing,
      same_vehicle trip.vehicle trip.wish.day vehicle day on.1 is_day.1 place ∙ own,
      same_day trip.vehicle trip.wish.day vehicle day on.1 is_day.1 place,
    )

-- each stop of a vehicle on a day is of such a trip
stop_stands : (s : State) (vehicle day k : ℕ) (stop : Stop) → IsSound s
    → slice_get (stops_on day (trips_on day s.trips) (planned_on day s.planned) vehicle) k ≡ Some stop
    → StandsIn s.trips (pair_key vehicle day) stop.trip
stop_stands s vehicle day k stop sound at =
    let planned = planned_stops vehicle day (planned_on day s.planned) in
    let plans = Each-filter (HasStandingTrips s.trips) (λ (p : Plan). p.day == day) s.planned
    sound.planned_trips_stand in
    each_at (λ (stop : Stop). StandsIn s.trips (pair_key vehicle day) stop.trip)
    (stops_among (trips_on day s.trips) planned)
    (each_among (StandsIn s.trips (pair_key vehicle day)) (trips_on day s.trips) planned
    (standing_at s.trips vehicle day (planned_on day s.planned) plans)) k stop at

-- the shown stop has the number of its trip
number_of : (trips : List Trip) (stop : Stop) (trip : Trip) (minute : ℕ) (aboard : Load) (shown : TourStop)
    → record_at trip_key stop.trip trips ≡ Some trip → shown ≡ tour_stop stop.kind trip minute aboard
    → shown.trip ≡ stop.trip
number_of trips stop trip minute aboard shown found is =
    ap (λ (t : TourStop). t.trip) is ∙ found_key trip_key stop.trip trip trips found

shown_here : (s : State) (id day vehicle k : ℕ) (b : List ℕ) (shown : TourStop) → IsSound s → IsDay day → vehicle ≡ id
    → IsShownAt (trips_on day s.trips) (stops_on day (trips_on day s.trips) (planned_on day s.planned) vehicle) b k shown
    → StandsOn s id day shown.trip
shown_here s id day vehicle k b shown sound is_day own here =
    let number = number_of (trips_on day s.trips) here.stop here.trip _ _ shown here.is_trip here.value in
    let stands = stop_stands s vehicle day k here.stop sound here.is_stop in
    subst (StandsOn s id day) (sym number) (stands_on s id day vehicle here.stop.trip sound is_day own stands)

shown_stands : (s : State) (id day : ℕ) (version : Vehicle) (tour : Option Tour) (there : Tour) (k : ℕ)
    (shown : TourStop) → IsSound s → IsDay day → version.id ≡ id
    → IsTourOrNone (rows_of (table_on day s.travel)) version (trips_on day s.trips)
    (stops_on day (trips_on day s.trips) (planned_on day s.planned) version.id) tour
    → tour ≡ Some there → slice_get there.stops.items k ≡ Some shown → StandsOn s id day shown.trip
shown_stands s id day version None there k shown sound is_day own told is at = absurd (cc)
shown_stands s id day version (Some tour) there k shown sound is_day own (has, (minutes, times, b, least, drives)) is at =
    let same : tour ≡ there = cc in
    let here = drives.shown.each k shown (subst (λ (t : Tour). slice_get t.stops.items k ≡ Some shown) (sym same) at) in
    shown_here s id day version.id k b shown sound is_day own here

by_duty : (s : State) (id day : ℕ) (duty : Option Vehicle) (sheet : VehicleSheet) (tour : Tour) (k : ℕ)
    (shown : TourStop) → IsSound s → IsDay day → duty_of id day s.vehicles ≡ duty
    → IsManifestOf id day (day_of day s) duty sheet → sheet.tour ≡ Some tour
    → slice_get tour.stops.items k ≡ Some shown → StandsOn s id day shown.trip
by_duty s id day None sheet tour k shown sound is_day of shows is at =
    absurd (let none = ap (λ (v : VehicleSheet). v.tour) shows in cc)
by_duty s id day (Some version) sheet tour k shown sound is_day of shows is at =
    let found = sym (find_both (λ (v : Vehicle). v.id == id) (is_on_duty day s.vehicles) s.vehicles) ∙ of in
    let own : version.id ≡ id = found_key id_of id version (on_duty day s.vehicles) found in
    shown_stands s id day version sheet.tour tour k shown sound is_day own shows.tour is at

-- in a sound state manifests show only trips that are not cancelled
pub show_standing_trips : (s : State) → IsSound s → ShowStandingTrips s
show_standing_trips s sound id day sheet tour k shown is_day shows is at =
    by_duty s id day (duty_of id day s.vehicles) sheet tour k shown sound is_day refl shows is at
