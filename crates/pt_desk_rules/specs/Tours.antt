-- What the vehicles do on a day: their routes at the least service times (Cordeau and Laporte 2003), as drivers read
-- them.
use Rattle.std.specs.Prelude.{◌≡◌, ℕ, ◌+◌, ◌<◌, List, length, take, filter, slice_get, slice_index}
use Rattle.std.specs.Prelude.{Option, Some, None, IsTrue, is_some, Any}
use Rattle.std.specs.List.{AllZip}
use Rattle.pt_base_values.specs.Day.{IsDay}
use Rattle.pt_base_values.specs.TripStatus.{stands}
use Rattle.pt_base_values.specs.declared.load.Load.{Load}
use Rattle.pt_base_values.specs.declared.trip.Trip.{Trip}
use Rattle.pt_base_values.specs.declared.vehicle.Vehicle.{Vehicle}
use Rattle.pt_base_values.specs.declared.window.Window.{Window}
use Rattle.pt_feasible.specs.Loads.{load_aboard}
use Rattle.pt_feasible.specs.ServiceTimes.{IsLeastSchedule}
use Rattle.pt_feasible.specs.declared.stop.Stop.{Stop}
use Rattle.pt_feasible.specs.declared.stop.StopKind.{StopKind}
use Rattle.pt_feasible.specs.declared.stop.StopKind.TheVariants.{Pickup, Drop}
use Rattle.pt_desk_requests.specs.declared.sheets.DaySheet.{DaySheet}
use Rattle.pt_desk_requests.specs.declared.sheets.Tour.{Tour}
use Rattle.pt_desk_requests.specs.declared.sheets.TourStop.{TourStop}
use Rattle.pt_desk_requests.specs.declared.sheets.VehicleSheet.{VehicleSheet}
use Rattle.pt_base_records.specs.Records.{record_at, Each}
use Rattle.pt_desk_scheduling.specs.Plan.{planned_stops, Plan}
use Rattle.pt_desk_scheduling.specs.Routes.{stops_on, IsRoute}
use Rattle.pt_travel.specs.Chain.{Row}
use Rattle.pt_desk_rules.specs.Booking.{rows_of, AreTimes}
use Rattle.pt_desk_rules.specs.Facts.{day_of}
use Rattle.pt_desk_rules.specs.Fleet.{duty_of, on_duty}
use Rattle.pt_desk_rules.specs.Sound.{CanDrive}
use Rattle.pt_desk_rules.specs.State.{State, trip_key}
use Rattle.pt_desk_rules.specs.declared.facts.DayFacts.{DayFacts}

-- a pickup has the promised window, a drop has none
abbrev pub window_of : StopKind → Trip → Option Window
window_of Pickup trip = Some (record { from = trip.window_from; to = trip.window_to })
window_of Drop trip = None

-- the place of a trip's stop
abbrev pub place_of : StopKind → Trip → ℕ
place_of Pickup trip = trip.wish.from
place_of Drop trip = trip.wish.to

-- a trip's stop as the driver reads it: service begins at this minute, and this load is aboard afterwards
abbrev pub tour_stop : StopKind → Trip → ℕ → Load → TourStop
tour_stop kind trip minute aboard = record {
  minute = minute;
  window = window_of kind trip;
  trip = trip.id;
  rider = trip.rider;
  place = place_of kind trip;
  aboard = aboard;
}

-- what is shown of stop number k: its trip, the start of its service, and the load aboard afterwards
pub record IsShownAt (trips : List Trip) (stops : List Stop) (b : List ℕ) (k : ℕ) (shown : TourStop) : Type 0 where
  pub stop : Stop
  pub trip : Trip
  pub is_stop : slice_get stops k ≡ Some stop
  pub is_trip : record_at trip_key stop.trip trips ≡ Some trip
  pub value : shown ≡ tour_stop stop.kind trip (slice_index b (k + 1)) (load_aboard (take (k + 1) stops))

-- each stop is shown, in order
pub record AreShown (trips : List Trip) (stops : List Stop) (b : List ℕ) (shown : List TourStop) : Type 0 where
  pub one_each : length shown ≡ length stops
  pub each : (k : ℕ) (stop : TourStop) → slice_get shown k ≡ Some stop → IsShownAt trips stops b k stop

-- the tour of a vehicle over these stops, at these service times: from its depot and back
pub record IsTourAt (vehicle : Vehicle) (trips : List Trip) (stops : List Stop) (b : List ℕ) (tour : Tour) :
    Type 0 where
  pub depot : tour.depot ≡ vehicle.depot
  pub chairs : tour.chairs ≡ vehicle.chairs
  pub leaves : tour.leaves ≡ slice_index b 0
  pub shown : AreShown trips stops b tour.stops.items
  pub returns : tour.returns ≡ slice_index b (length stops + 1)

-- the tour at the least service times that fit, by the driving times of these rows
abbrev pub IsTour : List Row → Vehicle → List Trip → List Stop → Tour → Type 0
IsTour rows vehicle trips stops tour =
    (minutes : ℕ → ℕ → Option ℕ) × AreTimes rows minutes
    × (b : List ℕ) × IsLeastSchedule minutes vehicle stops b × IsTourAt vehicle trips stops b tour

-- A vehicle has a tour if it has stops and can drive them as a route. In a sound state it can.
pub record HasTour (rows : List Row) (vehicle : Vehicle) (stops : List Stop) : Type 0 where
  pub some : 0 < length stops
  pub route : IsRoute stops
  pub can_drive : CanDrive rows stops vehicle

-- a vehicle's tour, or None if it has none
abbrev pub IsTourOrNone : List Row → Vehicle → List Trip → List Stop → Option Tour → Type 0
IsTourOrNone rows vehicle trips stops None = ¬ HasTour rows vehicle stops
IsTourOrNone rows vehicle trips stops (Some tour) = HasTour rows vehicle stops × IsTour rows vehicle trips stops tour

-- the sheet of a vehicle on duty on a day
pub record IsSheetOf (day : ℕ) (facts : DayFacts) (vehicle : Vehicle) (sheet : VehicleSheet) : Type 0 where
  pub number : sheet.vehicle ≡ vehicle.id
  pub tour : IsTourOrNone (rows_of facts.travel) vehicle facts.trips (stops_on day facts.trips facts.plans vehicle.id)
      sheet.tour

-- the manifest of a vehicle: its sheet if it is on duty, and no tour otherwise
abbrev pub IsManifestOf : ℕ → ℕ → DayFacts → Option Vehicle → VehicleSheet → Type 0
IsManifestOf id day facts None sheet = sheet ≡ record { vehicle = id; tour = None }
IsManifestOf id day facts (Some version) sheet = IsSheetOf day facts version sheet

-- the number of trips that are not cancelled
abbrev pub standing_count : List Trip → ℕ
standing_count trips = length (filter (λ trip. stands trip.status) trips)

-- the sheets of all vehicles on duty on a day, and the number of the day's trips that are not cancelled
pub record IsDaySheet (day : ℕ) (vehicles : List Vehicle) (facts : DayFacts) (sheet : DaySheet) : Type 0 where
  pub on_day : sheet.day ≡ day
  pub sheets : AllZip (IsSheetOf day facts) (on_duty day vehicles) sheet.vehicles.items
  pub standing : sheet.trips ≡ standing_count facts.trips

-- the vehicle of a plan is on duty on its day
abbrev pub IsOnDutyIn : List Vehicle → Plan → Type 0
IsOnDutyIn vehicles plan = Any (λ version. version.id ≡ plan.vehicle) (on_duty plan.day vehicles)

-- every vehicle with a plan of a day is on duty that day
abbrev pub PlansAreOnDuty : State → Type 0
PlansAreOnDuty s = Each (IsOnDutyIn s.vehicles) s.planned

-- every vehicle that has stops on a day has its tour on the manifest
abbrev pub HasTours : State → Type 0
HasTours s = (id day : ℕ) (sheet : VehicleSheet) → IsDay day → 0 < length (planned_stops id day s.planned)
    → IsManifestOf id day (day_of day s) (duty_of id day s.vehicles) sheet → IsTrue (is_some sheet.tour)

-- the trip of this number is in this vehicle on this day, and is not cancelled
abbrev pub StandsOn : State → ℕ → ℕ → ℕ → Type 0
StandsOn s id day number =
    (trip : Trip) × (record_at trip_key number s.trips ≡ Some trip) × IsTrue (stands trip.status)
    × (trip.vehicle ≡ id) × (trip.wish.day ≡ day)

-- a manifest shows only stops of trips in its vehicle on its day that are not cancelled
abbrev pub ShowStandingTrips : State → Type 0
ShowStandingTrips s = (id day : ℕ) (sheet : VehicleSheet) (tour : Tour) (k : ℕ) (shown : TourStop) → IsDay day
    → IsManifestOf id day (day_of day s) (duty_of id day s.vehicles) sheet → sheet.tour ≡ Some tour
    → slice_get tour.stops.items k ≡ Some shown → StandsOn s id day shown.trip
