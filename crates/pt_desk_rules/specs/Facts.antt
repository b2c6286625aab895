-- The facts that the rules read.
use Rattle.std.specs.Prelude.{ℕ, Bool, true, List, [], length, Option, Some, None, is_some}
use Rattle.pt_base_values.specs.declared.policy.Policy.{Policy}
use Rattle.pt_base_values.specs.declared.rider.Residence.{Residence}
use Rattle.pt_base_values.specs.declared.rider.Residence.TheVariants.{Resident, Visitor}
use Rattle.pt_base_values.specs.declared.rider.Rider.{Rider}
use Rattle.pt_base_values.specs.declared.trip.Trip.{Trip}
use Rattle.pt_base_values.specs.declared.trip.Wish.{Wish}
use Rattle.pt_base_values.specs.declared.vehicle.Vehicle.{Vehicle}
use Rattle.pt_base_records.specs.Records.{record_at}
use Rattle.pt_desk_rules.specs.Fleet.{has_version}
use Rattle.pt_rights_files.specs.declared.entry.Entry.{Entry}
use Rattle.pt_rights_files.specs.declared.entry.Entry.TheVariants as entry
use Rattle.pt_rights_files.specs.declared.tally.Tally.{Tally}
use Rattle.pt_desk_rules.specs.Outcomes.{tallies_of}
use Rattle.pt_desk_rules.specs.Planned.{is_booked_from, planned_on, trips_of, trips_on}
use Rattle.pt_desk_rules.specs.State.{State, caller_with, caller_of, place_of, plan_of, route_of, rider_of}
use Rattle.pt_desk_rules.specs.State.{trip_of, file_of, rider_key, tables_before}
use Rattle.pt_desk_rules.specs.Travel.{table_on}
use Rattle.pt_desk_requests.specs.declared.caller.Role.{Role}
use Rattle.pt_desk_requests.specs.declared.caller.Role.TheVariants as role
use Rattle.pt_desk_scheduling.specs.Plan.{Plan}
use Rattle.pt_desk_rules.specs.declared.facts.BookingFacts.{BookingFacts}
use Rattle.pt_desk_rules.specs.declared.facts.CallerFacts.{CallerFacts}
use Rattle.pt_desk_rules.specs.declared.facts.CancelFacts.{CancelFacts}
use Rattle.pt_desk_rules.specs.declared.facts.DayFacts.{DayFacts}
use Rattle.pt_desk_rules.specs.declared.facts.EntryFacts.{EntryFacts}
use Rattle.pt_desk_rules.specs.declared.facts.PlaceFacts.{PlaceFacts}
use Rattle.pt_desk_rules.specs.declared.facts.ReadFacts.{ReadFacts}
use Rattle.pt_desk_rules.specs.declared.facts.RiderFacts.{RiderFacts}
use Rattle.pt_desk_rules.specs.declared.facts.RouteFacts.{RouteFacts}
use Rattle.pt_desk_rules.specs.declared.facts.TravelFacts.{TravelFacts}
use Rattle.pt_desk_rules.specs.declared.facts.VehicleFacts.{VehicleFacts}
use Rattle.pt_desk_rules.specs.declared.facts.WishFacts.{WishFacts}
use Rattle.pt_desk_requests.specs.declared.request.Read.{Read}
use Rattle.pt_desk_requests.specs.declared.request.Read.TheVariants as read
use Rattle.pt_desk_requests.specs.declared.request.Write.{Write}
use Rattle.pt_desk_requests.specs.declared.request.Write.TheVariants as write

-- nothing is planned
abbrev pub no_day : DayFacts
no_day = record { travel = None; trips = []; plans = [] }

abbrev pub no_booking : BookingFacts
no_booking = record { trip = None; plan = None; routes = []; last_trip = 0; trips = []; day = no_day }

-- what is planned for a day, and the travel table that holds then
abbrev pub day_of : ℕ → State → DayFacts
day_of day s = record {
  travel = table_on day s.travel;
  trips = trips_on day s.trips;
  plans = planned_on day s.planned;
}

-- the policy alone
abbrev pub no_facts : Policy → WishFacts
no_facts policy = record {
  policy = policy;
  rider = None;
  file = [];
  places = [];
  vehicles = [];
  booking = no_booking;
}

-- the rider or the vehicle that a role names exists
abbrev pub has_subject : Role → List Rider → List Vehicle → Bool
has_subject (role.Rider rider) riders vehicles = is_some (record_at rider_key rider riders)
has_subject (role.Driver vehicle) riders vehicles = has_version vehicle vehicles
has_subject _ riders vehicles = true

-- the facts that every booking reads
abbrev pub agency_facts : State → WishFacts
agency_facts s = record (no_facts s.policy) { places = s.places; vehicles = s.vehicles }

-- the plan that has the stops of a trip, if there is one
abbrev pub plan_for : Option Trip → State → Option Plan
plan_for None s = None
plan_for (Some trip) s = plan_of trip.vehicle trip.wish.day s

-- A visitor's days of use are those of the visitor's trips (37.127(e)). No days are counted for a resident.
abbrev pub counted_trips : Residence → List Trip → List Trip
counted_trips Visitor trips = trips
counted_trips Resident trips = []

-- the trips that count as days of use for this rider, if there is one
abbrev pub trips_counted_for : Option Rider → List Trip → List Trip
trips_counted_for None trips = []
trips_counted_for (Some rider) trips = counted_trips rider.kind (trips_of rider.id trips)

-- the facts for this rider's wish for a day; `old` is the trip that it changes, if any
abbrev pub booking_facts : Option Rider → ℕ → Option Trip → State → BookingFacts
booking_facts rider day old s = record {
  trip = old;
  plan = plan_for old s;
  routes = s.routes;
  last_trip = s.last_trip;
  trips = trips_counted_for rider s.trips;
  day = day_of day s;
}

abbrev pub wish_facts : ℕ → Wish → Option Trip → State → WishFacts
wish_facts rider wish old s = record (agency_facts s) {
  rider = rider_of rider s;
  file = file_of rider s;
  booking = booking_facts (rider_of rider s) wish.day old s;
}

-- the facts for the change of a trip, if it exists
abbrev pub change_facts : Option Trip → Wish → State → WishFacts
change_facts None wish s = agency_facts s
change_facts (Some trip) wish s = wish_facts trip.rider wish (Some trip) s

-- the rider of a trip, if there is one
abbrev pub rider_for : Option Trip → State → Option Rider
rider_for None s = None
rider_for (Some trip) s = rider_of trip.rider s

-- the facts for the cancellation of a trip, if it exists
abbrev pub cancel_facts : Option Trip → State → CancelFacts
cancel_facts found s = record { trip = found; rider = rider_for found s; plan = plan_for found s }

-- only a notice reads the outcomes of the rider's trips (37.125(h))
abbrev pub tallies_for : Entry → ℕ → State → List Tally
tallies_for (entry.Notice basis) rider s = tallies_of (trips_of rider s.trips)
tallies_for _ rider s = []

-- What the rules of a write read. Each write has facts of its own.
abbrev pub FactsOf : Write → Type 0
FactsOf (write.PutCaller new) = CallerFacts
FactsOf (write.PutPolicy new) = Unit {0}
FactsOf (write.PutPlace new) = PlaceFacts
FactsOf (write.PutRoute new) = RouteFacts
FactsOf (write.PutRider new) = RiderFacts
FactsOf (write.Enter rider entry) = EntryFacts
FactsOf (write.PutVehicle new) = VehicleFacts
FactsOf (write.Travel day rows) = TravelFacts
FactsOf (write.Book rider wish) = WishFacts
FactsOf (write.Change trip wish) = WishFacts
FactsOf (write.Cancel trip) = CancelFacts
-- the trip, if it exists
FactsOf (write.Outcome trip outcome) = Option Trip

-- the facts that a write's rules read in a state
abbrev pub facts_of : (asked : Write) → State → FactsOf asked
facts_of (write.PutCaller new) s = record {
  has_subject = has_subject new.role s.riders s.vehicles;
  caller = caller_of new.id s;
  holder = caller_with new.digest s;
  caller_count = length s.callers;
}
facts_of (write.PutPolicy new) s = tt
facts_of (write.PutPlace new) s =
    record { has_place = is_some (place_of new.id s); place_count = length s.places }
facts_of (write.PutRoute new) s =
    record { has_route = is_some (route_of new.id s); route_count = length s.routes }
facts_of (write.PutRider new) s = record { rider = rider_of new.id s; rider_count = length s.riders }
facts_of (write.Enter rider entry) s = record {
  policy = s.policy;
  rider = rider_of rider s;
  file = file_of rider s;
  tallies = tallies_for entry rider s;
}
facts_of (write.PutVehicle new) s = record {
  has_depot = is_some (place_of new.depot s);
  vehicles = s.vehicles;
  is_booked = is_booked_from (Some new.id) new.from_day s.trips;
}
facts_of (write.Travel day rows) s = record {
  places = s.places;
  tables_before = length (tables_before day s.travel);
  is_booked = is_booked_from None day s.trips;
}
facts_of (write.Book rider wish) s = wish_facts rider wish None s
facts_of (write.Change trip wish) s = change_facts (trip_of trip s) wish s
facts_of (write.Cancel trip) s = cancel_facts (trip_of trip s) s
facts_of (write.Outcome trip outcome) s = trip_of trip s

abbrev pub no_read_facts : ReadFacts
no_read_facts = record { rider = None; file = []; trips = []; vehicles = []; day = no_day }

-- the facts for manifests
abbrev pub tour_facts : ℕ → State → ReadFacts
tour_facts day s = record no_read_facts { vehicles = s.vehicles; day = day_of day s }

-- the facts that a read's rules read in a state
abbrev pub read_facts_of : Read → State → ReadFacts
read_facts_of (read.Standing rider day) s = record no_read_facts {
  rider = rider_of rider s;
  file = file_of rider s;
  trips = trips_counted_for (rider_of rider s) s.trips;
}
read_facts_of (read.Trips rider) s =
    record no_read_facts { rider = rider_of rider s; trips = trips_of rider s.trips }
read_facts_of (read.Letter rider position) s =
    record no_read_facts { rider = rider_of rider s; file = file_of rider s }
read_facts_of (read.Manifest vehicle day) s = tour_facts day s
read_facts_of (read.DaySheet day) s = tour_facts day s
read_facts_of (read.Export day) s = record no_read_facts { trips = trips_on day s.trips }
