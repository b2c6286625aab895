-- What a booking needs of its day: the plans of the vehicles that work in the wished window. The route of another vehicle
-- has no place for the trip. A wish that a rule of the write or of the rider denies needs no trip and no plan of its day.
use Rattle.std.specs.Prelude.{◌≡◌, ◌⊎◌, ℕ, ◌&&◌, Bool, nat_le, List, [], ◌∷◌, filter, flat_map, Option, None, Some}
use Rattle.std.specs.Option.{option_to_list}
use Rattle.pt_base_values.specs.Moment.{Moment}
use Rattle.pt_base_values.specs.declared.rule.Rule.{Rule}
use Rattle.pt_base_values.specs.declared.trip.Trip.{Trip}
use Rattle.pt_base_values.specs.declared.trip.Wish.{Wish}
use Rattle.pt_base_values.specs.declared.vehicle.Vehicle.{Vehicle}
use Rattle.pt_desk_booking.specs.Request.{Request}
use Rattle.pt_desk_booking.specs.Rules.{IsFirstFailing, riders_rules}
use Rattle.pt_desk_booking.specs.Window.{wished_window}
use Rattle.pt_desk_rules.specs.Deciding.{IsRuling}
use Rattle.pt_desk_rules.specs.Booking.{IsRequestBy}
use Rattle.pt_desk_rules.specs.Facts.{agency_facts, booking_facts, day_of, facts_of, no_day, FactsOf}
use Rattle.pt_desk_rules.specs.Fleet.{on_duty}
use Rattle.pt_desk_rules.specs.Planned.{planned_on, trips_on}
use Rattle.pt_desk_rules.specs.State.{State, file_of, rider_of}
use Rattle.pt_desk_rules.specs.Travel.{table_on}
use Rattle.pt_desk_rules.specs.declared.deciding.Decision.{Decision}
use Rattle.pt_desk_rules.specs.declared.facts.DayFacts.{DayFacts}
use Rattle.pt_desk_rules.specs.declared.facts.WishFacts.{WishFacts}
use Rattle.pt_base_records.specs.Keys.{pair_key}
use Rattle.pt_base_records.specs.Records.{edited, record_at, Edit}
use Rattle.pt_desk_requests.specs.declared.caller.Caller.{Caller}
use Rattle.pt_desk_requests.specs.declared.request.Write.{Write}
use Rattle.pt_desk_scheduling.specs.Plan.{Plan, plan_key}

-- the vehicle's hours and the wished window of the pickup have a minute in common
abbrev pub works_in_window : Wish → Vehicle → Bool
works_in_window wish vehicle =
    nat_le vehicle.opens (wished_window wish.pickup).to && nat_le (wished_window wish.pickup).from vehicle.closes

-- the vehicles on duty on the wished day that work in the window
abbrev pub vehicles_for : Wish → List Vehicle → List Vehicle
vehicles_for wish vehicles = filter (works_in_window wish) (on_duty wish.day vehicles)

-- the plan of a vehicle among those of a day
abbrev pub plan_on : ℕ → List Plan → ℕ → Option Plan
plan_on day plans vehicle = record_at plan_key (pair_key vehicle day) (planned_on day plans)

-- the plans of these vehicles on a day, one after the other
abbrev pub plans_found : ℕ → List Plan → List Vehicle → List Plan
plans_found day plans vehicles = flat_map (λ vehicle. option_to_list (plan_on day plans vehicle.id)) vehicles

-- the same, in the order of their keys
abbrev pub plans_of : ℕ → List Vehicle → List Plan → List Plan
plans_of day vehicles plans =
    edited plan_key (record { away = []; puts = plans_found day plans vehicles }) []

-- the plans of a day with these trips; without trips no plan has a stop that counts
abbrev pub plans_if : List Trip → List Plan → List Plan
plans_if [] plans = []
plans_if (trip ∷ trips) plans = plans

-- the facts about a day, with the plans of these vehicles alone, if the day has trips
abbrev pub day_with : ℕ → List Vehicle → State → DayFacts
day_with day vehicles s =
    record (day_of day s) { plans = plans_if (trips_on day s.trips) (plans_of day vehicles s.planned) }

-- the facts with these about the day
abbrev pub with_day : WishFacts → DayFacts → WishFacts
with_day facts day = record facts { booking = record facts.booking { day = day } }

-- the facts about a rider's wish except those about its day; `old` is the trip that it changes, if any
abbrev pub asked_facts : ℕ → Option Trip → State → WishFacts
asked_facts rider old s = record (agency_facts s) {
  rider = rider_of rider s;
  file = file_of rider s;
  booking = record (booking_facts (rider_of rider s) 0 old s) { day = no_day };
}

-- the same about the wish that changes a trip, if the trip exists
abbrev pub facts_of_old : Option Trip → State → WishFacts
facts_of_old None s = agency_facts s
facts_of_old (Some trip) s = asked_facts trip.rider (Some trip) s

-- the facts with the trips of the wished day and the plans of its vehicles
abbrev pub with_plans : WishFacts → Wish → State → WishFacts
with_plans facts wish s = with_day facts (record facts.booking.day {
  trips = trips_on wish.day s.trips;
  plans = plans_if (trips_on wish.day s.trips) (plans_of wish.day (vehicles_for wish facts.vehicles) s.planned);
})

-- the facts by which a wish is decided that no rule of the write or of the rider denies
abbrev pub booked_facts : WishFacts → Wish → State → WishFacts
booked_facts facts wish s = with_day facts (day_with wish.day (vehicles_for wish facts.vehicles) s)

-- of a day's facts the travel table alone
abbrev pub travel_facts : WishFacts → Wish → State → WishFacts
travel_facts facts wish s = with_day facts (record no_day { travel = table_on wish.day s.travel })

-- a rule denies the request that the facts make of the wish, one that asks nothing of vehicles
abbrev pub IsDeniedToRider : ℕ → Option ℕ → ℕ → Wish → WishFacts → Type 0
IsDeniedToRider number left_out today wish facts =
    (request : Request) × (rule : Rule) × IsRequestBy facts number left_out today wish request
    × IsFirstFailing (riders_rules request) (Some rule)

-- these facts and those of the day that the wish needs: no trips and plans where a rule of the rider's denies it
abbrev pub AreWished : ℕ → Option ℕ → ℕ → Wish → WishFacts → State → WishFacts → Type 0
AreWished number left_out today wish facts s found =
    (found ≡ booked_facts facts wish s)
    ⊎ ((found ≡ travel_facts facts wish s) × IsDeniedToRider number left_out today wish found)

-- Facts that are enough for a write by this caller at this moment: every ruling by them is a ruling by all facts of the
-- state.
abbrev pub IsEnoughFor : (asked : Write) → Caller → Moment → State → FactsOf asked → Type 0
IsEnoughFor asked me now s facts =
    (made : Decision) → IsRuling asked me now facts made → IsRuling asked me now (facts_of asked s) made
