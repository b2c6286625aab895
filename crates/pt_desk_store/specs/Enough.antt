-- Facts that are enough for a read. For the manifest of a vehicle: its plan, and the trips at the stops of the plan.
use Rattle.std.specs.Prelude.{◌≡◌, ℕ, ◌==◌, ◌&&◌, Bool, true, false, List, ◌∷◌, [], Option, Some, None}
use Rattle.pt_base_values.specs.Moment.{Moment}
use Rattle.pt_base_values.specs.declared.trip.Trip.{Trip}
use Rattle.pt_desk_rules.specs.Deciding.{IsTold}
use Rattle.pt_desk_rules.specs.Facts.{no_read_facts, read_facts_of}
use Rattle.pt_desk_rules.specs.State.{State, plan_of, trip_key, trip_of}
use Rattle.pt_desk_rules.specs.Travel.{table_on}
use Rattle.pt_desk_rules.specs.declared.facts.ReadFacts.{ReadFacts}
use Rattle.pt_base_records.specs.Records.{Each, record_at}
use Rattle.pt_desk_requests.specs.declared.caller.Caller.{Caller}
use Rattle.pt_desk_requests.specs.declared.request.Answer.{Answer}
use Rattle.pt_desk_requests.specs.declared.request.Read.{Read}
use Rattle.pt_desk_requests.specs.declared.request.Read.TheVariants.{Manifest}
use Rattle.pt_desk_scheduling.specs.Plan.{Plan}
use Rattle.pt_desk_scheduling.specs.declared.planned.PlannedStop.{PlannedStop}

-- facts that are enough for a read: every answer by them is an answer by all facts of the state
abbrev pub IsEnough : Read → State → ReadFacts → Type 0
IsEnough read s facts = (me : Caller) (now : Moment) (told : Answer) →
    IsTold read me now facts told → IsTold read me now (read_facts_of read s) told

-- facts that are enough for the manifest on this day of the vehicle that has this plan
abbrev pub IsEnoughBy : ℕ → Plan → State → ReadFacts → Type 0
IsEnoughBy day plan s facts =
    (vehicle : ℕ) → plan_of vehicle day s ≡ Some plan → IsEnough (Manifest vehicle day) s facts

-- the state has the trip under some number
abbrev pub IsTripIn : State → Trip → Type 0
IsTripIn s trip = (number : ℕ) × (trip_of number s ≡ Some trip)

abbrev pub AreTripsIn : State → List Trip → Type 0
AreTripsIn s trips = Each (IsTripIn s) trips

-- a trip is there, and it is on this day
abbrev pub is_on : ℕ → Option Trip → Bool
is_on day None = false
is_on day (Some trip) = trip.wish.day == day

-- the stop's trip is among these, and it is on this day
abbrev pub is_met : ℕ → List Trip → PlannedStop → Bool
is_met day trips stop = is_on day (record_at trip_key stop.trip trips)

abbrev pub are_met : ℕ → List Trip → List PlannedStop → Bool
are_met day trips [] = true
are_met day trips (stop ∷ later) = is_met day trips stop && are_met day trips later

-- the facts for manifests on a day, with these plans and trips
abbrev pub tour_by : ℕ → List Plan → List Trip → State → ReadFacts
tour_by day plans trips s = record no_read_facts {
  vehicles = s.vehicles;
  day = record { travel = table_on day s.travel; trips = trips; plans = plans };
}
