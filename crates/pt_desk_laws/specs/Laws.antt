-- What holds of every request in a sound state.
use Rattle.std.specs.Prelude.{◌≡◌, ◌⊎◌, ℕ, ◌+◌, List, [], Option, Some, None}
use Rattle.pt_desk_rules.specs.Rule.{Rule}
use Rattle.pt_desk_rules.specs.Wish.{Wish}
use Rattle.pt_desk_rules.specs.Moment.{Moment}
use Rattle.pt_desk_booking.specs.Planning.{booking_rules}
use Rattle.pt_desk_booking.specs.Request.{Request as TripRequest}
use Rattle.pt_desk_booking.specs.Rules.{IsFirstFailing}
use Rattle.pt_desk_rules.specs.FailingRules.{first_failing}
use Rattle.pt_desk_rules.specs.Booking.{routes_for, rows_of, AreTimes, IsRequestBy}
use Rattle.pt_desk_rules.specs.Facts.{facts_of, FactsOf}
use Rattle.pt_desk_rules.specs.Rules.{rules_of}
use Rattle.pt_desk_rules.specs.Sound.{IsSound}
use Rattle.pt_desk_rules.specs.State.{State}
use Rattle.pt_desk_rules.specs.Step.{arrival_in, sender, state_after, IsOutcome}
use Rattle.pt_desk_rules.specs.Tours.{PlansAreOnDuty}
use Rattle.pt_desk_rules.specs.declared.facts.WishFacts.{WishFacts}
use Rattle.pt_desk_rules.specs.declared.kept.Arrival.TheVariants.{New}
use Rattle.pt_desk_rules.specs.Caller.{Caller}
use Rattle.pt_desk_rules.specs.Answer.{Answer}
use Rattle.pt_desk_rules.specs.Answer.TheVariants as answer
use Rattle.pt_desk_rules.specs.Request.{Request}
use Rattle.pt_desk_rules.specs.Request.TheVariants as request
use Rattle.pt_desk_rules.specs.Write.{Write}
use Rattle.pt_desk_rules.specs.Write.TheVariants as write
use Rattle.pt_desk_laws.specs.Numbers.{AreCalls, Call}

-- a request in a sound state leaves a sound state
abbrev pub OutcomesOfSoundStatesAreSound : Type 0
OutcomesOfSoundStatesAreSound =
    (key : List ℕ) (now : Moment) (number : ℕ) (asked : Request) (s : State) (told : Answer) (left : Option State) →
    IsSound s → IsOutcome key now number asked s told left → IsSound (state_after left s)

-- a request in a sound state whose plans are of vehicles on duty leaves the plans so
abbrev pub PlansStayOnDuty : Type 0
PlansStayOnDuty =
    (key : List ℕ) (now : Moment) (number : ℕ) (asked : Request) (s : State) (told : Answer) (left : Option State) →
    IsSound s → PlansAreOnDuty s → IsOutcome key now number asked s told left → PlansAreOnDuty (state_after left s)

-- whatever is asked from a sound state without plans on, each plan that is made is of a vehicle on duty
abbrev pub PlansMadeAreOnDuty : Type 0
PlansMadeAreOnDuty = (s after : State) (calls : List Call) → IsSound s → s.planned ≡ [] → AreCalls s calls after →
    PlansAreOnDuty after

-- this is the first rule of a booking to fail, for a wish under this number and by the driving times of its day
pub record IsFirstOfBooking (facts : WishFacts) (number : ℕ) (left_out : Option ℕ) (today : ℕ) (wish : Wish)
    (rule : Rule) : Type 0 where
  pub request : TripRequest
  pub of_wish : IsRequestBy facts number left_out today wish request
  pub minutes : ℕ → ℕ → Option ℕ
  pub times : AreTimes (rows_of facts.booking.day.travel) minutes
  pub first : IsFirstFailing (booking_rules minutes (routes_for number wish facts) request) (Some rule)

-- the same for the trip that a write asks for, if it asks for one
abbrev pub IsFirstOfTrip : (asked : Write) → ℕ → FactsOf asked → Rule → Type 0
IsFirstOfTrip (write.Book rider wish) today facts rule =
    IsFirstOfBooking facts (facts.booking.last_trip + 1) None today wish rule
IsFirstOfTrip (write.Change trip wish) today facts rule = IsFirstOfBooking facts trip (Some trip) today wish rule
IsFirstOfTrip _ today facts rule = ⊥

-- this is the first of all rules of a write to fail: first its own rules, then those of its trip
abbrev pub IsFirstOfAll : Write → Caller → Moment → State → Rule → Type 0
IsFirstOfAll asked me now s rule =
    (first_failing (rules_of asked me now (facts_of asked s)) ≡ Some rule)
    ⊎ ((first_failing (rules_of asked me now (facts_of asked s)) ≡ None)
    × IsFirstOfTrip asked now.0 (facts_of asked s) rule)

-- a new write that is denied is denied by the first of all its rules to fail
abbrev pub DenialsAreRight : Type 0
DenialsAreRight =
    (key : List ℕ) (now : Moment) (number : ℕ) (asked : Write) (me : Caller) (s : State) (rule : Rule)
    (left : Option State) → IsSound s → sender key s ≡ Some me → arrival_in s asked me number ≡ New →
    IsOutcome key now number (request.Write asked) s (answer.Denied rule) left → IsFirstOfAll asked me now s rule
