-- Each denial `no vehicle` of the desk has a log that `check` of pt_audit accepts.
use Rattle.std.specs.Prelude.{◌≡◌, ℕ, ◌+◌, List, IsTrue, Option, Some, None}
use Rattle.pt_base_values.specs.Moment.{Moment}
use Rattle.pt_base_values.specs.declared.rule.Rule.TheVariants as rule
use Rattle.pt_base_values.specs.declared.trip.Wish.{Wish}
use Rattle.pt_audit.specs.RightLog.{IsRightLog}
use Rattle.pt_audit.specs.Text.{IsLogText}
use Rattle.pt_audit.specs.declared.line.Line.{Line}
use Rattle.pt_desk.specs.Refusals.{IsFacts}
use Rattle.pt_desk_booking.specs.Planning.{OnDuty, asked_for, on_duty}
use Rattle.pt_desk_booking.specs.Request.{Request as TripRequest}
use Rattle.pt_desk_reads.specs.Refusal.{Refusal}
use Rattle.pt_desk_reads.specs.declared.explaining.Inquiry.{Inquiry}
use Rattle.pt_desk_reads.specs.declared.explaining.Inquiry.TheVariants as inquiry
use Rattle.pt_desk_requests.specs.declared.caller.Caller.{Caller}
use Rattle.pt_desk_requests.specs.declared.request.Answer.TheVariants as answer
use Rattle.pt_desk_requests.specs.declared.request.Request.{Request}
use Rattle.pt_desk_requests.specs.declared.request.Request.TheVariants as request
use Rattle.pt_desk_requests.specs.declared.request.Write.TheVariants as write
use Rattle.pt_desk_rules.specs.Booking.{AreTimes, IsRequestBy, routes_for, rows_of}
use Rattle.pt_desk_rules.specs.Facts.{facts_of, wish_facts}
use Rattle.pt_desk_rules.specs.Permission.{is_dispatcher}
use Rattle.pt_desk_rules.specs.Sound.{IsSound}
use Rattle.pt_desk_rules.specs.State.{State}
use Rattle.pt_desk_rules.specs.Step.{IsOutcome, sender}
use Rattle.pt_desk_rules.specs.declared.facts.WishFacts.{WishFacts}
use Rattle.pt_desk_spelling.specs.Ranges.{IsWish}
use Rattle.pt_insertion_search.specs.declared.asked.Asked.{Asked}
use Rattle.pt_insertion_search.specs.declared.duty.Duty.{Duty}
use Rattle.pt_travel.specs.Chain.{Row}

-- a text of a log, with lines of which this holds
abbrev pub HasLog : (List Line → Type 0) → Type 0
HasLog P = (text : List ℕ) × (lines : List Line) × IsLogText text lines × P lines

-- these are the lines of a right log for a trip, by the driving times of these rows, over these vehicles as they are
-- borrowed with their routes
abbrev pub IsLogOver : List Row → List OnDuty → Asked → List Line → Type 0
IsLogOver rows vehicles asked lines =
    (minutes : ℕ → ℕ → Option ℕ) (duties : List Duty) → AreTimes rows minutes → on_duty duties ≡ vehicles →
    IsRightLog minutes duties asked lines

-- the same for the trip of a wish under this number
abbrev pub IsLogOfTrip : WishFacts → ℕ → Option ℕ → ℕ → Wish → List Line → Type 0
IsLogOfTrip facts number left_out today wish lines =
    (asked : TripRequest) (minutes : ℕ → ℕ → Option ℕ) → IsRequestBy facts number left_out today wish asked →
    AreTimes (rows_of facts.booking.day.travel) minutes →
    IsLogOver (rows_of facts.booking.day.travel) (routes_for number wish facts) (asked_for minutes asked) lines

-- Whoever asks with this key at this moment about the wish gets the facts of a refusal, and these are the lines of their
-- log. So an audit of the log does not say no.
abbrev pub IsAccepted : List ℕ → Moment → ℕ → Wish → State → List Line → Type 0
IsAccepted key now rider wish s lines =
    (given : Inquiry) (left : Option State) → IsFacts key now rider wish s given left →
    (found : Refusal) × (given ≡ inquiry.Facts found) × IsLogOver found.rows found.vehicles found.asked lines

-- The log of a request that is denied `no vehicle`. A question has one that the same caller's audit accepts. A booking
-- has one that the audit of every dispatcher accepts. A change of a trip has one over the routes without that trip. No
-- other request is denied so.
abbrev pub HasLogOf : List ℕ → Moment → Request → State → Type 0
HasLogOf key now (request.Explain rider wish) s = IsWish wish → HasLog (IsAccepted key now rider wish s)
HasLogOf key now (request.Write (write.Book rider wish)) s = HasLog (λ lines.
    IsLogOfTrip (wish_facts rider wish None s) (s.last_trip + 1) None now.0 wish lines
    × ((other : List ℕ) (me : Caller) → sender other s ≡ Some me → IsTrue (is_dispatcher me.role) →
    IsAccepted other now rider wish s lines))
HasLogOf key now (request.Write (write.Change trip wish)) s =
    HasLog (IsLogOfTrip (facts_of (write.Change trip wish) s) trip (Some trip) now.0 wish)
HasLogOf key now _ s = ⊥

-- in a sound state, each denial `no vehicle` has its log
abbrev pub DenialsHaveLogs : Type 0
DenialsHaveLogs = (key : List ℕ) (now : Moment) (number : ℕ) (asked : Request) (s : State) (left : Option State) →
    IsSound s → IsOutcome key now number asked s (answer.Denied rule.NoVehicle) left → HasLogOf key now asked s
