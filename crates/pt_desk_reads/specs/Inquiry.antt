-- The result of asking for the facts behind a denial `no vehicle`.
use Rattle.std.specs.Prelude.{◌≡◌, ◌≢◌, ℕ, Vec, map, Option, Some, None}
use Rattle.std.specs.declared.alloc.Global.{Global}
use Rattle.pt_base_values.specs.declared.rule.Rule.{Rule}
use Rattle.pt_base_values.specs.declared.rule.Rule.TheVariants as rule
use Rattle.pt_base_values.specs.declared.trip.Wish.{Wish}
use Rattle.pt_base_values.specs.Moment.{Moment}
use Rattle.pt_desk_booking.specs.Planning.{SomeVehicleCan, asked_for}
use Rattle.pt_desk_booking.specs.Request.{Request}
use Rattle.pt_desk_booking.specs.Rules.{IsFirstFailing, riders_rules}
use Rattle.pt_rights_files.specs.Rules.{first_failing}
use Rattle.pt_desk_scheduling.specs.Routes.{day_route}
use Rattle.pt_desk_scheduling.specs.Scheduling.{AreRoutes}
use Rattle.pt_desk_scheduling.specs.declared.routes.DayRoute.{DayRoute}
use Rattle.pt_desk_requests.specs.declared.caller.Caller.{Caller}
use Rattle.pt_desk_requests.specs.declared.request.Answer.TheVariants as answer
use Rattle.pt_desk_rules.specs.Booking.{AreTimes, IsRequestBy, routes_for, rows_of}
use Rattle.pt_desk_rules.specs.Explaining.{next_trip, IsExplained, IsExplainedAfter}
use Rattle.pt_desk_rules.specs.Rules.{explain_rules}
use Rattle.pt_desk_rules.specs.declared.facts.WishFacts.{WishFacts}
use Rattle.pt_desk_reads.specs.declared.explaining.Inquiry.{Inquiry}
use Rattle.pt_desk_reads.specs.declared.explaining.Inquiry.TheVariants as inquiry
use Rattle.pt_desk_reads.specs.Refusal.{AreWithout, Refusal}

-- The facts of a refusal. None of the rules before vehicles fails. The facts are the vehicles on duty on the wish's day
-- with their stops, the trip that they are asked for under the next number, and the rows of driving times.
pub record AreFactsOf (wish : Wish) (today : ℕ) (facts : WishFacts) (found : Refusal) : Type 0 where
  pub request : Request
  pub of_wish : IsRequestBy facts (next_trip facts) None today wish request
  pub rules : IsFirstFailing (riders_rules request) None
  pub vehicles : found.vehicles ≡ routes_for (next_trip facts) wish facts
  pub rows : found.rows ≡ rows_of facts.booking.day.travel
  pub asked : (minutes : ℕ → ℕ → Option ℕ) → AreTimes found.rows minutes → found.asked ≡ asked_for minutes request

-- The denial comes before any vehicle is looked at. This is claimed only if the vehicles of the day have routes.
abbrev pub IsBeforeVehicles : Wish → WishFacts → Rule → Type 0
IsBeforeVehicles wish facts first =
    AreRoutes (next_trip facts) (routes_for (next_trip facts) wish facts) → first ≢ rule.NoVehicle

-- the routes of the vehicles on duty; None if some are not routes without the trip
abbrev pub AreRoutesOf : WishFacts → ℕ → Wish → Option (Vec DayRoute Global) → Type 0
AreRoutesOf facts trip wish (Some routes) =
    (map day_route routes.items ≡ routes_for trip wish facts) × AreWithout trip (map day_route routes.items)
AreRoutesOf facts trip wish None = ¬ AreRoutes trip (routes_for trip wish facts)

-- The result of asking for the facts, if none of the rules before the trip's own fails.
abbrev pub IsInquiryAfter : Wish → ℕ → WishFacts → Inquiry → Type 0
IsInquiryAfter wish today facts (inquiry.Facts found) = AreFactsOf wish today facts found
IsInquiryAfter wish today facts (inquiry.Denied first) =
    IsExplainedAfter None wish today facts (answer.Denied first) × IsBeforeVehicles wish facts first

-- The result of asking for the facts of a refusal: the facts, or the first rule that denies the wish.
abbrev pub IsInquiry : Wish → Caller → Moment → WishFacts → Inquiry → Type 0
IsInquiry wish me now facts (inquiry.Facts found) =
    (first_failing (explain_rules wish me facts) ≡ None) × AreFactsOf wish now.0 facts found
IsInquiry wish me now facts (inquiry.Denied first) =
    IsExplained wish me now facts (answer.Denied first) × IsBeforeVehicles wish facts first

-- If no vehicle of the facts has a place for the trip, the wish is denied `no vehicle`.
abbrev pub RefusalsAreShown : Type 0
RefusalsAreShown = (wish : Wish) (me : Caller) (now : Moment) (facts : WishFacts) (found : Refusal)
    (minutes : ℕ → ℕ → Option ℕ) → IsInquiry wish me now facts (inquiry.Facts found) → AreTimes found.rows minutes →
    ¬ SomeVehicleCan minutes found.vehicles found.asked → IsExplained wish me now facts (answer.Denied rule.NoVehicle)
