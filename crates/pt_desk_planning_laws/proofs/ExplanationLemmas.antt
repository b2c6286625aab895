-- In a sound state, the rule that a denied wish names is the first of all its rules to fail.
use Rattle.std.proofs.Common.{◌≡◌, ◌∙◌, ℕ, List, Option, Some, None, ap, inl, inr, refl, subst, sym}
use Rattle.pt_base_values.specs.Moment.{Moment}
use Rattle.pt_base_values.specs.declared.rule.Rule.{Rule}
use Rattle.pt_base_values.specs.declared.trip.Wish.{Wish}
use Rattle.pt_desk_laws.specs.Planning.{OnDuty, booking_rules}
use Rattle.pt_desk_laws.specs.Request.{Request}
use Rattle.pt_desk_laws.specs.Rules.{IsFirstFailing}
use Rattle.pt_desk_laws.proofs.DutyLemmas.{has_routes}
use Rattle.pt_desk_laws.specs.Laws.{IsFirstOfBooking}
use Rattle.pt_desk_rules.specs.Booking.{IsAnswered, routes_for}
use Rattle.pt_desk_rules.specs.Explaining.{IsExplainedAfter, IsToldPossible, next_trip}
use Rattle.pt_desk_rules.specs.Facts.{wish_facts}
use Rattle.pt_desk_rules.specs.Rules.{explain_rules}
use Rattle.pt_desk_rules.specs.Step.{IsOutcomeBy}
use Rattle.pt_desk_rules.specs.declared.facts.WishFacts.{WishFacts}
use Rattle.pt_desk_planning_laws.specs.Explanations.{ExplanationsAreRight, IsFirstOfWish}
use Rattle.pt_desk_rules.specs.Caller.{Caller}
use Rattle.pt_desk_rules.specs.Answer.TheVariants as answer
use Rattle.pt_desk_rules.specs.Request.TheVariants as request
use Rattle.pt_desk_rules.specs.FailingRules.{first_failing}
use Rattle.pt_desk_laws.specs.Scheduling.{AreRoutes, IsScheduled}
use Rattle.pt_desk_laws.specs.Scheduled.{Scheduled}
use Rattle.pt_desk_laws.specs.Scheduled.TheVariants as scheduled

-- if the vehicles have routes, a denial names the first rule to fail
denied_first : (minutes : ℕ → ℕ → Option ℕ) (vehicles : List OnDuty) (asked : Request) (rule : Rule)
    → AreRoutes asked.trip vehicles → IsScheduled minutes vehicles asked (scheduled.Denied rule)
    → IsFirstFailing (booking_rules minutes vehicles asked) (Some rule)
denied_first minutes vehicles asked rule are (inl first) = first
denied_first minutes vehicles asked rule are (inr (none, is)) = absurd (none are)

first_of_booking : (wish : Wish) (today : ℕ) (facts : WishFacts) (rule : Rule) (found : Scheduled)
    → AreRoutes (next_trip facts) (routes_for (next_trip facts) wish facts)
    → IsAnswered (next_trip facts) None today wish facts found → IsToldPossible found (answer.Denied rule)
    → IsFirstOfBooking facts (next_trip facts) None today wish rule
first_of_booking wish today facts rule (scheduled.Booked trip plan) routes answered told = absurd (cc)
first_of_booking wish today facts rule (scheduled.Denied first) routes (asked, by, (driving, are, is)) told =
    let vehicles = routes_for (next_trip facts) wish facts in
    let same : first ≡ rule = cc in
    let fails = denied_first driving vehicles asked first (subst (λ n. AreRoutes n vehicles) (sym by.trip) routes) is in
    record {
      request = asked;
      of_wish = by;
      minutes = driving;
      times = are;
      first = subst (λ r. IsFirstFailing (booking_rules driving vehicles asked) (Some r)) same fails;
    }

first_of_wish : (first : Option Rule) (wish : Wish) (me : Caller) (now : Moment) (facts : WishFacts) (rule : Rule)
    → AreRoutes (next_trip facts) (routes_for (next_trip facts) wish facts)
    → first_failing (explain_rules wish me facts) ≡ first
    → IsExplainedAfter first wish now.0 facts (answer.Denied rule) → IsFirstOfWish wish me now facts rule
first_of_wish (Some first) wish me now facts rule routes fails told =
    let same : first ≡ rule = cc in inl (fails ∙ ap (λ r. Some r) same)
first_of_wish None wish me now facts rule routes fails (found, answered, told) =
    inr (fails, first_of_booking wish now.0 facts rule found routes answered told)

pub explanations_are_right : ExplanationsAreRight
explanations_are_right key now number rider wish me s rule left sound by outcome =
    let facts = wish_facts rider wish None s in
    let told = subst (λ c. IsOutcomeBy c now number (request.Explain rider wish) s (answer.Denied rule) left) by outcome in
    first_of_wish (first_failing (explain_rules wish me facts)) wish me now facts rule
    (has_routes s sound (next_trip facts) wish.day) refl told.0
