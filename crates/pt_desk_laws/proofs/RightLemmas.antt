-- In a sound state, the rule that a denial names is the first of all rules to fail.
use Rattle.std.proofs.Common.{◌≡◌, ◌∙◌, ◌+◌, inl, inr, ℕ, Option, Some, None, refl, sym, ap, subst}
use Rattle.pt_desk_rules.specs.Rule.{Rule}
use Rattle.pt_desk_rules.specs.Trip.{Trip}
use Rattle.pt_desk_rules.specs.Wish.{Wish}
use Rattle.pt_desk_rules.specs.Moment.{Moment}
use Rattle.pt_desk_booking.specs.Planning.{booking_rules}
use Rattle.pt_desk_booking.specs.Rules.{IsFirstFailing}
use Rattle.pt_desk_rules.specs.FailingRules.{first_failing}
use Rattle.pt_desk_rules.specs.Outcome.{Outcome}
use Rattle.pt_desk_scheduling.specs.Plan.{Plan}
use Rattle.pt_desk_scheduling.specs.Scheduling.{AreRoutes}
use Rattle.pt_desk_scheduling.specs.declared.scheduling.Scheduled.TheVariants as scheduled
use Rattle.pt_desk_scheduling.proofs.PlanLemmas.{found_key}
use Rattle.pt_desk_rules.specs.Booking.{routes_for, HasRoutes, IsBooking}
use Rattle.pt_desk_rules.specs.Deciding.{booked, changed, with_kept, IsChangeDecided, IsDecidedBy, IsDecisionAfter}
use Rattle.pt_desk_rules.specs.Facts.{change_facts, facts_of}
use Rattle.pt_desk_laws.specs.Laws.{DenialsAreRight, IsFirstOfAll, IsFirstOfBooking, IsFirstOfTrip}
use Rattle.pt_desk_rules.specs.Rules.{rules_of}
use Rattle.pt_desk_rules.specs.State.{State, trip_key, trip_of}
use Rattle.pt_desk_rules.specs.Step.{sent_with, IsOutcomeAs, IsOutcomeBy}
use Rattle.pt_desk_rules.specs.declared.change.Change.{Change}
use Rattle.pt_desk_rules.specs.declared.deciding.Decision.{Decision}
use Rattle.pt_desk_rules.specs.declared.deciding.Decision.TheVariants as decision
use Rattle.pt_desk_rules.specs.declared.facts.CancelFacts.{CancelFacts}
use Rattle.pt_desk_rules.specs.declared.facts.WishFacts.{WishFacts}
use Rattle.pt_desk_rules.specs.declared.kept.Arrival.TheVariants.{New}
use Rattle.pt_desk_rules.specs.declared.kept.Sent.{Sent}
use Rattle.pt_desk_laws.proofs.DutyLemmas.{has_routes}
use Rattle.pt_desk_laws.proofs.OutcomeLemmas.{decision_is}
use Rattle.pt_desk_laws.proofs.SoundLemmas.{change_trip}
use Rattle.pt_desk_rules.specs.Caller.{Caller}
use Rattle.pt_desk_rules.specs.Answer.TheVariants as answer
use Rattle.pt_desk_rules.specs.Request.TheVariants as request
use Rattle.pt_desk_rules.specs.Write.{Write}
use Rattle.pt_desk_rules.specs.Write.TheVariants as write
use Rattle.pt_desk_rules.specs.Deciding.{IsCancelDecided, IsEndDecided}
use Rattle.pt_desk_rules.specs.Step.{told_of}
use Rattle.pt_desk_laws.proofs.OutcomeLemmas.{is_of_write, IsOfWrite}
use Rattle.pt_desk_laws.proofs.OneLemmas.{denied_first}

cancel_is_accepted : (found : Option Trip) (facts : CancelFacts) (rule : Rule) (d : Decision)
    → d ≡ decision.Denied rule → IsCancelDecided found facts d → ⊥
cancel_is_accepted None facts rule d denied is = is
cancel_is_accepted (Some trip) facts rule d denied is = absurd (cc)

end_is_accepted : (found : Option Trip) (outcome : Outcome) (rule : Rule) (d : Decision)
    → d ≡ decision.Denied rule → IsEndDecided found outcome d → ⊥
end_is_accepted None outcome rule d denied is = is
end_is_accepted (Some trip) outcome rule d denied is = absurd (cc)

-- the answer to an accepted write is not a denial
told_denied : (rule : Rule) (d : Decision) → IsOfWrite d → answer.Denied rule ≡ told_of d → d ≡ decision.Denied rule
told_denied rule (decision.Denied first) of is = cc
told_denied rule (decision.Accepted told change) of is = absurd (let same = ap is_of_write is ∙ of in cc)

first_of_booking : (change : Trip → Plan → Change) (number : ℕ) (left_out : Option ℕ) (today : ℕ) (wish : Wish)
    (facts : WishFacts) (rule : Rule) (decided : Decision) → AreRoutes number (routes_for number wish facts)
    → decided ≡ decision.Denied rule → IsBooking change number left_out today wish facts decided
    → IsFirstOfBooking facts number left_out today wish rule
first_of_booking change number left_out today wish facts rule decided routes denied
    (scheduled.Booked trip plan, answered, (told, confirms, is)) = absurd (cc)
first_of_booking change number left_out today wish facts rule decided routes denied
    (scheduled.Denied first, (asked, by, (driving, are, is)), told) =
    let vehicles = routes_for number wish facts in
    let same : first ≡ rule = cc in
    let fails = denied_first driving vehicles asked first (subst (λ n. AreRoutes n vehicles) (sym by.trip) routes) is in
    record {
      request = asked;
      of_wish = by;
      minutes = driving;
      times = are;
      first = subst (λ r. IsFirstFailing (booking_rules driving vehicles asked) (Some r)) same fails;
    }

first_of_change : (found : Option Trip) (id : ℕ) (wish : Wish) (today : ℕ) (s : State) (rule : Rule)
    (decided : Decision) → HasRoutes s → trip_of id s ≡ found → decided ≡ decision.Denied rule
    → IsChangeDecided found wish today (change_facts found wish s) decided
    → IsFirstOfBooking (change_facts found wish s) id (Some id) today wish rule
first_of_change None id wish today s rule decided routes found denied is = absurd is
first_of_change (Some old) id wish today s rule decided routes found denied is =
    let facts = change_facts (Some old) wish s in
    subst (λ n. IsFirstOfBooking facts n (Some n) today wish rule) (found_key trip_key id old s.trips found)
    (first_of_booking (changed old facts.booking.plan) old.id (Some old.id) today wish facts rule decided
    (routes old.id wish.day) denied is)

first_of_trip : (asked : Write) (author today : ℕ) (s : State) (rule : Rule) (decided : Decision) → HasRoutes s
    → decided ≡ decision.Denied rule → IsDecidedBy asked author today (facts_of asked s) decided
    → IsFirstOfTrip asked today (facts_of asked s) rule
first_of_trip (write.Book rider wish) author today s rule decided routes denied is =
    first_of_booking booked (s.last_trip + 1) None today wish (facts_of (write.Book rider wish) s) rule decided
    (routes (s.last_trip + 1) wish.day) denied is
first_of_trip (write.Change trip wish) author today s rule decided routes denied is =
    let found = trip_of trip s in
    let facts = change_facts found wish s in
    first_of_change found trip wish today s rule decided routes refl denied
    (subst (λ f. IsChangeDecided f wish today facts decided) (change_trip found wish s) is)
first_of_trip (write.Cancel trip) author today s rule decided routes denied is =
    let facts = facts_of (write.Cancel trip) s in
    cancel_is_accepted facts.trip facts rule decided denied is
first_of_trip (write.Outcome trip outcome) author today s rule decided routes denied is =
    end_is_accepted (trip_of trip s) outcome rule decided denied is
first_of_trip _ author today s rule decided routes denied is = absurd (cc)

-- the kept request does not turn a decision into a denial
denied_made : (me : ℕ) (sent : Sent) (rule : Rule) (made : Decision) → with_kept me sent made ≡ decision.Denied rule
    → made ≡ decision.Denied rule
denied_made me sent rule (decision.Denied first) is = is
denied_made me sent rule (decision.Accepted told change) is = absurd (cc)

first_of_all : (first : Option Rule) (asked : Write) (me : Caller) (now : Moment) (sent : Sent) (s : State) (rule : Rule)
    (decided : Decision) → HasRoutes s → first_failing (rules_of asked me now (facts_of asked s)) ≡ first
    → decided ≡ decision.Denied rule → IsDecisionAfter first asked me now sent (facts_of asked s) decided
    → IsFirstOfAll asked me now s rule
first_of_all (Some first) asked me now sent s rule decided routes fails denied is =
    let same : first ≡ rule = cc in inl (fails ∙ ap (λ r. Some r) same)
first_of_all None asked me now sent s rule decided routes fails denied (made, is, keeps) =
    inr (
      fails,
      first_of_trip asked me.id now.0 s rule made routes
          (denied_made me.id sent rule made (sym keeps ∙ denied)) is,
    )

write_denied : (asked : Write) (me : Caller) (now : Moment) (number : ℕ) (s : State) (rule : Rule) (left : Option State)
    → HasRoutes s → IsOutcomeAs New asked me now number s (answer.Denied rule) left → IsFirstOfAll asked me now s rule
write_denied asked me now number s rule left routes (decided, is, made, tells, leaves) =
    let facts = facts_of asked s in
    let sent = sent_with number asked in
    let first = first_failing (rules_of asked me now facts) in
    let denied = told_denied rule decided (decision_is first asked me now sent facts decided is) tells in
    first_of_all first asked me now sent s rule decided routes refl denied is

pub denials_are_right : DenialsAreRight
denials_are_right key now number asked me s rule left sound by comes outcome =
    write_denied asked me now number s rule left (has_routes s sound)
    (subst (λ a. IsOutcomeAs a asked me now number s (answer.Denied rule) left) comes
    (subst (λ c. IsOutcomeBy c now number (request.Write asked) s (answer.Denied rule) left) by outcome))
