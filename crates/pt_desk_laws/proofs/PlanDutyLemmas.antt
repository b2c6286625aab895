-- In a sound state whose plans are of vehicles on duty, a request leaves the plans so.
use Rattle.std.proofs.Common.{◌≡◌, ℕ, ◌+◌, List, [], ◌∷◌, ◌++◌, not, Option, Some, None, refl, sym, subst}
use Rattle.pt_desk_rules.specs.Day.{IsDay}
use Rattle.pt_desk_rules.specs.Rule.{Rule}
use Rattle.pt_desk_rules.specs.Trip.{Trip}
use Rattle.pt_desk_rules.specs.Wish.{Wish}
use Rattle.pt_desk_rules.specs.Moment.{Moment}
use Rattle.pt_desk_rules.specs.Outcome.{Outcome}
use Rattle.pt_desk_rules.specs.FailingRules.{first_failing}
use Rattle.pt_base_records.specs.Records.{is_within, take_away, Each}
use Rattle.pt_base_records.proofs.OrderLemmas.{Each-put}
use Rattle.pt_base_records.proofs.TableLemmas.{Each-filter}
use Rattle.pt_desk_spelling.specs.Ranges.{IsRequest}
use Rattle.pt_desk_scheduling.specs.Plan.{plan_key, stops_of_plan, without}
use Rattle.pt_desk_scheduling.specs.declared.scheduling.Scheduled.TheVariants as scheduled
use Rattle.pt_desk_scheduling.proofs.RouteLemmas.{Each-found}
use Rattle.pt_desk_rules.specs.Booking.{IsBooking}
use Rattle.pt_desk_rules.specs.Deciding.{booked, with_kept, IsCancelDecided, IsChangeDecided, IsEndDecided}
use Rattle.pt_desk_rules.specs.Deciding.{IsDecidedBy, IsDecisionAfter}
use Rattle.pt_desk_rules.specs.Facts.{cancel_facts, change_facts, facts_of, plan_for}
use Rattle.pt_desk_rules.specs.Planned.{is_booked_from}
use Rattle.pt_desk_rules.specs.Rules.{rules_of}
use Rattle.pt_desk_rules.specs.Sound.{HasDay, IsSound}
use Rattle.pt_desk_rules.specs.State.{applied, trip_key, trip_of, State}
use Rattle.pt_desk_rules.specs.Step.{arrival_in, left_of, sender, sent_with, state_after}
use Rattle.pt_desk_rules.specs.Step.{IsOutcomeAs, IsOutcomeBy}
use Rattle.pt_desk_rules.specs.Tours.{IsOnDutyIn, PlansAreOnDuty}
use Rattle.pt_desk_rules.specs.Trips.{plan_of_stops, plan_span}
use Rattle.pt_desk_rules.specs.Caller.{Caller}
use Rattle.pt_desk_rules.specs.declared.kept.Arrival.{Arrival}
use Rattle.pt_desk_rules.specs.declared.kept.Arrival.TheVariants.{New, Repeated, Stale}
use Rattle.pt_desk_rules.specs.declared.kept.Sent.{Sent}
use Rattle.pt_desk_rules.specs.declared.change.Change.{Change}
use Rattle.pt_desk_rules.specs.declared.deciding.Decision.{Decision}
use Rattle.pt_desk_rules.specs.declared.deciding.Decision.TheVariants.{Denied, Accepted}
use Rattle.pt_desk_rules.specs.Answer.{Answer}
use Rattle.pt_desk_rules.specs.Request.{Request}
use Rattle.pt_desk_rules.specs.Request.TheVariants as request
use Rattle.pt_desk_rules.specs.Write.{Write}
use Rattle.pt_desk_rules.specs.Write.TheVariants as write
use Rattle.pt_desk_rules.proofs.RangeLemmas.{Each-more, each-put, trip_days}
use Rattle.pt_desk_laws.specs.Laws.{PlansMadeAreOnDuty, PlansStayOnDuty}
use Rattle.pt_desk_laws.specs.Numbers.{AreCalls, Call}
use Rattle.pt_desk_laws.proofs.FitLemmas.{booked_on_duty, left_on_duty, vehicle_duties}
use Rattle.pt_desk_laws.proofs.SoundLemmas.{all_hold, change_trip, not_true, on_day, request_sound, AllHold}

-- the plans of the state after a decision are of vehicles on duty
abbrev DutyAfter : Decision → State → Type 0
DutyAfter decided s = PlansAreOnDuty (state_after (left_of decided s) s)

accepted_duty : (s : State) (decided : Decision) (told : Answer) (change : Change) → decided ≡ Accepted told change
    → PlansAreOnDuty (applied change s) → DutyAfter decided s
accepted_duty s decided told change is duties = subst (λ d. DutyAfter d s) (sym is) duties

denied_duty : (s : State) (decided : Decision) (rule : Rule) → decided ≡ Denied rule → PlansAreOnDuty s
    → DutyAfter decided s
denied_duty s decided rule is duties = subst (λ d. DutyAfter d s) (sym is) duties

-- the plans beside a trip's are as they were
beside_duty : (old : Trip) (s : State) → PlansAreOnDuty s
    → Each (IsOnDutyIn s.vehicles) (take_away plan_key (plan_span old) s.planned)
beside_duty old s duties =
    Each-filter (IsOnDutyIn s.vehicles) (λ plan. not (is_within (plan_key plan) (plan_span old))) s.planned duties

booking_duty : (today rider : ℕ) (wish : Wish) (s : State) (decided : Decision) → IsSound s → PlansAreOnDuty s
    → IsDay wish.day
    → IsBooking booked (s.last_trip + 1) None today wish (facts_of (write.Book rider wish) s) decided
    → DutyAfter decided s
booking_duty today rider wish s decided sound duties is_day (scheduled.Denied rule, by, is) =
    denied_duty s decided rule is duties
booking_duty today rider wish s decided sound duties is_day (scheduled.Booked trip plan, (request, asked, (minutes, times, (none, (chosen, at)))), (told, confirms, is)) =
    accepted_duty s decided _ _ is
    (Each-put (IsOnDutyIn s.vehicles) plan_key plan s.planned duties
    (booked_on_duty minutes (s.last_trip + 1) wish.day request trip plan s sound asked.trip
    (on_day request trip wish at.trip_of.wish asked.wished) is_day times (chosen, at)))

change_duty : (today : ℕ) (found : Option Trip) (id : ℕ) (wish : Wish) (s : State) (decided : Decision) → IsSound s
    → PlansAreOnDuty s → IsDay wish.day → trip_of id s ≡ found
    → IsChangeDecided found wish today (change_facts found wish s) decided → DutyAfter decided s
change_duty today None id wish s decided sound duties is_day found changes = absurd changes
change_duty today (Some old) id wish s decided sound duties is_day found (scheduled.Denied rule, by, is) =
    denied_duty s decided rule is duties
change_duty today (Some old) id wish s decided sound duties is_day found (scheduled.Booked trip plan, (request, asked, (minutes, times, (none, (chosen, at)))), (told, confirms, is)) =
    let left = without old.id (stops_of_plan (plan_for (Some old) s)) in
    let day : HasDay old = Each-found HasDay trip_key id old s.trips (trip_days s sound) found in
    accepted_duty s decided _ _ is
    (each-put (IsOnDutyIn s.vehicles) plan_key (plan_of_stops old left ++ plan ∷ [])
    (take_away plan_key (plan_span old) s.planned)
    (Each-more (IsOnDutyIn s.vehicles) (plan_of_stops old left) plan (left_on_duty old s sound duties day)
    (booked_on_duty minutes old.id wish.day request trip plan s sound asked.trip
    (on_day request trip wish at.trip_of.wish asked.wished) is_day times (chosen, at)))
    (beside_duty old s duties))

cancel_duty : (found : Option Trip) (id : ℕ) (s : State) (decided : Decision) → IsSound s → PlansAreOnDuty s
    → trip_of id s ≡ found → IsCancelDecided found (cancel_facts found s) decided → DutyAfter decided s
cancel_duty None id s decided sound duties found cancels = absurd cancels
cancel_duty (Some trip) id s decided sound duties found is =
    let left = without trip.id (stops_of_plan (plan_for (Some trip) s)) in
    let day : HasDay trip = Each-found HasDay trip_key id trip s.trips (trip_days s sound) found in
    accepted_duty s decided _ _ is
    (each-put (IsOnDutyIn s.vehicles) plan_key (plan_of_stops trip left)
    (take_away plan_key (plan_span trip) s.planned) (left_on_duty trip s sound duties day) (beside_duty trip s duties))

outcome_duty : (outcome : Outcome) (found : Option Trip) (s : State) (decided : Decision) → PlansAreOnDuty s
    → IsEndDecided found outcome decided → DutyAfter decided s
outcome_duty outcome None s decided duties ends = absurd ends
outcome_duty outcome (Some trip) s decided duties is = accepted_duty s decided _ _ is duties

-- an accepted write leaves plans of vehicles on duty
decided_duty : (asked : Write) (me : Caller) (now : Moment) (s : State) (made : Decision) → IsSound s
    → PlansAreOnDuty s → AllHold (rules_of asked me now (facts_of asked s))
    → IsDecidedBy asked me.id now.0 (facts_of asked s) made → IsRequest asked → DutyAfter made s
decided_duty (write.PutVehicle new) me now s made sound duties hold is asked =
    accepted_duty s made _ _ is
    (vehicle_duties new s sound asked.from_day
    (not_true (is_booked_from (Some new.id) new.from_day s.trips) hold.1.1.0) duties)
decided_duty (write.Book rider wish) me now s made sound duties hold is asked =
    booking_duty now.0 rider wish s made sound duties asked.1.day is
decided_duty (write.Change trip wish) me now s made sound duties hold is asked =
    change_duty now.0 (trip_of trip s) trip wish s made sound duties asked.1.day refl
    (subst (λ f. IsChangeDecided f wish now.0 (facts_of (write.Change trip wish) s) made)
    (change_trip (trip_of trip s) wish s) is)
decided_duty (write.Cancel trip) me now s made sound duties hold is asked =
    cancel_duty (trip_of trip s) trip s made sound duties refl is
decided_duty (write.Outcome trip outcome) me now s made sound duties hold is asked =
    outcome_duty outcome (trip_of trip s) s made duties is
decided_duty other me now s made sound duties hold is asked = accepted_duty s made _ _ is duties

-- the kept request changes no plan
kept_duty : (me : ℕ) (sent : Sent) (s : State) (made : Decision) → DutyAfter made s
    → DutyAfter (with_kept me sent made) s
kept_duty me sent s (Denied first) duties = duties
kept_duty me sent s (Accepted told change) duties = duties

after_duty : (asked : Write) (me : Caller) (now : Moment) (sent : Sent) (s : State) (first : Option Rule)
    (decided : Decision) → IsSound s → PlansAreOnDuty s
    → first_failing (rules_of asked me now (facts_of asked s)) ≡ first
    → IsDecisionAfter first asked me now sent (facts_of asked s) decided → IsRequest asked → DutyAfter decided s
after_duty asked me now sent s (Some rule) decided sound duties first is ranges = denied_duty s decided rule is duties
after_duty asked me now sent s None decided sound duties first (made, is, keeps) ranges =
    subst (λ d. DutyAfter d s) (sym keeps)
    (kept_duty me.id sent s made
    (decided_duty asked me now s made sound duties (all_hold (rules_of asked me now (facts_of asked s)) first) is
    ranges))

-- what commits nothing leaves the plans
same_duty : (s : State) (left : Option State) → left ≡ None → PlansAreOnDuty s → PlansAreOnDuty (state_after left s)
same_duty s left leaves duties = subst (λ l. PlansAreOnDuty (state_after l s)) (sym leaves) duties

write_duty : (asked : Write) (me : Caller) (now : Moment) (number : ℕ) (s : State) (arrival : Arrival) (told : Answer)
    (left : Option State) → IsSound s → PlansAreOnDuty s → IsOutcomeAs arrival asked me now number s told left
    → PlansAreOnDuty (state_after left s)
write_duty asked me now number s New told left sound duties (decided, is, (puts, ranges), tells, leaves) =
    subst (λ l. PlansAreOnDuty (state_after l s)) (sym leaves)
    (after_duty asked me now (sent_with number asked) s (first_failing (rules_of asked me now (facts_of asked s)))
    decided sound duties refl is ranges)
write_duty asked me now number s (Repeated reply) told left sound duties (tells, leaves) =
    same_duty s left leaves duties
write_duty asked me now number s Stale told left sound duties (tells, leaves) = same_duty s left leaves duties

by_duty : (found : Option Caller) (now : Moment) (number : ℕ) (asked : Request) (s : State) (told : Answer)
    (left : Option State) → IsSound s → PlansAreOnDuty s → IsOutcomeBy found now number asked s told left
    → PlansAreOnDuty (state_after left s)
by_duty None now number asked s told left sound duties (tells, leaves) = same_duty s left leaves duties
by_duty (Some me) now number (request.Read read) s told left sound duties (tells, leaves) =
    same_duty s left leaves duties
by_duty (Some me) now number (request.Explain rider wish) s told left sound duties (tells, leaves) =
    same_duty s left leaves duties
by_duty (Some me) now number (request.Write asked) s told left sound duties outcome =
    write_duty asked me now number s (arrival_in s asked me number) told left sound duties outcome

pub plans_stay_on_duty : PlansStayOnDuty
plans_stay_on_duty key now number asked s told left sound duties outcome =
    by_duty (sender key s) now number asked s told left sound duties outcome

calls_duty : (s after : State) (calls : List Call) → IsSound s → PlansAreOnDuty s → AreCalls s calls after
    → PlansAreOnDuty after
calls_duty s after [] sound duties is = subst PlansAreOnDuty (sym is) duties
calls_duty s after (call ∷ later) sound duties (outcome, rest) =
    calls_duty (state_after call.left s) after later
    (request_sound call.key call.now call.number call.asked s call.told call.left sound outcome)
    (plans_stay_on_duty call.key call.now call.number call.asked s call.told call.left sound duties outcome) rest

pub plans_made_are_on_duty : PlansMadeAreOnDuty
plans_made_are_on_duty s after calls sound none are =
    calls_duty s after calls sound (subst (Each (IsOnDutyIn s.vehicles)) (sym none) tt) are
