-- One call in one sound state has one outcome.
use mathlib.Core.HLevel.{is_prop→PathP}
use Rattle.std.proofs.Common.{◌≡◌, ◌∙◌, inl, inr, ℕ, ◌+◌, ◌<◌, ◌≤◌, List, [], ◌∷◌, get_or, Any, AllPairs, Contains, map}
use Rattle.std.proofs.Common.{Option, Some, None, arith, sym, ap, subst}
use Rattle.std.proofs.Props.{props}
use Rattle.std.proofs.lemmas.Bool.{cases_lt}
use Rattle.std.proofs.lemmas.List.{get_or_default}
use Rattle.std.specs.Prelude.{slice_index}
use Rattle.pt_desk_rules.specs.Moment.{Moment}
use Rattle.pt_desk_rules.specs.Rule.{Rule}
use Rattle.pt_desk_rules.specs.Trip.{Trip}
use Rattle.pt_desk_rules.specs.Wish.{Wish}
use Rattle.pt_desk_rules.specs.Window.{Window}
use Rattle.pt_desk_booking.specs.Booking.{planned_pickup, promised_at, IsFare, IsTripIn}
use Rattle.pt_desk_booking.specs.Planning.{OnDuty, asked_for, asked_of, IsBestPlace}
use Rattle.pt_desk_booking.specs.Request.{Request}
use Rattle.pt_desk_booking.specs.Window.{promised_window, wished_window}
use Rattle.pt_desk_rules.specs.ServiceTimes.{IsLeastSchedule}
use Rattle.pt_desk_rules.specs.Stop.{Stop}
use Rattle.pt_desk_scheduling.specs.Choice.{IsBestIn, IsNoWorseThan}
use Rattle.pt_desk_scheduling.specs.Insertion.{with_trip}
use Rattle.pt_desk_scheduling.specs.Asked.{Asked}
use Rattle.pt_desk_scheduling.specs.Chosen.{Chosen}
use Rattle.pt_desk_rules.specs.Fare.{fare_of}
use Rattle.pt_desk_rules.specs.FailingRules.{first_failing}
use Rattle.pt_desk_rules.specs.Outcome.{Outcome}
use Rattle.pt_desk_scheduling.specs.Plan.{planned_stop, Plan}
use Rattle.pt_desk_scheduling.specs.Scheduling.{AreRoutes, IsBookedIn, IsPlanWith, IsScheduled}
use Rattle.pt_desk_scheduling.specs.declared.scheduling.Scheduled.{Scheduled}
use Rattle.pt_desk_scheduling.specs.declared.scheduling.Scheduled.TheVariants as scheduled
use Rattle.pt_desk_spelling.proofs.ReplyLemmas.{told-same}
use Rattle.pt_desk_rules.specs.Booking.{routes_for, rows_of, HasRoutes, IsAnswered, IsBooking, IsToldOf}
use Rattle.pt_desk_rules.specs.Deciding.{booked, changed, with_kept}
use Rattle.pt_desk_rules.specs.Deciding.{IsCancelDecided, IsChangeDecided, IsDecidedBy, IsDecisionAfter, IsEndDecided}
use Rattle.pt_desk_rules.specs.Facts.{change_facts, facts_of, wish_facts}
use Rattle.pt_desk_laws.specs.One.{OutcomesAreOne}
use Rattle.pt_desk_laws.specs.Again.{IsSameAnswer}
use Rattle.pt_desk_rules.specs.Rules.{explain_rules, rules_of}
use Rattle.pt_desk_rules.specs.State.{trip_of, State}
use Rattle.pt_desk_rules.specs.Step.{arrival_in, left_of, sender, sent_with, told_of}
use Rattle.pt_desk_rules.specs.Step.{IsOutcomeAs, IsOutcomeBy}
use Rattle.pt_desk_rules.specs.Trips.{IsConfirmation}
use Rattle.pt_desk_laws.proofs.DutyLemmas.{has_routes}
use Rattle.pt_desk_laws.proofs.SoundLemmas.{change_trip}
use Rattle.pt_desk_rules.proofs.TourLemmas.{minutes_one}
use Rattle.pt_desk_rules.specs.declared.change.Change.{Change}
use Rattle.pt_desk_rules.specs.declared.deciding.Decision.{Decision}
use Rattle.pt_desk_rules.specs.declared.deciding.Decision.TheVariants as decision
use Rattle.pt_desk_rules.specs.declared.facts.CancelFacts.{CancelFacts}
use Rattle.pt_desk_rules.specs.declared.facts.WishFacts.{WishFacts}
use Rattle.pt_desk_rules.specs.declared.kept.Arrival.{Arrival}
use Rattle.pt_desk_rules.specs.declared.kept.Arrival.TheVariants.{New, Repeated, Stale}
use Rattle.pt_desk_rules.specs.declared.kept.Sent.{Sent}
use Rattle.pt_desk_rules.specs.Caller.{Caller}
use Rattle.pt_desk_rules.specs.Answer.{Answer}
use Rattle.pt_desk_rules.specs.Answer.TheVariants as answer
use Rattle.pt_desk_rules.specs.Confirmation.{Confirmation}
use Rattle.pt_desk_rules.specs.Request.{Request as Asking}
use Rattle.pt_desk_rules.specs.Request.TheVariants as request
use Rattle.pt_desk_rules.specs.Write.{Write}
use Rattle.pt_desk_rules.specs.Write.TheVariants as write
use Rattle.std.proofs.lemmas.Option.{same_Some}
use Rattle.pt_desk_booking.specs.Planning.{booking_rules}
use Rattle.pt_desk_booking.specs.Rules.{IsFirstFailing}
use Rattle.pt_desk_rules.specs.Booking.{IsRequestBy}
use Rattle.pt_desk_booking.proofs.RuleLemmas.{first-unique}
use Rattle.pt_desk_rules.specs.Explaining.{next_trip, IsExplainedAfter, IsToldPossible}
use Rattle.pt_desk_rules.proofs.RequestLemmas.{request_one}
use Rattle.pt_desk_laws.proofs.ReadLemmas.{bool_one, least_one, like, read_one}

-- if numbers rise, a number determines its element
numbered_one : {A : Type 0} (number : A → ℕ) (xs : List A) → AllPairs (λ x y. number x < number y) xs → (x y : A)
    → Contains xs x → Contains xs y → number x ≡ number y → x ≡ y
numbered_one {A} number xs rising x y (j, below_j, at_j) (k, below_k, at_k) same =
    elim (cases_lt j k) [
      | inl before ↦ absurd (omega (arith, rising j k x before below_k, first, second, same))
      | inr from ↦ elim (cases_lt k j) [
        | inl after ↦ absurd (omega (arith, rising k j x after below_j, first, second, same))
        | inr until ↦
            let here : j ≡ k = omega arith in
            sym at_j ∙ ap (λ (n : ℕ). get_or xs n x) here ∙ there
      ]
    ]
  where
    there : get_or xs k x ≡ y
    there = get_or_default xs k x y below_k ∙ at_k

    first : number (get_or xs j x) ≡ number x
    first = ap number at_j

    second : number (get_or xs k x) ≡ number y
    second = ap number there

duty_one : (trip : ℕ) (vehicles : List OnDuty) (x y : OnDuty) → AreRoutes trip vehicles → Contains vehicles x
    → Contains vehicles y → x.vehicle.id ≡ y.vehicle.id → x ≡ y
duty_one trip vehicles x y routes at here same =
    numbered_one (λ (duty : OnDuty). duty.vehicle.id) vehicles routes.rising x y at here same

-- no possible place is before the best one, so the best place is determined
no_worse : (minutes : ℕ → ℕ → Option ℕ) (vehicles : List OnDuty) (asked : Asked) (a b : Chosen)
    → IsBestPlace minutes vehicles asked a → IsBestPlace minutes vehicles asked b
    → IsNoWorseThan b a.added a.vehicle a.i a.j
no_worse minutes vehicles asked a b one two =
    let (k, duty, within, at, chosen) = one.possible in
    let best = subst (λ (d : OnDuty). IsBestIn minutes d.vehicle d.stops asked b) at (two.least k duty within) in
    subst (λ (v : ℕ). IsNoWorseThan b a.added v a.i a.j) (sym chosen.vehicle_number)
    (subst (λ (n : ℕ). IsNoWorseThan b n duty.vehicle.id a.i a.j) (sym chosen.added)
    (best a.i a.j chosen.possible))

place_one : (minutes : ℕ → ℕ → Option ℕ) (vehicles : List OnDuty) (asked : Asked) (a b : Chosen)
    → IsBestPlace minutes vehicles asked a → IsBestPlace minutes vehicles asked b
    → (a.vehicle ≡ b.vehicle) × (a.i ≡ b.i) × (a.j ≡ b.j)
place_one minutes vehicles asked a b one two =
    let x = no_worse minutes vehicles asked b a two one in
    let y = no_worse minutes vehicles asked a b one two in
    let added : a.added ≡ b.added = omega (arith, x.driving_first, y.driving_first) in
    let vehicle : a.vehicle ≡ b.vehicle = omega (arith, x.then_vehicle added, y.then_vehicle (sym added)) in
    let pickup : a.i ≡ b.i = omega (arith, x.then_pickup added vehicle, y.then_pickup (sym added) (sym vehicle)) in
    let drop : a.j ≡ b.j
    = omega (arith, x.then_drop added vehicle pickup, y.then_drop (sym added) (sym vehicle) (sym pickup)) in
    (vehicle, pickup, drop)

-- its pickup minute is determined
pickup_one : (minutes : ℕ → ℕ → Option ℕ) (trip : ℕ) (vehicles : List OnDuty) (asked : Asked) (a b : Chosen)
    → AreRoutes trip vehicles → IsBestPlace minutes vehicles asked a → IsBestPlace minutes vehicles asked b
    → planned_pickup a ≡ planned_pickup b
pickup_one minutes trip vehicles asked a b routes one two =
    let (k, duty, within, at, chosen) = one.possible in
    let (n, other, inside, here, choice) = two.possible in
    let (vehicle, pickup, drop) = place_one minutes vehicles asked a b one two in
    let same = duty_one trip vehicles duty other routes (k, within, at) (n, inside, here)
    (sym chosen.vehicle_number ∙ vehicle ∙ choice.vehicle_number) in
    let there = subst (λ (j : ℕ). IsLeastSchedule minutes other.vehicle (with_trip asked b.i j other.stops)
    b.schedule.items) (sym drop) choice.schedule in
    let then = subst (λ (i : ℕ). IsLeastSchedule minutes other.vehicle (with_trip asked i a.j other.stops)
    b.schedule.items) (sym pickup) there in
    let moved = subst (λ (d : OnDuty). IsLeastSchedule minutes d.vehicle (with_trip asked a.i a.j d.stops)
    b.schedule.items) (sym same) then in
    least_one minutes duty.vehicle (with_trip asked a.i a.j duty.stops) a.schedule.items b.schedule.items
    chosen.schedule moved (a.i + 1)
    ∙ ap (λ (i : ℕ). slice_index b.schedule.items (i + 1)) pickup

-- the stored trip is determined
fare_one : (asked : Request) (a b : ℕ) → IsFare asked a → IsFare asked b → a ≡ b
fare_one asked a b (joined, is, costs) (also, it, cost) =
    costs ∙ ap (fare_of asked.policy) (bool_one joined also (λ yes. it.1 (is.0 yes)) (λ yes. is.1 (it.0 yes)))
    ∙ sym cost

at_most-prop : (most n : ℕ) → IsProp (n ≤ most)
at_most-prop most n = hlevel props

trip_one : (minutes : ℕ → ℕ → Option ℕ) (asked : Request) (vehicle : ℕ) (promised : Window) (a b : Trip)
    → IsTripIn minutes asked vehicle promised a → IsTripIn minutes asked vehicle promised b → a ≡ b
trip_one minutes asked vehicle promised a b one two =
    let id = one.number ∙ sym two.number in
    let rider = one.rider ∙ sym two.rider in
    let wish = one.wish ∙ sym two.wish in
    let wheelchair = one.wheelchair ∙ sym two.wheelchair in
    let fare = fare_one asked a.fare b.fare one.fare two.fare in
    let service = one.service ∙ sym two.service in
    let ride = one.ride ∙ sym two.ride in
    let number = one.vehicle_number ∙ sym two.vehicle_number in
    let from = one.window_from ∙ sym two.window_from in
    let to = one.window_to ∙ sym two.window_to in
    let status = one.status ∙ sym two.status in
    λ i. record {
      id = id i;
      rider = rider i;
      wish = wish i;
      wheelchair = wheelchair i;
      fare = fare i;
      service = service i;
      ride = ride i;
      vehicle = number i;
      window_from = from i;
      window_to = to i;
      status = status i;
      companions_in_range = is_prop→PathP (λ j. (wish j).companions ≤ 1) (λ j. at_most-prop _ _) a.companions_in_range b.companions_in_range i;
      fare_in_range = is_prop→PathP (λ j. fare j ≤ 100_000) (λ j. at_most-prop _ _) a.fare_in_range b.fare_in_range i;
      service_in_range = is_prop→PathP (λ j. service j ≤ 30) (λ j. at_most-prop _ _) a.service_in_range b.service_in_range i;
      ride_in_range = is_prop→PathP (λ j. ride j ≤ 1_679) (λ j. at_most-prop _ _) a.ride_in_range b.ride_in_range i;
    }

-- the new plan of its vehicle is determined
abbrev plan_with : ℕ → Trip → List Stop → Plan
plan_with vehicle trip stops =
    record { vehicle = vehicle; day = trip.wish.day; stops = map planned_stop stops }

plan_one : (minutes : ℕ → ℕ → Option ℕ) (number : ℕ) (vehicles : List OnDuty) (trip : Trip) (a b : Chosen) (p q : Plan)
    → AreRoutes number vehicles → a.vehicle ≡ b.vehicle → a.i ≡ b.i → a.j ≡ b.j
    → Any (λ duty. IsPlanWith minutes duty trip a p) vehicles → Any (λ duty. IsPlanWith minutes duty trip b q) vehicles
    → p ≡ q
plan_one minutes number vehicles trip a b p q routes vehicle pickup drop (k, duty, within, at, (stops, new, is))
    (n, other, inside, here, (others, renewed, it)) =
    let same = duty_one number vehicles duty other routes (k, within, at) (n, inside, here)
    (new.vehicle ∙ vehicle ∙ sym renewed.vehicle) in
    let moved : with_trip (asked_of trip) a.i a.j duty.stops ≡ with_trip (asked_of trip) b.i b.j other.stops
    = λ i. with_trip (asked_of trip) (pickup i) (drop i) ((same i).stops) in
    let route : stops ≡ others = new.stops_with_trip ∙ moved ∙ sym renewed.stops_with_trip in
    let planned : plan_with a.vehicle trip stops ≡ plan_with b.vehicle trip others
    = λ i. plan_with (vehicle i) trip (route i) in
    is ∙ planned ∙ sym it

booked_one : (minutes : ℕ → ℕ → Option ℕ) (vehicles : List OnDuty) (asked : Request) (trip also : Trip)
    (plan other : Plan) → AreRoutes asked.trip vehicles → IsBookedIn minutes vehicles asked trip plan
    → IsBookedIn minutes vehicles asked also other → scheduled.Booked trip plan ≡ scheduled.Booked also other
booked_one minutes vehicles asked trip also plan other routes (a, one) (b, two) =
    let (vehicle, pickup, drop) = place_one minutes vehicles (asked_for minutes asked) a b one.best two.best in
    let minute = pickup_one minutes asked.trip vehicles (asked_for minutes asked) a b routes one.best two.best in
    let promised : promised_at asked a ≡ promised_at asked b
    = ap (promised_window (wished_window asked.wish.pickup)) minute in
    let moved = subst (λ (v : ℕ). IsTripIn minutes asked v (promised_at asked a) also) (sym vehicle)
    (subst (λ (w : Window). IsTripIn minutes asked b.vehicle w also) (sym promised) two.trip_of) in
    let trips = trip_one minutes asked a.vehicle (promised_at asked a) trip also one.trip_of moved in
    let plans = plan_one minutes asked.trip vehicles trip a b plan other routes vehicle pickup drop one.plan_of
    (subst (λ t. Any (λ duty. IsPlanWith minutes duty t b other) vehicles) (sym trips) two.plan_of) in
    λ i. scheduled.Booked (trips i) (plans i)

-- if the vehicles have routes, a denial names the first rule to fail
pub denied_first : (minutes : ℕ → ℕ → Option ℕ) (vehicles : List OnDuty) (asked : Request) (rule : Rule)
    → AreRoutes asked.trip vehicles → IsScheduled minutes vehicles asked (scheduled.Denied rule)
    → IsFirstFailing (booking_rules minutes vehicles asked) (Some rule)
denied_first minutes vehicles asked rule are (inl first) = first
denied_first minutes vehicles asked rule are (inr (none, is)) = absurd (none are)

abbrev denial_of : Scheduled → Option Rule
denial_of (scheduled.Denied rule) = Some rule
denial_of (scheduled.Booked trip plan) = None

came_first : (minutes : ℕ → ℕ → Option ℕ) (vehicles : List OnDuty) (asked : Request) (found : Scheduled)
    → AreRoutes asked.trip vehicles → IsScheduled minutes vehicles asked found
    → IsFirstFailing (booking_rules minutes vehicles asked) (denial_of found)
came_first minutes vehicles asked (scheduled.Denied rule) routes is =
    denied_first minutes vehicles asked rule routes is
came_first minutes vehicles asked (scheduled.Booked trip plan) routes is = is.0

-- a request has one result, and so has a wish
came_one : (minutes : ℕ → ℕ → Option ℕ) (vehicles : List OnDuty) (asked : Request) (a b : Scheduled)
    → AreRoutes asked.trip vehicles → denial_of a ≡ denial_of b → IsScheduled minutes vehicles asked a
    → IsScheduled minutes vehicles asked b → a ≡ b
came_one minutes vehicles asked (scheduled.Denied rule) (scheduled.Denied other) routes same one two =
    ap (λ r. scheduled.Denied r) (same_Some rule other same)
came_one minutes vehicles asked (scheduled.Denied rule) (scheduled.Booked trip plan) routes same one two = absurd (cc)
came_one minutes vehicles asked (scheduled.Booked trip plan) (scheduled.Denied rule) routes same one two = absurd (cc)
came_one minutes vehicles asked (scheduled.Booked trip plan) (scheduled.Booked also other) routes same one two =
    booked_one minutes vehicles asked trip also plan other routes one.1 two.1

wish_one : (number : ℕ) (left_out : Option ℕ) (today : ℕ) (wish : Wish) (facts : WishFacts) (a b : Scheduled)
    → AreRoutes number (routes_for number wish facts) → IsAnswered number left_out today wish facts a
    → IsAnswered number left_out today wish facts b → a ≡ b
wish_one number left_out today wish facts a b routes (asked, by, (minutes, times, is))
    (again, by_too, (minutes_too, times_too, is_too)) =
    let rows = rows_of facts.booking.day.travel in
    let vehicles = routes_for number wish facts in
    let there = subst (λ n. AreRoutes n vehicles) (sym by.trip) routes in
    let same_minutes = minutes_one rows minutes_too minutes times_too times in
    let same_request = request_one facts number left_out today wish again asked by_too by in
    let moved = subst (λ m. IsScheduled m vehicles asked b) same_minutes
    (subst (λ q. IsScheduled minutes_too vehicles q b) same_request is_too) in
    let first = first-unique (booking_rules minutes vehicles asked) (denial_of a) (denial_of b)
    (came_first minutes vehicles asked a there is) (came_first minutes vehicles asked b there moved) in
    came_one minutes vehicles asked a b there first is moved

-- a trip has one confirmation
confirmed_one : (trip : Trip) (a b : Confirmation) → IsConfirmation trip a → IsConfirmation trip b → a ≡ b
confirmed_one trip a b one two =
    let number = one.number ∙ sym two.number in
    let vehicle = one.vehicle ∙ sym two.vehicle in
    let from = one.window_from ∙ sym two.window_from in
    let to = one.window_to ∙ sym two.window_to in
    let fare = one.fare ∙ sym two.fare in
    let due = one.due ∙ sym two.due in
    told-same a b (λ i. number i ∷ vehicle i ∷ from i ∷ to i ∷ fare i ∷ due i ∷ [])

told_one : (change : Trip → Plan → Change) (found : Scheduled) (d e : Decision) → IsToldOf change found d
    → IsToldOf change found e → d ≡ e
told_one change (scheduled.Denied rule) d e one two = one ∙ sym two
told_one change (scheduled.Booked trip plan) d e (told, confirms, is) (says, confirm, it) =
    is
    ∙ ap (λ t. decision.Accepted (answer.Booked t) (change trip plan)) (confirmed_one trip told says confirms confirm)
    ∙ sym it

booking_one : (change : Trip → Plan → Change) (number : ℕ) (left_out : Option ℕ) (today : ℕ) (wish : Wish)
    (facts : WishFacts) (d e : Decision) → AreRoutes number (routes_for number wish facts)
    → IsBooking change number left_out today wish facts d → IsBooking change number left_out today wish facts e → d ≡ e
booking_one change number left_out today wish facts d e routes (found, answered, told) (other, again, tell) =
    let same = wish_one number left_out today wish facts found other routes answered again in
    told_one change other d e (subst (λ f. IsToldOf change f d) same told) tell

change_one : (found : Option Trip) (wish : Wish) (today : ℕ) (s : State) (d e : Decision) → HasRoutes s
    → IsChangeDecided found wish today (change_facts found wish s) d
    → IsChangeDecided found wish today (change_facts found wish s) e → d ≡ e
change_one None wish today s d e routes one two = absurd one
change_one (Some old) wish today s d e routes one two =
    let facts = change_facts (Some old) wish s in
    booking_one (changed old facts.booking.plan) old.id (Some old.id) today wish facts d e (routes old.id wish.day) one
    two

cancel_one : (found : Option Trip) (facts : CancelFacts) (d e : Decision) → IsCancelDecided found facts d
    → IsCancelDecided found facts e → d ≡ e
cancel_one None facts d e one two = absurd one
cancel_one (Some trip) facts d e one two = one ∙ sym two

end_one : (found : Option Trip) (outcome : Outcome) (d e : Decision) → IsEndDecided found outcome d
    → IsEndDecided found outcome e → d ≡ e
end_one None outcome d e one two = absurd one
end_one (Some trip) outcome d e one two = one ∙ sym two

decided_one : (asked : Write) (author today : ℕ) (s : State) (d e : Decision) → HasRoutes s
    → IsDecidedBy asked author today (facts_of asked s) d → IsDecidedBy asked author today (facts_of asked s) e → d ≡ e
decided_one (write.Book rider wish) author today s d e routes one two =
    booking_one booked (s.last_trip + 1) None today wish (facts_of (write.Book rider wish) s) d e
    (routes (s.last_trip + 1) wish.day) one two
decided_one (write.Change trip wish) author today s d e routes one two =
    let found = trip_of trip s in
    let facts = change_facts found wish s in
    let same = change_trip found wish s in
    change_one found wish today s d e routes (subst (λ f. IsChangeDecided f wish today facts d) same one)
    (subst (λ f. IsChangeDecided f wish today facts e) same two)
decided_one (write.Cancel trip) author today s d e routes one two =
    let facts = facts_of (write.Cancel trip) s in
    cancel_one facts.trip facts d e one two
decided_one (write.Outcome trip outcome) author today s d e routes one two =
    end_one (trip_of trip s) outcome d e one two
decided_one asked author today s d e routes one two = one ∙ sym two

-- a new write has one decision
decision_one : (first : Option Rule) (asked : Write) (me : Caller) (now : Moment) (sent : Sent) (s : State)
    (d e : Decision) → HasRoutes s → IsDecisionAfter first asked me now sent (facts_of asked s) d
    → IsDecisionAfter first asked me now sent (facts_of asked s) e → d ≡ e
decision_one (Some first) asked me now sent s d e routes one two = one ∙ sym two
decision_one None asked me now sent s d e routes (made, one, keeps) (other, two, keep) =
    keeps ∙ ap (with_kept me.id sent) (decided_one asked me.id now.0 s made other routes one two) ∙ sym keep

write_one : (arrival : Arrival) (asked : Write) (me : Caller) (now : Moment) (number : ℕ) (s : State)
    (told other : Answer) (left also : Option State) → HasRoutes s
    → IsOutcomeAs arrival asked me now number s told left → IsOutcomeAs arrival asked me now number s other also
    → (told ≡ other) × (left ≡ also)
write_one (Repeated reply) asked me now number s told other left also routes (tells, leaves) (tell, leave) =
    (tells ∙ sym tell, leaves ∙ sym leave)
write_one Stale asked me now number s told other left also routes (tells, leaves) (tell, leave) =
    (tells ∙ sym tell, leaves ∙ sym leave)
write_one New asked me now number s told other left also routes (d, is, made, tells, leaves)
    (e, it, make, tell, leave) =
    let first = first_failing (rules_of asked me now (facts_of asked s)) in
    let same = decision_one first asked me now (sent_with number asked) s d e routes is it in
    (tells ∙ ap told_of same ∙ sym tell, leaves ∙ ap (λ d. left_of d s) same ∙ sym leave)

-- an explanation has one answer
possible_one : (found : Scheduled) (told other : Answer) → IsToldPossible found told → IsToldPossible found other
    → told ≡ other
possible_one (scheduled.Booked trip plan) told other one two = one ∙ sym two
possible_one (scheduled.Denied rule) told other one two = one ∙ sym two

explained_one : (first : Option Rule) (rider : ℕ) (wish : Wish) (today : ℕ) (s : State) (told other : Answer)
    → HasRoutes s → IsExplainedAfter first wish today (wish_facts rider wish None s) told
    → IsExplainedAfter first wish today (wish_facts rider wish None s) other → told ≡ other
explained_one (Some first) rider wish today s told other routes one two = one ∙ sym two
explained_one None rider wish today s told other routes (found, answered, says) (came, again, tells) =
    let facts = wish_facts rider wish None s in
    let same = wish_one (next_trip facts) None today wish facts found came (routes (s.last_trip + 1) wish.day)
    answered again in
    possible_one came told other (subst (λ f. IsToldPossible f told) same says) tells

-- a request of any kind has one outcome
outcome_one : (found : Option Caller) (now : Moment) (number : ℕ) (asked : Asking) (s : State) (told other : Answer)
    (left also : Option State) → HasRoutes s → IsOutcomeBy found now number asked s told left
    → IsOutcomeBy found now number asked s other also → IsSameAnswer told other × (left ≡ also)
outcome_one None now number asked s told other left also routes one two =
    (like told other (one.0 ∙ sym two.0), one.1 ∙ sym two.1)
outcome_one (Some me) now number (request.Read asked) s told other left also routes one two =
    let same = read_one (Some me) now number number asked s told other left also one two in
    (same.0, one.1 ∙ sym two.1)
outcome_one (Some me) now number (request.Explain rider wish) s told other left also routes one two =
    let first = first_failing (explain_rules wish me (wish_facts rider wish None s)) in
    (like told other (explained_one first rider wish now.0 s told other routes one.0 two.0), one.1 ∙ sym two.1)
outcome_one (Some me) now number (request.Write asked) s told other left also routes one two =
    let same = write_one (arrival_in s asked me number) asked me now number s told other left also routes one two in
    (like told other same.0, same.1)

pub outcomes_are_one : OutcomesAreOne
outcomes_are_one key now number asked s told other left also sound one two =
    outcome_one (sender key s) now number asked s told other left also (has_routes s sound) one two
