-- Each denial `no vehicle` of the desk has a log.
use Rattle.std.proofs.Common.{◌≡◌, ◌∙◌, ◌⊎◌, inl, inr, ℕ, ◌+◌, ◌<◌, ◌≤◌, Bool, true, false, List, [], ◌∷◌, ◌++◌, length, get_or}
use Rattle.std.proofs.Common.{All, Option, Some, None, IsTrue, Vec, refl, sym, ap, subst, arith, le_refl}
use Rattle.std.specs.Prelude.{◌≢◌, IfSome, ◌==◌}
use Rattle.std.specs.List.{flat_map}
use Rattle.std.specs.Option.{unwrap_or}
use Rattle.std.specs.declared.alloc.Global.{Global}
use Rattle.std.proofs.lemmas.List.{get_or_default}
use Rattle.std.proofs.lemmas.List.Elements.{All-cons, All-nil, All-head, All-tail}
use Rattle.std.proofs.lemmas.Option.{same_Some}
use denote.RawPtr.{null_ptr}
use Rattle.pt_base_values.specs.Moment.{Moment}
use Rattle.pt_base_values.specs.Ranges.{last_minute}
use Rattle.pt_base_values.specs.declared.rider.Residence.{Residence}
use Rattle.pt_base_values.specs.declared.rider.Residence.TheVariants.{Resident, Visitor}
use Rattle.pt_base_values.specs.declared.rider.Rider.{Rider}
use Rattle.pt_base_values.specs.declared.rule.Rule.{Rule}
use Rattle.pt_base_values.specs.declared.rule.Rule.TheVariants as rule
use Rattle.pt_base_values.specs.declared.trip.Trip.{Trip}
use Rattle.pt_base_values.specs.declared.trip.Wish.{Wish}
use Rattle.pt_base_values.specs.declared.vehicle.Vehicle.{Vehicle}
use Rattle.pt_base_records.specs.Records.{Each, record_at}
use Rattle.pt_base_records.proofs.TableLemmas.{Each-filter}
use Rattle.pt_rights_files.specs.Rules.{first_failing}
use Rattle.pt_rights_files.specs.declared.entry.Entered.{Entered}
use Rattle.pt_rights_files.specs.declared.entry.Entry.{Entry}
use Rattle.pt_rights_files.specs.declared.entry.Entry.TheVariants as entry
use Rattle.pt_feasible.specs.Route.{stops_of}
use Rattle.pt_feasible.specs.declared.route.Route.{Route}
use Rattle.pt_feasible.specs.declared.stop.Stop.{Stop}
use Rattle.pt_feasible.specs.declared.stop.StopKind.{StopKind}
use Rattle.pt_feasible.specs.declared.stop.StopKind.TheVariants.{Pickup, Drop}
use Rattle.pt_travel.specs.Chain.{Row}
use Rattle.pt_insertion_search.specs.Possible.{IsPossible}
use Rattle.pt_insertion_search.specs.declared.asked.Asked.{Asked}
use Rattle.pt_insertion_search.specs.declared.duty.Duty.{Duty}
use Rattle.pt_audit.specs.Cases.{Case, cases_of_day, cases_of_vehicle}
use Rattle.pt_audit.specs.RightLog.{BeginsWithCases, IsNowherePossible, IsRightLog}
use Rattle.pt_audit.specs.declared.line.Line.{Line}
use Rattle.pt_insertion_log.specs.Refusals.{IsOfADay}
use Rattle.pt_insertion_log.proofs.ExistenceLemmas.{refusals_have_logs}
use Rattle.pt_desk_booking.specs.Planning.{OnDuty, SomeVehicleCan, asked_for, booking_rules, on_duty}
use Rattle.pt_desk_booking.specs.Request.{Request as TripRequest}
use Rattle.pt_desk_booking.specs.Rules.{IsFirstFailing, riders_rules}
use Rattle.pt_desk_booking.proofs.DutyLemmas.{Any-map}
use Rattle.pt_desk_scheduling.specs.Plan.{Plan, after_stop, stops_among, trip_stop, planned_stops, without}
use Rattle.pt_desk_scheduling.specs.Routes.{IsRoute, routes_without, stops_without}
use Rattle.pt_desk_scheduling.specs.Scheduling.{AreRoutes}
use Rattle.pt_desk_scheduling.specs.declared.planned.PlannedStop.{PlannedStop}
use Rattle.pt_desk_scheduling.specs.declared.scheduling.Scheduled.TheVariants as scheduled
use Rattle.pt_desk_scheduling.proofs.ListLemmas.{All-unmap}
use Rattle.pt_desk_scheduling.proofs.RouteLemmas.{Each-found}
use Rattle.pt_desk_spelling.specs.Ranges.{IsRequest, IsVehicle, IsWish}
use Rattle.pt_desk_spelling.specs.Replies.{answer_of}
use Rattle.pt_desk_spelling.specs.declared.replies.KeptReply.{KeptReply}
use Rattle.pt_desk_spelling.specs.declared.replies.KeptReply.TheVariants as reply
use Rattle.pt_desk_requests.specs.declared.caller.Caller.{Caller}
use Rattle.pt_desk_requests.specs.declared.request.Answer.TheVariants as answer
use Rattle.pt_desk_requests.specs.declared.letters.Letter.{Letter}
use Rattle.pt_desk_requests.specs.declared.request.Read.{Read}
use Rattle.pt_desk_requests.specs.declared.request.Read.TheVariants as read
use Rattle.pt_desk_requests.specs.declared.request.Request.{Request}
use Rattle.pt_desk_requests.specs.declared.request.Request.TheVariants as request
use Rattle.pt_desk_requests.specs.declared.request.Write.{Write}
use Rattle.pt_desk_requests.specs.declared.request.Write.TheVariants as write
use Rattle.pt_desk_rules.specs.Booking.{AreTimes, routes_for, routes_on, rows_of}
use Rattle.pt_desk_rules.specs.Explaining.{IsExplained, IsExplainedAfter, next_trip}
use Rattle.pt_desk_rules.specs.Deciding.{IsToldAfter, IsToldOfKind, IsToldRead, IsToldStanding}
use Rattle.pt_desk_rules.specs.Facts.{change_facts, facts_of, read_facts_of, wish_facts}
use Rattle.pt_desk_rules.specs.Letters.{letter_at, IsToldLetter}
use Rattle.pt_desk_rules.specs.Fleet as fleet
use Rattle.pt_desk_rules.specs.Parts as part
use Rattle.pt_desk_rules.specs.Permission.{is_dispatcher}
use Rattle.pt_desk_rules.specs.Planned.{planned_on, trips_on}
use Rattle.pt_desk_rules.specs.Ranges.{FitsTrip}
use Rattle.pt_desk_rules.specs.Rules.{entry_rules, explain_rules, read_rules, rules_of, wish_rules}
use Rattle.pt_desk_rules.specs.Sound.{IsSound}
use Rattle.pt_desk_rules.specs.State.{State, trip_of}
use Rattle.pt_desk_rules.specs.Step.{IsOutcome, IsOutcomeAs, IsOutcomeBy, arrival_in, sender}
use Rattle.pt_desk_rules.specs.declared.facts.EntryFacts.{EntryFacts}
use Rattle.pt_desk_rules.specs.declared.facts.ReadFacts.{ReadFacts}
use Rattle.pt_desk_rules.specs.declared.facts.WishFacts.{WishFacts}
use Rattle.pt_desk_rules.specs.declared.kept.Arrival.{Arrival}
use Rattle.pt_desk_rules.specs.declared.kept.Arrival.TheVariants.{New, Repeated, Stale}
use Rattle.pt_desk_rules.proofs.RequestLemmas.{request_one}
use Rattle.pt_desk_rules.proofs.TourLemmas.{minutes_one}
use Rattle.pt_desk_laws.specs.Laws.{DenialsAreRight, IsFirstOfBooking, IsFirstOfTrip}
use Rattle.pt_desk_laws.proofs.AgainLemmas.{denials_are_the_same_again}
use Rattle.pt_desk_laws.proofs.DutyLemmas.{has_routes}
use Rattle.pt_desk_reads.specs.Inquiry.{IsInquiry}
use Rattle.pt_desk_reads.specs.Refusal.{Refusal}
use Rattle.pt_desk_reads.specs.declared.explaining.Inquiry.{Inquiry}
use Rattle.pt_desk_reads.specs.declared.explaining.Inquiry.TheVariants as inquiry
use Rattle.pt_desk_reads.proofs.ExplainLemmas.{before_vehicles, limited}
use Rattle.pt_desk.specs.Refusals.{IsInquiryBy}
use Rattle.pt_desk_planning_laws.specs.Explanations.{IsFirstOfWish}
use Rattle.pt_desk_planning_laws.specs.Logs.{DenialsHaveLogs, HasLog, HasLogOf, IsAccepted, IsLogOfTrip, IsLogOver}
use Rattle.pt_desk_planning_laws.proofs.ExplanationLemmas.{explanations_are_right}

-- ---- vehicles on duty, as they are borrowed

abbrev vec_of : (stops : List Stop) → length stops ≤ 100 → Vec Stop Global
vec_of stops few = record {
  ptr = null_ptr;
  len = length stops;
  cap = length stops;
  alloc = record { memory = record { seal = tt } };
  items = stops;
  ok = (refl, le_refl (length stops));
  small = omega (arith, few);
}

abbrev route_of : (stops : List Stop) → IsRoute stops → Route
route_of stops is = record { stops = vec_of stops is.few; short = is.few; paired = is.paired }

abbrev duty_of : (there : OnDuty) → IsRoute there.stops → Duty
duty_of there is = record {
  vehicle = record { ref_ptr = (0, 0); now = there.vehicle };
  route = record { ref_ptr = (0, 0); now = route_of there.stops is };
}

abbrev HasRoute : OnDuty → Type 0
HasRoute there = IsRoute there.stops

lent_from : (vehicles : List OnDuty) → All HasRoute vehicles → (duties : List Duty) × (on_duty duties ≡ vehicles)
lent_from [] routes = ([], refl)
lent_from (there ∷ more) routes =
    let (duties, same) = lent_from more (All-tail HasRoute there more routes) in
    (duty_of there (All-head HasRoute there more routes) ∷ duties, ap (λ (l : List OnDuty). there ∷ l) same)

-- ---- the log of one list of borrowed vehicles is that of each

abbrev cases_on : Asked → List OnDuty → List Case
cases_on asked vehicles = flat_map (λ (there : OnDuty). cases_of_vehicle asked there.vehicle there.stops) vehicles

same_cases : (asked : Asked) (duties : List Duty) → cases_of_day asked duties ≡ cases_on asked (on_duty duties)
same_cases asked [] = refl
same_cases asked (duty ∷ duties) =
    ap (λ (l : List Case). cases_of_vehicle asked duty.vehicle.now (stops_of duty.route.now) ++ l) (same_cases asked duties)

right_over : (minutes : ℕ → ℕ → Option ℕ) (one other : List Duty) (asked : Asked) (lines : List Line) → on_duty one ≡ on_duty other
    → IsRightLog minutes one asked lines → IsRightLog minutes other asked lines
right_over minutes one other asked lines same (inl none) = inl none
right_over minutes one other asked lines same (inr begins) =
    inr (subst (λ (cases : List Case). BeginsWithCases minutes cases lines [])
    (same_cases asked one ∙ ap (cases_on asked) same ∙ sym (same_cases asked other)) begins)

-- ---- no vehicle can take the trip

abbrev Can : (ℕ → ℕ → Option ℕ) → Asked → OnDuty → Type 0
Can minutes asked there = (i : ℕ) × (j : ℕ) × IsPossible minutes there.vehicle there.stops asked i j

abbrev lent : Duty → OnDuty
lent duty = record { vehicle = duty.vehicle.now; stops = stops_of duty.route.now }

nowhere : (minutes : ℕ → ℕ → Option ℕ) (duties : List Duty) (asked : Asked) → ¬ SomeVehicleCan minutes (on_duty duties) asked
    → IsNowherePossible minutes duties asked
nowhere minutes duties asked never = λ k d within i j can.
    never (Any-map (Can minutes asked) lent duties (k, get_or duties k d, within, get_or_default duties k (get_or duties k d) d within, (i, j, can)))

-- the last rule is the first to fail where those before it do not name it
last_fails : (rules : List (Rule × Type 0)) (P : Type 0) → IsFirstFailing (rules ++ (rule.NoVehicle, P) ∷ []) (Some rule.NoVehicle)
    → IsFirstFailing rules (Some rule.NoVehicle) ⊎ (¬ P)
last_fails [] P (inl fails) = inr fails.0
last_fails [] P (inr holds) = absurd (let no = holds.1 in cc)
last_fails (r ∷ rules) P (inl fails) = inl (inl fails)
last_fails (r ∷ rules) P (inr later) = elim (last_fails rules P later.1) [
  | inl found ↦ inl (inr (later.0, found))
  | inr never ↦ inr never
]

no_vehicle : (minutes : ℕ → ℕ → Option ℕ) (vehicles : List OnDuty) (asked : TripRequest) → IsFirstFailing (booking_rules minutes vehicles asked) (Some rule.NoVehicle)
    → ¬ SomeVehicleCan minutes vehicles (asked_for minutes asked)
no_vehicle minutes vehicles asked first = elim (last_fails (riders_rules asked) (SomeVehicleCan minutes vehicles (asked_for minutes asked)) first) [
  | inl earlier ↦ absurd (before_vehicles asked rule.NoVehicle earlier refl)
  | inr never ↦ never
]

-- ---- the ranges of a day's routes

abbrev InTime : Stop → Type 0
InTime stop = stop.hi ≤ last_minute

by_in_time : (by : Option ℕ) → IfSome by (λ minute. minute ≤ last_minute) → unwrap_or by last_minute ≤ last_minute
by_in_time None is = le_refl last_minute
by_in_time (Some minute) is = is

stop_in_time : (kind : StopKind) (trip : Trip) → FitsTrip trip → InTime (trip_stop kind trip)
stop_in_time Pickup trip fits = fits.window_to
stop_in_time Drop trip fits = by_in_time trip.wish.by fits.wish.by

after_in_time : (found : Option Trip) → ((trip : Trip) → found ≡ Some trip → FitsTrip trip) → (kind : StopKind) (later : List Stop) → All InTime later
    → All InTime (after_stop found kind later)
after_in_time None fits kind later each = each
after_in_time (Some trip) fits kind later each = All-cons InTime (trip_stop kind trip) later (stop_in_time kind trip (fits trip refl)) each

stops_in_time : (trips : List Trip) → Each FitsTrip trips → (stops : List PlannedStop) → All InTime (stops_among trips stops)
stops_in_time trips each [] = All-nil InTime
stops_in_time trips each (stop ∷ later) =
    after_in_time (record_at (λ (trip : Trip). trip.id) stop.trip trips) (λ trip found. Each-found FitsTrip (λ (t : Trip). t.id) stop.trip trip trips each found) stop.kind
    (stops_among trips later) (stops_in_time trips each later)

abbrev OfDay : OnDuty → Type 0
OfDay there = (there.vehicle.id < 4_294_967_296) × (there.vehicle.closes ≤ last_minute) × All InTime there.stops

module _ (number day : ℕ) (trips : List Trip) (plans : List Plan) (fit : Each FitsTrip trips) where
  abbrev there_on : Vehicle → OnDuty
  there_on vehicle = record { vehicle = vehicle; stops = stops_without number day trips plans vehicle.id }

  vehicles_of_day : (vehicles : List Vehicle) → Each IsVehicle vehicles → All OfDay (routes_without number day trips plans vehicles)
  vehicles_of_day [] each = All-nil OfDay
  vehicles_of_day (vehicle ∷ more) each =
      All-cons OfDay (there_on vehicle) (routes_without number day trips plans more)
      (each.0.id.1, each.0.closes, stops_in_time trips fit (without number (planned_stops vehicle.id day plans))) (vehicles_of_day more each.1)

routes_of_day : (number day : ℕ) (s : State) → IsSound s → All OfDay (routes_on number day s)
routes_of_day number day s sound =
    vehicles_of_day number day (trips_on day s.trips) (planned_on day s.planned)
    (Each-filter FitsTrip (λ (trip : Trip). trip.wish.day == day) s.trips (sound.ranges.parts part.trips)) (fleet.on_duty day s.vehicles)
    (Each-filter IsVehicle (fleet.is_on_duty day s.vehicles) s.vehicles (sound.ranges.parts part.vehicles))

-- ---- the log of a trip

module _ (facts : WishFacts) (number : ℕ) (left_out : Option ℕ) (today : ℕ) (wish : Wish) (ranged : IsWish wish)
    (first : IsFirstOfBooking facts number left_out today wish rule.NoVehicle) (routes : AreRoutes number (routes_for number wish facts))
    (each : All OfDay (routes_for number wish facts)) where
  abbrev rows : List Row
  rows = rows_of facts.booking.day.travel

  asked : Asked
  asked = asked_for first.minutes first.request

  days : (duties : List Duty) → on_duty duties ≡ routes_for number wish facts → All IsOfADay duties
  days duties same = λ k d within.
      let it = All-unmap OfDay lent duties (subst (All OfDay) (sym same) each) k d within in
      record { number = omega (arith, it.0); closes = it.1; stops = it.2 }

  pub has_log : HasLog (IsLogOfTrip facts number left_out today wish)
  unfolding asked
  has_log =
      let (duties, same) = lent_from (routes_for number wish facts) routes.routes in
      let never = no_vehicle first.minutes (routes_for number wish facts) first.request first.first in
      let none = nowhere first.minutes duties asked (subst (λ (v : List OnDuty). ¬ SomeVehicleCan first.minutes v asked) (sym same) never) in
      let latest : asked.latest ≤ last_minute =
      subst (λ (w : Wish). unwrap_or w.by last_minute ≤ last_minute) (sym first.of_wish.wished) (by_in_time wish.by ranged.by) in
      let (text, lines, is, right) = refusals_have_logs first.minutes duties asked (days duties same) (omega arith) latest none in (
        text,
        lines,
        is,
        λ again minutes by times later others held there.
            let one : first.request ≡ again = request_one facts number left_out today wish first.request again first.of_wish by in
            let drives : first.minutes ≡ minutes = minutes_one rows first.minutes minutes first.times times in
            let driving : first.minutes ≡ later = minutes_one rows first.minutes later first.times held in
            let here = right_over first.minutes duties others asked lines (same ∙ sym there) right in
            subst (λ (m : ℕ → ℕ → Option ℕ). IsRightLog m others (asked_for minutes again) lines) driving
            (subst (λ (m : ℕ → ℕ → Option ℕ). IsRightLog first.minutes others (asked_for m again) lines) drives
            (subst (λ (r : TripRequest). IsRightLog first.minutes others (asked_for first.minutes r) lines) one here)),
      )

-- ---- what is given to a caller who asks

module _ (key : List ℕ) (now : Moment) (rider : ℕ) (wish : Wish) (s : State) (sound : IsSound s) (me : Caller) (by : sender key s ≡ Some me) where
  abbrev asked_facts : WishFacts
  asked_facts = wish_facts rider wish None s

  routes_there : AreRoutes (next_trip asked_facts) (routes_for (next_trip asked_facts) wish asked_facts)
  routes_there = has_routes s sound (next_trip asked_facts) wish.day

  -- nothing denies the question before vehicles are looked at
  denied_never : (first : Rule) → IsExplained wish me now asked_facts (answer.Denied rule.NoVehicle) → IsInquiry wish me now asked_facts (inquiry.Denied first) → ⊥
  denied_never first none (told, before) =
      let outcome : (r : Rule) → IsExplained wish me now asked_facts (answer.Denied r) → IsOutcome key now 0 (request.Explain rider wish) s (answer.Denied r) None
      = λ r is. subst (λ (c : Option Caller). IsOutcomeBy c now 0 (request.Explain rider wish) s (answer.Denied r) None) (sym by) (is, refl) in
      let same = (denials_are_the_same_again key now 0 (request.Explain rider wish) s rule.NoVehicle (answer.Denied first) None None sound (outcome rule.NoVehicle none) (outcome first told)).0 in
      before routes_there (cc)

  accepted_by : (lines : List Line) → IsLogOfTrip asked_facts (next_trip asked_facts) None now.0 wish lines → IsExplained wish me now asked_facts (answer.Denied rule.NoVehicle)
      → (given : Inquiry) → IsInquiry wish me now asked_facts given
      → (found : Refusal) × (given ≡ inquiry.Facts found) × IsLogOver found.rows found.vehicles found.asked lines
  accepted_by lines log none (inquiry.Denied first) is = absurd (denied_never first none is)
  accepted_by lines log none (inquiry.Facts found) (allowed, are) = (
    found,
    refl,
    λ minutes duties times same.
        let right = log are.request minutes are.of_wish (subst (λ r. AreTimes r minutes) are.rows times) minutes duties (subst (λ r. AreTimes r minutes) are.rows times) (same ∙ are.vehicles) in
        subst (λ (a : Asked). IsRightLog minutes duties a lines) (sym (are.asked minutes times)) right,
  )

  pub accepted : (lines : List Line) → IsLogOfTrip asked_facts (next_trip asked_facts) None now.0 wish lines → IsExplained wish me now asked_facts (answer.Denied rule.NoVehicle)
      → IsAccepted key now rider wish s lines
  accepted lines log none = λ given left is.
      accepted_by lines log none given (subst (λ (c : Option Caller). IsInquiryBy c now rider wish s given left) by is).0

-- the answer to a question about a trip that no vehicle can take
explained_none : (wish : Wish) (me : Caller) (now : Moment) (facts : WishFacts) → first_failing (explain_rules wish me facts) ≡ None
    → IsFirstOfBooking facts (next_trip facts) None now.0 wish rule.NoVehicle → IsExplained wish me now facts (answer.Denied rule.NoVehicle)
explained_none wish me now facts allowed first =
    subst (λ (o : Option Rule). IsExplainedAfter o wish now.0 facts (answer.Denied rule.NoVehicle)) (sym allowed)
    (scheduled.Denied rule.NoVehicle, (first.request, first.of_wish, (first.minutes, first.times, inl first.first)), refl)

-- ---- questions

first_of_question : (wish : Wish) (me : Caller) (now : Moment) (facts : WishFacts) → AreRoutes (next_trip facts) (routes_for (next_trip facts) wish facts)
    → IsFirstOfWish wish me now facts rule.NoVehicle → (first_failing (explain_rules wish me facts) ≡ None) × IsFirstOfBooking facts (next_trip facts) None now.0 wish rule.NoVehicle
first_of_question wish me now facts routes (inl earlier) = absurd ((limited wish me now facts rule.NoVehicle earlier).1 routes refl)
first_of_question wish me now facts routes (inr later) = later

question_has_log : (found : Option Caller) (key : List ℕ) (now : Moment) (number rider : ℕ) (wish : Wish) (s : State) (left : Option State) → IsSound s → sender key s ≡ found
    → IsOutcomeBy found now number (request.Explain rider wish) s (answer.Denied rule.NoVehicle) left → IsWish wish → HasLog (IsAccepted key now rider wish s)
question_has_log None key now number rider wish s left sound by outcome ranged = absurd (let no = outcome.0 in cc)
question_has_log (Some me) key now number rider wish s left sound by outcome ranged =
    let facts = wish_facts rider wish None s in
    let routes = has_routes s sound (next_trip facts) wish.day in
    let told = subst (λ (c : Option Caller). IsOutcomeBy c now number (request.Explain rider wish) s (answer.Denied rule.NoVehicle) left) (sym by) outcome in
    let (allowed, first) = first_of_question wish me now facts routes (explanations_are_right key now number rider wish me s rule.NoVehicle left sound by told) in
    let (text, lines, is, log) = has_log facts (next_trip facts) None now.0 wish ranged first routes (routes_of_day (next_trip facts) wish.day s sound) in
    (text, lines, is, accepted key now rider wish s sound me by lines log (explained_none wish me now facts allowed first))

-- ---- writes

-- none of these rules is that on vehicles
abbrev Others : List (Rule × Bool) → Type 0
Others [] = Unit {0}
Others (r ∷ rules) = (r.0 ≢ rule.NoVehicle) × Others rules

other_fails : (rules : List (Rule × Bool)) → Others rules → first_failing rules ≡ Some rule.NoVehicle → ⊥
other_fails [] others is = absurd (cc)
other_fails ((name, true) ∷ rules) others is = other_fails rules others.1 is
other_fails ((name, false) ∷ rules) others is = others.0 (same_Some name rule.NoVehicle is)

others_of_entry : (found : Option Rider) (entered : Entry) (today author : ℕ) (facts : EntryFacts) → Others (entry_rules found entered today author facts)
others_of_entry None entered today author facts = tt
others_of_entry (Some there) (entry.Grant grant) today author facts = (λ no. absurd (cc), (λ no. absurd (cc), (λ no. absurd (cc), tt)))
others_of_entry (Some there) (entry.AppealGranted grant) today author facts = (λ no. absurd (cc), (λ no. absurd (cc), (λ no. absurd (cc), tt)))
others_of_entry (Some there) _ today author facts = (λ no. absurd (cc), (λ no. absurd (cc), tt))

own_rules : (asked : Write) (me : Caller) (now : Moment) (s : State) → Others (rules_of asked me now (facts_of asked s))
own_rules (write.PutCaller new) me now s = (λ no. absurd (cc), (λ no. absurd (cc), (λ no. absurd (cc), (λ no. absurd (cc), tt))))
own_rules (write.PutPolicy new) me now s = (λ no. absurd (cc), tt)
own_rules (write.PutPlace new) me now s = (λ no. absurd (cc), (λ no. absurd (cc), (λ no. absurd (cc), tt)))
own_rules (write.PutRoute new) me now s = (λ no. absurd (cc), (λ no. absurd (cc), tt))
own_rules (write.PutRider new) me now s = (λ no. absurd (cc), (λ no. absurd (cc), (λ no. absurd (cc), tt)))
own_rules (write.Enter rider entered) me now s =
    let facts = facts_of (write.Enter rider entered) s in
    (λ no. absurd (cc), (λ no. absurd (cc), (λ no. absurd (cc), others_of_entry facts.rider entered now.0 me.id facts)))
own_rules (write.PutVehicle new) me now s = (λ no. absurd (cc), (λ no. absurd (cc), (λ no. absurd (cc), (λ no. absurd (cc), tt))))
own_rules (write.Travel day rows) me now s = (λ no. absurd (cc), (λ no. absurd (cc), (λ no. absurd (cc), (λ no. absurd (cc), tt))))
own_rules (write.Book rider wish) me now s = (λ no. absurd (cc), (λ no. absurd (cc), (λ no. absurd (cc), tt)))
own_rules (write.Change trip wish) me now s = (λ no. absurd (cc), (λ no. absurd (cc), (λ no. absurd (cc), tt)))
own_rules (write.Cancel trip) me now s = (λ no. absurd (cc), (λ no. absurd (cc), (λ no. absurd (cc), tt)))
own_rules (write.Outcome trip outcome) me now s = (λ no. absurd (cc), (λ no. absurd (cc), (λ no. absurd (cc), (λ no. absurd (cc), tt))))

-- a kept reply is no denial
kept_is_accepted : (kept : KeptReply) → answer.Denied rule.NoVehicle ≡ answer_of kept → ⊥
kept_is_accepted reply.Done is = absurd (cc)
kept_is_accepted (reply.Entered position) is = absurd (cc)
kept_is_accepted (reply.Booked told) is = absurd (cc)

-- what remains of rules after one that holds
rest_holds : (name : Rule) (holds : Bool) (rules : List (Rule × Bool)) → first_failing ((name, holds) ∷ rules) ≡ None → first_failing rules ≡ None
rest_holds name true rules is = is
rest_holds name false rules is = absurd (cc)

may_ask : (holds : Bool) (rules : List (Rule × Bool)) → IsTrue holds → first_failing rules ≡ None → first_failing ((rule.Caller, holds) ∷ rules) ≡ None
may_ask true rules dispatches is = is
may_ask false rules dispatches is = absurd (cc)

change_has_log : (found : Option Trip) (trip : ℕ) (wish : Wish) (today : ℕ) (s : State) → IsSound s → IsWish wish
    → IsFirstOfBooking (change_facts found wish s) trip (Some trip) today wish rule.NoVehicle → HasLog (IsLogOfTrip (change_facts found wish s) trip (Some trip) today wish)
change_has_log None trip wish today s sound ranged first = absurd (let no = first.of_wish.rider in cc)
change_has_log (Some old) trip wish today s sound ranged first =
    has_log (change_facts (Some old) wish s) trip (Some trip) today wish ranged first (has_routes s sound trip wish.day) (routes_of_day trip wish.day s sound)

trip_has_log : (asked : Write) (key : List ℕ) (me : Caller) (now : Moment) (s : State) → IsSound s → IsRequest asked
    → first_failing (rules_of asked me now (facts_of asked s)) ≡ None → IsFirstOfTrip asked now.0 (facts_of asked s) rule.NoVehicle → HasLogOf key now (request.Write asked) s
trip_has_log (write.Book rider wish) key me now s sound ranged allowed first =
    let facts = wish_facts rider wish None s in
    let (text, lines, is, log) = has_log facts (next_trip facts) None now.0 wish ranged.1 first (has_routes s sound (next_trip facts) wish.day) (routes_of_day (next_trip facts) wish.day s sound) in (
      text,
      lines,
      is,
      (
        log,
        λ other it by dispatches.
            let free = may_ask (is_dispatcher it.role) (wish_rules wish facts) dispatches (rest_holds _ _ (wish_rules wish facts) allowed) in
            accepted other now rider wish s sound it by lines log (explained_none wish it now facts free first),
      ),
    )
trip_has_log (write.Change trip wish) key me now s sound ranged allowed first = change_has_log (trip_of trip s) trip wish now.0 s sound ranged.1 first
trip_has_log _ key me now s sound ranged allowed first = absurd first

write_has_log : DenialsAreRight → (comes : Arrival) (asked : Write) (key : List ℕ) (me : Caller) (now : Moment) (number : ℕ) (s : State) (left : Option State) → IsSound s → sender key s ≡ Some me
    → arrival_in s asked me number ≡ comes → IsOutcome key now number (request.Write asked) s (answer.Denied rule.NoVehicle) left
    → IsOutcomeAs comes asked me now number s (answer.Denied rule.NoVehicle) left → HasLogOf key now (request.Write asked) s
write_has_log denials_are_right New asked key me now number s left sound by comes outcome (decided, is, (puts, ranged), told, leaves) =
    elim (denials_are_right key now number asked me s rule.NoVehicle left sound by comes outcome) [
      | inl own ↦ absurd (other_fails (rules_of asked me now (facts_of asked s)) (own_rules asked me now s) own)
      | inr trip ↦ trip_has_log asked key me now s sound ranged trip.0 trip.1
    ]
write_has_log denials_are_right (Repeated kept) asked key me now number s left sound by comes outcome again = absurd (kept_is_accepted kept again.0)
write_has_log denials_are_right Stale asked key me now number s left sound by comes outcome stale = absurd (let no = stale.0 in cc)

-- ---- reads

others_of_read : (asked : Read) (me : Caller) (facts : ReadFacts) → Others (read_rules asked me facts)
others_of_read (read.Standing rider day) me facts = (λ no. absurd (cc), (λ no. absurd (cc), tt))
others_of_read (read.Trips rider) me facts = (λ no. absurd (cc), (λ no. absurd (cc), tt))
others_of_read (read.Letter rider position) me facts = (λ no. absurd (cc), (λ no. absurd (cc), tt))
others_of_read (read.Manifest vehicle day) me facts = (λ no. absurd (cc), (λ no. absurd (cc), tt))
others_of_read (read.DaySheet day) me facts = (λ no. absurd (cc), tt)
others_of_read (read.Export day) me facts = (λ no. absurd (cc), tt)

standing_never : (found : Option Rider) (file : List Entered) (trips : List Trip) (today day : ℕ) → IsToldStanding found file trips today day (answer.Denied rule.NoVehicle) → ⊥
standing_never None file trips today day is = is
standing_never (Some there) file trips today day is = kind_never there.kind is
  where
    kind_never : (kind : Residence) → IsToldOfKind kind file trips today day (answer.Denied rule.NoVehicle) → ⊥
    kind_never Visitor (uses, are, may_use, decides, told) = absurd (cc)
    kind_never Resident told = absurd (cc)

letter_never : (found : Option Letter) → IsToldLetter found (answer.Denied rule.NoVehicle) → ⊥
letter_never None is = is
letter_never (Some letter) is = absurd (cc)

-- what is read is no denial
told_never : (asked : Read) (today : ℕ) (facts : ReadFacts) → IsToldRead asked today facts (answer.Denied rule.NoVehicle) → ⊥
told_never (read.Standing rider day) today facts is = standing_never facts.rider facts.file facts.trips today day is
told_never (read.Trips rider) today facts is = absurd (cc)
told_never (read.Letter rider position) today facts is = letter_never (letter_at facts.rider facts.file position) is
told_never (read.Manifest vehicle day) today facts (sheet, of, told) = absurd (cc)
told_never (read.DaySheet day) today facts (sheet, of, told) = absurd (cc)
told_never (read.Export day) today facts is = absurd (cc)

read_never : (first : Option Rule) (asked : Read) (me : Caller) (today : ℕ) (facts : ReadFacts) → first_failing (read_rules asked me facts) ≡ first
    → IsToldAfter first asked today facts (answer.Denied rule.NoVehicle) → ⊥
read_never (Some first) asked me today facts fails told =
    let same : first ≡ rule.NoVehicle = cc in
    other_fails (read_rules asked me facts) (others_of_read asked me facts) (fails ∙ ap Some same)
read_never None asked me today facts fails told = told_never asked today facts told

-- ---- each request

request_has_log : DenialsAreRight → (found : Option Caller) (key : List ℕ) (now : Moment) (number : ℕ) (asked : Request) (s : State) (left : Option State) → IsSound s → sender key s ≡ found
    → IsOutcome key now number asked s (answer.Denied rule.NoVehicle) left → IsOutcomeBy found now number asked s (answer.Denied rule.NoVehicle) left → HasLogOf key now asked s
request_has_log right None key now number asked s left sound by outcome told = absurd (let no = told.0 in cc)
request_has_log right (Some me) key now number (request.Explain rider wish) s left sound by outcome told = question_has_log (Some me) key now number rider wish s left sound by told
request_has_log right (Some me) key now number (request.Write asked) s left sound by outcome told =
    write_has_log right (arrival_in s asked me number) asked key me now number s left sound by refl outcome told
request_has_log right (Some me) key now number (request.Read asked) s left sound by outcome told = absurd
    (read_never (first_failing (read_rules asked me (read_facts_of asked s))) asked me now.0 (read_facts_of asked s) refl told.0)

pub denials_have_logs : DenialsAreRight → DenialsHaveLogs
denials_have_logs right key now number asked s left sound outcome = request_has_log right (sender key s) key now number asked s left sound refl outcome outcome
