-- A booking or a change is ruled alike by the facts that are gathered for it and by all facts of the state.
use Rattle.std.proofs.Common.{◌≡◌, ◌∙◌, ◌+◌, ◌++◌, ◌↔◌, ℕ, Bool, true, false, IsTrue, List, [], ◌∷◌, map, Option, Some, None, Result, Ok}
use Rattle.std.proofs.Common.{inl, inr, refl, sym, subst}
use Rattle.std.specs.Prelude.{is_some}
use Rattle.std.proofs.lemmas.Option.{same_Some}
use Rattle.pt_base_values.specs.Moment.{Moment}
use Rattle.pt_base_values.specs.declared.rule.Rule.{Rule}
use Rattle.pt_base_values.specs.declared.rule.Rule.TheVariants.{NoVehicle}
use Rattle.pt_base_values.specs.declared.trip.Trip.{Trip}
use Rattle.pt_base_values.specs.declared.trip.Wish.{Wish}
use Rattle.pt_base_values.specs.declared.vehicle.Vehicle.{Vehicle}
use Rattle.pt_feasible.specs.declared.stop.Stop.{Stop}
use Rattle.pt_rights_files.specs.Rules.{first_failing}
use Rattle.pt_desk_booking.proofs.RuleLemmas.{first-in-front, first-unique}
use Rattle.pt_desk_booking.specs.Planning.{OnDuty, asked_for, booking_rules, SomeVehicleCan}
use Rattle.pt_desk_booking.specs.Request.{Request}
use Rattle.pt_desk_booking.specs.Rules.{IsFirstFailing, riders_rules}
use Rattle.pt_desk_scheduling.specs.Plan.{Plan}
use Rattle.pt_desk_scheduling.specs.Routes.{stops_without, IsRoute}
use Rattle.pt_desk_scheduling.specs.Scheduling.{AreRoutes, IsScheduled}
use Rattle.pt_insertion_search.specs.Insertion.{IsWithout}
use Rattle.pt_desk_scheduling.specs.declared.scheduling.Scheduled.{Scheduled}
use Rattle.pt_desk_scheduling.specs.declared.scheduling.Scheduled.TheVariants.{Booked, Denied}
use Rattle.pt_desk_requests.specs.declared.caller.Caller.{Caller}
use Rattle.pt_desk_requests.specs.declared.request.Write.{Write}
use Rattle.pt_desk_requests.specs.declared.request.Write.TheVariants as write
use Rattle.pt_desk_rules.proofs.RequestLemmas.{request_one}
use Rattle.pt_desk_rules.specs.Booking.{IsAsking, IsBooking, IsRequestBy}
use Rattle.pt_desk_rules.specs.declared.booking.Asking.{Asking}
use Rattle.pt_desk_rules.specs.Deciding.{booked, changed, IsDecidedBy, IsRuling, IsRulingAfter}
use Rattle.pt_desk_rules.specs.Explaining.{next_trip}
use Rattle.pt_desk_rules.specs.Facts.{change_facts, day_of, wish_facts, FactsOf}
use Rattle.pt_desk_rules.specs.Fleet.{on_duty}
use Rattle.pt_desk_rules.specs.Planned.{planned_on, trips_on}
use Rattle.pt_desk_rules.specs.Rules.{rules_of}
use Rattle.pt_desk_rules.specs.State.{State, trip_of}
use Rattle.pt_desk_rules.specs.declared.change.Change.{Change}
use Rattle.pt_desk_rules.specs.declared.deciding.Decision.{Decision}
use Rattle.pt_desk_rules.specs.declared.facts.WishFacts.{WishFacts}
use Rattle.pt_desk_store.proofs.HoursLemmas.{all_alike, duty_by, empty_route, empty_without, pairs_alike}
use Rattle.pt_desk_store.proofs.SomeLemmas.{some_made, some_of}
use Rattle.pt_desk_store.proofs.WishedLemmas.{booking_to, reads_onto}
use Rattle.pt_desk_store.specs.Store.{Store, Reads, ReadsSome}
use Rattle.pt_desk_store.specs.declared.keeper.StoreFault.{StoreFault}
use Rattle.pt_desk_store.specs.Wished.{asked_facts, booked_facts, facts_of_old, travel_facts, with_day, with_plans}
use Rattle.pt_desk_store.specs.Wished.{AreWished, IsDeniedToRider, IsEnoughFor}

-- ---- a rule of the rider's

-- vehicles with routes have routes without stops too
routes_of_none : (trip : ℕ) (stops : Vehicle → List Stop) (vehicles : List Vehicle) → AreRoutes trip (map (duty_by stops) vehicles)
    → AreRoutes trip (map (duty_by (λ v. [])) vehicles)
routes_of_none trip stops vehicles are = record {
  rising = pairs_alike (duty_by stops) (duty_by (λ v. [])) vehicles (λ v. refl) are.rising;
  routes = all_alike (duty_by stops) (duty_by (λ v. [])) (λ d. IsRoute d.stops) (λ d. IsRoute d.stops) vehicles
      (λ k d within route. empty_route [] refl) are.routes;
  new_trip = all_alike (duty_by stops) (duty_by (λ v. [])) (λ d. IsWithout trip d.stops) (λ d. IsWithout trip d.stops) vehicles
      (λ k d within new. empty_without trip [] refl) are.new_trip;
}

-- a rule that fails first is the first of each longer list
still_first : (rules more other : List (Rule × Type 0)) (rule : Rule) (found : Option Rule) → IsFirstFailing rules (Some rule)
    → IsFirstFailing (rules ++ more) found → IsFirstFailing (rules ++ other) found
still_first rules more other rule found first both =
    subst (λ (f : Option Rule). IsFirstFailing (rules ++ other) f)
    (first-unique (rules ++ more) (Some rule) found (first-in-front rules more rule first) both) (first-in-front rules other rule first)

-- the last rule of a booking
abbrev last_of : (ℕ → ℕ → Option ℕ) → Request → List OnDuty → List (Rule × Type 0)
last_of minutes request vehicles = (NoVehicle, SomeVehicleCan minutes vehicles (asked_for minutes request)) ∷ []

-- what is denied where no vehicle has a stop is denied alike by all routes
denied_alike : (minutes : ℕ → ℕ → Option ℕ) (request : Request) (stops : Vehicle → List Stop) (vehicles : List Vehicle) (rule : Rule) (scheduled : Scheduled)
    → IsFirstFailing (riders_rules request) (Some rule) → IsScheduled minutes (map (duty_by (λ v. [])) vehicles) request scheduled
    → IsScheduled minutes (map (duty_by stops) vehicles) request scheduled
denied_alike minutes request stops vehicles rule (Denied told) first is = elim is [
  | inl fails ↦ inl (still_first (riders_rules request) (last_of minutes request (map (duty_by (λ v. [])) vehicles))
      (last_of minutes request (map (duty_by stops) vehicles)) rule (Some told) first fails)
  | inr off ↦ inr ((λ are. off.0 (routes_of_none request.trip stops vehicles are)), off.1)
]
denied_alike minutes request stops vehicles rule (Booked trip plan) first is =
    let none : ◌≡◌ {A = Option Rule} (Some rule) None = first-unique (booking_rules minutes (map (duty_by (λ v. [])) vehicles) request) (Some rule) None
    (first-in-front (riders_rules request) (last_of minutes request (map (duty_by (λ v. [])) vehicles)) rule first) is.0 in
    absurd (cc none)

-- such a wish is decided by the driving times of its day as by all that is planned for it
booking_denied : (change : Trip → Plan → Change) (number : ℕ) (left_out : Option ℕ) (today : ℕ) (wish : Wish) (facts : WishFacts) (s : State) (made : Decision)
    → IsDeniedToRider number left_out today wish (travel_facts facts wish s)
    → IsBooking change number left_out today wish (travel_facts facts wish s) made
    → IsBooking change number left_out today wish (with_day facts (day_of wish.day s)) made
booking_denied change number left_out today wish facts s made (request, rule, by, first) (scheduled, (asked, asks, (minutes, times, is)), told) =
    let same = request_one (travel_facts facts wish s) number left_out today wish request asked by asks in
    let fails = subst (λ (q : Request). IsFirstFailing (riders_rules q) (Some rule)) same first in
    let whole : IsRequestBy (with_day facts (day_of wish.day s)) number left_out today wish asked = record {
      trip = asks.trip;
      rider = asks.rider;
      file = asks.file;
      uses = asks.uses;
      policy = asks.policy;
      routes = asks.routes;
      from = asks.from;
      to = asks.to;
      day = asks.day;
      wished = asks.wished;
    } in
    let stops = λ (v : Vehicle). stops_without number wish.day (trips_on wish.day s.trips) (planned_on wish.day s.planned) v.id in
    (scheduled, (asked, whole, (minutes, times, denied_alike minutes asked stops (on_duty wish.day facts.vehicles) rule scheduled fails is)), told)

-- the first rule that a request fails is found
pub denied_if : (number : ℕ) (left_out : Option ℕ) (today : ℕ) (wish : Wish) (facts : WishFacts) (request : Request) (found : Option Rule) (denied : Bool)
    → IsRequestBy facts number left_out today wish request → IsFirstFailing (riders_rules request) found → denied ≡ is_some found
    → IsTrue denied ↔ IsDeniedToRider number left_out today wish facts
denied_if number left_out today wish facts request None denied by first is = (
  λ yes. absurd (let both = sym yes ∙ is in cc),
  λ (other, rule, by_too, fails).
      let same = request_one facts number left_out today wish other request by_too by in
      let both = first-unique (riders_rules request) (Some rule) None
      (subst (λ (q : Request). IsFirstFailing (riders_rules q) (Some rule)) same fails) first in
      absurd (cc both),
)
denied_if number left_out today wish facts request (Some rule) denied by first is = ((λ yes. (request, rule, by, first)), λ _. is)

-- ---- rulings

-- a rule of the write's own denies it, whatever the other facts
ruled_alike : (first : Option Rule) (asked : Write) (me : Caller) (now : Moment) (facts whole : FactsOf asked) (rule : Rule) (made : Decision) → first ≡ Some rule
    → IsRulingAfter first asked me.id now.0 facts made → IsRulingAfter first asked me.id now.0 whole made
ruled_alike (Some told) asked me now facts whole rule made fails is = is
ruled_alike None asked me now facts whole rule made fails is = absurd (cc)

after_to : (first : Option Rule) (asked : Write) (me : Caller) (now : Moment) (facts whole : FactsOf asked) (made : Decision)
    → (IsDecidedBy asked me.id now.0 facts made → IsDecidedBy asked me.id now.0 whole made)
    → IsRulingAfter first asked me.id now.0 facts made → IsRulingAfter first asked me.id now.0 whole made
after_to (Some rule) asked me now facts whole made gives is = is
after_to None asked me now facts whole made gives is = gives is

-- facts that are wished for a booking are enough for it, if its trip has the next number
pub enough_wished : (rider number : ℕ) (wish : Wish) (s : State) (me : Caller) (now : Moment) (found : WishFacts) → number ≡ next_trip (asked_facts rider None s)
    → AreWished number None now.0 wish (asked_facts rider None s) s found → IsEnoughFor (write.Book rider wish) me now s found
enough_wished rider number wish s me now found next (inl same) =
    let facts = booked_facts (asked_facts rider None s) wish s in
    subst (λ (f : WishFacts). IsEnoughFor (write.Book rider wish) me now s f) (sym same)
    (λ made is. after_to _ (write.Book rider wish) me now facts (wish_facts rider wish None s) made
    (λ by. booking_to booked _ None now.0 rider wish None s made by) is)
enough_wished rider number wish s me now found next (inr (same, denied)) =
    let facts = travel_facts (asked_facts rider None s) wish s in
    let off : IsDeniedToRider (facts.booking.last_trip + 1) None now.0 wish facts
    = subst (λ (n : ℕ). IsDeniedToRider n None now.0 wish facts) next (subst (λ (f : WishFacts). IsDeniedToRider number None now.0 wish f) same denied) in
    subst (λ (f : WishFacts). IsEnoughFor (write.Book rider wish) me now s f) (sym same)
    (λ made is. after_to _ (write.Book rider wish) me now facts (wish_facts rider wish None s) made
    (λ by. booking_denied booked _ None now.0 wish (asked_facts rider None s) s made off by) is)

-- and so are those without the day, if one of the write's own rules denies it
pub enough_asked : (rider : ℕ) (wish : Wish) (s : State) (me : Caller) (now : Moment) (rule : Rule)
    → first_failing (rules_of (write.Book rider wish) me now (asked_facts rider None s)) ≡ Some rule
    → IsEnoughFor (write.Book rider wish) me now s (asked_facts rider None s)
enough_asked rider wish s me now rule fails = λ made is.
    ruled_alike _ (write.Book rider wish) me now (asked_facts rider None s) (wish_facts rider wish None s) rule made fails is

changed_to : (trip : ℕ) (old : Trip) (wish : Wish) (s : State) (me : Caller) (now : Moment) (found : WishFacts)
    → AreWished old.id (Some old.id) now.0 wish (asked_facts old.rider (Some old) s) s found → (made : Decision) → IsRuling (write.Change trip wish) me now found made
    → IsRuling (write.Change trip wish) me now (wish_facts old.rider wish (Some old) s) made
changed_to trip old wish s me now found (inl same) made is =
    let facts = booked_facts (asked_facts old.rider (Some old) s) wish s in
    after_to _ (write.Change trip wish) me now facts (wish_facts old.rider wish (Some old) s) made
    (λ by. booking_to _ _ (Some old.id) now.0 old.rider wish (Some old) s made by)
    (subst (λ (f : WishFacts). IsRuling (write.Change trip wish) me now f made) same is)
changed_to trip old wish s me now found (inr (same, denied)) made is =
    let facts = travel_facts (asked_facts old.rider (Some old) s) wish s in
    let off = subst (λ (f : WishFacts). IsDeniedToRider old.id (Some old.id) now.0 wish f) same denied in
    after_to _ (write.Change trip wish) me now facts (wish_facts old.rider wish (Some old) s) made
    (λ by. booking_denied _ _ (Some old.id) now.0 wish (asked_facts old.rider (Some old) s) s made off by)
    (subst (λ (f : WishFacts). IsRuling (write.Change trip wish) me now f made) same is)

-- the same of the change of a trip that exists
pub enough_changed : (found_old : Option Trip) (trip : ℕ) (old : Trip) (wish : Wish) (s : State) (me : Caller) (now : Moment) (found : WishFacts)
    → (facts_of_old found_old s).booking.trip ≡ Some old → AreWished old.id (Some old.id) now.0 wish (facts_of_old found_old s) s found → (made : Decision)
    → IsRuling (write.Change trip wish) me now found made → IsRuling (write.Change trip wish) me now (change_facts found_old wish s) made
enough_changed None trip old wish s me now found is are made ruling = absurd (cc is)
enough_changed (Some there) trip old wish s me now found is are made ruling =
    changed_to trip there wish s me now found
    (subst (λ (t : Trip). AreWished t.id (Some t.id) now.0 wish (asked_facts there.rider (Some there) s) s found) (sym (same_Some there old is)) are) made ruling

pub enough_old : (found_old : Option Trip) (trip : ℕ) (wish : Wish) (s : State) (me : Caller) (now : Moment) (rule : Rule)
    → first_failing (rules_of (write.Change trip wish) me now (facts_of_old found_old s)) ≡ Some rule → (made : Decision)
    → IsRuling (write.Change trip wish) me now (facts_of_old found_old s) made → IsRuling (write.Change trip wish) me now (change_facts found_old wish s) made
enough_old None trip wish s me now rule fails made is = is
enough_old (Some there) trip wish s me now rule fails made is =
    ruled_alike _ (write.Change trip wish) me now (asked_facts there.rider (Some there) s) (wish_facts there.rider wish (Some there) s) rule made fails is

-- ---- reads

-- facts without the day that a rule of the write's own denies
pub enough_read : (a b : Store) (rider : ℕ) (wish : Wish) (me : Caller) (now : Moment) (facts : WishFacts) (rule : Rule) → Reads a b (asked_facts rider None) (Ok facts)
    → first_failing (rules_of (write.Book rider wish) me now facts) ≡ Some rule → ReadsSome a b (IsEnoughFor (write.Book rider wish) me now) (Ok facts)
enough_read a b rider wish me now facts rule read fails =
    some_made a b (asked_facts rider None a.content) facts facts (IsEnoughFor (write.Book rider wish) me now) read
    (λ clean.
    let is = (read.holds clean).tells.0 in
    subst (λ (f : WishFacts). IsEnoughFor (write.Book rider wish) me now a.content f) (sym is)
    (enough_asked rider wish a.content me now rule
    (subst (λ (f : WishFacts). first_failing (rules_of (write.Book rider wish) me now f) ≡ Some rule) is fails)))

pub enough_read_old : (a b : Store) (trip : ℕ) (wish : Wish) (me : Caller) (now : Moment) (facts : WishFacts) (rule : Rule)
    → Reads a b (λ s. facts_of_old (trip_of trip s) s) (Ok facts)
    → first_failing (rules_of (write.Change trip wish) me now facts) ≡ Some rule → ReadsSome a b (IsEnoughFor (write.Change trip wish) me now) (Ok facts)
enough_read_old a b trip wish me now facts rule read fails =
    some_made a b (facts_of_old (trip_of trip a.content) a.content) facts facts (IsEnoughFor (write.Change trip wish) me now) read
    (λ clean.
    let is = (read.holds clean).tells.0 in
    subst (λ (f : WishFacts). IsEnoughFor (write.Change trip wish) me now a.content f) (sym is)
    (enough_old (trip_of trip a.content) trip wish a.content me now rule
    (subst (λ (f : WishFacts). first_failing (rules_of (write.Change trip wish) me now f) ≡ Some rule) is fails)))

-- a wish that is denied needs of its day the driving times alone
pub wished_denied : (a b : Store) (number : ℕ) (left_out : Option ℕ) (today : ℕ) (wish : Wish) (facts found : WishFacts) (asking : Asking)
    → Reads a b (travel_facts facts wish) (Ok found) → IsAsking wish facts asking → (IsAsking wish found asking → IsDeniedToRider number left_out today wish found)
    → ReadsSome a b (AreWished number left_out today wish facts) (Ok found)
wished_denied a b number left_out today wish facts found asking read asks denied =
    some_made a b (travel_facts facts wish a.content) found found (AreWished number left_out today wish facts) read
    (λ clean.
    let is = (read.holds clean).tells.0 in
    let same : IsAsking wish (travel_facts facts wish a.content) asking = record { rider = asks.rider; from = asks.from; to = asks.to } in
    inr (is, denied (subst (λ (f : WishFacts). IsAsking wish f asking) (sym is) same)))

-- all that another wish needs
pub wished_whole : (a b c : Store) (number : ℕ) (left_out : Option ℕ) (today : ℕ) (wish : Wish) (facts found : WishFacts) (r : Result WishFacts StoreFault)
    → Reads a b (travel_facts facts wish) (Ok found) → Reads b c (with_plans found wish) r → ReadsSome a c (AreWished number left_out today wish facts) r
wished_whole a b c number left_out today wish facts found r first next =
    some_of a c (booked_facts facts wish) (AreWished number left_out today wish facts) r (λ s. inl refl)
    (reads_onto a b c (travel_facts facts wish) (λ (f : WishFacts) (s : State). with_plans f wish s) found r first next)
