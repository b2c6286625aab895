-- The answers to explanations, and the facts of a refusal.
use Rattle.std.proofs.Common.{◌≡◌, inl, inr, ◌∙◌, ℕ, ◌<◌, Bool, true, false, List, [], ◌∷◌, Option, Some, None}
use Rattle.std.proofs.Common.{map, All, AllPairs, refl, sym, ap, subst}
use Rattle.std.specs.Prelude.{◌≢◌, ◌&&◌, nat_lt, is_some, IfOk, IfSome, IfNone, Vec, Result, Ok, Err}
use Rattle.std.specs.declared.alloc.Global.{Global}
use Rattle.std.proofs.lemmas.List.Elements.{All-map}
use Rattle.std.proofs.lemmas.Option.{same_Some}
use Rattle.pt_base_values.specs.declared.rider.Residence.{Residence}
use Rattle.pt_base_values.specs.declared.rider.Residence.TheVariants.{Resident, Visitor}
use Rattle.pt_base_values.specs.declared.rule.Rule.{Rule}
use Rattle.pt_base_values.specs.declared.rule.Rule.TheVariants as rule
use Rattle.pt_base_values.specs.declared.trip.Wish.{Wish}
use Rattle.pt_base_values.specs.declared.vehicle.Vehicle.{Vehicle}
use Rattle.pt_base_values.specs.Moment.{Moment}
use Rattle.pt_desk_booking.proofs.RuleLemmas.{first-behind, first-in-front}
use Rattle.pt_desk_booking.specs.Planning.{OnDuty, SomeVehicleCan, asked_for, on_duty}
use Rattle.pt_desk_booking.specs.Request.{Request}
use Rattle.pt_desk_booking.specs.Rules.{IsFirstFailing, entitlement, riders_rules}
use Rattle.pt_feasible.specs.Route.{stops_of}
use Rattle.pt_insertion_search.specs.Insertion.{IsWithout}
use Rattle.pt_insertion_search.specs.declared.asked.Asked.{Asked}
use Rattle.pt_insertion_search.specs.declared.duty.Duty.{Duty}
use Rattle.pt_rights_files.specs.Rules.{first_failing}
use Rattle.pt_desk_scheduling.proofs.ListLemmas.{All-unmap, AllPairs-map, AllPairs-unmap}
use Rattle.pt_desk_scheduling.specs.Routes.{day_route, routes_without, IsRoute}
use Rattle.pt_desk_scheduling.specs.Scheduling.{AreRoutes}
use Rattle.pt_desk_scheduling.specs.declared.routes.DayRoute.{DayRoute}
use Rattle.pt_desk_scheduling.specs.declared.scheduling.Scheduled.{Scheduled}
use Rattle.pt_desk_scheduling.specs.declared.scheduling.Scheduled.TheVariants as scheduled
use Rattle.pt_travel.specs.Chain.{Row}
use Rattle.pt_desk_rules.proofs.TourLemmas.{minutes_one}
use Rattle.pt_desk_rules.specs.Booking.{AreTimes, IsAnswered, IsRequestBy, routes_for, rows_of}
use Rattle.pt_desk_rules.specs.Explaining.{next_trip, IsExplained}
use Rattle.pt_desk_reads.specs.Inquiry.{AreFactsOf, AreRoutesOf}
use Rattle.pt_desk_rules.specs.Explaining.{IsExplainedAfter, IsToldPossible}
use Rattle.pt_desk_reads.specs.Inquiry.{IsInquiry, IsInquiryAfter, RefusalsAreShown}
use Rattle.pt_desk_rules.specs.Fleet as fleet
use Rattle.pt_desk_rules.specs.State.{last_trip_number}
use Rattle.pt_desk_rules.specs.Permission.{is_dispatcher}
use Rattle.pt_desk_reads.specs.Refusal.{AreWithout, Refusal}
use Rattle.pt_desk_rules.specs.Rules.{explain_rules}
use Rattle.pt_desk_rules.specs.Trips.{has_ends}
use Rattle.pt_desk_reads.specs.declared.explaining.Inquiry.{Inquiry}
use Rattle.pt_desk_reads.specs.declared.explaining.Inquiry.TheVariants as inquiry
use Rattle.pt_desk_rules.specs.declared.facts.WishFacts.{WishFacts}
use Rattle.pt_desk_requests.specs.declared.caller.Caller.{Caller}
use Rattle.pt_desk_requests.specs.declared.request.Answer.{Answer}
use Rattle.pt_desk_requests.specs.declared.request.Answer.TheVariants as answer

-- a rider's rules come before vehicles
entitled : (kind : Residence) (request : Request) (first : Rule) → Some first ≡ Some (entitlement kind request).0
    → first ≢ rule.NoVehicle
entitled Resident request first is = λ same. absurd (let both = is in let one = same in cc)
entitled Visitor request first is = λ same. absurd (let both = is in let one = same in cc)

pub before_vehicles : (request : Request) (first : Rule) → IsFirstFailing (riders_rules request) (Some first)
    → first ≢ rule.NoVehicle
before_vehicles request first (inl (f, is)) = entitled request.rider.kind request first is
before_vehicles request first (inr (a, inl (f, is))) = λ same. absurd (let both = is in let one = same in cc)
before_vehicles request first (inr (a, inr (b, inl (f, is)))) = λ same. absurd (let both = is in let one = same in cc)
before_vehicles request first (inr (a, inr (b, inr (c, inl (f, is))))) =
    λ same. absurd (let both = is in let one = same in cc)
before_vehicles request first (inr (a, inr (b, inr (c, inr (d, inl (f, is)))))) =
    λ same. absurd (let both = is in let one = same in cc)
before_vehicles request first (inr (a, inr (b, inr (c, inr (d, inr (e, inl (f, is))))))) =
    λ same. absurd (let both = is in let one = same in cc)
before_vehicles request first (inr (a, inr (b, inr (c, inr (d, inr (e, inr (g, inl (f, is)))))))) =
    λ same. absurd (let both = is in let one = same in cc)
before_vehicles request first (inr (a, inr (b, inr (c, inr (d, inr (e, inr (g, inr (h, none)))))))) =
    absurd (cc)

-- the rules before them come before vehicles too
limits_first : (dispatcher there room : Bool) (first : Rule)
    → first_failing ((rule.Caller, dispatcher) ∷ (rule.Unknown, there) ∷ (rule.Full, room) ∷ []) ≡ Some first
    → first ≢ rule.NoVehicle
limits_first false there room first is = λ same. absurd (let both = is in let one = same in cc)
limits_first true false room first is = λ same. absurd (let both = is in let one = same in cc)
limits_first true true false first is = λ same. absurd (let both = is in let one = same in cc)
limits_first true true true first is = absurd (cc)

-- a wish that a rule denies before the trip's own
pub limited : (wish : Wish) (me : Caller) (now : Moment) (facts : WishFacts) (first : Rule)
    → first_failing (explain_rules wish me facts) ≡ Some first → IsInquiry wish me now facts (inquiry.Denied first)
limited wish me now facts first is = (
  subst (λ o. IsExplainedAfter o wish now.0 facts (answer.Denied first)) (sym is) refl,
  λ routes. limits_first (is_dispatcher me.role) (is_some facts.rider && has_ends wish facts.places)
      (nat_lt facts.booking.last_trip last_trip_number) first is,
)

pub explained : (wish : Wish) (me : Caller) (now : Moment) (facts : WishFacts) (told : Answer) (found : Option Rule)
    → first_failing (explain_rules wish me facts) ≡ found → IsExplainedAfter found wish now.0 facts told
    → IsExplained wish me now facts told
explained wish me now facts told found is after =
    subst (λ o. IsExplainedAfter o wish now.0 facts told) (sym is) after

pub inquired : (wish : Wish) (me : Caller) (now : Moment) (facts : WishFacts) (found : Inquiry)
    → first_failing (explain_rules wish me facts) ≡ None → IsInquiryAfter wish now.0 facts found
    → IsInquiry wish me now facts found
inquired wish me now facts (inquiry.Facts found) none is = (none, is)
inquired wish me now facts (inquiry.Denied first) none is =
    (explained wish me now facts (answer.Denied first) None none is.0, is.1)

-- the result of a wish gives its answer
pub told_of : (number : ℕ) (wish : Wish) (today : ℕ) (facts : WishFacts) (found : Scheduled) (told : Answer)
    → number ≡ next_trip facts → IsAnswered number None today wish facts found → IsToldPossible found told
    → IsExplainedAfter None wish today facts told
told_of number wish today facts found told same answered tells =
    (found, subst (λ (n : ℕ). IsAnswered n None today wish facts found) same answered, tells)

-- the facts make the request of the next number
pub of_next : (number : ℕ) (wish : Wish) (today : ℕ) (facts : WishFacts) (request : Request)
    → number ≡ next_trip facts → IsRequestBy facts number None today wish request
    → IsRequestBy facts (next_trip facts) None today wish request
of_next number wish today facts request same by =
    subst (λ (n : ℕ). IsRequestBy facts n None today wish request) same by

-- the rule that comes last: some vehicle can take the trip
abbrev vehicles_rule : Wish → WishFacts → Request → (ℕ → ℕ → Option ℕ) → List (Rule × Type 0)
vehicles_rule wish facts request minutes =
    (rule.NoVehicle, SomeVehicleCan minutes (routes_for (next_trip facts) wish facts) (asked_for minutes request)) ∷ []

-- a rider's rule denies the wish
pub rider_denied : (wish : Wish) (today : ℕ) (facts : WishFacts) (request : Request) (rows : List Row)
    (minutes : ℕ → ℕ → Option ℕ) (first : Rule) → IsRequestBy facts (next_trip facts) None today wish request
    → rows ≡ rows_of facts.booking.day.travel → AreTimes rows minutes
    → IsFirstFailing (riders_rules request) (Some first)
    → IsInquiryAfter wish today facts (inquiry.Denied first)
rider_denied wish today facts request rows minutes first by same times fails = (
  (
    scheduled.Denied first,
    (
      request,
      by,
      (
        minutes,
        subst (λ (r : List Row). AreTimes r minutes) same times,
        inl (first-in-front (riders_rules request) (vehicles_rule wish facts request minutes) first fails),
      ),
    ),
    refl,
  ),
  λ routes. before_vehicles request first fails,
)

-- if the vehicles have no routes, the answer is `no vehicle`
pub no_routes_denied : (number : ℕ) (wish : Wish) (today : ℕ) (facts : WishFacts) (request : Request) (rows : List Row)
    (minutes : ℕ → ℕ → Option ℕ) → number ≡ next_trip facts
    → IsRequestBy facts (next_trip facts) None today wish request → rows ≡ rows_of facts.booking.day.travel
    → AreTimes rows minutes → ¬ AreRoutes number (routes_for number wish facts)
    → IsInquiryAfter wish today facts (inquiry.Denied rule.NoVehicle)
no_routes_denied number wish today facts request rows minutes same by is times none =
    let never = subst (λ (n : ℕ). ¬ AreRoutes n (routes_for n wish facts)) same none in (
      (
        scheduled.Denied rule.NoVehicle,
        (
          request,
          by,
          (
            minutes,
            subst (λ (r : List Row). AreTimes r minutes) is times,
            inr (
              λ routes. never (subst (λ (n : ℕ). AreRoutes n (routes_for (next_trip facts) wish facts)) by.trip
                  routes),
              refl,
            ),
          ),
        ),
        refl,
      ),
      λ routes. absurd (never routes),
    )

-- the facts of a refusal
pub facts_of_refusal : (number : ℕ) (wish : Wish) (today : ℕ) (facts : WishFacts) (request : Request) (found : Refusal)
    (minutes : ℕ → ℕ → Option ℕ) → number ≡ next_trip facts
    → IsRequestBy facts (next_trip facts) None today wish request → IsFirstFailing (riders_rules request) None
    → found.vehicles ≡ routes_for number wish facts → found.rows ≡ rows_of facts.booking.day.travel
    → AreTimes found.rows minutes → found.asked ≡ asked_for minutes request → AreFactsOf wish today facts found
facts_of_refusal number wish today facts request found minutes same by rules vehicles rows times asked = record {
  request = request;
  of_wish = by;
  rules = rules;
  vehicles = subst (λ (n : ℕ). found.vehicles ≡ routes_for n wish facts) same vehicles;
  rows = rows;
  asked = λ others are. asked
      ∙ ap (λ (m : ℕ → ℕ → Option ℕ). asked_for m request) (minutes_one found.rows minutes others times are);
}

-- vehicles without routes, and with a stop of the trip
pub no_routes : (trip : ℕ) (wish : Wish) (facts : WishFacts) (vehicles : List Vehicle)
    (found : Option (Vec DayRoute Global)) → vehicles ≡ fleet.on_duty wish.day facts.vehicles → found ≡ None
    → IfNone found (¬ All (λ duty. IsRoute duty.stops) (routes_without trip wish.day facts.booking.day.trips
    facts.booking.day.plans vehicles)) → ¬ AreRoutes trip (routes_for trip wish facts)
no_routes trip wish facts vehicles None same is none = λ are.
    none (subst (λ (v : List Vehicle). All (λ duty. IsRoute duty.stops) (routes_without trip wish.day
    facts.booking.day.trips facts.booking.day.plans v)) (sym same) are.routes)
no_routes trip wish facts vehicles (Some routes) same is none = absurd (cc)

pub same_routes : (trip : ℕ) (wish : Wish) (facts : WishFacts) (vehicles : List Vehicle)
    (found : Option (Vec DayRoute Global)) (routes : Vec DayRoute Global)
    → vehicles ≡ fleet.on_duty wish.day facts.vehicles → found ≡ Some routes
    → IfSome found (λ those. map day_route those.items ≡ routes_without trip wish.day facts.booking.day.trips
    facts.booking.day.plans vehicles) → map day_route routes.items ≡ routes_for trip wish facts
same_routes trip wish facts vehicles None routes same is some = absurd (cc)
same_routes trip wish facts vehicles (Some those) routes same is some =
    ap (λ (v : Vec DayRoute Global). map day_route v.items) (sym (same_Some those routes is))
    ∙ some
    ∙ ap (routes_without trip wish.day facts.booking.day.trips facts.booking.day.plans) same

abbrev lent : Duty → OnDuty
lent duty = record { vehicle = duty.vehicle.now; stops = stops_of duty.route.now }

pub lent_without : (trip : ℕ) (duties : List Duty) (vehicles : List OnDuty) → on_duty duties ≡ vehicles
    → AreWithout trip vehicles → AllPairs (λ first second. first.vehicle.now.id < second.vehicle.now.id) duties
    × All (λ duty. IsWithout trip (stops_of duty.route.now)) duties
lent_without trip duties vehicles same are =
    let there = subst (λ (v : List OnDuty). AreWithout trip v) (sym same) are in (
      AllPairs-unmap (λ (first second : OnDuty). first.vehicle.id < second.vehicle.id) lent duties there.rising,
      All-unmap (λ (duty : OnDuty). IsWithout trip duty.stops) lent duties there.new_trip,
    )

pub lent_are_without : (trip : ℕ) (duties : List Duty) (vehicles : List OnDuty) → on_duty duties ≡ vehicles
    → AllPairs (λ first second. first.vehicle.now.id < second.vehicle.now.id) duties
    × All (λ duty. IsWithout trip (stops_of duty.route.now)) duties → AreWithout trip vehicles
lent_are_without trip duties vehicles same (rising, without) =
    subst (λ (v : List OnDuty). AreWithout trip v) same (record {
      rising = AllPairs-map (λ (first second : OnDuty). first.vehicle.id < second.vehicle.id) lent duties rising;
      new_trip = All-map (λ (duty : OnDuty). IsWithout trip duty.stops) lent duties without;
    })

-- the vehicles that the facts give, borrowed with their routes
pub duties_rise : {E : Type 0} (trip : ℕ) (vehicles there : List OnDuty) (r : Result (Vec Duty Global) E)
    → AreWithout trip vehicles → there ≡ vehicles → IfOk r (λ duties. on_duty duties.items ≡ there)
    → IfOk r (λ duties. AllPairs (λ first second. first.vehicle.now.id < second.vehicle.now.id) duties.items)
duties_rise trip vehicles there (Ok duties) are same lends =
    (lent_without trip duties.items vehicles (lends ∙ same) are).0
duties_rise trip vehicles there (Err e) are same lends = tt

pub duties_without : {E : Type 0} (trip : ℕ) (vehicles there : List OnDuty) (r : Result (Vec Duty Global) E)
    → AreWithout trip vehicles → there ≡ vehicles → IfOk r (λ duties. on_duty duties.items ≡ there)
    → IfOk r (λ duties. All (λ duty. IsWithout trip (stops_of duty.route.now)) duties.items)
duties_without trip vehicles there (Ok duties) are same lends =
    (lent_without trip duties.items vehicles (lends ∙ same) are).1
duties_without trip vehicles there (Err e) are same lends = tt

-- what was found of the routes
pub routes_found : (facts : WishFacts) (trip : ℕ) (wish : Wish) (found : Option (Vec DayRoute Global))
    (routes : Vec DayRoute Global) → found ≡ Some routes → AreRoutesOf facts trip wish found
    → (map day_route routes.items ≡ routes_for trip wish facts) × AreWithout trip (map day_route routes.items)
routes_found facts trip wish found routes is are = subst (λ o. AreRoutesOf facts trip wish o) is are

pub none_found : (facts : WishFacts) (trip : ℕ) (wish : Wish) (found : Option (Vec DayRoute Global)) → found ≡ None
    → AreRoutesOf facts trip wish found → ¬ AreRoutes trip (routes_for trip wish facts)
none_found facts trip wish found is are = subst (λ o. AreRoutesOf facts trip wish o) is are

-- the result of the whole question
pub inquired_by : {E : Type 0} (wish : Wish) (me : Caller) (now : Moment) (facts : WishFacts) (r : Result Inquiry E)
    → first_failing (explain_rules wish me facts) ≡ None → IfOk r (λ found. IsInquiryAfter wish now.0 facts found)
    → IfOk r (λ found. IsInquiry wish me now facts found)
inquired_by wish me now facts (Ok found) none is = inquired wish me now facts found none is
inquired_by wish me now facts (Err e) none is = tt

-- a test that fails under these conditions
pub never_lent : (trip : ℕ) (wish : Wish) (facts : WishFacts) (routes : List OnDuty) (duties : List Duty)
    → on_duty duties ≡ routes → routes ≡ routes_for trip wish facts
    → ¬ (AllPairs (λ first second. first.vehicle.now.id < second.vehicle.now.id) duties
    × All (λ duty. IsWithout trip (stops_of duty.route.now)) duties) → ¬ AreRoutes trip (routes_for trip wish facts)
never_lent trip wish facts routes duties same is never = λ are.
    never (lent_without trip duties (routes_for trip wish facts) (same ∙ is)
    (record { rising = are.rising; new_trip = are.new_trip }))

pub refusals_are_shown : RefusalsAreShown
refusals_are_shown wish me now facts found minutes (allowed, are) times none =
    let request = are.request in
    let vehicles = routes_for (next_trip facts) wish facts in
    let never = subst (λ (a : Asked). ¬ SomeVehicleCan minutes vehicles a) (are.asked minutes times)
    (subst (λ (v : List OnDuty). ¬ SomeVehicleCan minutes v found.asked) are.vehicles none) in
    explained wish me now facts (answer.Denied rule.NoVehicle) None allowed (
      scheduled.Denied rule.NoVehicle,
      (
        request,
        are.of_wish,
        (
          minutes,
          subst (λ (r : List Row). AreTimes r minutes) are.rows times,
          inl (first-behind (riders_rules request) (vehicles_rule wish facts request minutes) (Some rule.NoVehicle)
              are.rules (inl (never, refl))),
        ),
      ),
      refl,
    )
