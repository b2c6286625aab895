-- What follows of the vehicle's new route, and of the rules, from the best place.
use Rattle.std.proofs.Common.{◌≡◌, ℕ, ◌+◌, ◌<◌, ◌≤◌, List, [], ◌∷◌, length, Any, All, AllPairs, Contains, Option}
use Rattle.std.proofs.Common.{Some, None, IsSome, IfNone, Result, Ok, Err, IsErr, inl, inr, refl, sym, ap, subst, ◌∙◌}
use Rattle.std.proofs.Common.{◌↔◌, arith}
use Rattle.std.proofs.lemmas.Bool.{false≢true}
use Rattle.std.proofs.lemmas.List.Elements.{All-map}
use Rattle.pt_base_values.specs.declared.rule.Rule.{Rule}
use Rattle.pt_base_values.specs.declared.rule.Rule.TheVariants.{NoVehicle}
use Rattle.pt_base_values.specs.declared.trip.Trip.{Trip}
use Rattle.pt_base_values.specs.declared.vehicle.Vehicle.{Vehicle}
use Rattle.pt_feasible.specs.Loads.{LoadsFit}
use Rattle.pt_feasible.specs.Route.{stops_of}
use Rattle.pt_feasible.specs.ServiceTimes.{IsLeastSchedule}
use Rattle.pt_feasible.specs.Visit.{stop_visit}
use Rattle.pt_feasible.specs.declared.stop.Stop.{Stop}
use Rattle.pt_insertion_search.specs.Asked.{pickup_stop}
use Rattle.pt_insertion_search.specs.Choice.{IsChosenIn, IsBestIn}
use Rattle.pt_insertion_search.specs.Insertion.{with_trip}
use Rattle.pt_insertion_search.specs.Possible.{IsPossible}
use Rattle.pt_insertion_search.specs.declared.asked.Asked.{Asked}
use Rattle.pt_insertion_search.specs.declared.chosen.Chosen.{Chosen}
use Rattle.pt_insertion_search.specs.declared.duty.Duty.{Duty}
use Rattle.pt_insertion_search.proofs.InsertionLemmas.{length-with_trip}
use Rattle.pt_desk_booking.specs.Booking.{promised_at, planned_pickup, IsAllowed, IsNewRoute, IsTripIn, IsTripOf}
use Rattle.pt_desk_booking.specs.Planning.{OnDuty, on_duty, asked_for, asked_of, SomeVehicleCan, IsBestPlace, booking_rules}
use Rattle.pt_desk_booking.specs.Request.{Request}
use Rattle.pt_desk_booking.specs.Rules.{IsFirstFailing, riders_rules}
use Rattle.pt_desk_booking.specs.declared.booking.BookingDecision.{BookingDecision}
use Rattle.pt_desk_booking.specs.declared.booking.BookingDecision.TheVariants.{Denied}
use Rattle.pt_base_values.specs.declared.window.Window.{Window}
use Rattle.pt_desk_booking.proofs.DutyLemmas.{Any-map, no_any, same-duty}
use Rattle.pt_desk_booking.proofs.RuleLemmas.{first-unique, first-behind}
use Rattle.pt_desk_booking.proofs.WindowLemmas.{moved, pickup-visit, moved-loads, moved-least}

-- the vehicle and the route of a duty
abbrev lent : Duty → OnDuty
lent duty = record { vehicle = duty.vehicle.now; stops = stops_of duty.route.now }

-- the chosen place is in some duty's route
abbrev pub IsChosenAmong : (ℕ → ℕ → Option ℕ) → List Duty → Asked → Chosen → Type 0
IsChosenAmong minutes duties asked chosen = Any (λ duty. IsChosenIn minutes duty.vehicle.now (stops_of duty.route.now) asked chosen) duties

-- the chosen vehicle is found
pub chosen-found : (minutes : ℕ → ℕ → Option ℕ) (duties : List Duty) (asked : Asked) (chosen : Chosen) (found : Option Duty) →
    IsChosenAmong minutes duties asked chosen → IfNone found (All (λ duty. ¬ (duty.vehicle.now.id ≡ chosen.vehicle)) duties) → IsSome found
chosen-found minutes duties asked chosen (Some duty) possible none = refl
chosen-found minutes duties asked chosen None possible none =
    absurd (no_any (λ duty. duty.vehicle.now.id ≡ chosen.vehicle) duties none
    (possible.0, possible.1, possible.2, possible.3, sym possible.4.vehicle_number))

-- the choice is in the route of the vehicle of its number
pub chosen-in : (minutes : ℕ → ℕ → Option ℕ) (duties : List Duty) (asked : Asked) (chosen : Chosen) (duty : Duty) →
    AllPairs (λ first second. first.vehicle.now.id < second.vehicle.now.id) duties → IsChosenAmong minutes duties asked chosen →
    Contains duties duty → duty.vehicle.now.id ≡ chosen.vehicle →
    IsChosenIn minutes duty.vehicle.now (stops_of duty.route.now) asked chosen
chosen-in minutes duties asked chosen duty rising possible among number =
    let same : possible.1 ≡ duty =
    same-duty duties rising possible.1 duty (possible.0, possible.2, possible.3) among (sym possible.4.vehicle_number ∙ sym number) in
    subst (λ (d : Duty). IsChosenIn minutes d.vehicle.now (stops_of d.route.now) asked chosen) same possible.4

-- the pickup has a time in the requested window
pub record IsPlanned (asked : Asked) (chosen : Chosen) : Type 0 where
  pub there : chosen.i + 1 < length chosen.schedule.items
  pub from : asked.lo ≤ planned_pickup chosen
  pub to : planned_pickup chosen ≤ asked.hi

pub planned : (minutes : ℕ → ℕ → Option ℕ) (vehicle : Vehicle) (stops : List Stop) (asked : Asked) (chosen : Chosen) →
    IsChosenIn minutes vehicle stops asked chosen → IsPlanned asked chosen
planned minutes vehicle stops asked chosen choice =
    let possible = choice.possible in
    let fits = choice.schedule.fits in
    let window = fits.time_windows (chosen.i + 1) (stop_visit (pickup_stop asked))
    (pickup-visit vehicle asked chosen.i chosen.j stops possible.drop_later possible.among) in
    record {
      there = omega (arith, fits.one_each, length-with_trip asked chosen.i chosen.j stops possible.drop_later possible.among, possible.drop_later, possible.among);
      from = window.0;
      to = window.1;
    }

-- the trip as its route has it is the requested one, with its pickup in the promised window
asked_of-trip : (minutes : ℕ → ℕ → Option ℕ) (request : Request) (vehicle : ℕ) (promised : Window) (trip : Trip) →
    IsTripIn minutes request vehicle promised trip → asked_of trip ≡ moved (asked_for minutes request) promised
asked_of-trip minutes request vehicle promised trip kept = cc

-- the route with the trip under its promised window
pub new-route : (minutes : ℕ → ℕ → Option ℕ) (duties : List Duty) (duty : Duty) (request : Request) (chosen : Chosen) (trip : Trip) (stops : List Stop) →
    Contains duties duty → duty.vehicle.now.id ≡ chosen.vehicle →
    IsChosenIn minutes duty.vehicle.now (stops_of duty.route.now) (asked_for minutes request) chosen →
    IsTripOf minutes request chosen trip → stops ≡ with_trip (asked_of trip) chosen.i chosen.j (stops_of duty.route.now) →
    Any (λ d. IsNewRoute minutes d trip chosen stops) (on_duty duties)
new-route minutes duties duty request chosen trip stops among number choice kept is =
    let old = stops_of duty.route.now in
    let asked = asked_for minutes request in
    let promised = promised_at request chosen in
    let possible = choice.possible in
    let times = planned minutes duty.vehicle.now old asked chosen choice in
    let there : stops ≡ with_trip (moved asked promised) chosen.i chosen.j old =
    is ∙ ap (λ (a : Asked). with_trip a chosen.i chosen.j old) (asked_of-trip minutes request chosen.vehicle promised trip kept) in
    let loads = moved-loads asked promised chosen.i chosen.j old possible.drop_later possible.among duty.vehicle.now possible.loads in
    let schedule = moved-least minutes duty.vehicle.now asked promised chosen.i chosen.j old chosen.schedule.items
    possible.drop_later possible.among choice.schedule (omega (arith, times.from)) (omega (arith, times.to)) (omega arith) (omega arith) in
    let new : IsNewRoute minutes (lent duty) trip chosen stops = record {
      vehicle = number;
      stops_with_trip = is;
      loads = subst (λ (s : List Stop). LoadsFit duty.vehicle.now s) (sym there) loads;
      schedule = subst (λ (s : List Stop). IsLeastSchedule minutes duty.vehicle.now s chosen.schedule.items) (sym there) schedule;
    } in
    Any-map (λ (d : OnDuty). IsNewRoute minutes d trip chosen stops) lent duties (among.0, duty, among.1, among.2, new)

module _ (minutes : ℕ → ℕ → Option ℕ) (duties : List Duty) (request : Request) (asked : Asked) (is : asked ≡ asked_for minutes request) where
  pub chosen-for : (chosen : Chosen) → IsChosenAmong minutes duties asked chosen → IsChosenAmong minutes duties (asked_for minutes request) chosen
  chosen-for chosen possible = subst (λ (a : Asked). IsChosenAmong minutes duties a chosen) is possible

  -- the best place among the duties is the best among their vehicles
  pub best-place : (chosen : Chosen) → IsChosenAmong minutes duties asked chosen →
      All (λ duty. IsBestIn minutes duty.vehicle.now (stops_of duty.route.now) asked chosen) duties →
      IsBestPlace minutes (on_duty duties) (asked_for minutes request) chosen
  best-place chosen possible least = record {
    possible = Any-map (λ (d : OnDuty). IsChosenIn minutes d.vehicle d.stops (asked_for minutes request) chosen) lent duties (chosen-for chosen possible);
    least = All-map (λ (d : OnDuty). IsBestIn minutes d.vehicle d.stops (asked_for minutes request) chosen) lent duties
        (subst (λ (a : Asked). All (λ (duty : Duty). IsBestIn minutes duty.vehicle.now (stops_of duty.route.now) a chosen) duties) is least);
  }

  -- all rules hold if those of riders do and there is a best place
  pub all-hold : (chosen : Chosen) (found : Option Rule) → IsFirstFailing (riders_rules request) found → found ≡ None →
      IsChosenAmong minutes duties asked chosen → IsFirstFailing (booking_rules minutes (on_duty duties) request) None
  all-hold chosen found first none possible =
      let there = chosen-for chosen possible in
      let can : SomeVehicleCan minutes (on_duty duties) (asked_for minutes request) =
      Any-map (λ (d : OnDuty). (i : ℕ) × (j : ℕ) × IsPossible minutes d.vehicle d.stops (asked_for minutes request) i j) lent duties
      (there.0, there.1, there.2, there.3, (chosen.i, chosen.j, there.4.possible)) in
      let last : IsFirstFailing ((NoVehicle, SomeVehicleCan minutes (on_duty duties) (asked_for minutes request)) ∷ []) None = inr (can, refl) in
      first-behind (riders_rules request) ((NoVehicle, SomeVehicleCan minutes (on_duty duties) (asked_for minutes request)) ∷ []) None
      (subst (λ (r : Option Rule). IsFirstFailing (riders_rules request) r) none first) last

  -- `NoVehicle` is the first failing rule if the others hold and nothing is possible
  pub no-vehicle : (found : Option Rule) → IsFirstFailing (riders_rules request) found → found ≡ None →
      All (λ duty. (i j : ℕ) → ¬ IsPossible minutes duty.vehicle.now (stops_of duty.route.now) asked i j) duties →
      IsFirstFailing (booking_rules minutes (on_duty duties) request) (Some NoVehicle)
  no-vehicle found first none nothing =
      let P : OnDuty → Type 0 = λ d. (i : ℕ) × (j : ℕ) × IsPossible minutes d.vehicle d.stops (asked_for minutes request) i j in
      let never = subst (λ (a : Asked). All (λ (duty : Duty). (i j : ℕ) → ¬ IsPossible minutes duty.vehicle.now (stops_of duty.route.now) a i j) duties) is nothing in
      let cannot : ¬ SomeVehicleCan minutes (on_duty duties) (asked_for minutes request) =
      no_any P (on_duty duties) (All-map (λ (d : OnDuty). ¬ P d) lent duties (λ k d within can. never k d within can.0 can.1 can.2)) in
      let last : IsFirstFailing ((NoVehicle, SomeVehicleCan minutes (on_duty duties) (asked_for minutes request)) ∷ []) (Some NoVehicle) = inl (cannot, refl) in
      first-behind (riders_rules request) ((NoVehicle, SomeVehicleCan minutes (on_duty duties) (asked_for minutes request)) ∷ []) (Some NoVehicle)
      (subst (λ (r : Option Rule). IsFirstFailing (riders_rules request) r) none first) last

-- the denial by the first failing rule is the only one
pub denied-only : {E : Type 0} (rules : List (Rule × Type 0)) (found rule : Rule) → IsFirstFailing rules (Some found) →
    (result : Result BookingDecision E) → result ≡ Ok (Denied found) → (result ≡ Ok (Denied rule)) ↔ IsFirstFailing rules (Some rule)
denied-only rules found rule first result is = (
  λ same. let it : found ≡ rule = cc in subst (λ (r : Rule). IsFirstFailing rules (Some r)) it first,
  λ other. let it : Some found ≡ Some rule = first-unique rules _ _ first other in cc,
)

-- where all rules hold nothing is denied
pub not-denied : {E : Type 0} (rules : List (Rule × Type 0)) (result : Result BookingDecision E) (rule : Rule) → IsFirstFailing rules None →
    (result ≡ Ok (Denied rule) → ⊥) → (result ≡ Ok (Denied rule)) ↔ IsFirstFailing rules (Some rule)
not-denied rules result rule none never = (
  λ same. absurd (never same),
  λ other. let is : None ≡ Some rule = first-unique rules _ _ none other in cc is,
)

-- out of memory is no denial
pub refused-not-denied : {E : Type 0} (rules : List (Rule × Type 0)) (result : Result BookingDecision E) (rule : Rule) → IsFirstFailing rules None →
    IsErr result → (result ≡ Ok (Denied rule)) ↔ IsFirstFailing rules (Some rule)
refused-not-denied {E} rules result rule none refused =
    not-denied rules result rule none
    (λ same. let ok : IsErr {E = E} (Ok (Denied rule)) = subst (λ (r : Result BookingDecision E). IsErr r) same refused in absurd (false≢true ok))

-- if memory was refused, `IsAllowed` is equivalent to any fact that holds
pub allowed-if-refused : {E : Type 0} (P : Type 0) (result : Result BookingDecision E) → IsErr result → P → IsAllowed result ↔ P
allowed-if-refused P (Ok decision) refused holds = absurd (false≢true refused)
allowed-if-refused P (Err fault) refused holds = (λ _. holds, λ _. tt)

-- where a rule fails, not all hold
pub not-allowed : (rules : List (Rule × Type 0)) (rule : Rule) → IsFirstFailing rules (Some rule) → ⊥ ↔ IsFirstFailing rules None
not-allowed rules rule first = (
  λ never. absurd never,
  λ none. let is : Some rule ≡ None = first-unique rules _ _ first none in cc is,
)
