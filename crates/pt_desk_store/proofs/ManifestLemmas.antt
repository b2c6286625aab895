-- The manifest of a vehicle is the same by its plan and the trips of its stops as by the whole day.
use Rattle.std.proofs.Common.{◌≡◌, ℕ, Bool, true, false, List, [], ◌∷◌, ◌++◌, Option, Some, None, cond, refl, sym, ap, ◌∙◌, subst, arith}
use Rattle.std.specs.Prelude.{◌==◌, ◌&&◌, filter, find}
use Rattle.std.proofs.lemmas.Bool.Decides.{nat_tests}
use Rattle.pt_base_values.specs.declared.rule.Rule.{Rule}
use Rattle.pt_base_values.specs.declared.trip.Trip.{Trip}
use Rattle.pt_base_values.specs.declared.vehicle.Vehicle.{Vehicle}
use Rattle.pt_desk_rules.specs.Booking.{rows_of}
use Rattle.pt_desk_rules.specs.Chain.{Row}
use Rattle.pt_desk_rules.specs.Deciding.{IsToldAfter}
use Rattle.pt_desk_rules.specs.FailingRules.{first_failing}
use Rattle.pt_desk_rules.specs.Fleet.{duty_of, is_on_duty}
use Rattle.pt_desk_rules.specs.Planned.{planned_on, trips_on}
use Rattle.pt_desk_rules.specs.Rules.{read_rules}
use Rattle.pt_desk_rules.specs.State.{State, plan_of, trip_key}
use Rattle.pt_desk_rules.specs.Stop.{Stop}
use Rattle.pt_desk_rules.specs.Tour.{Tour}
use Rattle.pt_desk_rules.specs.TourStop.{TourStop}
use Rattle.pt_desk_rules.specs.Tours.{IsManifestOf, IsSheetOf, IsShownAt, IsTourAt, IsTourOrNone}
use Rattle.pt_desk_rules.specs.Travel.{TravelTable}
use Rattle.pt_desk_rules.specs.VehicleSheet.{VehicleSheet}
use Rattle.pt_desk_rules.specs.declared.facts.DayFacts.{DayFacts}
use Rattle.pt_desk_rules.proofs.TourLemmas.{each_at}
use Rattle.pt_base_records.specs.Keys.{pair_key}
use Rattle.pt_base_records.specs.Records.{put, put_all, record_at, Each}
use Rattle.pt_base_records.proofs.OrderLemmas.{record_at-here, Each-put}
use Rattle.pt_desk_requests.specs.declared.request.Answer.{Answer}
use Rattle.pt_desk_requests.specs.declared.request.Read.TheVariants.{Manifest}
use Rattle.pt_desk_scheduling.specs.Plan.{Plan, after_stop, plan_key, planned_stops, stops_among, stops_of_plan}
use Rattle.pt_desk_scheduling.specs.declared.planned.PlannedStop.{PlannedStop}
use Rattle.pt_desk_scheduling.proofs.PlanLemmas.{found_key, stop_trip}
use Rattle.pt_desk_scheduling.proofs.RouteLemmas.{Each-found}
use Rattle.pt_desk_store.specs.Enough.{are_met, is_met, is_on, tour_by, AreTripsIn, IsEnough, IsEnoughBy, IsTripIn}

kept_step : {A : Type 0} (key : A → ℕ) (k : ℕ) (x y : A) (ys kept : List A) (test : A → Bool) (here passes : Bool) → (key y == k) ≡ here → test y ≡ passes → test x ≡ true
    → (record_at key k ys ≡ Some x → record_at key k kept ≡ Some x) → cond here (Some y) (record_at key k ys) ≡ Some x → record_at key k (cond passes (y ∷ kept) kept) ≡ Some x
kept_step key k x y ys kept test true true is tested holds rest found = ap (λ b. cond b (Some y) (record_at key k kept)) is ∙ found
kept_step key k x y ys kept test true false is tested holds rest found = absurd
    (let same : y ≡ x = cc in let both : test y ≡ true = ap test same ∙ holds in let no_more : true ≡ false = sym both
    ∙ tested in cc)
kept_step key k x y ys kept test false true is tested holds rest found = ap (λ b. cond b (Some y) (record_at key k kept)) is ∙ rest found
kept_step key k x y ys kept test false false is tested holds rest found = rest found

-- a record that is found and passes a test is found among those that pass
pub some_kept : {A : Type 0} (key : A → ℕ) (k : ℕ) (x : A) (test : A → Bool) (xs : List A) → test x ≡ true → record_at key k xs ≡ Some x → record_at key k (filter test xs) ≡ Some x
some_kept key k x test [] holds found = absurd (cc)
some_kept key k x test (y ∷ ys) holds found =
    kept_step key k x y ys (filter test ys) test (key y == k) (test y) refl refl holds (some_kept key k x test ys holds) found

none_step : {A : Type 0} (key : A → ℕ) (k : ℕ) (y : A) (rest : Option A) (kept : List A) (here passes : Bool) → (key y == k) ≡ here
    → (rest ≡ None → record_at key k kept ≡ None) → cond here (Some y) rest ≡ None → record_at key k (cond passes (y ∷ kept) kept) ≡ None
none_step key k y rest kept true passes is later none = absurd (cc)
none_step key k y rest kept false true is later none = ap (λ b. cond b (Some y) (record_at key k kept)) is ∙ later none
none_step key k y rest kept false false is later none = later none

-- what is not found is not found among those that pass a test
pub none_kept : {A : Type 0} (key : A → ℕ) (k : ℕ) (test : A → Bool) (xs : List A) → record_at key k xs ≡ None → record_at key k (filter test xs) ≡ None
none_kept key k test [] none = refl
none_kept key k test (y ∷ ys) none = none_step key k y (record_at key k ys) (filter test ys) (key y == k) (test y) refl (none_kept key k test ys) none

passes_step : {A : Type 0} (test : A → Bool) (x y : A) (rest : Option A) (here : Bool) → test y ≡ here → (rest ≡ Some x → test x ≡ true) → cond here (Some y) rest ≡ Some x → test x ≡ true
passes_step test x y rest true is later found = let same : y ≡ x = cc in ap test (sym same) ∙ is
passes_step test x y rest false is later found = later found

found_passes : {A : Type 0} (test : A → Bool) (x : A) (xs : List A) → find test xs ≡ Some x → test x ≡ true
found_passes test x [] found = absurd (cc)
found_passes test x (y ∷ ys) found = passes_step test x y (find test ys) (test y) refl (found_passes test x ys) found

first_of : (a b : Bool) → (a && b) ≡ true → a ≡ true
first_of true b both = refl
first_of false b both = absurd (cc)

second_of : (a b : Bool) → (a && b) ≡ true → b ≡ true
second_of true b both = both
second_of false b both = absurd (cc)

same_number : (n k : ℕ) → (n == k) ≡ true → n ≡ k
same_number n k is = grind (arith, nat_tests)

is_same : (n k : ℕ) → n ≡ k → (n == k) ≡ true
is_same n k same = grind (arith, nat_tests)

-- the same trip, or none, is found in both lists
abbrev SameAt : List Trip → List Trip → ℕ → Type 0
SameAt xs ys number = record_at trip_key number xs ≡ record_at trip_key number ys

same_stops : (xs ys : List Trip) (stops : List PlannedStop) → Each (λ (stop : PlannedStop). SameAt xs ys stop.trip) stops → stops_among xs stops ≡ stops_among ys stops
same_stops xs ys [] each = refl
same_stops xs ys (stop ∷ later) each =
    ap (λ found. after_stop found stop.kind (stops_among xs later)) each.0
    ∙ ap (λ rest. after_stop (record_at trip_key stop.trip ys) stop.kind rest) (same_stops xs ys later each.1)

after_of : (P : ℕ → Type 0) (trips : List Trip) (stop : PlannedStop) (found : Option Trip) (rest : List Stop) → record_at trip_key stop.trip trips ≡ found → P stop.trip
    → Each (λ (s : Stop). P s.trip) rest → Each (λ (s : Stop). P s.trip) (after_stop found stop.kind rest)
after_of P trips stop None rest found holds each = each
after_of P trips stop (Some trip) rest found holds each = (subst P (sym (stop_trip stop.kind trip ∙ found_key trip_key stop.trip trip trips found)) holds, each)

-- what holds of the trips of planned stops holds of the trips of the stops
each_among : (P : ℕ → Type 0) (trips : List Trip) (stops : List PlannedStop) → Each (λ (stop : PlannedStop). P stop.trip) stops → Each (λ (s : Stop). P s.trip) (stops_among trips stops)
each_among P trips [] each = tt
each_among P trips (stop ∷ later) each = after_of P trips stop (record_at trip_key stop.trip trips) (stops_among trips later) refl each.0 (each_among P trips later each.1)

shown_by : (xs ys : List Trip) (stops : List Stop) (b : List ℕ) (k : ℕ) (shown : TourStop) → Each (λ (s : Stop). SameAt xs ys s.trip) stops → IsShownAt xs stops b k shown
    → IsShownAt ys stops b k shown
shown_by xs ys stops b k shown same here = record {
  stop = here.stop;
  trip = here.trip;
  is_stop = here.is_stop;
  is_trip = sym (each_at (λ (s : Stop). SameAt xs ys s.trip) stops same k here.stop here.is_stop) ∙ here.is_trip;
  value = here.value;
}

tour_at_by : (version : Vehicle) (xs ys : List Trip) (stops : List Stop) (b : List ℕ) (tour : Tour) → Each (λ (s : Stop). SameAt xs ys s.trip) stops → IsTourAt version xs stops b tour
    → IsTourAt version ys stops b tour
tour_at_by version xs ys stops b tour same is = record {
  depot = is.depot;
  chairs = is.chairs;
  leaves = is.leaves;
  shown = record { one_each = is.shown.one_each; each = λ k shown at. shown_by xs ys stops b k shown same (is.shown.each k shown at) };
  returns = is.returns;
}

tour_or_none_by : (rows : List Row) (version : Vehicle) (xs ys : List Trip) (stops : List Stop) (tour : Option Tour) → Each (λ (s : Stop). SameAt xs ys s.trip) stops
    → IsTourOrNone rows version xs stops tour → IsTourOrNone rows version ys stops tour
tour_or_none_by rows version xs ys stops None same is = is
tour_or_none_by rows version xs ys stops (Some tour) same (has, (minutes, times, b, least, is)) = (has, (minutes, times, b, least, tour_at_by version xs ys stops b tour same is))

-- the vehicle of this number has the same stops of the same trips
abbrev SamePlan : ℕ → List Plan → List Plan → List Trip → List Trip → ℕ → Type 0
SamePlan day plans others xs ys id = (planned_stops id day plans ≡ planned_stops id day others) × Each (λ (stop : PlannedStop). SameAt xs ys stop.trip) (planned_stops id day plans)

abbrev day_by : Option TravelTable → List Plan → List Trip → DayFacts
day_by travel plans trips = record { travel = travel; trips = trips; plans = plans }

sheet_by : (day : ℕ) (travel : Option TravelTable) (plans others : List Plan) (xs ys : List Trip) (version : Vehicle) (sheet : VehicleSheet) → SamePlan day plans others xs ys version.id
    → IsSheetOf day (day_by travel plans xs) version sheet → IsSheetOf day (day_by travel others ys) version sheet
sheet_by day travel plans others xs ys version sheet (planned, same) is =
    let stops = planned_stops version.id day plans in
    record {
      number = is.number;
      tour = subst (λ stops. IsTourOrNone (rows_of travel) version ys stops sheet.tour) (same_stops xs ys stops same ∙ ap (stops_among ys) planned)
          (tour_or_none_by (rows_of travel) version xs ys (stops_among xs stops) sheet.tour (each_among (SameAt xs ys) xs stops same) is.tour);
    }

manifest_by : (id day : ℕ) (travel : Option TravelTable) (plans others : List Plan) (xs ys : List Trip) (vehicles : List Vehicle) (duty : Option Vehicle) (sheet : VehicleSheet)
    → duty_of id day vehicles ≡ duty → SamePlan day plans others xs ys id → IsManifestOf id day (day_by travel plans xs) duty sheet → IsManifestOf id day (day_by travel others ys) duty sheet
manifest_by id day travel plans others xs ys vehicles None sheet of same is = is
manifest_by id day travel plans others xs ys vehicles (Some version) sheet of same is =
    let passes = found_passes (λ (v : Vehicle). v.id == id && is_on_duty day vehicles v) version vehicles of in
    let own : version.id ≡ id = same_number version.id id (first_of (version.id == id) (is_on_duty day vehicles version) passes) in
    sheet_by day travel plans others xs ys version sheet (subst (SamePlan day plans others xs ys) (sym own) same) is

told_by : (first : Option Rule) (id day today : ℕ) (plans others : List Plan) (xs ys : List Trip) (s : State) (told : Answer) → SamePlan day plans others xs ys id
    → IsToldAfter first (Manifest id day) today (tour_by day plans xs s) told → IsToldAfter first (Manifest id day) today (tour_by day others ys s) told
told_by (Some rule) id day today plans others xs ys s told same is = is
told_by None id day today plans others xs ys s told same (sheet, shown, is) =
    (sheet, manifest_by id day _ plans others xs ys s.vehicles (duty_of id day s.vehicles) sheet refl same shown, is)

enough : (id day : ℕ) (plans : List Plan) (xs : List Trip) (s : State) → SamePlan day plans (planned_on day s.planned) xs (trips_on day s.trips) id
    → IsEnough (Manifest id day) s (tour_by day plans xs s)
enough id day plans xs s same me now told is =
    told_by (first_failing (read_rules (Manifest id day) me (tour_by day plans xs s))) id day now.0 plans (planned_on day s.planned) xs (trips_on day s.trips) s told same is

-- a vehicle with no plan
pub enough_none : (id day : ℕ) (s : State) → plan_of id day s ≡ None → IsEnough (Manifest id day) s (tour_by day [] [] s)
enough_none id day s none = enough id day [] [] s (sym (ap stops_of_plan (none_kept plan_key (pair_key id day) (λ (p : Plan). p.day == day) s.planned none)), tt)

met_step : (day : ℕ) (s : State) (trips : List Trip) (stop : PlannedStop) (found : Option Trip) → AreTripsIn s trips → record_at trip_key stop.trip trips ≡ found
    → is_on day found ≡ true → SameAt trips (trips_on day s.trips) stop.trip
met_step day s trips stop None own found on = absurd (cc)
met_step day s trips stop (Some trip) own found on =
    let (number, there) = Each-found (IsTripIn s) trip_key stop.trip trip trips own found in
    let same : number ≡ stop.trip = sym (found_key trip_key number trip s.trips there) ∙ found_key trip_key stop.trip trip trips found in
    found ∙ sym (some_kept trip_key stop.trip trip (λ (t : Trip). t.wish.day == day) s.trips on (subst (λ (n : ℕ). record_at trip_key n s.trips ≡ Some trip) same there))

-- trips of the state that are on the day are those of the day
met : (day : ℕ) (s : State) (trips : List Trip) (stops : List PlannedStop) → AreTripsIn s trips → are_met day trips stops ≡ true
    → Each (λ (stop : PlannedStop). SameAt trips (trips_on day s.trips) stop.trip) stops
met day s trips [] own all = tt
met day s trips (stop ∷ later) own all = (
  met_step day s trips stop (record_at trip_key stop.trip trips) own refl (first_of (is_met day trips stop) (are_met day trips later) all),
  met day s trips later own (second_of (is_met day trips stop) (are_met day trips later) all),
)

-- a vehicle with a plan
pub enough_by : (day : ℕ) (plan : Plan) (trips : List Trip) (s : State) → plan.day ≡ day → are_met day trips plan.stops ≡ true → AreTripsIn s trips
    → IsEnoughBy day plan s (tour_by day (plan ∷ []) trips s)
enough_by day plan trips s on all own id there =
    let key = pair_key id day in
    let found : planned_stops id day (plan ∷ []) ≡ plan.stops = ap stops_of_plan (record_at-here plan_key key plan [] (found_key plan_key key plan s.planned there)) in
    let kept : planned_stops id day (planned_on day s.planned) ≡ plan.stops
    = ap stops_of_plan (some_kept plan_key key plan (λ (p : Plan). p.day == day) s.planned (is_same plan.day day on) there) in
    enough id day (plan ∷ []) trips s
    (found ∙ sym kept, subst (λ stops. Each (λ (stop : PlannedStop). SameAt trips (trips_on day s.trips) stop.trip) stops) (sym found) (met day s trips plan.stops own all))

put_last : {A : Type 0} (key : A → ℕ) (new : A) (news xs : List A) → put_all key (news ++ new ∷ []) xs ≡ put key new (put_all key news xs)
put_last key new [] xs = refl
put_last key new (x ∷ news) xs = put_last key new news (put key x xs)

-- one trip more
pub trips_more : (s : State) (trip : Trip) (news xs : List Trip) → AreTripsIn s (put_all trip_key news xs) → IsTripIn s trip → AreTripsIn s (put_all trip_key (news ++ trip ∷ []) xs)
trips_more s trip news xs own more = subst (AreTripsIn s) (sym (put_last trip_key trip news xs)) (Each-put (IsTripIn s) trip_key trip (put_all trip_key news xs) own more)
