-- Each trip that is not cancelled is in the plan of its vehicle on its day.
use Rattle.std.proofs.Common.{◌≡◌, ℕ, ◌<◌, ◌≤◌, Bool, true, false, List, [], ◌∷◌, Option, Some, None, cond, refl, sym, ap, ◌∙◌, inl, inr, arith}
use Rattle.std.specs.Prelude.{◌==◌, filter}
use Rattle.std.proofs.lemmas.Bool.Decides.{nat_tests}
use Rattle.pt_desk_rules.specs.Day.{IsDay}
use Rattle.pt_desk_rules.specs.Trip.{Trip}
use Rattle.pt_base_records.specs.Keys.{pair_key}
use Rattle.pt_base_records.specs.Records.{is_within, put, put_all, record_at, take_away, Each, IsInOrder}
use Rattle.pt_base_records.proofs.OrderLemmas.{compared, record_at-here, record_at-past, record_at-put_other, record_at-put_same, Each-both}
use Rattle.pt_base_records.proofs.RecordLemmas.{put_past, put_over, put_before}
use Rattle.pt_base_records.proofs.TableLemmas.{record_at-take_other, same_or_other}
use Rattle.pt_desk_scheduling.specs.Plan.{Plan, plan_key, planned_stops, stops_of_plan, without}
use Rattle.pt_desk_scheduling.specs.declared.planned.PlannedStop.{PlannedStop}
use Rattle.pt_desk_scheduling.proofs.PlanLemmas.{found_key}
use Rattle.pt_desk_scheduling.proofs.RouteLemmas.{has_trip, left_has, Each-found}
use Rattle.pt_desk_rules.specs.Planned.{planned_on, trips_on}
use Rattle.pt_desk_rules.specs.Sound.{HasDay, IsOnDay}
use Rattle.pt_desk_rules.specs.State.{trip_key}
use Rattle.pt_desk_rules.specs.Trips.{plan_of_stops, plan_span}

kept_step : {A : Type 0} (key : A → ℕ) (k : ℕ) (x y : A) (ys kept : List A) (test : A → Bool) (here passes : Bool) → (key y == k) ≡ here → test y ≡ passes → test x ≡ true
    → (record_at key k ys ≡ Some x → record_at key k kept ≡ Some x) → cond here (Some y) (record_at key k ys) ≡ Some x → record_at key k (cond passes (y ∷ kept) kept) ≡ Some x
kept_step key k x y ys kept test true true is tested holds rest found = ap (λ b. cond b (Some y) (record_at key k kept)) is ∙ found
kept_step key k x y ys kept test true false is tested holds rest found = absurd
    (let same : y ≡ x = cc in let both : test y ≡ true = ap test same ∙ holds in let no_more : true ≡ false = sym both
    ∙ tested in cc)
kept_step key k x y ys kept test false true is tested holds rest found = ap (λ b. cond b (Some y) (record_at key k kept)) is ∙ rest found
kept_step key k x y ys kept test false false is tested holds rest found = rest found

-- a record that is found and passes a test is found among those that pass
pub record_at-filter : {A : Type 0} (key : A → ℕ) (k : ℕ) (x : A) (test : A → Bool) (xs : List A) → test x ≡ true → record_at key k xs ≡ Some x → record_at key k (filter test xs) ≡ Some x
record_at-filter key k x test [] holds found = absurd (cc)
record_at-filter key k x test (y ∷ ys) holds found =
    kept_step key k x y ys (filter test ys) test (key y == k) (test y) refl refl holds (record_at-filter key k x test ys holds) found

pub is_same : (n k : ℕ) → n ≡ k → (n == k) ≡ true
is_same n k same = grind (arith, nat_tests)

-- a trip is found among the trips of its day
pub trip_on : (day : ℕ) (trip : Trip) (trips : List Trip) → trip.wish.day ≡ day → record_at trip_key trip.id trips ≡ Some trip → record_at trip_key trip.id (trips_on day trips) ≡ Some trip
trip_on day trip trips on found = record_at-filter trip_key trip.id trip (λ t. t.wish.day == day) trips (is_same trip.wish.day day on) found

-- a key determines its vehicle and its day
pub same_vehicle : (v d w e : ℕ) → d ≤ 47_481 → e ≤ 47_481 → pair_key v d ≡ pair_key w e → v ≡ w
same_vehicle v d w e low high same = omega arith

pub same_day : (v d w e : ℕ) → d ≤ 47_481 → e ≤ 47_481 → pair_key v d ≡ pair_key w e → d ≡ e
same_day v d w e low high same = omega arith

plan_on : (vehicle day k : ℕ) (plans : List Plan) (found : Option Plan) → IsDay day → Each IsOnDay plans
    → record_at plan_key (pair_key vehicle day) plans ≡ found → has_trip k (stops_of_plan found) ≡ true
    → has_trip k (planned_stops vehicle day (planned_on day plans)) ≡ true
plan_on vehicle day k plans None is days found some = absurd (cc)
plan_on vehicle day k plans (Some plan) is days found some =
    let on : plan.day ≡ day = same_day plan.vehicle plan.day vehicle day
    (Each-found IsOnDay plan_key (pair_key vehicle day) plan plans days found).1 is.1
    (found_key plan_key (pair_key vehicle day) plan plans found) in
    ap (λ f. has_trip k (stops_of_plan f)) (record_at-filter plan_key (pair_key vehicle day) plan (λ p. p.day == day) plans (is_same plan.day day on) found) ∙ some

-- a trip in the plans is in those of its day
pub has_on : (vehicle day k : ℕ) (plans : List Plan) → IsDay day → Each IsOnDay plans
    → has_trip k (planned_stops vehicle day plans) ≡ true
    → has_trip k (planned_stops vehicle day (planned_on day plans)) ≡ true
has_on vehicle day k plans is days some = plan_on vehicle day k plans (record_at plan_key (pair_key vehicle day) plans) is days refl some

put_key : (plan : Plan) (plans : List Plan) (k : ℕ) → k ≡ plan_key plan → stops_of_plan (record_at plan_key k (put plan_key plan plans)) ≡ plan.stops
put_key plan plans k same = ap (λ (n : ℕ). stops_of_plan (record_at plan_key n (put plan_key plan plans))) same ∙ ap stops_of_plan (record_at-put_same plan_key plan plans)

put_elsewhere : (plan : Plan) (plans : List Plan) (k : ℕ) → (k ≡ plan_key plan → ⊥) → stops_of_plan (record_at plan_key k (put plan_key plan plans)) ≡ stops_of_plan (record_at plan_key k plans)
put_elsewhere plan plans k other = ap stops_of_plan (record_at-put_other plan_key k plan plans (λ same. other (sym same)))

-- each trip of a table is found by its number
pub each_found : (trips : List Trip) → IsInOrder trip_key trips → Each (λ trip. record_at trip_key trip.id trips ≡ Some trip) trips
each_found [] order = tt
each_found (x ∷ xs) order = (
  record_at-here trip_key x.id x xs refl,
  Each-both (λ (y : Trip). x.id < y.id) (λ (y : Trip). record_at trip_key y.id xs ≡ Some y) (λ (y : Trip). record_at trip_key y.id (x ∷ xs) ≡ Some y)
      (λ y above found. record_at-past trip_key y.id x xs (λ same. omega arith) ∙ found) xs order.0 (each_found xs order.1),
)

-- a property of all records with other keys, and of a new one, holds for all after the new one is put
pub Each-put_over : {A : Type 0} (P : A → Type 0) (key : A → ℕ) (new : A) (xs : List A) → IsInOrder key xs → Each (λ x. (key x ≡ key new → ⊥) → P x) xs → P new → Each P (put key new xs)
Each-put_over P key new [] order each holds = (holds, tt)
Each-put_over P key new (x ∷ xs) order each holds = elim (compared (key x) (key new)) [
  | inl lt ↦ rw (put_past key new x xs lt) (each.0 (λ same. omega arith), Each-put_over P key new xs order.1 each.1 holds)
  | inr (inl same) ↦ rw (put_over key new x xs same)
      (holds, Each-both (λ y. key x < key y) (λ y. (key y ≡ key new → ⊥) → P y) P (λ y above gives. gives (λ is. omega arith)) xs order.0 each.1)
  | inr (inr gt) ↦ rw (put_before key new x xs gt)
      (holds, (each.0 (λ same. omega arith), Each-both (λ y. key x < key y) (λ y. (key y ≡ key new → ⊥) → P y) P (λ y above gives. gives (λ is. omega arith)) xs order.0 each.1))
]

outside : (k key : ℕ) → (k ≡ key → ⊥) → is_within k (record { from = key; to = key }) ≡ false
outside k key other = grind (arith, nat_tests)

taken_elsewhere : (old : Trip) (plans : List Plan) (k : ℕ) → (k ≡ pair_key old.vehicle old.wish.day → ⊥) → record_at plan_key k (take_away plan_key (plan_span old) plans) ≡ record_at plan_key k plans
taken_elsewhere old plans k other = record_at-take_other plan_key k (plan_span old) plans (outside k (pair_key old.vehicle old.wish.day) other)

-- the plans after a trip's stops are removed
abbrev pub plans_left : Trip → List PlannedStop → List Plan → List Plan
plans_left old left plans = put_all plan_key (plan_of_stops old left) (take_away plan_key (plan_span old) plans)

left_elsewhere : (old : Trip) (left : List PlannedStop) (plans : List Plan) (k : ℕ)
    → (k ≡ pair_key old.vehicle old.wish.day → ⊥) → record_at plan_key k (plans_left old left plans) ≡ record_at
    plan_key k plans
left_elsewhere old [] plans k other = taken_elsewhere old plans k other
left_elsewhere old (stop ∷ later) plans k other =
    record_at-put_other plan_key k (record { vehicle = old.vehicle; day = old.wish.day; stops = stop ∷ later }) (take_away plan_key (plan_span old) plans) (λ same. other (sym same))
    ∙ taken_elsewhere old plans k other

left_there : (old : Trip) (left : List PlannedStop) (plans : List Plan) (k : ℕ) → has_trip k left ≡ true
    → has_trip k (stops_of_plan (record_at plan_key (pair_key old.vehicle old.wish.day) (plans_left old left plans)))
    ≡ true
left_there old [] plans k some = absurd (cc)
left_there old (stop ∷ later) plans k some =
    ap (has_trip k) (put_key (record { vehicle = old.vehicle; day = old.wish.day; stops = stop ∷ later }) (take_away plan_key (plan_span old) plans) (pair_key old.vehicle old.wish.day) refl) ∙ some

-- when a trip's stops are removed, another trip keeps its own
pub stays_planned : (old trip : Trip) (plans : List Plan) → HasDay old → HasDay trip → (trip.id ≡ old.id → ⊥) → has_trip trip.id (planned_stops trip.vehicle trip.wish.day plans) ≡ true
    → has_trip trip.id (planned_stops trip.vehicle trip.wish.day (plans_left old (without old.id (planned_stops old.vehicle old.wish.day plans)) plans)) ≡ true
stays_planned old trip plans old_day day other some = elim (same_or_other (pair_key trip.vehicle trip.wish.day) (pair_key old.vehicle old.wish.day)) [
  | inl same ↦
      ap (λ (k : ℕ). has_trip trip.id (stops_of_plan (record_at plan_key k (plans_left old (without old.id (planned_stops old.vehicle old.wish.day plans)) plans)))) same
      ∙ left_there old (without old.id (planned_stops old.vehicle old.wish.day plans)) plans trip.id
      (left_has trip.id old.id (planned_stops old.vehicle old.wish.day plans) other (ap (λ (k : ℕ). has_trip trip.id (stops_of_plan (record_at plan_key k plans))) (sym same) ∙ some))
  | inr elsewhere ↦
      ap (λ f. has_trip trip.id (stops_of_plan f)) (left_elsewhere old (without old.id (planned_stops old.vehicle old.wish.day plans)) plans (pair_key trip.vehicle trip.wish.day) elsewhere) ∙ some
]

-- when a plan is put that has the trips of its vehicle and day, each trip keeps its stops
pub stays_beside : (trip : Trip) (plan : Plan) (plans : List Plan) → (pair_key trip.vehicle trip.wish.day ≡ plan_key plan → has_trip trip.id plan.stops ≡ true)
    → has_trip trip.id (planned_stops trip.vehicle trip.wish.day plans) ≡ true → has_trip trip.id (planned_stops trip.vehicle trip.wish.day (put plan_key plan plans)) ≡ true
stays_beside trip plan plans gives some = elim (same_or_other (pair_key trip.vehicle trip.wish.day) (plan_key plan)) [
  | inl same ↦ ap (has_trip trip.id) (put_key plan plans (pair_key trip.vehicle trip.wish.day) same) ∙ gives same
  | inr other ↦ ap (has_trip trip.id) (put_elsewhere plan plans (pair_key trip.vehicle trip.wish.day) other) ∙ some
]

-- a trip that is in the plan that is put is planned
pub put_planned : (trip : Trip) (plan : Plan) (plans : List Plan) → pair_key trip.vehicle trip.wish.day ≡ plan_key plan → has_trip trip.id plan.stops ≡ true
    → has_trip trip.id (planned_stops trip.vehicle trip.wish.day (put plan_key plan plans)) ≡ true
put_planned trip plan plans same some = ap (has_trip trip.id) (put_key plan plans (pair_key trip.vehicle trip.wish.day) same) ∙ some

-- a trip with the key of a plan has the plan's vehicle and day
pub same_place : (trip : Trip) (plan : Plan) → HasDay trip → IsOnDay plan → pair_key trip.vehicle trip.wish.day ≡ plan_key plan → (trip.vehicle ≡ plan.vehicle) × (trip.wish.day ≡ plan.day)
same_place trip plan day on same = (
  same_vehicle trip.vehicle trip.wish.day plan.vehicle plan.day day.1 on.1 same,
  same_day trip.vehicle trip.wish.day plan.vehicle plan.day day.1 on.1 same,
)
