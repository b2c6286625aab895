-- A booking is decided alike by the plans of the vehicles that work in the wished window and by all plans of the day.
use Rattle.std.proofs.Common.{◌≡◌, ℕ, ◌<◌, ◌≤◌, ◌⊎◌, Bool, true, false, List, [], ◌∷◌, ◌++◌, length, Option, Some, None, Result, Ok, Err}
use Rattle.std.proofs.Common.{All, cond, slice_index_or, inl, inr, arith, refl, sym, subst, ap, ◌∙◌}
use Rattle.std.specs.Prelude.{◌==◌, filter}
use Rattle.std.specs.Option.{option_to_list}
use Rattle.std.proofs.lemmas.Bool.Decides.{nat_tests}
use Rattle.pt_feasible.specs.declared.stop.Stop.{Stop}
use Rattle.pt_base_values.specs.declared.trip.Trip.{Trip}
use Rattle.pt_base_values.specs.declared.trip.Wish.{Wish}
use Rattle.pt_base_values.specs.declared.vehicle.Vehicle.{Vehicle}
use Rattle.pt_desk_rules.specs.Booking.{IsBooking, IsRequestBy}
use Rattle.pt_desk_rules.specs.Facts.{wish_facts}
use Rattle.pt_desk_rules.specs.Fleet.{on_duty}
use Rattle.pt_desk_rules.specs.Planned.{planned_on, trips_on}
use Rattle.pt_desk_rules.specs.State.{State, plan_of}
use Rattle.pt_desk_rules.specs.declared.change.Change.{Change}
use Rattle.pt_desk_rules.specs.declared.deciding.Decision.{Decision}
use Rattle.pt_base_records.specs.Keys.{pair_key}
use Rattle.pt_base_records.specs.Records.{put, put_all, record_at, Each, Edit}
use Rattle.pt_base_records.proofs.OrderLemmas.{record_at-put_other, record_at-put_same}
use Rattle.pt_base_records.proofs.SplitLemmas.{Each-at}
use Rattle.pt_base_records.proofs.TableLemmas.{same_or_other}
use Rattle.pt_desk_scheduling.specs.Plan.{Plan, plan_key, planned_stops, stops_among, stops_of_plan, without}
use Rattle.pt_desk_scheduling.specs.declared.planned.PlannedStop.{PlannedStop}
use Rattle.pt_desk_scheduling.specs.Routes.{stops_without}
use Rattle.pt_desk_scheduling.proofs.PlanLemmas.{found_key}
use Rattle.pt_desk_store.specs.Store.{Store, Goes, Reads}
use Rattle.pt_desk_store.specs.Wished.{asked_facts, booked_facts, plan_on, plans_found, plans_if, plans_of, vehicles_for}
use Rattle.pt_desk_store.specs.Wished.{works_in_window}
use Rattle.pt_desk_store.specs.declared.keeper.StoreFault.{StoreFault}
use Rattle.pt_desk_store.proofs.HoursLemmas.{scheduled_to, IsAlike}
use Rattle.pt_desk_store.proofs.ManifestLemmas.{none_kept, some_kept}
use Rattle.pt_desk_store.proofs.ReadLemmas.{reads_map}
use Rattle.pt_desk_store.proofs.StoreLemmas.{reads_then}

-- a key of two numbers of 32 bits determines the second
same_day : (v d w e : ℕ) → d ≤ 47_481 → e ≤ 47_481 → pair_key v d ≡ pair_key w e → d ≡ e
same_day v d w e low high same = omega arith

is_same : (n k : ℕ) → n ≡ k → (n == k) ≡ true
is_same n k same = grind (arith, nat_tests)

-- each plan that is found in the one list is found in the other
abbrev Among : List Plan → List Plan → Type 0
Among all xs = (k : ℕ) → (record_at plan_key k xs ≡ None) ⊎ (record_at plan_key k xs ≡ record_at plan_key k all)

put_here : (all xs : List Plan) (new : Plan) (k : ℕ) → record_at plan_key (plan_key new) all ≡ Some new → plan_key new ≡ k
    → record_at plan_key k (put plan_key new xs) ≡ record_at plan_key k all
put_here all xs new k own here =
    subst (λ (n : ℕ). record_at plan_key n (put plan_key new xs) ≡ record_at plan_key n all) here (record_at-put_same plan_key new xs ∙ sym own)

put_same : (all xs : List Plan) (new : Plan) (k : ℕ) → record_at plan_key (plan_key new) all ≡ Some new
    → record_at plan_key k xs ≡ record_at plan_key k all → record_at plan_key k (put plan_key new xs) ≡ record_at plan_key k all
put_same all xs new k own same = elim (same_or_other (plan_key new) k) [
  | inl here ↦ put_here all xs new k own here
  | inr other ↦ record_at-put_other plan_key k new xs other ∙ same
]

put_among : (all xs : List Plan) (new : Plan) → record_at plan_key (plan_key new) all ≡ Some new → Among all xs → Among all (put plan_key new xs)
put_among all xs new own among = λ k. elim (same_or_other (plan_key new) k) [
  | inl here ↦ inr (put_here all xs new k own here)
  | inr other ↦ elim (among k) [
    | inl none ↦ inl (record_at-put_other plan_key k new xs other ∙ none)
    | inr same ↦ inr (record_at-put_other plan_key k new xs other ∙ same)
  ]
]

-- the later list has plans of all; it finds what the earlier one found, and the plan of each of the vehicles
record Finds (day : ℕ) (all earlier later : List Plan) (vehicles : List Vehicle) : Type 0 where
  among : Among all later
  keeps : (k : ℕ) → record_at plan_key k earlier ≡ record_at plan_key k all → record_at plan_key k later ≡ record_at plan_key k all
  each : Each (λ v. record_at plan_key (pair_key v.id day) later ≡ record_at plan_key (pair_key v.id day) all) vehicles

finds : (day : ℕ) (plans : List Plan) (vehicles : List Vehicle) (xs : List Plan) → Among (planned_on day plans) xs
    → Finds day (planned_on day plans) xs (put_all plan_key (plans_found day plans vehicles) xs) vehicles
finds day plans [] xs among = record { among = among; keeps = λ k same. same; each = tt }
finds day plans (v ∷ vehicles) xs among =
    let all = planned_on day plans in
    let key = pair_key v.id day in
    elim (plan_on day plans v.id) as
    (λ found. plan_on day plans v.id ≡ found → Finds day all xs (put_all plan_key (option_to_list found ++ plans_found day plans vehicles) xs) (v ∷ vehicles)) [
      | None ↦ λ is.
          let rest = finds day plans vehicles xs among in
          record {
            among = rest.among;
            keeps = rest.keeps;
            each = (elim (rest.among key) [ inl none ↦ none ∙ sym is | inr same ↦ same ], rest.each);
          }
      | Some plan ↦ λ is.
          let own : plan_key plan ≡ key = found_key plan_key key plan all is in
          let there : record_at plan_key (plan_key plan) all ≡ Some plan = subst (λ (n : ℕ). record_at plan_key n all ≡ Some plan) (sym own) is in
          let rest = finds day plans vehicles (put plan_key plan xs) (put_among all xs plan there among) in
          record {
            among = rest.among;
            keeps = λ k same. rest.keeps k (put_same all xs plan k there same);
            each = (rest.keeps key (put_here all xs plan key there own), rest.each);
          }
    ] refl

nothing_among : (all : List Plan) → Among all []
nothing_among all k = inl refl

kept_out : {A : Type 0} (P : A → Type 0) (test : A → Bool) (x : A) (xs : List A) (passes : Bool) → test x ≡ passes → Each P (cond passes (x ∷ xs) xs) → (test x ≡ true → P x) × Each P xs
kept_out P test x xs true is each = ((λ _. each.0), each.1)
kept_out P test x xs false is each = ((λ yes. absurd (let no : true ≡ false = sym yes ∙ is in cc)), each)

-- what holds of each that passes a test
each_that : {A : Type 0} (P : A → Type 0) (test : A → Bool) (xs : List A) → Each P (filter test xs) → Each (λ x. test x ≡ true → P x) xs
each_that P test [] each = tt
each_that P test (x ∷ xs) each =
    let parts = kept_out P test x (filter test xs) (test x) refl each in
    (parts.0, each_that P test xs parts.1)

-- the stops of a vehicle on duty are the same by all plans of the day, or it does not work in the window and has none
all_alike : (number : ℕ) (wish : Wish) (s : State)
    → All (IsAlike wish (λ v. stops_without number wish.day (trips_on wish.day s.trips) (plans_of wish.day (vehicles_for wish s.vehicles) s.planned) v.id)
    (λ v. stops_without number wish.day (trips_on wish.day s.trips) (planned_on wish.day s.planned) v.id)) (on_duty wish.day s.vehicles)
all_alike number wish s = λ k d within.
    let day = wish.day in
    let all = planned_on day s.planned in
    let some = plans_of day (vehicles_for wish s.vehicles) s.planned in
    let vehicles = on_duty day s.vehicles in
    let found = finds day s.planned (vehicles_for wish s.vehicles) [] (nothing_among all) in
    let v = slice_index_or vehicles k d in
    let key = pair_key v.id day in
    let stops : Option Plan → List Stop = λ o. stops_among (trips_on day s.trips) (without number (stops_of_plan o)) in
    let same_if = Each-at (λ v. works_in_window wish v ≡ true → record_at plan_key (pair_key v.id day) some ≡ record_at plan_key (pair_key v.id day) all) vehicles
    (each_that (λ v. record_at plan_key (pair_key v.id day) some ≡ record_at plan_key (pair_key v.id day) all) (works_in_window wish) vehicles found.each) k d within in
    elim (works_in_window wish v) as (λ works. works_in_window wish v ≡ works
    → IsAlike wish (λ v. stops_without number day (trips_on day s.trips) some v.id) (λ v. stops_without number day (trips_on day s.trips) all v.id) v) [
      | true ↦ λ is. inl (ap stops (same_if is))
      | false ↦ λ is. elim (found.among key) [
        | inl none ↦ inr (ap stops none, is)
        | inr same ↦ inl (ap stops same)
      ]
    ] refl

-- without trips no stop counts
none_among : (stops : List PlannedStop) → stops_among [] stops ≡ []
none_among [] = refl
none_among (stop ∷ stops) = none_among stops

-- so the stops are the same without the plans of a day that has no trips
same_stops : (number day : ℕ) (trips : List Trip) (plans : List Plan) (vehicle : ℕ)
    → stops_without number day trips (plans_if trips plans) vehicle ≡ stops_without number day trips plans vehicle
same_stops number day [] plans vehicle = sym (none_among (without number (planned_stops vehicle day plans)))
same_stops number day (trip ∷ trips) plans vehicle = refl

-- alike by the plans of such a day too
all_alike_if : (number : ℕ) (wish : Wish) (s : State)
    → All (IsAlike wish (λ v. stops_without number wish.day (trips_on wish.day s.trips) (plans_if (trips_on wish.day s.trips) (plans_of wish.day (vehicles_for wish s.vehicles) s.planned)) v.id)
    (λ v. stops_without number wish.day (trips_on wish.day s.trips) (planned_on wish.day s.planned) v.id)) (on_duty wish.day s.vehicles)
all_alike_if number wish s = λ k d within.
    let v = slice_index_or (on_duty wish.day s.vehicles) k d in
    let same = same_stops number wish.day (trips_on wish.day s.trips) (plans_of wish.day (vehicles_for wish s.vehicles) s.planned) v.id in
    elim (all_alike number wish s k d within) [
      | inl alike ↦ inl (same ∙ alike)
      | inr off ↦ inr (same ∙ off.0, off.1)
    ]

pub booking_to : (change : Trip → Plan → Change) (number : ℕ) (left_out : Option ℕ) (today rider : ℕ) (wish : Wish) (old : Option Trip) (s : State) (made : Decision)
    → IsBooking change number left_out today wish (booked_facts (asked_facts rider old s) wish s) made → IsBooking change number left_out today wish (wish_facts rider wish old s) made
booking_to change number left_out today rider wish old s made (scheduled, (request, asks, (minutes, times, is)), told) =
    let day = wish.day in
    let some = λ (v : Vehicle). stops_without number day (trips_on day s.trips) (plans_if (trips_on day s.trips) (plans_of day (vehicles_for wish s.vehicles) s.planned)) v.id in
    let whole = λ (v : Vehicle). stops_without number day (trips_on day s.trips) (planned_on day s.planned) v.id in
    let alike = subst (λ (w : Wish). All (IsAlike w some whole) (on_duty day s.vehicles)) (sym asks.wished) (all_alike_if number wish s) in
    let same : IsRequestBy (wish_facts rider wish old s) number left_out today wish request = record {
      trip = asks.trip;
      rider = asks.rider;
      file = asks.file;
      uses = asks.uses;
      policy = asks.policy;
      routes = asks.routes;
      from = asks.from;
      to = asks.to;
      day = asks.day;
      wished = asks.wished;
    } in
    (scheduled, (request, same, (minutes, times, scheduled_to minutes request some whole (on_duty day s.vehicles) alike scheduled is)), told)

-- a read that depends on one before it
pub reads_onto : {X Y : Type 0} (a b c : Store) (f : State → X) (g : X → State → Y) (x : X) (r : Result Y StoreFault) → Reads a b f (Ok x) → Reads b c (g x) r
    → Reads a c (λ s. g (f s) s) r
reads_onto a b c f g x r first next =
    reads_then a b c x (f a.content) (g x b.content) (g (f a.content) a.content) None None r first next
    (λ _ is same. (ap (λ p. g p b.content) is ∙ ap (λ (s : State). g (f a.content) s) same, refl))

-- the plan that a vehicle has on a day is the one among those of the day
pub plan_there : (vehicle day : ℕ) (plans : List Plan) (plan : Plan) → record_at plan_key (pair_key vehicle day) plans ≡ Some plan → (plan.day == day) ≡ true
    → plan_on day plans vehicle ≡ Some plan
plan_there vehicle day plans plan found on = some_kept plan_key (pair_key vehicle day) plan (λ plan. plan.day == day) plans on found

pub plan_nowhere : (vehicle day : ℕ) (plans : List Plan) → record_at plan_key (pair_key vehicle day) plans ≡ None → plan_on day plans vehicle ≡ None
plan_nowhere vehicle day plans none = none_kept plan_key (pair_key vehicle day) (λ plan. plan.day == day) plans none

-- a plan that is found for a vehicle and a day is of the day
pub plan_of_day : (vehicle day : ℕ) (plans : List Plan) (plan : Plan) → plan.day ≤ 47_481 → day ≤ 47_481 → record_at plan_key (pair_key vehicle day) plans ≡ Some plan → (plan.day == day) ≡ true
plan_of_day vehicle day plans plan low high found =
    is_same plan.day day (same_day plan.vehicle plan.day vehicle day low high (found_key plan_key (pair_key vehicle day) plan plans found))

-- what is made of a read
pub reads_made : {X Y : Type 0} (a b : Store) (v x : X) (w y : Y) → Goes a b v None (Ok x) → (x ≡ v → y ≡ w) → Goes a b w None (Ok y)
reads_made a b v x w y read gives =
    let made = reads_map a b v x (λ _. y) read in
    record {
      clean = made.clean;
      serves = made.serves;
      grows = made.grows;
      told = made.told;
      stays = made.stays;
      settled = made.settled;
      holds = λ clean.
          let it = made.holds clean in
          record { tells = (gives (read.holds clean).tells.0, it.tells.1); crash = it.crash; durable = tt; memory = it.memory; fits = it.fits };
    }

-- the plan that a vehicle has on a day, as it was read
pub plan_read : (a b : Store) (vehicle day : ℕ) (o : Option Plan) (plan : Plan) → Reads a b (plan_of vehicle day) (Ok o) → o ≡ Some plan → (plan.day == day) ≡ true
    → Reads a b (λ s. plan_on day s.planned vehicle) (Ok (Some plan))
plan_read a b vehicle day o plan read is on =
    reads_made a b (plan_of vehicle day a.content) o (plan_on day a.content.planned vehicle) (Some plan) read
    (λ same. sym (plan_there vehicle day a.content.planned plan (sym same ∙ is) on))

pub none_read : (a b : Store) (vehicle day : ℕ) (o : Option Plan) → Reads a b (plan_of vehicle day) (Ok o) → o ≡ None → Reads a b (λ s. plan_on day s.planned vehicle) (Ok None)
none_read a b vehicle day o read is =
    reads_made a b (plan_of vehicle day a.content) o (plan_on day a.content.planned vehicle) None read
    (λ same. sym (plan_nowhere vehicle day a.content.planned (sym same ∙ is)))

-- no plan of another day is read
pub other_read : (a b : Store) (vehicle day : ℕ) (o : Option Plan) (plan : Plan) → Reads a b (plan_of vehicle day) (Ok o) → o ≡ Some plan → plan.day ≤ 47_481 → day ≤ 47_481
    → (plan.day == day) ≡ false → Reads a b (λ s. plan_on day s.planned vehicle) (Ok None)
other_read a b vehicle day o plan read is low high off =
    reads_made a b (plan_of vehicle day a.content) o (plan_on day a.content.planned vehicle) None read
    (λ same. absurd (let no : true ≡ false = sym (plan_of_day vehicle day a.content.planned plan low high (sym same ∙ is)) ∙ off in cc))

-- the plans that were found, and those of one vehicle more
abbrev pub found_of : ℕ → List Plan → List Vehicle → Edit Plan
found_of day plans vehicles = record { away = []; puts = plans_found day plans vehicles }
