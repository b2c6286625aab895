-- Each plan fits under the version of its vehicle and the travel table that are in force on its day.
use Rattle.std.proofs.Common.{◌≡◌, ◌⊎◌, ℕ, ◌+◌, ◌<◌, ◌≤◌, zero, suc, Bool, true, false, not, List, [], ◌∷◌, length, Option, Some, None, Any, get_or, cond, refl, sym, ap, ◌∙◌, subst, inl, inr, arith}
use Rattle.std.specs.Prelude.{◌==◌, ◌&&◌, ◌||◌, nat_le, filter, find}
use Rattle.std.specs.List.{list_any}
use Rattle.std.proofs.lemmas.Bool.Decides.{nat_tests}
use Rattle.pt_desk_rules.specs.Day.{IsDay}
use Rattle.pt_desk_rules.specs.TripStatuses.{stands}
use Rattle.pt_desk_rules.specs.Trip.{Trip}
use Rattle.pt_desk_rules.specs.Vehicle.{Vehicle}
use Rattle.pt_desk_booking.specs.Request as request_of
use Rattle.pt_desk_rules.specs.Loads.{LoadsFit}
use Rattle.pt_desk_rules.specs.Stop.{Stop}
use Rattle.pt_base_records.specs.Keys.{pair_key}
use Rattle.pt_base_records.specs.Records.{is_within, put, record_at, take_away, Each, IsInOrder}
use Rattle.pt_base_records.proofs.OrderLemmas.{record_at-put_other, record_at-put_same, Each-both, Each-weaker}
use Rattle.pt_base_records.proofs.SplitLemmas.{Each-at}
use Rattle.pt_base_records.proofs.TableLemmas.{same_or_other, Each-filter}
use Rattle.pt_desk_scheduling.specs.Plan.{Plan, plan_key, planned_stops, stops_among, stops_of_plan, without, IsRoutePlan}
use Rattle.pt_desk_scheduling.specs.Scheduling.{IsBookedIn}
use Rattle.pt_desk_scheduling.specs.declared.planned.PlannedStop.{PlannedStop}
use Rattle.pt_desk_scheduling.proofs.FeasibleLemmas.{among_put, booked_feasible, feasible_without, IsInBoth}
use Rattle.pt_desk_scheduling.proofs.PlanLemmas.{found_key}
use Rattle.pt_desk_scheduling.proofs.RouteLemmas.{booked_plan, has_trip, Each-found}
use Rattle.pt_desk_rules.specs.Booking.{routes_on, rows_of, AreTimes}
use Rattle.pt_desk_rules.specs.Fleet.{has_weekday, in_force, is_in_force, is_newer, on_duty, ClosesInDay}
use Rattle.pt_desk_rules.specs.Planned.{is_booked_from, is_standing_from, planned_on, trips_on}
use Rattle.pt_desk_rules.specs.Sound.{CanDrive, DrivesIn, HasDay, HasFirstDay, HasStandingTrips, HasStops, HasTimes, HoldsInForce, IsOnDay, IsSound, LoadsFitIn, StandsIn}
use Rattle.pt_desk_rules.specs.State.{tables_before, tables_from, travel_key, trip_key, vehicle_key, State}
use Rattle.pt_desk_rules.specs.Tours.{IsOnDutyIn, PlansAreOnDuty}
use Rattle.pt_desk_rules.specs.Travel as dated
use Rattle.pt_desk_rules.specs.Travel.{holds_on, table_on, TravelTable}
use Rattle.pt_desk_rules.specs.Trips.{plan_of_stops, plan_span}
use Rattle.pt_desk_laws.proofs.DutyLemmas.{duty_of_force, filter_both, force_order, id_of}
use Rattle.pt_desk_rules.proofs.FleetLemmas.{filter-kept, filter-put_other, fleet_with, kept_versions}
use Rattle.pt_desk_laws.proofs.PlannedLemmas.{filter-gives, own_key, place_of_old, standing_at, stands_below}
use Rattle.pt_desk_laws.proofs.StandingLemmas.{same_place, trip_on}
use Rattle.pt_desk_rules.proofs.RangeLemmas.{first_days, hours, trip_days, planned_days}

-- Lists in which the same elements pass.

abbrev first_of : {A : Type 0} → List A → Option A
first_of [] = None
first_of (x ∷ xs) = Some x

abbrev has_some : {A : Type 0} → List A → Bool
has_some [] = false
has_some (x ∷ xs) = true

find-first : {A : Type 0} (test : A → Bool) (xs : List A) → find test xs ≡ first_of (filter test xs)
find-first test [] = refl
find-first test (x ∷ xs) = step x (find test xs) (filter test xs) (test x) (find-first test xs)
  where
    step : {A : Type 0} (x : A) (rest : Option A) (ys : List A) (b : Bool) → rest ≡ first_of ys
        → cond b (Some x) rest ≡ first_of (cond b (x ∷ ys) ys)
    step x rest ys true is = refl
    step x rest ys false is = is

any-first : {A : Type 0} (test : A → Bool) (xs : List A) → list_any test xs ≡ has_some (filter test xs)
any-first test [] = refl
any-first test (x ∷ xs) = step x (list_any test xs) (filter test xs) (test x) (any-first test xs)
  where
    step : {A : Type 0} (x : A) (rest : Bool) (ys : List A) (b : Bool) → rest ≡ has_some ys
        → (b || rest) ≡ has_some (cond b (x ∷ ys) ys)
    step x rest ys true is = refl
    step x rest ys false is = is

same_find : {A : Type 0} (test : A → Bool) (xs ys : List A) → filter test xs ≡ filter test ys
    → find test xs ≡ find test ys
same_find test xs ys same = find-first test xs ∙ ap first_of same ∙ sym (find-first test ys)

same_any : {A : Type 0} (test : A → Bool) (xs ys : List A) → filter test xs ≡ filter test ys
    → list_any test xs ≡ list_any test ys
same_any test xs ys same = any-first test xs ∙ ap has_some same ∙ sym (any-first test ys)

find_alike : {A : Type 0} (p q : A → Bool) → ((x : A) → p x ≡ q x) → (xs : List A) → find p xs ≡ find q xs
find_alike p q same [] = refl
find_alike p q same (x ∷ xs) =
    ap (λ b. cond b (Some x) (find p xs)) (same x) ∙ ap (λ f. cond (q x) (Some x) f) (find_alike p q same xs)

filter_alike : {A : Type 0} (p q : A → Bool) → ((x : A) → p x ≡ q x) → (xs : List A) → filter p xs ≡ filter q xs
filter_alike p q same [] = refl
filter_alike p q same (x ∷ xs) =
    ap (λ b. cond b (x ∷ filter p xs) (filter p xs)) (same x)
    ∙ ap (λ ys. cond (q x) (x ∷ ys) ys) (filter_alike p q same xs)

-- the property holds for one of a list
abbrev pub Some_of : {A : Type 0} → (A → Type 0) → List A → Type 0
Some_of P [] = ⊥
Some_of P (x ∷ xs) = P x ⊎ Some_of P xs

pub some_at : {A : Type 0} (P : A → Type 0) (xs : List A) (k : ℕ) (a : A) → k < length xs → get_or xs k a ≡ a → P a
    → Some_of P xs
some_at P [] k a within at holds = absurd (omega arith)
some_at P (x ∷ xs) zero a within at holds = inl (subst P (sym at) holds)
some_at P (x ∷ xs) (suc k) a within at holds = inr (some_at P xs k a (omega arith) at holds)

some_any : {A : Type 0} (P : A → Type 0) (xs : List A) → Some_of P xs → Any P xs
some_any P [] some = absurd some
some_any P (x ∷ xs) (inl holds) = (0, x, omega arith, refl, holds)
some_any P (x ∷ xs) (inr rest) =
    let (k, a, within, at, holds) = some_any P xs rest in (suc k, a, omega arith, at, holds)

some_passes : {A : Type 0} (P : A → Type 0) (test : A → Bool) → ((x : A) → P x → test x ≡ true) → (xs : List A)
    → Some_of P xs → Some_of P (filter test xs)
some_passes P test gives [] some = some
some_passes P test gives (x ∷ xs) (inl holds) =
    subst (λ b. Some_of P (cond b (x ∷ filter test xs) (filter test xs))) (sym (gives x holds)) (inl holds)
some_passes P test gives (x ∷ xs) (inr rest) = later P x (filter test xs) (test x) (some_passes P test gives xs rest)
  where
    later : {A : Type 0} (P : A → Type 0) (x : A) (ys : List A) (b : Bool) → Some_of P ys
        → Some_of P (cond b (x ∷ ys) ys)
    later P x ys true some = inr some
    later P x ys false some = some

some_passed : {A : Type 0} (P : A → Type 0) (test : A → Bool) (xs : List A) → Some_of P (filter test xs)
    → Some_of P xs
some_passed P test [] some = some
some_passed P test (x ∷ xs) some = passed P x (filter test xs) xs (test x) (some_passed P test xs) some
  where
    passed : {A : Type 0} (P : A → Type 0) (x : A) (ys xs : List A) (b : Bool) → (Some_of P ys → Some_of P xs)
        → Some_of P (cond b (x ∷ ys) ys) → Some_of P (x ∷ xs)
    passed P x ys xs true rest (inl holds) = inl holds
    passed P x ys xs true rest (inr some) = inr (rest some)
    passed P x ys xs false rest some = inr (rest some)

-- one that passes a test has the property, and passes
some_kept : {A : Type 0} (P : A → Type 0) (test : A → Bool) (xs : List A) → Some_of P (filter test xs)
    → Some_of (λ x. P x × (test x ≡ true)) xs
some_kept P test [] some = some
some_kept P test (x ∷ xs) some = kept P test x (filter test xs) xs (test x) refl (some_kept P test xs) some
  where
    kept : {A : Type 0} (P : A → Type 0) (test : A → Bool) (x : A) (ys xs : List A) (b : Bool) → test x ≡ b
        → (Some_of P ys → Some_of (λ y. P y × (test y ≡ true)) xs)
        → Some_of P (cond b (x ∷ ys) ys) → Some_of (λ y. P y × (test y ≡ true)) (x ∷ xs)
    kept P test x ys xs true is rest (inl holds) = inl (holds, is)
    kept P test x ys xs true is rest (inr some) = inr (rest some)
    kept P test x ys xs false is rest some = inr (rest some)

-- if the same elements pass a test, a property of one that passes holds for one in each list
any_moves : {A : Type 0} (P : A → Type 0) (test : A → Bool) → ((x : A) → P x → test x ≡ true) → (xs ys : List A)
    → filter test xs ≡ filter test ys → Any P xs → Any P ys
any_moves P test gives xs ys same (k, a, within, at, holds) =
    some_any P ys
    (some_passed P test ys (subst (λ zs. Some_of P zs) same
    (some_passes P test gives xs (some_at P xs k a within at holds))))

any_gives : {A : Type 0} (P Q : A → Type 0) → ((x : A) → P x → Q x) → (xs : List A) → Any P xs → Any Q xs
any_gives P Q gives xs (k, a, within, at, holds) = (k, a, within, at, gives a holds)

-- A version on duty is one in force that runs on the weekday.

-- the same of the one on duty: it is in force, and runs on the weekday
duty_in_force : (P : Vehicle → Type 0) (day : ℕ) (vehicles : List Vehicle) → Any P (on_duty day vehicles)
    → Any (λ v. P v × (has_weekday day v ≡ true)) (in_force day vehicles)
duty_in_force P day vehicles (k, a, within, at, holds) =
    some_any (λ v. P v × (has_weekday day v ≡ true)) (in_force day vehicles)
    (some_kept P (has_weekday day) (in_force day vehicles)
    (subst (λ vs. Some_of P vs) (sym (duty_of_force day vehicles))
    (some_at P (on_duty day vehicles) k a within at holds)))

force_on_duty : (P : Vehicle → Type 0) (day : ℕ) (vehicles : List Vehicle)
    → Any (λ v. P v × (has_weekday day v ≡ true)) (in_force day vehicles) → Any P (on_duty day vehicles)
force_on_duty P day vehicles (k, a, within, at, holds) =
    any_gives (λ v. P v × (has_weekday day v ≡ true)) P (λ v is. is.0) (on_duty day vehicles)
    (some_any (λ v. P v × (has_weekday day v ≡ true)) (on_duty day vehicles)
    (subst (λ vs. Some_of (λ v. P v × (has_weekday day v ≡ true)) vs) (duty_of_force day vehicles)
    (some_passes (λ v. P v × (has_weekday day v ≡ true)) (has_weekday day) (λ v is. is.1) (in_force day vehicles)
    (some_at (λ v. P v × (has_weekday day v ≡ true)) (in_force day vehicles) k a within at holds))))

-- The one version of a vehicle that is in force drives its stops, and has room.

-- the version of this vehicle that is in force on this day can drive the stops by the travel table that holds then
abbrev pub CanServe : List Vehicle → List TravelTable → ℕ → ℕ → List Stop → Type 0
CanServe vehicles travel id day stops = HoldsInForce (CanDrive (rows_of (table_on day travel)) stops) vehicles id day

-- the version that is on duty can
abbrev pub ServesOnDuty : List Vehicle → List TravelTable → ℕ → ℕ → List Stop → Type 0
ServesOnDuty vehicles travel id day stops =
    Any (λ (v : Vehicle). (v.id ≡ id) × CanDrive (rows_of (table_on day travel)) stops v) (on_duty day vehicles)

-- the vehicle of a plan can drive the stops of its trips on its day
abbrev pub FitsIn : List Vehicle → List TravelTable → List Trip → Plan → Type 0
FitsIn vehicles travel trips plan =
    CanServe vehicles travel plan.vehicle plan.day (stops_among trips plan.stops)

none_above : (P : Vehicle → Type 0) (id : ℕ) (x : Vehicle) (ys : List Vehicle) → x.id ≡ id
    → Each (λ (y : Vehicle). x.id < y.id) ys → Some_of (λ v. (v.id ≡ id) × P v) ys → ⊥
none_above P id x [] own above some = some
none_above P id x (y ∷ ys) own above (inl (is, holds)) = absurd (omega (arith, above.0, is, own))
none_above P id x (y ∷ ys) own above (inr rest) = none_above P id x ys own above.1 rest

-- if vehicle numbers rise, two properties of the vehicle with this number hold for the same vehicle
one_both : (P Q : Vehicle → Type 0) (id : ℕ) (xs : List Vehicle) → IsInOrder id_of xs
    → Some_of (λ v. (v.id ≡ id) × P v) xs → Some_of (λ v. (v.id ≡ id) × Q v) xs
    → Some_of (λ v. (v.id ≡ id) × (P v × Q v)) xs
one_both P Q id [] order some also = some
one_both P Q id (x ∷ xs) order (inl (own, holds)) (inl (is, too)) = inl (own, (holds, too))
one_both P Q id (x ∷ xs) order (inl (own, holds)) (inr rest) = absurd (none_above Q id x xs own order.0 rest)
one_both P Q id (x ∷ xs) order (inr rest) (inl (own, too)) = absurd (none_above P id x xs own order.0 rest)
one_both P Q id (x ∷ xs) order (inr some) (inr also) = inr (one_both P Q id xs order.1 some also)

-- so a plan whose vehicle drives its stops, and has room, fits
both_fit : (vehicles : List Vehicle) (travel : List TravelTable) (trips : List Trip) (plan : Plan)
    → Each HasFirstDay vehicles → IsInOrder vehicle_key vehicles → DrivesIn vehicles travel trips plan
    → LoadsFitIn vehicles trips plan → FitsIn vehicles travel trips plan
both_fit vehicles travel trips plan days order (k, first, within, at, drives) (l, second, below, is, loads) =
    let rows = rows_of (table_on plan.day travel) in
    let stops = stops_among trips plan.stops in
    let force = in_force plan.day vehicles in
    any_gives
    (λ (v : Vehicle). (v.id ≡ plan.vehicle) × (HasTimes rows stops v × LoadsFit v stops))
    (λ (v : Vehicle). (v.id ≡ plan.vehicle) × CanDrive rows stops v)
    (λ v (own, ((minutes, times, b, fits), room)).
    (own, (minutes, times, record { loads = room; times = (b, fits) }))) force
    (some_any (λ (v : Vehicle). (v.id ≡ plan.vehicle) × (HasTimes rows stops v × LoadsFit v stops)) force
    (one_both (HasTimes rows stops) (λ (v : Vehicle). LoadsFit v stops) plan.vehicle force
    (force_order plan.day vehicles days order)
    (some_at (λ (v : Vehicle). (v.id ≡ plan.vehicle) × HasTimes rows stops v) force k first within at drives)
    (some_at (λ (v : Vehicle). (v.id ≡ plan.vehicle) × LoadsFit v stops) force l second below is loads)))

-- each plan of a sound state fits
pub planned_fit : (s : State) → IsSound s → Each (FitsIn s.vehicles s.travel s.trips) s.planned
planned_fit s sound =
    Each-both (DrivesIn s.vehicles s.travel s.trips) (LoadsFitIn s.vehicles s.trips) (FitsIn s.vehicles s.travel s.trips)
    (λ plan drives loads. both_fit s.vehicles s.travel s.trips plan (first_days s sound) sound.vehicles_in_order drives loads)
    s.planned sound.planned_drive sound.planned_load

-- the vehicle of a plan that fits drives its stops
pub each_drive : (vehicles : List Vehicle) (travel : List TravelTable) (trips : List Trip) (plans : List Plan)
    → Each (FitsIn vehicles travel trips) plans → Each (DrivesIn vehicles travel trips) plans
each_drive vehicles travel trips plans each =
    Each-weaker (FitsIn vehicles travel trips) (DrivesIn vehicles travel trips)
    (λ plan fits. any_gives
    (λ (v : Vehicle). (v.id ≡ plan.vehicle)
    × CanDrive (rows_of (table_on plan.day travel)) (stops_among trips plan.stops) v)
    (λ (v : Vehicle). (v.id ≡ plan.vehicle)
    × HasTimes (rows_of (table_on plan.day travel)) (stops_among trips plan.stops) v)
    (λ v (own, (minutes, times, feasible)).
    let (b, fit) = feasible.times in (own, (minutes, times, b, fit))) (in_force plan.day vehicles) fits)
    plans each

-- the vehicle of a plan that fits has room
pub each_load : (vehicles : List Vehicle) (travel : List TravelTable) (trips : List Trip) (plans : List Plan)
    → Each (FitsIn vehicles travel trips) plans → Each (LoadsFitIn vehicles trips) plans
each_load vehicles travel trips plans each =
    Each-weaker (FitsIn vehicles travel trips) (LoadsFitIn vehicles trips)
    (λ plan fits. any_gives
    (λ (v : Vehicle). (v.id ≡ plan.vehicle)
    × CanDrive (rows_of (table_on plan.day travel)) (stops_among trips plan.stops) v)
    (λ (v : Vehicle). (v.id ≡ plan.vehicle) × LoadsFit v (stops_among trips plan.stops))
    (λ v (own, (minutes, times, feasible)). (own, feasible.loads)) (in_force plan.day vehicles) fits)
    plans each

-- if the vehicle is on duty that day, the version on duty can drive the stops
pub duty_serves : (vehicles : List Vehicle) (travel : List TravelTable) (id day : ℕ) (stops : List Stop)
    → Each HasFirstDay vehicles → IsInOrder vehicle_key vehicles → CanServe vehicles travel id day stops
    → Any (λ (v : Vehicle). v.id ≡ id) (on_duty day vehicles) → ServesOnDuty vehicles travel id day stops
duty_serves vehicles travel id day stops days order (k, a, within, at, holds) duty =
    let rows = rows_of (table_on day travel) in
    let force = in_force day vehicles in
    let (l, b, below, is, runs) = duty_in_force (λ (v : Vehicle). v.id ≡ id) day vehicles duty in
    force_on_duty (λ (v : Vehicle). (v.id ≡ id) × CanDrive rows stops v) day vehicles
    (any_gives (λ (v : Vehicle). (v.id ≡ id) × (CanDrive rows stops v × (has_weekday day v ≡ true)))
    (λ (v : Vehicle). ((v.id ≡ id) × CanDrive rows stops v) × (has_weekday day v ≡ true))
    (λ v (own, (drives, on)). ((own, drives), on)) force
    (some_any (λ (v : Vehicle). (v.id ≡ id) × (CanDrive rows stops v × (has_weekday day v ≡ true))) force
    (one_both (CanDrive rows stops) (λ (v : Vehicle). has_weekday day v ≡ true) id force
    (force_order day vehicles days order)
    (some_at (λ (v : Vehicle). (v.id ≡ id) × CanDrive rows stops v) force k a within at holds)
    (some_at (λ (v : Vehicle). (v.id ≡ id) × (has_weekday day v ≡ true)) force l b below is runs))))

-- a version that is on duty and can drive the stops is in force
duty_can_serve : (vehicles : List Vehicle) (travel : List TravelTable) (id day : ℕ) (stops : List Stop)
    → ServesOnDuty vehicles travel id day stops → CanServe vehicles travel id day stops
duty_can_serve vehicles travel id day stops serves =
    let drives : Vehicle → Type 0 = λ v. (v.id ≡ id) × CanDrive (rows_of (table_on day travel)) stops v in
    any_gives (λ (v : Vehicle). drives v × (has_weekday day v ≡ true)) drives (λ v is. is.0) (in_force day vehicles)
    (duty_in_force drives day vehicles serves)

first_no : (a b : Bool) → a ≡ false → (a && b) ≡ false
first_no false b fails = refl
first_no true b fails = absurd (cc)

second_no : (a b : Bool) → b ≡ false → (a && b) ≡ false
second_no true b fails = fails
second_no false b fails = refl

not_come : (day from : ℕ) → day < from → nat_le from day ≡ false
not_come day from lt = grind (arith, nat_tests)

-- A table that is put does not change those of earlier days.

all_units : {A : Type 0} (xs : List A) → Each (λ x. Unit {0}) xs
all_units [] = tt
all_units (x ∷ xs) = (tt, all_units xs)

from_later : (from day : ℕ) → not (is_within from (tables_from day)) ≡ false → day ≤ from
from_later from day taken = grind (arith, nat_tests)

abbrev tables_with : TravelTable → List TravelTable → List TravelTable
tables_with new tables = put travel_key new (tables_before new.from_day tables)

kept_tables : (test : TravelTable → Bool) (new : TravelTable) (tables : List TravelTable)
    → ((table : TravelTable) → new.from_day ≤ table.from_day → test table ≡ false)
    → filter test (tables_with new tables) ≡ filter test tables
kept_tables test new tables out =
    filter-put_other travel_key test new (λ table. Unit {0}) (λ table u same. out table (omega arith))
    (out new (omega arith)) (tables_before new.from_day tables) (all_units (tables_before new.from_day tables))
    ∙ filter-kept test (λ table. not (is_within (travel_key table) (tables_from new.from_day))) (λ table. Unit {0})
    (λ table u taken. out table (from_later table.from_day new.from_day taken)) tables (all_units tables)

pub table_stays : (new : TravelTable) (day : ℕ) (tables : List TravelTable) → day < new.from_day
    → table_on day (tables_with new tables) ≡ table_on day tables
table_stays new day tables lt =
    find_alike (holds_on day (tables_with new tables)) (holds_on day tables)
    (λ table. ap (λ b. nat_le table.from_day day && not b)
    (same_any (dated.is_newer day table) (tables_with new tables) tables
    (kept_tables (dated.is_newer day table) new tables
    (λ other from. second_no _ _ (not_come day other.from_day (omega arith)))))) (tables_with new tables)
    ∙ same_find (holds_on day tables) (tables_with new tables) tables
    (kept_tables (holds_on day tables) new tables (λ table from. first_no _ _
    (not_come day table.from_day (omega arith))))

-- A version that is put leaves other vehicles, and earlier days, unchanged.

pub is_no : (n k : ℕ) → (n ≡ k → ⊥) → (n == k) ≡ false
is_no n k other = grind (arith, nat_tests)

is_same : (n k : ℕ) → n ≡ k → (n == k) ≡ true
is_same n k same = grind (arith, nat_tests)

are_same : (n k : ℕ) → (n == k) ≡ true → n ≡ k
are_same n k same = grind (arith, nat_tests)

-- no version that is replaced comes before the day, where the vehicle is the new version's
not_newer : (day id : ℕ) (new version : Vehicle) → (id ≡ new.id → day < new.from_day) → version.id ≡ id
    → (other : Vehicle) → other.id ≡ new.id → new.from_day ≤ other.from_day
    → is_newer day version other ≡ false
not_newer day id new version earlier own other of_new from = elim (same_or_other id new.id) [
  | inl same ↦ let lt = earlier same in second_no _ _ (not_come day other.from_day (omega arith))
  | inr differ ↦ first_no _ _
      (first_no _ _ (is_no other.id version.id (λ same. differ (sym own ∙ sym same ∙ of_new))))
]

abbrev serves : ℕ → List Vehicle → ℕ → Vehicle → Bool
serves day all id version = is_in_force day all version && (version.id == id)

not_serving : (day id : ℕ) (new : Vehicle) (all : List Vehicle) → (id ≡ new.id → day < new.from_day)
    → (other : Vehicle) → other.id ≡ new.id → new.from_day ≤ other.from_day
    → serves day all id other ≡ false
not_serving day id new all earlier other of_new from = elim (same_or_other other.id id) [
  | inl same ↦ let lt = earlier (sym same ∙ of_new) in first_no _ _
      (first_no _ _ (not_come day other.from_day (omega arith)))
  | inr differ ↦ second_no _ _ (is_no other.id id differ)
]

serves_alike : (day id : ℕ) (new : Vehicle) (vehicles : List Vehicle) → HasFirstDay new → Each HasFirstDay vehicles
    → (id ≡ new.id → day < new.from_day) → (version : Vehicle)
    → serves day (fleet_with new vehicles) id version ≡ serves day vehicles id version
serves_alike day id new vehicles first days earlier version = by (version.id == id) refl
  where
    by : (b : Bool) → (version.id == id) ≡ b → serves day (fleet_with new vehicles) id version ≡ serves day vehicles
        id version
    by true own = ap (λ b. (nat_le version.from_day day && not b) && (version.id == id))
        (same_any (is_newer day version) (fleet_with new vehicles) vehicles
        (kept_versions (is_newer day version) new vehicles first days
        (not_newer day id new version earlier (are_same version.id id own))))
    by false other = second_no _ _ other ∙ sym (second_no _ _ other)

force_stays : (day id : ℕ) (new : Vehicle) (vehicles : List Vehicle) → HasFirstDay new → Each HasFirstDay vehicles
    → (id ≡ new.id → day < new.from_day)
    → filter (λ version. version.id == id) (in_force day vehicles) ≡ filter (λ version. version.id == id)
    (in_force day (fleet_with new vehicles))
force_stays day id new vehicles first days earlier =
    filter_both (λ version. version.id == id) (is_in_force day vehicles) vehicles
    ∙ sym (kept_versions (serves day vehicles id) new vehicles first days (not_serving day id new vehicles earlier))
    ∙ sym (filter_alike (serves day (fleet_with new vehicles) id) (serves day vehicles id)
    (serves_alike day id new vehicles first days earlier) (fleet_with new vehicles))
    ∙ sym (filter_both (λ version. version.id == id) (is_in_force day (fleet_with new vehicles))
    (fleet_with new vehicles))

-- so what holds of the version in force still does
holds_still : (P : Vehicle → Type 0) (day id : ℕ) (new : Vehicle) (vehicles : List Vehicle) → HasFirstDay new
    → Each HasFirstDay vehicles → (id ≡ new.id → day < new.from_day) → HoldsInForce P vehicles id day
    → HoldsInForce P (fleet_with new vehicles) id day
holds_still P day id new vehicles first days earlier holds =
    any_moves (λ (version : Vehicle). (version.id ≡ id) × P version) (λ version. version.id == id)
    (λ version is. is_same version.id id is.0) (in_force day vehicles) (in_force day (fleet_with new vehicles))
    (force_stays day id new vehicles first days earlier) holds

-- and a vehicle that is on duty still is
duty_still : (day id : ℕ) (new : Vehicle) (vehicles : List Vehicle) → HasFirstDay new → Each HasFirstDay vehicles
    → (id ≡ new.id → day < new.from_day) → Any (λ (v : Vehicle). v.id ≡ id) (on_duty day vehicles)
    → Any (λ (v : Vehicle). v.id ≡ id) (on_duty day (fleet_with new vehicles))
duty_still day id new vehicles first days earlier duty =
    force_on_duty (λ (v : Vehicle). v.id ≡ id) day (fleet_with new vehicles)
    (holds_still (λ v. has_weekday day v ≡ true) day id new vehicles first days earlier
    (duty_in_force (λ (v : Vehicle). v.id ≡ id) day vehicles duty))

-- A vehicle with a plan is booked on its day.

each_fails : {A : Type 0} (test : A → Bool) (xs : List A) → list_any test xs ≡ false → Each (λ x. test x ≡ false) xs
each_fails test [] none = tt
each_fails test (x ∷ xs) none =
    let parts = neither (test x) (list_any test xs) none in (parts.0, each_fails test xs parts.1)
  where
    neither : (a b : Bool) → (a || b) ≡ false → (a ≡ false) × (b ≡ false)
    neither true b none = absurd (cc)
    neither false b none = (refl, none)

not_of : (vehicle day other from : ℕ) (standing : Bool) → standing ≡ true
    → ((standing && nat_le from day) && (vehicle == other)) ≡ false → vehicle ≡ other → day < from
not_of vehicle day other from standing is none same = grind (arith, nat_tests)

not_any : (day from : ℕ) (standing : Bool) → standing ≡ true → ((standing && nat_le from day) && true) ≡ false
    → day < from
not_any day from standing is none = grind (arith, nat_tests)

-- the trip of the first stop of a plan
first_trip : (s : State) (plan : Plan) (stops : List PlannedStop) → IsSound s → IsOnDay plan → 0 < length stops
    → Each (λ stop. StandsIn s.trips (plan_key plan) stop.trip) stops
    → (trip : Trip) × (number : ℕ) × (record_at trip_key number s.trips ≡ Some trip) × (stands trip.status ≡ true)
    × (trip.vehicle ≡ plan.vehicle) × (trip.wish.day ≡ plan.day)
first_trip s plan [] sound on some each = absurd (omega arith)
first_trip s plan (stop ∷ later) sound on some each =
    let (trip, there, standing, at) = each.0 in
    let place = same_place trip plan (Each-found HasDay trip_key stop.trip trip s.trips (trip_days s sound) there) on at
    in
    (trip, stop.trip, there, standing, place.0, place.1)

-- so a plan of a vehicle without bookings from a day on is of an earlier day
before_free : (s : State) (plan : Plan) (id from : ℕ) → IsSound s → IsOnDay plan → HasStops plan
    → HasStandingTrips s.trips plan → is_booked_from (Some id) from s.trips ≡ false → plan.vehicle ≡ id
    → plan.day < from
before_free s plan id from sound on some standing free same =
    let (trip, number, there, stands_still, vehicle, day) = first_trip s plan plan.stops sound on some standing in
    let fails = Each-found (λ t. is_standing_from (Some id) from t ≡ false) trip_key number trip s.trips
    (each_fails (is_standing_from (Some id) from) s.trips free) there in
    let early : trip.wish.day < from = not_of trip.vehicle trip.wish.day id from (stands trip.status) stands_still
    fails (vehicle ∙ same) in
    omega arith

-- if no vehicle has bookings from a day on, each plan is of an earlier day
before_all_free : (s : State) (plan : Plan) (from : ℕ) → IsSound s → IsOnDay plan → HasStops plan
    → HasStandingTrips s.trips plan → is_booked_from None from s.trips ≡ false → plan.day < from
before_all_free s plan from sound on some standing free =
    let (trip, number, there, stands_still, vehicle, day) = first_trip s plan plan.stops sound on some standing in
    let fails = Each-found (λ t. is_standing_from None from t ≡ false) trip_key number trip s.trips
    (each_fails (is_standing_from None from) s.trips free) there in
    let early : trip.wish.day < from = not_any trip.wish.day from (stands trip.status) stands_still fails in
    omega arith

-- what is known of each plan
abbrev pub IsSoundPlan : State → Plan → Type 0
IsSoundPlan s plan =
    IsOnDay plan × HasStops plan × HasStandingTrips s.trips plan × FitsIn s.vehicles s.travel s.trips plan

pub sound_plans : (s : State) → IsSound s → Each (IsSoundPlan s) s.planned
sound_plans s sound =
    Each-both IsOnDay (λ plan. HasStops plan × HasStandingTrips s.trips plan × FitsIn s.vehicles s.travel s.trips
    plan) (IsSoundPlan s) (λ plan on rest. (on, rest.0, rest.1, rest.2)) s.planned (planned_days s sound)
    (Each-both HasStops (λ plan. HasStandingTrips s.trips plan × FitsIn s.vehicles s.travel s.trips plan)
    (λ plan. HasStops plan × HasStandingTrips s.trips plan × FitsIn s.vehicles s.travel s.trips plan)
    (λ plan some rest. (some, rest.0, rest.1)) s.planned sound.planned_have_stops
    (Each-both (HasStandingTrips s.trips) (FitsIn s.vehicles s.travel s.trips)
    (λ plan. HasStandingTrips s.trips plan × FitsIn s.vehicles s.travel s.trips plan)
    (λ plan standing fits. (standing, fits)) s.planned
    sound.planned_trips_stand (planned_fit s sound)))

-- each plan still fits after a version is put whose vehicle has no bookings
pub vehicle_fits : (new : Vehicle) (s : State) → IsSound s → HasFirstDay new
    → is_booked_from (Some new.id) new.from_day s.trips ≡ false
    → Each (FitsIn (fleet_with new s.vehicles) s.travel s.trips) s.planned
vehicle_fits new s sound day free =
    Each-weaker (IsSoundPlan s) (FitsIn (fleet_with new s.vehicles) s.travel s.trips)
    (λ plan is. holds_still (CanDrive (rows_of (table_on plan.day s.travel)) (stops_among s.trips plan.stops))
    plan.day plan.vehicle new s.vehicles day (first_days s sound)
    (λ same. before_free s plan new.id new.from_day sound is.0 is.1 is.2 free same) is.3) s.planned
    (sound_plans s sound)

-- and each plan's vehicle is still on duty
pub vehicle_duties : (new : Vehicle) (s : State) → IsSound s → HasFirstDay new
    → is_booked_from (Some new.id) new.from_day s.trips ≡ false → PlansAreOnDuty s
    → Each (IsOnDutyIn (fleet_with new s.vehicles)) s.planned
vehicle_duties new s sound day free duties =
    Each-both (IsSoundPlan s) (IsOnDutyIn s.vehicles) (IsOnDutyIn (fleet_with new s.vehicles))
    (λ plan is duty. duty_still plan.day plan.vehicle new s.vehicles day (first_days s sound)
    (λ same. before_free s plan new.id new.from_day sound is.0 is.1 is.2 free same) duty) s.planned
    (sound_plans s sound) duties

-- each plan still fits after a table is put, if no vehicle has bookings
pub travel_fits : (new : TravelTable) (s : State) → IsSound s → is_booked_from None new.from_day s.trips ≡ false
    → Each (FitsIn s.vehicles (tables_with new s.travel) s.trips) s.planned
travel_fits new s sound free =
    Each-weaker (IsSoundPlan s) (FitsIn s.vehicles (tables_with new s.travel) s.trips)
    (λ plan is. subst
    (λ table. Any (λ (version : Vehicle). (version.id ≡ plan.vehicle) × CanDrive (rows_of table)
    (stops_among s.trips plan.stops) version) (in_force plan.day s.vehicles))
    (sym (table_stays new plan.day s.travel (before_all_free s plan new.from_day sound is.0 is.1 is.2 free))) is.3)
    s.planned (sound_plans s sound)

-- A plan still fits after a trip is put that has no stop in it.
other_fits : (vehicles : List Vehicle) (travel : List TravelTable) (trips : List Trip) (new : Trip) (plan : Plan)
    → Each (λ stop. stop.trip ≡ new.id → ⊥) plan.stops → FitsIn vehicles travel trips plan
    → FitsIn vehicles travel (put trip_key new trips) plan
other_fits vehicles travel trips new plan others fits =
    subst (CanServe vehicles travel plan.vehicle plan.day) (sym (among_put new trips plan.stops others)) fits

past_last : (last number next : ℕ) → number ≤ last → next ≡ last + 1 → number ≡ next → ⊥
past_last last number next below is same = omega arith

-- all plans still fit after a trip with the next number is put
pub fit_after : (new : Trip) (s : State) → IsSound s → new.id ≡ s.last_trip + 1
    → Each (FitsIn s.vehicles s.travel (put trip_key new s.trips)) s.planned
fit_after new s sound is =
    Each-weaker (IsSoundPlan s) (FitsIn s.vehicles s.travel (put trip_key new s.trips))
    (λ plan is_sound. other_fits s.vehicles s.travel s.trips new plan
    (Each-weaker (λ (stop : PlannedStop). StandsIn s.trips (plan_key plan) stop.trip)
    (λ (stop : PlannedStop). stop.trip ≡ new.id → ⊥)
    (λ stop there. past_last s.last_trip stop.trip new.id
    (stands_below s.last_trip s.trips (plan_key plan) stop.trip sound.trips_numbered there) is) plan.stops is_sound.2)
    is_sound.3)
    s.planned (sound_plans s sound)

-- the other plans still fit after a trip is put over another and the other's plan is removed
pub fit_beside : (old new : Trip) (s : State) → IsSound s → new.id ≡ old.id
    → record_at trip_key old.id s.trips ≡ Some old
    → Each (FitsIn s.vehicles s.travel (put trip_key new s.trips)) (take_away plan_key (plan_span old) s.planned)
fit_beside old new s sound is there =
    filter-gives (IsSoundPlan s) (FitsIn s.vehicles s.travel (put trip_key new s.trips))
    (λ plan. not (is_within (plan_key plan) (plan_span old)))
    (λ plan is_sound left. other_fits s.vehicles s.travel s.trips new plan
    (Each-weaker (λ (stop : PlannedStop). StandsIn s.trips (plan_key plan) stop.trip)
    (λ (stop : PlannedStop). stop.trip ≡ new.id → ⊥)
    (λ stop on same. own_key (pair_key old.vehicle old.wish.day) (plan_key plan)
    (place_of_old s.trips old plan stop (same ∙ is) there on) left) plan.stops is_sound.2) is_sound.3)
    s.planned (sound_plans s sound)

-- the rest of a plan without a trip fits
without_fits : (s : State) (plan : Plan) (k : ℕ) → IsSound s → IsRoutePlan plan
    → CanServe s.vehicles s.travel plan.vehicle plan.day (stops_among s.trips plan.stops)
    → CanServe s.vehicles s.travel plan.vehicle plan.day (stops_among s.trips (without k plan.stops))
without_fits s plan k sound route (l, version, within, at, (own, (minutes, times, feasible))) =
    let hours = subst ClosesInDay at (Each-at ClosesInDay (in_force plan.day s.vehicles)
    (Each-filter ClosesInDay (is_in_force plan.day s.vehicles) s.vehicles (hours s sound)) l version within) in (
      l,
      version,
      within,
      at,
      (
        own,
        (
          minutes,
          times,
          feasible_without (rows_of (table_on plan.day s.travel)) minutes version k s.trips
              plan.stops times hours route feasible,
        ),
      ),
    )

one_plan : (P : Plan → Type 0) (old : Trip) (stops : List PlannedStop)
    → P (record { vehicle = old.vehicle; day = old.wish.day; stops = stops }) → Each P (plan_of_stops old stops)
one_plan P old [] holds = tt
one_plan P old (stop ∷ later) holds = (holds, tt)

differs : (n k : ℕ) → not (n == k) ≡ true → n ≡ k → ⊥
differs n k left same = grind (arith, nat_tests)

each_other : (k : ℕ) (stops : List PlannedStop) → Each (λ stop. stop.trip ≡ k → ⊥) (without k stops)
each_other k stops = filter-gives (λ (stop : PlannedStop). Unit {0}) (λ (stop : PlannedStop). stop.trip ≡ k → ⊥)
    (λ stop. not (stop.trip == k)) (λ stop u left same. differs stop.trip k left same) stops (all_units stops)

left_of_plan : (old new : Trip) (s : State) (found : Option Plan) → IsSound s → HasDay old → new.id ≡ old.id
    → record_at plan_key (pair_key old.vehicle old.wish.day) s.planned ≡ found
    → Each (FitsIn s.vehicles s.travel (put trip_key new s.trips))
    (plan_of_stops old (without old.id (stops_of_plan found)))
left_of_plan old new s None sound day is found = tt
left_of_plan old new s (Some plan) sound day is found =
    let key = pair_key old.vehicle old.wish.day in
    let plan_is = Each-found (IsSoundPlan s) plan_key key plan s.planned (sound_plans s sound) found in
    let place = same_place old plan day plan_is.0 (sym (found_key plan_key key plan s.planned found)) in
    let left = without old.id plan.stops in
    let fits = without_fits s plan old.id sound (Each-found IsRoutePlan plan_key key plan s.planned
    sound.planned_routes found) plan_is.3 in
    one_plan (FitsIn s.vehicles s.travel (put trip_key new s.trips)) old left
    (other_fits s.vehicles s.travel s.trips new (record { vehicle = old.vehicle; day = old.wish.day; stops = left })
    (subst (λ (n : ℕ). Each (λ (stop : PlannedStop). stop.trip ≡ n → ⊥) left) (sym is) (each_other old.id plan.stops))
    (subst (λ (d : ℕ). CanServe s.vehicles s.travel old.vehicle d (stops_among s.trips left)) (sym place.1)
    (subst (λ (v : ℕ). CanServe s.vehicles s.travel v plan.day (stops_among s.trips left)) (sym place.0) fits)))

-- the vehicle of the rest is still on duty
left_duty : (old : Trip) (s : State) (found : Option Plan) → IsSound s → PlansAreOnDuty s → HasDay old
    → record_at plan_key (pair_key old.vehicle old.wish.day) s.planned ≡ found
    → Each (IsOnDutyIn s.vehicles) (plan_of_stops old (without old.id (stops_of_plan found)))
left_duty old s None sound duties day is = tt
left_duty old s (Some plan) sound duties day is =
    let key = pair_key old.vehicle old.wish.day in
    let on = Each-found IsOnDay plan_key key plan s.planned (planned_days s sound) is in
    let place = same_place old plan day on (sym (found_key plan_key key plan s.planned is)) in
    let duty = Each-found (IsOnDutyIn s.vehicles) plan_key key plan s.planned duties is in
    one_plan (IsOnDutyIn s.vehicles) old (without old.id plan.stops)
    (subst (λ (d : ℕ). Any (λ (v : Vehicle). v.id ≡ old.vehicle) (on_duty d s.vehicles)) (sym place.1)
    (subst (λ (n : ℕ). Any (λ (v : Vehicle). v.id ≡ n) (on_duty plan.day s.vehicles)) (sym place.0) duty))

pub left_on_duty : (old : Trip) (s : State) → IsSound s → PlansAreOnDuty s → HasDay old
    → Each (IsOnDutyIn s.vehicles)
    (plan_of_stops old (without old.id (planned_stops old.vehicle old.wish.day s.planned)))
left_on_duty old s sound duties day =
    left_duty old s (record_at plan_key (pair_key old.vehicle old.wish.day) s.planned) sound duties day refl

-- the rest fits after a trip's stops are removed
pub left_fits : (old new : Trip) (s : State) → IsSound s → HasDay old → new.id ≡ old.id
    → Each (FitsIn s.vehicles s.travel (put trip_key new s.trips))
    (plan_of_stops old (without old.id (planned_stops old.vehicle old.wish.day s.planned)))
left_fits old new s sound day is =
    left_of_plan old new s (record_at plan_key (pair_key old.vehicle old.wish.day) s.planned) sound day is refl

pub left_has_stops : (old : Trip) (stops : List PlannedStop) → Each HasStops (plan_of_stops old stops)
left_has_stops old [] = tt
left_has_stops old (stop ∷ later) = (omega arith, tt)

-- a plan that has a trip has stops
pub has_stops : (k : ℕ) (stops : List PlannedStop) → has_trip k stops ≡ true → 0 < length stops
has_stops k [] some = absurd (cc)
has_stops k (stop ∷ later) some = omega arith

-- a trip that is not cancelled is among those of its day, and stays when another is put
in_both : (new : Trip) (number vehicle day : ℕ) (s : State) (stop : PlannedStop) → IsSound s → IsDay day
    → new.id ≡ number → StandsIn s.trips (pair_key vehicle day) stop.trip → not (stop.trip == number) ≡ true
    → IsInBoth (trips_on day s.trips) (put trip_key new s.trips) stop.trip
in_both new number vehicle day s stop sound is_day own (trip, there, standing, at) left =
    let same = found_key trip_key stop.trip trip s.trips there in
    let place = same_place trip (record { vehicle = vehicle; day = day; stops = [] })
    (Each-found HasDay trip_key stop.trip trip s.trips (trip_days s sound) there) is_day at in (
      trip,
      subst (λ (n : ℕ). record_at trip_key n (trips_on day s.trips) ≡ Some trip) same
          (trip_on day trip s.trips place.1 (subst (λ (n : ℕ). record_at trip_key n s.trips ≡ Some trip) (sym same)
          there)),
      record_at-put_other trip_key stop.trip new s.trips (λ alike. differs stop.trip number left (sym alike ∙ own))
          ∙ there,
    )

-- the version on duty can drive the plan of a trip that is booked
booked_serves : (minutes : ℕ → ℕ → Option ℕ) (number day : ℕ) (request : request_of.Request) (trip : Trip)
    (plan : Plan) (s : State) → IsSound s → request.trip ≡ number → trip.wish.day ≡ day → IsDay day
    → AreTimes (rows_of (table_on day s.travel)) minutes
    → IsBookedIn minutes (routes_on number day s) request trip plan
    → ServesOnDuty s.vehicles s.travel plan.vehicle plan.day (stops_among (put trip_key trip s.trips) plan.stops)
booked_serves minutes number day request trip plan s sound is on is_day times booked =
    let (vehicle, of_day, standing) = booked_plan minutes (routes_on number day s) request trip plan booked in
    let there = Each-filter (HasStandingTrips s.trips) (λ p. p.day == day) s.planned sound.planned_trips_stand in
    let both = filter-gives (λ (stop : PlannedStop). StandsIn s.trips (pair_key plan.vehicle day) stop.trip)
    (λ (stop : PlannedStop). IsInBoth (trips_on day s.trips) (put trip_key trip s.trips) stop.trip)
    (λ stop. not (stop.trip == request.trip))
    (λ stop on_it left. in_both trip request.trip plan.vehicle day s stop sound is_day booked.1.trip_of.number on_it
    left)
    (planned_stops plan.vehicle day (planned_on day s.planned))
    (standing_at s.trips plan.vehicle day (planned_on day s.planned) there) in
    let (l, version, within, at, (own, feasible)) = booked_feasible minutes day (trips_on day s.trips)
    (planned_on day s.planned) (on_duty day s.vehicles) request trip plan (put trip_key trip s.trips)
    (record_at-put_same trip_key trip s.trips) both (subst
    (λ (n : ℕ). IsBookedIn minutes (routes_on n day s) request trip plan) (sym is) booked) in
    subst (λ (d : ℕ). ServesOnDuty s.vehicles s.travel plan.vehicle d
    (stops_among (put trip_key trip s.trips) plan.stops)) (sym on ∙ of_day)
    (l, version, within, at, (own, (minutes, times, feasible)))

-- so the trip fits in its plan
pub booked_fits : (minutes : ℕ → ℕ → Option ℕ) (number day : ℕ) (request : request_of.Request) (trip : Trip)
    (plan : Plan) (s : State) → IsSound s → request.trip ≡ number → trip.wish.day ≡ day → IsDay day
    → AreTimes (rows_of (table_on day s.travel)) minutes
    → IsBookedIn minutes (routes_on number day s) request trip plan
    → FitsIn s.vehicles s.travel (put trip_key trip s.trips) plan
booked_fits minutes number day request trip plan s sound is on is_day times booked =
    duty_can_serve s.vehicles s.travel plan.vehicle plan.day (stops_among (put trip_key trip s.trips) plan.stops)
    (booked_serves minutes number day request trip plan s sound is on is_day times booked)

-- and the plan's vehicle is on duty
pub booked_on_duty : (minutes : ℕ → ℕ → Option ℕ) (number day : ℕ) (request : request_of.Request) (trip : Trip)
    (plan : Plan) (s : State) → IsSound s → request.trip ≡ number → trip.wish.day ≡ day → IsDay day
    → AreTimes (rows_of (table_on day s.travel)) minutes
    → IsBookedIn minutes (routes_on number day s) request trip plan → IsOnDutyIn s.vehicles plan
booked_on_duty minutes number day request trip plan s sound is on is_day times booked =
    let stops = stops_among (put trip_key trip s.trips) plan.stops in
    any_gives (λ (v : Vehicle). (v.id ≡ plan.vehicle) × CanDrive (rows_of (table_on plan.day s.travel)) stops v)
    (λ (v : Vehicle). v.id ≡ plan.vehicle) (λ v is. is.0) (on_duty plan.day s.vehicles)
    (booked_serves minutes number day request trip plan s sound is on is_day times booked)
