-- The versions in force on a day, and those on duty: each vehicle once, by rising number.
use Rattle.std.proofs.Common.{◌≡◌, ℕ, ◌<◌, ◌≤◌, Bool, true, false, not, List, [], ◌∷◌, AllPairs, cond, refl, sym, ap, ◌∙◌, subst, arith}
use Rattle.std.specs.Prelude.{◌==◌, ◌&&◌, nat_le, nat_lt, filter}
use Rattle.std.specs.List.{list_any}
use Rattle.std.proofs.lemmas.Bool.{and_parts, or_left, or_right}
use Rattle.std.proofs.lemmas.Bool.Decides.{nat_tests}
use Rattle.pt_desk_rules.specs.Vehicle.{Vehicle}
use Rattle.pt_base_records.specs.Keys.{pair_key}
use Rattle.pt_base_records.specs.Records.{Each, IsInOrder}
use Rattle.pt_base_records.proofs.OrderLemmas.{Each-weaker}
use Rattle.pt_base_records.proofs.SplitLemmas.{later_key}
use Rattle.pt_base_records.proofs.TableLemmas.{Each-filter, IsInOrder-filter}
use Rattle.pt_desk_scheduling.specs.Plan.{IsRoutePlan}
use Rattle.pt_desk_scheduling.proofs.RouteLemmas.{are_routes}
use Rattle.pt_desk_rules.specs.Booking.{HasRoutes}
use Rattle.pt_desk_rules.specs.Fleet.{has_weekday, in_force, is_in_force, is_newer, on_duty}
use Rattle.pt_desk_rules.specs.Planned.{planned_on, trips_on}
use Rattle.pt_desk_rules.specs.Sound.{HasFirstDay, IsSound}
use Rattle.pt_desk_rules.specs.State.{State, vehicle_key}
use Rattle.pt_desk_rules.proofs.RangeLemmas.{first_days}

-- a test that one of these passes is passed by some of them
abbrev pub IsOneOf : List Vehicle → Vehicle → Type 0
IsOneOf all version = (test : Vehicle → Bool) → test version ≡ true → list_any test all ≡ true

pub each_one : (xs : List Vehicle) → Each (IsOneOf xs) xs
each_one [] = tt
each_one (x ∷ xs) = (
  λ test is. or_left (test x) (list_any test xs) is,
  Each-weaker (IsOneOf xs) (IsOneOf (x ∷ xs)) (λ y of test is. or_right (test x) (list_any test xs) (of test is)) xs (each_one xs),
)

not_both : (b : Bool) → b ≡ true → b ≡ false → ⊥
not_both b is other = let same : true ≡ false = sym is ∙ other in cc

-- of two versions in force, the second is of another vehicle with a higher number
rises : (day id first other from : ℕ) → first ≤ 47_481 → from ≤ 47_481 → pair_key id first < pair_key other from → nat_le from day ≡ true
    → ((((other == id) && nat_lt first from) && nat_le from day) ≡ true → ⊥) → id < other
rises day id first other from low high lt come no_newer = grind (arith, nat_tests)

force_rises : (day : ℕ) (all : List Vehicle) (x y : Vehicle) → HasFirstDay x → HasFirstDay y → IsOneOf all y
    → vehicle_key x < vehicle_key y → is_in_force day all x ≡ true → is_in_force day all y ≡ true → x.id < y.id
force_rises day all x y first from one lt on also =
    let newest = and_parts _ _ on in
    let come = and_parts _ _ also in
    rises day x.id x.from_day y.id y.from_day first.1 from.1 lt come.0
    (λ newer. not_both (list_any (is_newer day x) all) (one (is_newer day x) newer) (no_true (list_any (is_newer day x) all) newest.1))
  where
    no_true : (b : Bool) → not b ≡ true → b ≡ false
    no_true true is = absurd (cc)
    no_true false is = refl

holds_of : (test : Vehicle → Bool) (P : Vehicle → Type 0) (x : Vehicle) (ys : List Vehicle) (b : Bool) → test x ≡ b → (test x ≡ true → P x) → Each P ys → Each P (cond b (x ∷ ys) ys)
holds_of test P x ys true is gives rest = (gives is, rest)
holds_of test P x ys false is gives rest = rest

-- a property that follows from a test holds for each that passes it
Each-passes : (test : Vehicle → Bool) (P : Vehicle → Type 0) (xs : List Vehicle) → Each (λ y. test y ≡ true → P y) xs → Each P (filter test xs)
Each-passes test P [] each = tt
Each-passes test P (x ∷ xs) each = holds_of test P x (filter test xs) (test x) refl each.0 (Each-passes test P xs each.1)

all_rise : (day : ℕ) (all : List Vehicle) (x : Vehicle) (ys : List Vehicle) → HasFirstDay x
    → is_in_force day all x ≡ true → Each (IsOneOf all) ys → Each HasFirstDay ys
    → Each (λ y. vehicle_key x < vehicle_key y) ys → Each (λ y. is_in_force day all y ≡ true → x.id < y.id) ys
all_rise day all x [] first on ones days above = tt
all_rise day all x (y ∷ ys) first on ones days above = (
  λ also. force_rises day all x y first days.0 ones.0 above.0 on also,
  all_rise day all x ys first on ones.1 days.1 above.1,
)

abbrev pub id_of : Vehicle → ℕ
id_of version = version.id

first_on : (day : ℕ) (all : List Vehicle) (x : Vehicle) (xs : List Vehicle) (b : Bool) → is_in_force day all x ≡ b
    → (is_in_force day all x ≡ true → Each (λ y. is_in_force day all y ≡ true → x.id < y.id) xs)
    → IsInOrder id_of (filter (is_in_force day all) xs)
    → IsInOrder id_of (cond b (x ∷ filter (is_in_force day all) xs) (filter (is_in_force day all) xs))
first_on day all x xs true is above rest = (Each-passes (is_in_force day all) (λ y. x.id < y.id) xs (above is), rest)
first_on day all x xs false is above rest = rest

all_in_order : (day : ℕ) (all xs : List Vehicle) → Each (IsOneOf all) xs → Each HasFirstDay xs
    → IsInOrder vehicle_key xs → IsInOrder id_of (filter (is_in_force day all) xs)
all_in_order day all [] ones days order = tt
all_in_order day all (x ∷ xs) ones days order =
    first_on day all x xs (is_in_force day all x) refl
    (λ on. all_rise day all x xs days.0 on ones.1 days.1 order.0) (all_in_order day all xs ones.1 days.1 order.1)

-- the versions in force rise
pub force_order : (day : ℕ) (vehicles : List Vehicle) → Each HasFirstDay vehicles → IsInOrder vehicle_key vehicles
    → IsInOrder id_of (in_force day vehicles)
force_order day vehicles days order = all_in_order day vehicles vehicles (each_one vehicles) days order

-- what passes one test, of what passes another, is what passes both
pub filter_both : {A : Type 0} (p q : A → Bool) (xs : List A) → filter p (filter q xs) ≡ filter (λ x. q x && p x) xs
filter_both p q [] = refl
filter_both p q (x ∷ xs) = step p x (filter q xs) (filter (λ y. q y && p y) xs) (q x) (filter_both p q xs)
  where
    step : {A : Type 0} (p : A → Bool) (x : A) (ys zs : List A) (b : Bool) → filter p ys ≡ zs
        → filter p (cond b (x ∷ ys) ys) ≡ cond (b && p x) (x ∷ zs) zs
    step p x ys zs true same = ap (λ rest. cond (p x) (x ∷ rest) rest) same
    step p x ys zs false same = same

-- the versions on duty are those in force that run on the weekday
pub duty_of_force : (day : ℕ) (vehicles : List Vehicle)
    → filter (has_weekday day) (in_force day vehicles) ≡ on_duty day vehicles
duty_of_force day vehicles = filter_both (has_weekday day) (is_in_force day vehicles) vehicles

-- so they rise too
pub duty_order : (day : ℕ) (vehicles : List Vehicle) → Each HasFirstDay vehicles → IsInOrder vehicle_key vehicles
    → IsInOrder id_of (on_duty day vehicles)
duty_order day vehicles days order =
    subst (IsInOrder id_of) (duty_of_force day vehicles)
    (IsInOrder-filter id_of (has_weekday day) (in_force day vehicles) (force_order day vehicles days order))

-- the vehicles on duty rise
pub duty_pairs : (day : ℕ) (vehicles : List Vehicle) → Each HasFirstDay vehicles → IsInOrder vehicle_key vehicles → AllPairs (λ first second. first.id < second.id) (on_duty day vehicles)
duty_pairs day vehicles days order =
    λ i j d before within. later_key id_of (on_duty day vehicles) (duty_order day vehicles days order) i j d before within

-- a sound state has routes on every day
pub has_routes : (s : State) → IsSound s → HasRoutes s
has_routes s sound = λ number day.
    are_routes number day (trips_on day s.trips) (planned_on day s.planned) (on_duty day s.vehicles)
    (Each-filter IsRoutePlan (λ plan. plan.day == day) s.planned sound.planned_routes)
    (duty_pairs day s.vehicles (first_days s sound) sound.vehicles_in_order)
