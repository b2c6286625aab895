-- The plans of a day, by the vehicles that have versions.
use Rattle.std.proofs.Common.{◌≡◌, ◌++◌, ◌<◌, ◌==◌, ◌&&◌, ◌||◌, ℕ, Bool, true, false, cond, List, [], ◌∷◌, filter, flat_map, refl, sym, ap, ap₂, ◌∙◌, arith}
use Rattle.std.specs.List.{AllByRecursion, list_any}
use Rattle.std.specs.Option.{option_to_list}
use Rattle.std.proofs.lemmas.Bool.{and_parts}
use Rattle.std.proofs.lemmas.Bool.Decides.{nat_tests}
use Rattle.sqlite_trees.proofs.ListLemmas.{filter_none}
use Rattle.pt_base_values.specs.declared.vehicle.Vehicle.{Vehicle}
use Rattle.pt_desk_rules.specs.Fleet.{has_version}
use Rattle.pt_desk_rules.specs.Parts as part
use Rattle.pt_desk_rules.specs.Planned.{planned_on}
use Rattle.pt_desk_rules.specs.Ranges.{FitsPlan}
use Rattle.pt_desk_rules.specs.State.{State, vehicle_key}
use Rattle.pt_base_records.specs.Keys.{pair_key}
use Rattle.pt_base_records.specs.Records.{Each, IsInOrder, record_at}
use Rattle.pt_base_records.proofs.OrderLemmas.{Each-weaker}
use Rattle.pt_desk_scheduling.specs.Plan.{Plan, plan_key}
use Rattle.pt_tables_reading.specs.Ranges.{IsVehicle}
use Rattle.pt_tables_rows.specs.Tables.{IsWellFormed}
use Rattle.pt_tables_asking.specs.Plans.{HasVersionAmong, vehicle_ids}
use Rattle.pt_tables_asking.proofs.StopLemmas.{day_low, filter_alike, filter_found, same_key}

-- ---- two tests, where all that passes the first comes before all that passes the second

module _ {A : Type 0} (key : A → ℕ) (P Q : A → Bool) (apart : (x y : A) → P x ≡ true → Q y ≡ true → key x < key y) where
  none_later : (x : A) → Q x ≡ true → (xs : List A) → Each (λ y. key x < key y) xs → AllByRecursion (λ y. P y ≡ false) xs
  none_later x is [] above = tt
  none_later x is (y ∷ ys) above = (not_it (P y) refl, none_later x is ys above.1)
    where
      not_it : (b : Bool) → P y ≡ b → P y ≡ false
      not_it true so = absurd (let low = apart y x so is in let high = above.0 in omega arith)
      not_it false so = so

  step : (x : A) (xs : List A) → Each (λ y. key x < key y) xs → filter (λ y. P y || Q y) xs ≡ filter P xs ++ filter Q xs → (p q : Bool) → P x ≡ p → Q x ≡ q
      → cond (p || q) (x ∷ filter (λ y. P y || Q y) xs) (filter (λ y. P y || Q y) xs) ≡ cond p (x ∷ filter P xs) (filter P xs) ++ cond q (x ∷ filter Q xs) (filter Q xs)
  step x xs above rest true true one other = absurd (let low = apart x x one other in omega arith)
  step x xs above rest true false one other = ap (λ l. x ∷ l) rest
  step x xs above rest false true one other =
      let none : filter P xs ≡ [] = filter_none P xs (none_later x other xs above) in
      ap (λ l. x ∷ l) (rest ∙ ap (λ l. l ++ filter Q xs) none) ∙ sym (ap (λ l. l ++ x ∷ filter Q xs) none)
  step x xs above rest false false one other = rest

  pub filter_either : (xs : List A) → IsInOrder key xs → filter (λ x. P x || Q x) xs ≡ filter P xs ++ filter Q xs
  filter_either [] order = refl
  filter_either (x ∷ xs) order = step x xs order.0 (filter_either xs order.1) (P x) (Q x) refl refl

-- ---- the numbers of vehicles

-- one of these is the number
abbrev pub has_id : List ℕ → ℕ → Bool
has_id ids id = list_any (λ n. n == id) ids

-- the plans of a day, by the numbers of their vehicles
abbrev pub plans_of : ℕ → List Plan → List ℕ → List Plan
plans_of day planned ids = flat_map (λ id. option_to_list (record_at plan_key (pair_key id day) planned)) ids

is_first : (n id day date : ℕ) (rest : Bool) → (day == date && ((n == id) || rest)) ≡ ((id == n && day == date) || (day == date && rest))
is_first n id day date rest = either (n == id) (id == n) (day == date) rest (turned n id)
  where
    turned : (a b : ℕ) → (a == b) ≡ (b == a)
    turned a b = grind (arith, nat_tests)

    either : (a b c d : Bool) → a ≡ b → (c && (a || d)) ≡ ((b && c) || (c && d))
    either true true true d same = refl
    either true true false d same = refl
    either false false true d same = refl
    either false false false d same = refl
    either true false c d same = absurd (cc)
    either false true c d same = absurd (cc)

same_number : (a b : ℕ) → (a == b) ≡ true → a ≡ b
same_number a b is = grind (arith, nat_tests)

-- what is among these is above what each is above
above_any : (n id : ℕ) (ids : List ℕ) → Each (λ m. n < m) ids → has_id ids id ≡ true → n < id
above_any n id [] above is = absurd (cc)
above_any n id (m ∷ ids) above is = go (m == id) refl (above_any n id ids above.1) is
  where
    go : (b : Bool) → (m == id) ≡ b → (has_id ids id ≡ true → n < id) → (b || has_id ids id) ≡ true → n < id
    go true so rest is = let same = same_number m id so in let low = above.0 in omega arith
    go false so rest is = rest is

module _ (day : ℕ) (low : day < 4_294_967_296) (planned : List Plan) (order : IsInOrder plan_key planned) (fits : Each FitsPlan planned) where
  -- the plans of the vehicles with these numbers, which ascend
  pub plans_are : (ids : List ℕ) → IsInOrder (λ n. n) ids → plans_of day planned ids ≡ filter (λ plan. plan.day == day && has_id ids plan.vehicle) planned
  plans_are [] rise = sym (filter_none (λ plan. plan.day == day && false) planned (none planned))
    where
      none : (plans : List Plan) → AllByRecursion (λ plan. (plan.day == day && false) ≡ false) plans
      none [] = tt
      none (plan ∷ plans) = (never (plan.day == day), none plans)
        where
          never : (b : Bool) → (b && false) ≡ false
          never true = refl
          never false = refl
  plans_are (n ∷ ids) rise =
      ap₂ ◌++◌
      (sym (filter_alike FitsPlan (λ plan. plan.vehicle == n && plan.day == day) (λ plan. plan_key plan == pair_key n day)
      (λ plan fit. same_key plan.vehicle plan.day n day (day_low plan fit) low) planned fits ∙ filter_found plan_key (pair_key n day) planned order))
      (plans_are ids rise.1)
      ∙ sym (filter_either plan_key (λ plan. plan.vehicle == n && plan.day == day) (λ plan. plan.day == day && has_id ids plan.vehicle) apart planned order)
      ∙ sym (filter_alike FitsPlan (λ plan. plan.day == day && has_id (n ∷ ids) plan.vehicle) (λ plan. (plan.vehicle == n && plan.day == day) || (plan.day == day && has_id ids plan.vehicle))
      (λ plan fit. is_first n plan.vehicle plan.day day (has_id ids plan.vehicle)) planned fits)
    where
      apart : (x y : Plan) → (x.vehicle == n && x.day == day) ≡ true → (y.day == day && has_id ids y.vehicle) ≡ true → plan_key x < plan_key y
      apart x y one other =
          let a = and_parts _ _ one in
          let b = and_parts _ _ other in
          let vehicle = same_number x.vehicle n a.0 in
          let date = same_number x.day day a.1 in
          let also = same_number y.day day b.0 in
          let above = above_any n y.vehicle ids rise.0 b.1 in
          omega arith

-- ---- vehicles with versions

module _ (version : Vehicle) (later : List Vehicle) where
  with_last : (b : Bool) → has_version version.id later ≡ b → (id : ℕ) → has_id (vehicle_ids later) id ≡ has_version id later
      → has_id (cond b (vehicle_ids later) (version.id ∷ vehicle_ids later)) id ≡ ((version.id == id) || has_version id later)
  with_last true is id rest = go (version.id == id) refl
    where
      go : (b : Bool) → (version.id == id) ≡ b → has_id (vehicle_ids later) id ≡ (b || has_version id later)
      go true so = rest ∙ ap (λ n. has_version n later) (sym (same_number version.id id so)) ∙ is
      go false so = rest
  with_last false is id rest = ap (λ b. (version.id == id) || b) rest

-- a number is among them where a version of the vehicle is there
pub ids_are : (vehicles : List Vehicle) (id : ℕ) → has_id (vehicle_ids vehicles) id ≡ has_version id vehicles
ids_are [] id = refl
ids_are (version ∷ later) id = with_last version later (has_version version.id later) refl id (ids_are later id)

not_later : (id : ℕ) (version : Vehicle) (later : List Vehicle) → has_version id (version ∷ later) ≡ false → (version.id ≡ id → ⊥) × (has_version id later ≡ false)
not_later id version later is = go (version.id == id) refl is
  where
    go : (b : Bool) → (version.id == id) ≡ b → (b || has_version id later) ≡ false → (version.id ≡ id → ⊥) × (has_version id later ≡ false)
    go true so is = absurd (cc)
    go false so is = (λ same. differs so same, is)
      where
        differs : (version.id == id) ≡ false → version.id ≡ id → ⊥
        differs so same = grind (arith, nat_tests)

above_all : (id day : ℕ) (vehicles : List Vehicle) → Each (λ v. pair_key id day < vehicle_key v) vehicles
    → Each (λ (v : Vehicle). v.from_day < 4_294_967_296) vehicles → has_version id vehicles ≡ false
    → Each (λ n. id < n) (vehicle_ids vehicles)
above_all id day [] above low none = tt
above_all id day (version ∷ later) above low none =
    let other = not_later id version later none in
    let rest = above_all id day later above.1 low.1 other.1 in
    go (has_version version.id later) rest
  where
    here : (version.id ≡ id → ⊥) → id < version.id
    here other = let high = above.0 in let small = low.0 in omega arith

    go : (b : Bool) → Each (λ n. id < n) (vehicle_ids later) → Each (λ n. id < n) (cond b (vehicle_ids later) (version.id ∷ vehicle_ids later))
    go true rest = rest
    go false rest = (here (not_later id version later none).0, rest)

-- the numbers of vehicles in the order of their versions ascend
pub ids_rise : (vehicles : List Vehicle) → IsInOrder vehicle_key vehicles → Each (λ (v : Vehicle). v.from_day < 4_294_967_296) vehicles → IsInOrder (λ n. n) (vehicle_ids vehicles)
ids_rise [] order low = tt
ids_rise (version ∷ later) order low = go (has_version version.id later) refl (ids_rise later order.1 low.1)
  where
    go : (b : Bool) → has_version version.id later ≡ b → IsInOrder (λ n. n) (vehicle_ids later) → IsInOrder (λ n. n) (cond b (vehicle_ids later) (version.id ∷ vehicle_ids later))
    go true is rest = rest
    go false is rest = (above_all version.id version.from_day later order.0 low.1 is, rest)

days_low : (vehicles : List Vehicle) → Each IsVehicle vehicles → Each (λ (v : Vehicle). v.from_day < 4_294_967_296) vehicles
days_low vehicles each = Each-weaker IsVehicle (λ v. v.from_day < 4_294_967_296) (λ v fits. let top = fits.from_day.1 in omega arith) vehicles each

and_true : (b : Bool) → (b && true) ≡ b
and_true true = refl
and_true false = refl

-- if the vehicle of each plan has a version, the plans of the day are those of the vehicles' numbers
pub plans_of_day : (content : State) → IsWellFormed content → Each (HasVersionAmong content.vehicles) content.planned → (day : ℕ) → day < 4_294_967_296
    → plans_of day content.planned (vehicle_ids content.vehicles) ≡ planned_on day content.planned
plans_of_day content readable carried day low =
    let ids = vehicle_ids content.vehicles in
    plans_are day low content.planned (readable.order part.planned) (readable.ranges.parts part.planned) ids
    (ids_rise content.vehicles (readable.order part.vehicles) (days_low content.vehicles
    (readable.ranges.parts part.vehicles)))
    ∙ filter_alike (HasVersionAmong content.vehicles) (λ plan. plan.day == day && has_id ids plan.vehicle) (λ plan. plan.day == day)
    (λ plan has. ap (λ b. plan.day == day && b) (ids_are content.vehicles plan.vehicle ∙ has) ∙ and_true (plan.day == day)) content.planned carried
