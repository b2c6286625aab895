-- The versions of a vehicle are next to each other.
use Rattle.std.proofs.Common.{zero, suc, drop, drop-cons, add-one, get_or, Some, ◌≡◌, ◌⊎◌, inl, inr, ℕ, ◌+◌, ◌<◌, ◌≤◌}
use Rattle.std.proofs.Common.{Bool, true, false, not, IsTrue, List, [], ◌∷◌, length, cond, refl, sym, ap, ◌∙◌, subst}
use Rattle.std.proofs.Common.{arith}
use Rattle.std.specs.Prelude.{◌==◌, ◌&&◌, ◌||◌, filter, slice_get}
use lib.Dec.{eqb}
use Rattle.std.specs.List.{list_any}
use Rattle.std.proofs.lemmas.Bool.Decides.{nat_tests}
use Rattle.pt_base_values.specs.declared.vehicle.Vehicle.{Vehicle}
use Rattle.pt_base_records.specs.Keys.{pair_key}
use Rattle.pt_base_records.specs.Records.{Each, IsInOrder, is_within, within}
use Rattle.pt_desk_rules.specs.Fleet.{has_version, vehicle_count, versions_of}
use Rattle.pt_desk_rules.specs.State.{most_versions}
use Rattle.pt_desk_rules.specs.Sound.{HasFirstDay}
use Rattle.pt_desk_rules.specs.State.{vehicle_key, versions_from}

same_test : (a b : Bool) → (a ≡ true → b ≡ true) → (b ≡ true → a ≡ true) → a ≡ b
same_test true b gives back = sym (gives refl)
same_test false true gives back = absurd (let no = back refl in cc)
same_test false false gives back = refl

is_own : (id other first : ℕ) → first ≤ 47_481 → is_within (pair_key other first) (versions_from id 0) ≡ true → (other == id) ≡ true
is_own id other first low inside = grind (arith, nat_tests)

is_inside : (id other first : ℕ) → first ≤ 47_481 → (other == id) ≡ true → is_within (pair_key other first) (versions_from id 0) ≡ true
is_inside id other first low own = grind (arith, nat_tests)

own_within : (id other first : ℕ) → first ≤ 47_481 → is_within (pair_key other first) (versions_from id 0) ≡ (other == id)
own_within id other first low = same_test _ _ (is_own id other first low) (is_inside id other first low)

-- the versions of a vehicle are those with its keys
pub within_own : (id : ℕ) (vehicles : List Vehicle) → Each HasFirstDay vehicles
    → within vehicle_key (versions_from id 0) vehicles ≡ versions_of id vehicles
within_own id [] days = refl
within_own id (x ∷ xs) days =
    ap (λ b. cond b (x ∷ within vehicle_key (versions_from id 0) xs) (within vehicle_key (versions_from id 0) xs)) (own_within id x.id x.from_day days.0.1)
    ∙ ap (λ ys. cond (x.id == id) (x ∷ ys) ys) (within_own id xs days.1)

any_kept : {A : Type 0} (x : A) (ys : List A) (test rest : Bool) → (IsTrue rest → 0 < length ys) → (rest ≡ false → length ys ≡ 0)
    → (IsTrue (test || rest) → 0 < length (cond test (x ∷ ys) ys)) × ((test || rest) ≡ false → length (cond test (x ∷ ys) ys) ≡ 0)
any_kept x ys true rest some none = (λ is. omega arith, λ is. absurd (cc))
any_kept x ys false rest some none = (some, none)

any_filter : {A : Type 0} (test : A → Bool) (xs : List A)
    → (IsTrue (list_any test xs) → 0 < length (filter test xs)) × (list_any test xs ≡ false → length (filter test xs) ≡ 0)
any_filter test [] = (λ is. absurd (cc), λ is. refl)
any_filter test (x ∷ xs) =
    let rest = any_filter test xs in
    any_kept x (filter test xs) (test x) (list_any test xs) rest.0 rest.1

is_some_kept : (b : Bool) (n : ℕ) → (IsTrue b → 0 < n) → (b ≡ false → n ≡ 0) → not (n == 0) ≡ b
is_some_kept true n some none = let above = some refl in grind (arith, nat_tests)
is_some_kept false n some none = let no = none refl in grind (arith, nat_tests)

-- a vehicle exists if it has versions
pub has_versions : (id : ℕ) (vehicles versions : List Vehicle) (empty : Bool) → versions ≡ versions_of id vehicles
    → empty ≡ (length versions == 0) → not empty ≡ has_version id vehicles
has_versions id vehicles versions empty is tells =
    let any = any_filter (λ (v : Vehicle). v.id == id) vehicles in
    ap not (tells ∙ ap (λ (vs : List Vehicle). length vs == 0) is)
    ∙ is_some_kept (has_version id vehicles) (length (versions_of id vehicles)) any.0 any.1

kept_or_none : {A : Type 0} (P : A → Type 0) (test : A → Bool) (x : A) (ys : List A) (b : Bool) → test x ≡ b → P x
    → (ys ≡ []) ⊎ ((y : A) × (test y ≡ true) × P y) → (cond b (x ∷ ys) ys ≡ []) ⊎ ((y : A) × (test y ≡ true) × P y)
kept_or_none P test x ys true is holds rest = inr (x, is, holds)
kept_or_none P test x ys false is holds rest = rest

pub one_of : {A : Type 0} (P : A → Type 0) (test : A → Bool) (xs : List A) → Each P xs
    → (filter test xs ≡ []) ⊎ ((y : A) × (test y ≡ true) × P y)
one_of P test [] each = inl refl
one_of P test (x ∷ xs) each = kept_or_none P test x (filter test xs) (test x) refl each.0 (one_of P test xs each.1)

same_number : (a b : ℕ) → (a == b) ≡ true → a ≡ b
same_number a b is = grind (arith, nat_tests)

-- if the limit holds for the vehicles that have versions, it holds for all
pub few_versions : (vehicles : List Vehicle) → Each (λ version. length (versions_of version.id vehicles) ≤ most_versions) vehicles
    → (id : ℕ) → length (versions_of id vehicles) ≤ most_versions
few_versions vehicles each id = elim (one_of (λ (v : Vehicle). length (versions_of v.id vehicles) ≤ most_versions) (λ (v : Vehicle). v.id == id) vehicles each) [
  | inl none ↦ let empty = ap length none in omega arith
  | inr (version, is, few) ↦ subst (λ (n : ℕ). length (versions_of n vehicles) ≤ most_versions) (same_number version.id id is) few
]

pub each_of : {A : Type 0} (P : A → Type 0) → ((x : A) → P x) → (xs : List A) → Each P xs
each_of P all [] = tt
each_of P all (x ∷ xs) = (all x, each_of P all xs)

none_of : (id : ℕ) (zs : List Vehicle) → Each (λ z. id < z.id) zs → has_version id zs ≡ false
none_of id [] above = refl
none_of id (z ∷ zs) above = let here = above.0 in let rest = none_of id zs above.1 in grind (arith, nat_tests)

above_all : (id other first : ℕ) (ys : List Vehicle) → id < other → first ≤ 47_481 → Each HasFirstDay ys
    → Each (λ z. pair_key other first < vehicle_key z) ys → Each (λ z. id < z.id) ys
above_all id other first [] lt low days order = tt
above_all id other first (z ∷ zs) lt low days order =
    let day = days.0.1 in
    let key = order.0 in
    (omega arith, above_all id other first zs lt low days.1 order.1)

next_or_none : (id other : ℕ) (ys : List Vehicle) (b : Bool) → (other == id) ≡ b → (b ≡ false → has_version id ys ≡ false)
    → (other == id) ≡ ((other == id) || has_version id ys)
next_or_none id other ys true is none = is ∙ sym (ap (λ t. t || has_version id ys) is)
next_or_none id other ys false is none = is ∙ sym (ap (λ t. t || has_version id ys) is ∙ none refl)

other_above : (id other first second : ℕ) → first ≤ 47_481 → second ≤ 47_481 → pair_key id first < pair_key other second → (other == id) ≡ false → id < other
other_above id other first second low high lt is = grind (arith, nat_tests)

-- if the next version is of another vehicle, no later one is of this vehicle
pub next_version : (x y : Vehicle) (ys : List Vehicle) → IsInOrder vehicle_key (x ∷ y ∷ ys) → Each HasFirstDay (x ∷ y ∷ ys)
    → (y.id == x.id) ≡ has_version x.id (y ∷ ys)
next_version x y ys order days =
    next_or_none x.id y.id ys (y.id == x.id) refl
    (λ other. none_of x.id ys (above_all x.id y.id y.from_day ys
    (other_above x.id y.id x.from_day y.from_day days.0.1 days.1.0.1 order.0.0 other) days.1.0.1 days.1.1 order.1.0))

pub has_next : (x y : Vehicle) (later : List Vehicle) (b : Bool) → IsInOrder vehicle_key (x ∷ later) → Each HasFirstDay (x ∷ later)
    → slice_get later 0 ≡ Some y → b ≡ (y.id == x.id) → b ≡ has_version x.id later
has_next x y [] b order days at is = absurd (cc)
has_next x y (z ∷ zs) b order days at is =
    let same : z ≡ y = cc in
    is ∙ sym (ap (λ (v : Vehicle). v.id == x.id) same) ∙ next_version x z zs order days

pub IsInOrder-drop : {A : Type 0} (key : A → ℕ) (n : ℕ) (xs : List A) → IsInOrder key xs → IsInOrder key (drop n xs)
IsInOrder-drop key zero xs order = order
IsInOrder-drop key (suc n) [] order = tt
IsInOrder-drop key (suc n) (x ∷ xs) order = IsInOrder-drop key n xs order.1

pub Each-from : {A : Type 0} (P : A → Type 0) (n : ℕ) (xs : List A) → Each P xs → Each P (drop n xs)
Each-from P zero xs each = each
Each-from P (suc n) [] each = tt
Each-from P (suc n) (x ∷ xs) each = Each-from P n xs each.1

-- one more version is counted if no later one is of its vehicle
pub counted_on : (before after total : ℕ) (x : Vehicle) (rest : List Vehicle) (b : Bool) → b ≡ has_version x.id rest
    → (b ≡ false → after ≡ before + 1) → (b ≡ true → after ≡ before) → before + vehicle_count (x ∷ rest) ≡ total
    → after + vehicle_count rest ≡ total
counted_on before after total x rest true is more same sum =
    let now = same refl in
    let count : vehicle_count (x ∷ rest) ≡ vehicle_count rest = ap (λ t. cond t (vehicle_count rest) (vehicle_count rest + 1)) (sym is) in
    omega arith
counted_on before after total x rest false is more same sum =
    let now = more refl in
    let count : vehicle_count (x ∷ rest) ≡ vehicle_count rest + 1 = ap (λ t. cond t (vehicle_count rest) (vehicle_count rest + 1)) (sym is) in
    omega arith

pub same_numbers : (b : Bool) (x y : ℕ) → b ≡ (eqb x y && true) → b ≡ (x == y)
same_numbers b x y is = grind (arith, nat_tests)

next_from : (at : ℕ) (x : Vehicle) (xs rest : List Vehicle) → at < length xs → x ≡ get_or xs at x → rest ≡ drop (at + 1) xs → drop at xs ≡ x ∷ rest
next_from at x xs rest within is back =
    drop-cons xs at x within ∙ ap (λ y. y ∷ drop (suc at) xs) (sym is) ∙ ap (λ n. x ∷ drop n xs) (sym (add-one at)) ∙ ap (λ ys. x ∷ ys) (sym back)

pub order_from : (at : ℕ) (x : Vehicle) (xs rest : List Vehicle) → at < length xs → x ≡ get_or xs at x → rest ≡ drop (at + 1) xs
    → IsInOrder vehicle_key xs → IsInOrder vehicle_key (x ∷ rest)
order_from at x xs rest within is back order =
    subst (IsInOrder vehicle_key) (next_from at x xs rest within is back) (IsInOrder-drop vehicle_key at xs order)

pub days_from : (at : ℕ) (x : Vehicle) (xs rest : List Vehicle) → at < length xs → x ≡ get_or xs at x → rest ≡ drop (at + 1) xs
    → Each HasFirstDay xs → Each HasFirstDay (x ∷ rest)
days_from at x xs rest within is back days =
    subst (Each HasFirstDay) (next_from at x xs rest within is back) (Each-from HasFirstDay at xs days)

-- the count goes on, one version on
pub count_goes : (before after total at : ℕ) (x : Vehicle) (xs rest : List Vehicle) (b : Bool) → at < length xs → x ≡ get_or xs at x
    → rest ≡ drop (at + 1) xs → b ≡ has_version x.id rest → (b ≡ false → after ≡ before + 1) → (b ≡ true → after ≡ before)
    → before + vehicle_count (drop at xs) ≡ total → after + vehicle_count (drop (at + 1) xs) ≡ total
count_goes before after total at x xs rest b within is back tells more same sum =
    subst (λ (ys : List Vehicle). after + vehicle_count ys ≡ total) back
    (counted_on before after total x rest b tells more same
    (sym (ap (λ (ys : List Vehicle). before + vehicle_count ys) (next_from at x xs rest within is back)) ∙ sum))
