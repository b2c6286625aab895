-- Whether a vehicle's version in force can drive its plan, and has room.
use Rattle.std.proofs.Common.{◌≡◌, ◌⊎◌, inl, inr, ℕ, ◌+◌, ◌<◌, ◌≤◌, zero, suc, Bool, true, false, not, IsTrue, List}
use Rattle.std.proofs.Common.{[], ◌∷◌, length, cond, refl, sym, ap, ◌∙◌, subst, arith, drop, get_or, Option, Some}
use Rattle.std.proofs.Common.{None, Any}
use Rattle.std.specs.Prelude.{◌==◌, ◌&&◌, ◌||◌, nat_le, filter, Result, Ok, Err, IfOk}
use Rattle.std.specs.List.{list_any}
use Rattle.std.proofs.lemmas.List.{drop_all}
use Rattle.std.proofs.lemmas.Bool.{and_parts}
use Rattle.std.proofs.lemmas.Bool.Decides.{nat_tests}
use Rattle.pt_base_values.specs.declared.vehicle.Vehicle.{Vehicle}
use Rattle.pt_travel.specs.Chain.{Row, IsTime}
use Rattle.pt_desk_rules.specs.Booking.{AreTimes}
use Rattle.pt_desk_rules.specs.Fleet.{in_force, is_in_force, is_newer, versions_of}
use Rattle.pt_desk_rules.specs.Sound.{HoldsInForce}
use Rattle.pt_desk_scheduling.specs.Plan.{Plan}
use Rattle.pt_desk_scheduling.specs.declared.planned.PlannedStop.{PlannedStop}
use Rattle.pt_tables_soundness.proofs.EachLemmas.{next_from}

-- rows determine the driving times
time_one : (rows : List Row) (from to : ℕ) (a b : Option ℕ) → IsTime rows from to a → IsTime rows from to b → a ≡ b
time_one rows from to None None one two = refl
time_one rows from to None (Some n) one (within, ((chain, is, total), least)) =
    absurd (let long = one chain is in omega arith)
time_one rows from to (Some m) None (within, ((chain, is, total), least)) two =
    absurd (let long = two chain is in omega arith)
time_one rows from to (Some m) (Some n) (within, ((chain, is, total), least)) (also, ((other, it, sum), least_too)) =
    let below = least other it in
    let above = least_too chain is in
    let same : m ≡ n = omega arith in
    ap Some same

pub minutes_one : (rows : List Row) (a b : ℕ → ℕ → Option ℕ) → AreTimes rows a → AreTimes rows b → a ≡ b
minutes_one rows a b one two = λ i from to. time_one rows from to (a from to) (b from to) (one from to) (two from to) i

-- the property holds for one of these
abbrev pub HasSome : {A : Type 0} → (A → Type 0) → List A → Type 0
HasSome P [] = ⊥
HasSome P (x ∷ xs) = P x ⊎ HasSome P xs

some_at : {A : Type 0} (P : A → Type 0) (xs : List A) (k : ℕ) (a : A) → k < length xs → get_or xs k a ≡ a → P a → HasSome P xs
some_at P [] k a within at holds = absurd (omega arith)
some_at P (x ∷ xs) zero a within at holds = inl (subst P (sym at) holds)
some_at P (x ∷ xs) (suc k) a within at holds = inr (some_at P xs k a (omega arith) at holds)

pub any_some : {A : Type 0} (P : A → Type 0) (xs : List A) → Any P xs → HasSome P xs
any_some P xs (k, a, within, at, holds) = some_at P xs k a within at holds

pub some_any : {A : Type 0} (P : A → Type 0) (xs : List A) → HasSome P xs → Any P xs
some_any P [] some = absurd some
some_any P (x ∷ xs) (inl holds) = (0, x, omega arith, refl, holds)
some_any P (x ∷ xs) (inr rest) =
    let (k, a, within, at, holds) = some_any P xs rest in (suc k, a, omega arith, at, holds)

some_weaker : {A : Type 0} (P Q : A → Type 0) → ((x : A) → P x → Q x) → (xs : List A) → HasSome P xs → HasSome Q xs
some_weaker P Q gives [] some = some
some_weaker P Q gives (x ∷ xs) (inl holds) = inl (gives x holds)
some_weaker P Q gives (x ∷ xs) (inr rest) = inr (some_weaker P Q gives xs rest)

past_kept : {A : Type 0} (P : A → Type 0) (test : A → Bool) (x : A) (ys xs : List A) (b : Bool) → test x ≡ b
    → (HasSome P ys → HasSome (λ y. (test y ≡ true) × P y) xs)
    → HasSome P (cond b (x ∷ ys) ys) → HasSome (λ y. (test y ≡ true) × P y) (x ∷ xs)
past_kept P test x ys xs true is rest (inl holds) = inl (is, holds)
past_kept P test x ys xs true is rest (inr some) = inr (rest some)
past_kept P test x ys xs false is rest some = inr (rest some)

some_kept : {A : Type 0} (P : A → Type 0) (test : A → Bool) (xs : List A) → HasSome P (filter test xs) → HasSome (λ y. (test y ≡ true) × P y) xs
some_kept P test [] some = some
some_kept P test (x ∷ xs) some = past_kept P test x (filter test xs) xs (test x) refl (some_kept P test xs) some

kept_past : {A : Type 0} (P : A → Type 0) (x : A) (ys : List A) (b : Bool) → HasSome P ys → HasSome P (cond b (x ∷ ys) ys)
kept_past P x ys true some = inr some
kept_past P x ys false some = some

kept_some : {A : Type 0} (P : A → Type 0) (test : A → Bool) (xs : List A) → HasSome (λ y. (test y ≡ true) × P y) xs → HasSome P (filter test xs)
kept_some P test [] some = some
kept_some P test (x ∷ xs) (inl (is, holds)) = subst (λ (b : Bool). HasSome P (cond b (x ∷ filter test xs) (filter test xs))) (sym is) (inl holds)
kept_some P test (x ∷ xs) (inr rest) = kept_past P x (filter test xs) (test x) (kept_some P test xs rest)

-- of those that pass one test, the same pass another
any_same : {A : Type 0} (p test : A → Bool) (x : A) (ys xs : List A) (b : Bool) → test x ≡ b → (p x ≡ true → test x ≡ true)
    → list_any p ys ≡ list_any p xs → list_any p (cond b (x ∷ ys) ys) ≡ (p x || list_any p xs)
any_same p test x ys xs true is gives same = ap (λ t. p x || t) same
any_same p test x ys xs false is gives same = same ∙ sym (ap (λ t. t || list_any p xs) (fails (p x) gives is))
  where
    fails : (t : Bool) → (t ≡ true → test x ≡ true) → test x ≡ false → t ≡ false
    fails true gives is = absurd (let yes = gives refl in cc)
    fails false gives is = refl

any_own : {A : Type 0} (p test : A → Bool) → ((x : A) → p x ≡ true → test x ≡ true) → (xs : List A) → list_any p (filter test xs) ≡ list_any p xs
any_own p test gives [] = refl
any_own p test gives (x ∷ xs) = any_same p test x (filter test xs) xs (test x) refl (gives x) (any_own p test gives xs)

is_same : (a b : ℕ) → a ≡ b → (a == b) ≡ true
is_same a b same = grind (arith, nat_tests)

are_same : (a b : ℕ) → (a == b) ≡ true → a ≡ b
are_same a b is = grind (arith, nat_tests)

-- whether a version is in force depends only on its vehicle's versions
force_own : (id day : ℕ) (vehicles : List Vehicle) (x : Vehicle) → x.id ≡ id → is_in_force day (versions_of id vehicles) x ≡ is_in_force day vehicles x
force_own id day vehicles x own =
    ap (λ b. nat_le x.from_day day && not b)
    (any_own (is_newer day x) (λ (v : Vehicle). v.id == id)
    (λ v newer. is_same v.id id (are_same v.id x.id (and_parts _ _ (and_parts _ _ newer).0).0 ∙ own)) vehicles)

serve_own : (id day : ℕ) (P : Vehicle → Type 0) (vehicles : List Vehicle) → Any (λ v. (v.id ≡ id) × P v) (in_force day vehicles)
    → Any P (in_force day (versions_of id vehicles))
serve_own id day P vehicles any =
    let own = versions_of id vehicles in
    some_any P (in_force day own)
    (kept_some P (is_in_force day own) own
    (kept_some (λ v. (is_in_force day own v ≡ true) × P v) (λ (v : Vehicle). v.id == id) vehicles
    (some_weaker (λ v. (is_in_force day vehicles v ≡ true) × ((v.id ≡ id) × P v))
    (λ v. ((v.id == id) ≡ true) × ((is_in_force day own v ≡ true) × P v))
    (λ v is. (is_same v.id id is.1.0, (force_own id day vehicles v is.1.0 ∙ is.0, is.1.1))) vehicles
    (some_kept (λ v. (v.id ≡ id) × P v) (is_in_force day vehicles) vehicles
    (any_some (λ v. (v.id ≡ id) × P v) (in_force day vehicles) any)))))

own_serve : (id day : ℕ) (P : Vehicle → Type 0) (vehicles : List Vehicle) → Any P (in_force day (versions_of id vehicles))
    → Any (λ v. (v.id ≡ id) × P v) (in_force day vehicles)
own_serve id day P vehicles any =
    let own = versions_of id vehicles in
    some_any (λ v. (v.id ≡ id) × P v) (in_force day vehicles)
    (kept_some (λ v. (v.id ≡ id) × P v) (is_in_force day vehicles) vehicles
    (some_weaker (λ v. ((v.id == id) ≡ true) × ((is_in_force day own v ≡ true) × P v))
    (λ v. (is_in_force day vehicles v ≡ true) × ((v.id ≡ id) × P v))
    (λ v is. let same = are_same v.id id is.0 in (sym (force_own id day vehicles v same) ∙ is.1.0, (same, is.1.1))) vehicles
    (some_kept (λ v. (is_in_force day own v ≡ true) × P v) (λ (v : Vehicle). v.id == id) vehicles
    (some_kept P (is_in_force day own) own (any_some P (in_force day own) any)))))

-- a property of a value in a result follows from a stronger one
if_ok : {A E : Type 0} (P Q : A → Type 0) → ((x : A) → P x → Q x) → (r : Result A E) → IfOk r P → IfOk r Q
if_ok P Q gives (Ok x) holds = gives x holds
if_ok P Q gives (Err e) holds = holds

-- a test decides whether the property holds for one of these
abbrev pub Tells : (Vehicle → Type 0) → List Vehicle → Bool → Type 0
Tells P versions b = (IsTrue b → Any P versions) × (Any P versions → IsTrue b)

-- it decides the same for equal rows or stops
pub alike : {X : Type 0} (P : X → Vehicle → Type 0) (x y : X) (versions others : List Vehicle) (b : Bool) → x ≡ y → versions ≡ others
    → Tells (P x) versions b → Tells (P y) others b
alike P x y versions others b same same_versions told =
    subst (λ (vs : List Vehicle). Tells (P y) vs b) same_versions (subst (λ z. Tells (P z) versions b) same told)

pub all_alike : {X E : Type 0} (P : X → Vehicle → Type 0) (x y : X) (versions others : List Vehicle) (r : Result Bool E) → x ≡ y → versions ≡ others
    → IfOk r (Tells (P x) versions) → IfOk r (Tells (P y) others)
all_alike P x y versions others r same same_versions told =
    if_ok (Tells (P x) versions) (Tells (P y) others) (λ b. alike P x y versions others b same same_versions) r told

-- the property holds for one of a vehicle's versions in force exactly if it holds for the vehicle's version in force
holds : (P : Vehicle → Type 0) (vehicles : List Vehicle) (id day : ℕ) (b : Bool) → Tells P (in_force day (versions_of id vehicles)) b
    → (IsTrue b → HoldsInForce P vehicles id day) × (HoldsInForce P vehicles id day → IsTrue b)
holds P vehicles id day b told = (
  λ is. own_serve id day P vehicles (told.0 is),
  λ can. told.1 (serve_own id day P vehicles can),
)

all_hold : {E : Type 0} (P : Vehicle → Type 0) (vehicles versions : List Vehicle) (id day : ℕ) (r : Result Bool E)
    → versions ≡ versions_of id vehicles → IfOk r (Tells P (in_force day versions))
    → IfOk r (λ b. (IsTrue b → HoldsInForce P vehicles id day) × (HoldsInForce P vehicles id day → IsTrue b))
all_hold P vehicles versions id day r is told =
    if_ok (Tells P (in_force day (versions_of id vehicles)))
    (λ b. (IsTrue b → HoldsInForce P vehicles id day) × (HoldsInForce P vehicles id day → IsTrue b))
    (holds P vehicles id day) r (subst (λ (vs : List Vehicle). IfOk r (Tells P (in_force day vs))) is told)

pub some_past : {A : Type 0} (P : A → Type 0) (x : A) (xs : List A) (i : ℕ) (b : Bool) → i < length xs → x ≡ get_or xs i x
    → (P x → IsTrue b) → b ≡ false → (HasSome P xs → HasSome P (drop i xs)) → HasSome P xs → HasSome P (drop (i + 1) xs)
some_past P x xs i b lt at tells not there some =
    left (subst (HasSome P) (next_from x xs i lt at) (there some))
  where
    left : P x ⊎ HasSome P (drop (i + 1) xs) → HasSome P (drop (i + 1) xs)
    left (inl holds) = absurd (let yes = tells holds in cc)
    left (inr rest) = rest

pub is_some : {A : Type 0} (P : A → Type 0) (x : A) (xs : List A) (i : ℕ) → i < length xs → x ≡ get_or xs i x → P x
    → (IsTrue true → Any P xs) × (Any P xs → IsTrue true)
is_some P x xs i lt at holds = (λ is. (i, x, lt, sym at, holds), λ any. refl)

pub is_none : {A : Type 0} (P : A → Type 0) (xs : List A) (i : ℕ) → length xs ≤ i → (HasSome P xs → HasSome P (drop i xs))
    → (IsTrue false → Any P xs) × (Any P xs → IsTrue false)
is_none P xs i end there = (
  λ no. absurd (cc),
  λ any. absurd (subst (HasSome P) (drop_all i xs end) (there (any_some P xs any))),
)

-- the same for the stops of a plan, on its day
pub plan_holds : {E : Type 0} (P : ℕ → List PlannedStop → Vehicle → Type 0) (vehicles versions : List Vehicle) (plan : Plan) (vehicle day : ℕ)
    (planned stops : List PlannedStop) (r : Result Bool E) → plan ≡ record { vehicle = vehicle; day = day; stops = stops } → planned ≡ stops
    → versions ≡ versions_of vehicle vehicles → IfOk r (Tells (P day planned) (in_force day versions))
    → IfOk r (λ b. (IsTrue b → HoldsInForce (P plan.day plan.stops) vehicles plan.vehicle plan.day)
    × (HoldsInForce (P plan.day plan.stops) vehicles plan.vehicle plan.day → IsTrue b))
plan_holds P vehicles versions plan vehicle day planned stops r is same own told =
    subst (λ (p : Plan). IfOk r (λ b. (IsTrue b → HoldsInForce (P p.day p.stops) vehicles p.vehicle p.day)
    × (HoldsInForce (P p.day p.stops) vehicles p.vehicle p.day → IsTrue b))) (sym is)
    (all_hold (P day stops) vehicles versions vehicle day r own
    (subst (λ (ps : List PlannedStop). IfOk r (Tells (P day ps) (in_force day versions))) same told))
