-- What is taken from bytes that begin with the spelling of a value.
use Rattle.std.proofs.Common.{◌≡◌, ℕ, zero, suc, ◌<◌, ◌≤◌, Bool, true, false, List, [], ◌∷◌, ◌++◌, length}
use Rattle.std.proofs.Common.{append-nil, append_assoc, Option, Some, None, Ok, Err, refl, sym, ap, subst, ◌∙◌, arith}
use Rattle.std.proofs.lemmas.Bool.{cond-false, ne_eqb}
use Rattle.std.proofs.lemmas.Bool.Decides.{nat_tests}
use Rattle.std.specs.Int.{from_bool}
use Rattle.std.specs.Option.{unwrap_or, option_map}
use Rattle.std.specs.Ordering.{is_gt, nat_cmp}
use Rattle.std.specs.Prelude.{IfSome, IsNone, ◌==◌, ◌↔◌, Result, IsOk, IfOk}
use Rattle.std.specs.Result.{result_ok}
use Rattle.pt_base_values.specs.declared.fault.Fault.{Fault}
use Rattle.pt_base_values.specs.declared.place.Place.{Place}
use Rattle.pt_base_values.specs.declared.rider.Rider.{Rider}
use Rattle.pt_base_values.specs.declared.trip.Wish.{Wish}
use Rattle.pt_base_values.specs.declared.vehicle.Vehicle.{Vehicle}
use Rattle.pt_rights_conditions.proofs.TextLemmas.{condition_text-injective}
use Rattle.pt_rights_conditions.specs.Texts.{condition_text, SpellsCondition}
use Rattle.pt_corridor.specs.Route.{FixedRoute, IsFixedRoute}
use Rattle.pt_desk_requests.specs.declared.caller.Caller.{Caller}
use Rattle.pt_rights_files.specs.Conditions.{IsCondition}
use Rattle.pt_rights_files.specs.declared.conditions.Condition.{Condition}
use Rattle.pt_desk_spelling.specs.Fields.{number_bytes, numbers_bytes, truth_bytes, days_byte, optional_bytes, list_bytes}
use Rattle.pt_desk_spelling.specs.Requests.{role_number, subject_of, caller_bytes, point_bytes, place_bytes, route_bytes}
use Rattle.pt_desk_spelling.specs.Requests.{chairs_bytes, vehicle_bytes, kind_number, wheelchair_bytes, rider_bytes}
use Rattle.pt_desk_spelling.specs.Requests.{wish_bytes}
use Rattle.pt_desk_spelling.specs.Ranges.{IsWeek}
use Rattle.pt_desk_spelling.proofs.FieldLemmas.{length-number}
use Rattle.pt_desk_spelling_reading.specs.Reading.{Takes, Finds}

-- if nothing follows the value, what is taken is found
pub taken-whole : {A : Type 0} (written : A → List ℕ) (Fits : A → Type 0) (bytes left : List ℕ) (found : Option A)
    → Takes written Fits bytes found left → Finds written Fits bytes found
taken-whole written Fits bytes left found takes x fits e = (takes x [] fits (e ∙ sym (append-nil (written x)))).0

pub some-same : {A : Type 0} (a b : A) → Some a ≡ Some b → a ≡ b
some-same a b e = ap (λ found. unwrap_or found a) e

-- only one value can be found
pub found-same : {A : Type 0} (found : Option A) (a b : A) → found ≡ Some a → found ≡ Some b → a ≡ b
found-same found a b is only = some-same a b (sym is ∙ only)

pub none-found : {A : Type 0} (found : Option A) (x : A) → found ≡ None → found ≡ Some x → ⊥
none-found found x none only = absurd (cc)

pub mapped-none : {A B : Type 0} (f : A → B) (found : Option A) (x : B) → found ≡ None → option_map f found ≡ Some x → ⊥
mapped-none f None x none only = none-found None x refl only
mapped-none f (Some a) x none only = absurd (cc)

pub mapped-some : {A B : Type 0} (f : A → B) (found : Option A) (a : A) (x : B) → found ≡ Some a
    → option_map f found ≡ Some x → f a ≡ x
mapped-some f found a x is only = some-same (f a) x (sym (ap (option_map f) is) ∙ only)

-- ---- the parts of spellings, with the first part split off

pub caller-parts : (caller : Caller) → caller_bytes caller ≡ number_bytes caller.id
    ++ (role_number caller.role ∷ (number_bytes (subject_of caller.role) ++ caller.digest))
caller-parts caller = simp append_assoc

pub place-parts : (place : Place)
    → place_bytes place ≡ number_bytes place.id ++ (point_bytes place.at ++ truth_bytes place.core)
place-parts place = append_assoc (number_bytes place.id) (point_bytes place.at) (truth_bytes place.core)

pub rider-parts : (rider : Rider) → rider_bytes rider ≡ number_bytes rider.id
    ++ (kind_number rider.kind ∷ (truth_bytes rider.attendant ++ wheelchair_bytes rider.wheelchair))
rider-parts rider = simp append_assoc

pub vehicle-parts : (version : Vehicle) → vehicle_bytes version ≡ number_bytes version.id
    ++ (number_bytes version.from_day ++ (days_byte version.days ∷ (number_bytes version.depot
    ++ (number_bytes version.capacity ++ (number_bytes version.opens ++ (number_bytes version.closes
    ++ (number_bytes version.duration ++ chairs_bytes version.chairs)))))))
vehicle-parts version = simp append_assoc

pub wish-parts : (wish : Wish) → wish_bytes wish ≡ number_bytes wish.day
    ++ (number_bytes wish.pickup ++ (number_bytes wish.from ++ (number_bytes wish.to
    ++ (optional_bytes wish.by ++ (truth_bytes wish.attendant ++ number_bytes wish.companions)))))
wish-parts wish = simp append_assoc

pub route-parts : (route : FixedRoute) → route_bytes route ≡ number_bytes route.id ++ (number_bytes route.width
    ++ (list_bytes point_bytes route.points ++ (truth_bytes route.accessible
    ++ (days_byte route.days ∷ numbers_bytes (route.first ∷ route.last ∷ [])))))
route-parts route = simp append_assoc

-- a fixed route is found if it meets the limits of fixed routes
pub route-found : (found : Result FixedRoute Fault) (made route : FixedRoute) → made ≡ route → IsFixedRoute route
    → (IsOk found ↔ IsFixedRoute made) → IfOk found (λ r. r ≡ made) → result_ok found ≡ Some route
route-found (Ok r) made route same fixed accepted value = ap (λ (x : FixedRoute). Some x) (value ∙ same)
route-found (Err f) made route same fixed accepted value =
    let ok = accepted.1 (subst IsFixedRoute (sym same) fixed) in absurd (cc)

-- ---- hours

pub not-after : (a b : ℕ) → a ≤ b → is_gt (nat_cmp a b) ≡ true → ⊥
not-after a b before after = grind (arith, nat_tests)

-- ---- wheelchair places

pub chairs-some : (chairs : ℕ) → 1 ≤ chairs → chairs_bytes chairs ≡ number_bytes chairs
chairs-some chairs some = cond-false (chairs == 0) [] (number_bytes chairs) (ne_eqb chairs 0 (omega arith))

pub no-bytes : (bytes : List ℕ) (empty : Bool) → empty ≡ (length bytes == 0) → empty ≡ true → length bytes ≡ 0
no-bytes bytes empty test is = grind (arith, nat_tests)

pub some-bytes : (bytes : List ℕ) (empty : Bool) → empty ≡ (length bytes == 0) → empty ≡ false → 1 ≤ length bytes
some-bytes bytes empty test is = grind (arith, nat_tests)

-- empty bytes spell no wheelchair places
pub no-chairs : (bytes : List ℕ) (chairs : ℕ) → length bytes ≡ 0 → bytes ≡ chairs_bytes chairs → chairs ≡ 0
no-chairs bytes zero size e = refl
no-chairs bytes (suc more) size e =
    let four = ap (length {A = ℕ}) (e ∙ chairs-some (suc more) (omega arith)) in
    absurd (omega (arith, four, length-number (suc more)))

-- and other bytes spell their number
pub some-chairs : (bytes : List ℕ) (chairs : ℕ) → 1 ≤ length bytes → bytes ≡ chairs_bytes chairs
    → (1 ≤ chairs) × (bytes ≡ number_bytes chairs)
some-chairs bytes zero size e = absurd (let none = ap (length {A = ℕ}) e in omega arith)
some-chairs bytes (suc more) size e = (omega arith, e ∙ chairs-some (suc more) (omega arith))

-- ---- conditions

pub condition-found : (found : Option Condition) (text : List ℕ) (x : Condition) → IfSome found (SpellsCondition text)
    → (IsNone found → (c : Condition) → ¬ (SpellsCondition text c)) → IsCondition x → text ≡ condition_text x
    → found ≡ Some x
condition-found None text x spelled none fits e = absurd (none refl x (fits, e))
condition-found (Some y) text x spelled none fits e =
    ap (λ (c : Condition). Some c) (condition_text-injective y x spelled.0 fits (sym spelled.1 ∙ e))

-- ---- weekdays

bool-small : (mark : Bool) → from_bool mark ≤ 1
bool-small false = omega arith
bool-small true = omega arith

-- seven bits
pub week-few : (days : List Bool) → IsWeek days → days_byte days < 128
week-few (a ∷ b ∷ c ∷ d ∷ e ∷ f ∷ g ∷ []) week =
    let a_bit = bool-small a in
    let b_bit = bool-small b in
    let c_bit = bool-small c in
    let d_bit = bool-small d in
    let e_bit = bool-small e in
    let f_bit = bool-small f in
    let g_bit = bool-small g in
    omega arith
week-few days week = absurd (omega arith)
