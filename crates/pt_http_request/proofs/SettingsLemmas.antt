-- The values that lists spell.
use Rattle.std.proofs.Common.{◌≡◌, ◌∙◌, ℕ, zero, suc, ◌+◌, ◌<◌, List, [], ◌∷◌, ◌++◌, Option, Some, None, Bool, true}
use Rattle.std.proofs.Common.{false, length, get_or, map, take, ap, sym, refl, arith}
use Rattle.std.proofs.lemmas.List.{map-append, take_more, take_all}
use Rattle.std.specs.Prelude.{◌≤◌, ◌==◌, ◌||◌, option_map, option_and_then, slice_set}
use Rattle.pt_base_values.specs.Weekday.{number_of}
use Rattle.pt_base_values.specs.declared.weekday.Weekday.{Weekday}
use Rattle.pt_base_values.specs.declared.weekday.Weekday.TheVariants.{Monday, Tuesday, Wednesday, Thursday, Friday, Saturday}
use Rattle.pt_base_values.specs.declared.weekday.Weekday.TheVariants.{Sunday}
use Rattle.serde_json.specs.Data.{Data}
use Rattle.serde_json.specs.View.{items_of}
use Rattle.pt_http_request.specs.Routes.{values_in, each, point_of, is_among, set_of}

-- ---- lists

-- the values of a list are its values
pub values_in-items : (values : List Data) → values_in (items_of values) ≡ values
values_in-items [] = refl
values_in-items (value ∷ values) = let rest = values_in-items values in cc

-- where each value spells one of these
pub each-some : {A : Type 0} (from : Data → Option A) (values : List Data) (spelled : List A)
    → map from values ≡ map Some spelled → each from values ≡ Some spelled
each-some from [] [] e = refl
each-some from [] (s ∷ spelled) e = cc
each-some from (value ∷ values) [] e = cc
each-some from (value ∷ values) (s ∷ spelled) e =
    let first : from value ≡ Some s = cc in
    let tail : map from values ≡ map Some spelled = cc in
    let rest : each from values ≡ Some spelled = each-some from values spelled tail in
    rw (first, rest) refl

-- if one of them spells nothing, the list spells nothing
pub each-none : {A V : Type 0} (from : Data → Option A) (f : V → Data) (values : List V) (i : ℕ) (value : V)
    → i < length values → value ≡ get_or values i value → from (f value) ≡ None → each from (map f values) ≡ None
each-none from f [] i value below there none = absurd (omega arith)
each-none from f (v ∷ values) zero value below there none =
    let first : from (f v) ≡ None = cc in
    rw first refl
each-none {A} from f (v ∷ values) (suc i) value below there none =
    let rest : each from (map f values) ≡ None = each-none from f values i value (omega arith) there none in
    elim (from (f v)) as (λ (o : Option A). option_and_then (λ first. option_map (λ rest. first ∷ rest)
    (each from (map f values))) o ≡ None) [
      | None ↦ refl
      | Some first ↦ rw rest refl
    ]

-- one more value, read to the end
pub read-more : {A V : Type 0} (from : Data → Option A) (f : V → Data) (values : List V) (i : ℕ) (value : V)
    (spelled : List A) (last : A) → i < length values → value ≡ get_or values i value
    → map from (map f (take i values)) ≡ map Some spelled → from (f value) ≡ Some last
    → map from (map f (take (i + 1) values)) ≡ map Some (spelled ++ last ∷ [])
read-more from f values i value spelled last below there read here =
    let more : take (i + 1) values ≡ take i values ++ value ∷ [] = take_more values i value below
    ∙ ap (λ v. take i values ++ v ∷ []) (sym there) in
    rw more (simp (map-append, read, here))

pub read-all : {A V : Type 0} (from : Data → Option A) (f : V → Data) (values : List V) (i : ℕ) (spelled : List A)
    → length values ≤ i → map from (map f (take i values)) ≡ map Some spelled → each from (map f values) ≡ Some spelled
read-all from f values i spelled past read =
    let all : take i values ≡ values = take_all i values past in
    each-some from (map f values) spelled (rw all at read)

-- a list of a length other than two is not a point
pub not-pair : (values : List Data) → (length values ≡ 2 → ⊥) → point_of values ≡ None
not-pair [] other = refl
not-pair (a ∷ []) other = refl
not-pair (a ∷ b ∷ []) other = absurd (other refl)
not-pair (a ∷ b ∷ c ∷ values) other = refl

-- ---- sets of weekdays

is_among-more : (days : List ℕ) (last day : ℕ) → is_among (days ++ last ∷ []) day ≡ (is_among days day || last == day)
is_among-more [] last day = elim (last == day) as (λ b. (b || false) ≡ b) [ true ↦ refl | false ↦ refl ]
is_among-more (first ∷ days) last day =
    let rest = is_among-more days last day in
    elim (first == day) as (λ b. (b || is_among (days ++ last ∷ []) day) ≡ ((b || is_among days day) || last == day)) [
      | true ↦ refl
      | false ↦ rest
    ]

same-or : (b : Bool) → (b || false) ≡ b
same-or true = refl
same-or false = refl

always-or : (b : Bool) → (b || true) ≡ true
always-or true = refl
always-or false = refl

-- the set of these days and one more
pub set_of-more : (days : List ℕ) (weekday : Weekday) → set_of (days ++ number_of weekday ∷ []) ≡ slice_set
    (set_of days) (number_of weekday) true
set_of-more days Monday = simp (is_among-more, same-or, always-or)
set_of-more days Tuesday = simp (is_among-more, same-or, always-or)
set_of-more days Wednesday = simp (is_among-more, same-or, always-or)
set_of-more days Thursday = simp (is_among-more, same-or, always-or)
set_of-more days Friday = simp (is_among-more, same-or, always-or)
set_of-more days Saturday = simp (is_among-more, same-or, always-or)
set_of-more days Sunday = simp (is_among-more, same-or, always-or)
