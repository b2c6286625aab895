-- A trip's stops, read one after another.
use Rattle.std.proofs.Common.{◌≡◌, inl, inr, ℕ, ◌+◌, ◌<◌, ◌≤◌, Bool, true, false, IsTrue, List, [], ◌∷◌, length, cond, refl, sym, ap, ◌∙◌, subst, arith, drop, get_or, Some, None}
use Rattle.std.specs.Prelude.{◌==◌}
use Rattle.std.proofs.lemmas.List.{drop_all}
use Rattle.std.proofs.lemmas.Bool.Decides.{nat_tests}
use Rattle.pt_base_records.specs.Records.{Each}
use Rattle.pt_feasible.specs.declared.stop.StopKind.{StopKind}
use Rattle.pt_feasible.specs.declared.stop.StopKind.TheVariants.{Pickup, Drop}
use Rattle.pt_desk_scheduling.specs.Plan.{stops_of_trip, IsPair}
use Rattle.pt_desk_scheduling.specs.declared.planned.PlannedStop.{PlannedStop}
use Rattle.pt_tables_soundness.specs.Pairs.{met_after, met_with, IsRestAfter}
use Rattle.pt_tables_soundness.specs.declared.pairs.Met.{Met}
use Rattle.pt_tables_soundness.specs.declared.pairs.Met.TheVariants as met
use Rattle.pt_tables_soundness.proofs.EachLemmas.{next_from}
use Rattle.pt_tables_soundness.proofs.FleetLemmas.{each_of, one_of}

not_drop : Pickup ≡ Drop → ⊥
not_drop is = cc

forth : (m : Met) (kind : StopKind) (next : Met) (x : PlannedStop) (later : List PlannedStop) → x.kind ≡ kind → met_with m kind ≡ Some next
    → IsRestAfter next later → IsRestAfter m (x ∷ later)
forth met.Nothing Pickup met.Nothing x later kind is rest = absurd (cc)
forth met.Nothing Pickup met.Pickup x [] kind is rest = rest
forth met.Nothing Pickup met.Pickup x (y ∷ []) kind is rest = (kind, rest)
forth met.Nothing Pickup met.Pickup x (y ∷ z ∷ later) kind is rest = rest
forth met.Nothing Pickup met.Both x later kind is rest = absurd (cc)
forth met.Nothing Drop next x later kind is rest = absurd (cc)
forth met.Pickup Pickup next x later kind is rest = absurd (cc)
forth met.Pickup Drop met.Nothing x later kind is rest = absurd (cc)
forth met.Pickup Drop met.Pickup x later kind is rest = absurd (cc)
forth met.Pickup Drop met.Both x [] kind is rest = kind
forth met.Pickup Drop met.Both x (y ∷ later) kind is rest = rest
forth met.Both Pickup next x later kind is rest = absurd (cc)
forth met.Both Drop next x later kind is rest = absurd (cc)

back : (m : Met) (kind : StopKind) (next : Met) (x : PlannedStop) (later : List PlannedStop) → x.kind ≡ kind → met_with m kind ≡ Some next
    → IsRestAfter m (x ∷ later) → IsRestAfter next later
back met.Nothing Pickup met.Nothing x later kind is rest = absurd (cc)
back met.Nothing Pickup met.Pickup x [] kind is rest = rest
back met.Nothing Pickup met.Pickup x (y ∷ []) kind is rest = rest.1
back met.Nothing Pickup met.Pickup x (y ∷ z ∷ later) kind is rest = rest
back met.Nothing Pickup met.Both x later kind is rest = absurd (cc)
back met.Nothing Drop next x later kind is rest = absurd (cc)
back met.Pickup Pickup next x later kind is rest = absurd (cc)
back met.Pickup Drop met.Nothing x later kind is rest = absurd (cc)
back met.Pickup Drop met.Pickup x later kind is rest = absurd (cc)
back met.Pickup Drop met.Both x [] kind is rest = tt
back met.Pickup Drop met.Both x (y ∷ later) kind is rest = rest
back met.Both Pickup next x later kind is rest = absurd (cc)
back met.Both Drop next x later kind is rest = absurd (cc)

none_comes : (m : Met) (kind : StopKind) (x : PlannedStop) (later : List PlannedStop) → x.kind ≡ kind → met_with m kind ≡ None
    → IsRestAfter m (x ∷ later) → ⊥
none_comes met.Nothing Pickup x later kind is rest = absurd (cc)
none_comes met.Nothing Drop x [] kind is rest = rest
none_comes met.Nothing Drop x (y ∷ []) kind is rest = not_drop (sym rest.0 ∙ kind)
none_comes met.Nothing Drop x (y ∷ z ∷ later) kind is rest = rest
none_comes met.Pickup Pickup x [] kind is rest = not_drop (sym kind ∙ rest)
none_comes met.Pickup Pickup x (y ∷ later) kind is rest = rest
none_comes met.Pickup Drop x later kind is rest = absurd (cc)
none_comes met.Both Pickup x later kind is rest = rest
none_comes met.Both Drop x later kind is rest = rest

-- the rest after a stop, whether it is of the trip or not
after_forth : (b : Bool) (m next : Met) (x : PlannedStop) (ys : List PlannedStop) → cond b (met_with m x.kind) (Some m) ≡ Some next
    → IsRestAfter next ys → IsRestAfter m (cond b (x ∷ ys) ys)
after_forth true m next x ys is rest = forth m x.kind next x ys refl is rest
after_forth false m next x ys is rest = let same : m ≡ next = cc in subst (λ (k : Met). IsRestAfter k ys) (sym same) rest

after_back : (b : Bool) (m next : Met) (x : PlannedStop) (ys : List PlannedStop) → cond b (met_with m x.kind) (Some m) ≡ Some next
    → IsRestAfter m (cond b (x ∷ ys) ys) → IsRestAfter next ys
after_back true m next x ys is rest = back m x.kind next x ys refl is rest
after_back false m next x ys is rest = let same : m ≡ next = cc in subst (λ (k : Met). IsRestAfter k ys) same rest

after_none : (b : Bool) (m : Met) (x : PlannedStop) (ys : List PlannedStop) → cond b (met_with m x.kind) (Some m) ≡ None
    → IsRestAfter m (cond b (x ∷ ys) ys) → ⊥
after_none true m x ys is rest = none_comes m x.kind x ys refl is rest
after_none false m x ys is rest = absurd (cc)

pub rest_forth : (trip i : ℕ) (m next : Met) (x : PlannedStop) (xs : List PlannedStop) → i < length xs → x ≡ get_or xs i x
    → Some next ≡ met_after trip m x
    → (IsRestAfter m (stops_of_trip trip (drop i xs)) → IsPair (stops_of_trip trip xs))
    → IsRestAfter next (stops_of_trip trip (drop (i + 1) xs)) → IsPair (stops_of_trip trip xs)
rest_forth trip i m next x xs lt at is whole rest =
    whole (subst (λ (ys : List PlannedStop). IsRestAfter m (stops_of_trip trip ys)) (sym (next_from x xs i lt at))
    (after_forth (x.trip == trip) m next x (stops_of_trip trip (drop (i + 1) xs)) (sym is) rest))

pub rest_back : (trip i : ℕ) (m next : Met) (x : PlannedStop) (xs : List PlannedStop) → i < length xs → x ≡ get_or xs i x
    → Some next ≡ met_after trip m x
    → (IsPair (stops_of_trip trip xs) → IsRestAfter m (stops_of_trip trip (drop i xs)))
    → IsPair (stops_of_trip trip xs) → IsRestAfter next (stops_of_trip trip (drop (i + 1) xs))
rest_back trip i m next x xs lt at is whole pair =
    after_back (x.trip == trip) m next x (stops_of_trip trip (drop (i + 1) xs)) (sym is)
    (subst (λ (ys : List PlannedStop). IsRestAfter m (stops_of_trip trip ys)) (next_from x xs i lt at) (whole pair))

pub no_pair : (trip i : ℕ) (m : Met) (x : PlannedStop) (xs : List PlannedStop) → i < length xs → x ≡ get_or xs i x
    → None ≡ met_after trip m x
    → (IsPair (stops_of_trip trip xs) → IsRestAfter m (stops_of_trip trip (drop i xs)))
    → (IsTrue false → IsPair (stops_of_trip trip xs)) × (IsPair (stops_of_trip trip xs) → IsTrue false)
no_pair trip i m x xs lt at is whole = (
  λ none. absurd (cc),
  λ pair. absurd (after_none (x.trip == trip) m x (stops_of_trip trip (drop (i + 1) xs)) (sym is)
      (subst (λ (ys : List PlannedStop). IsRestAfter m (stops_of_trip trip ys)) (next_from x xs i lt at) (whole pair))),
)

pub whole_pair : (trip i : ℕ) (m : Met) (xs : List PlannedStop) (b : Bool) → length xs ≤ i
    → (IsTrue b → IsRestAfter m []) → (IsRestAfter m [] → IsTrue b)
    → (IsRestAfter m (stops_of_trip trip (drop i xs)) → IsPair (stops_of_trip trip xs))
    → (IsPair (stops_of_trip trip xs) → IsRestAfter m (stops_of_trip trip (drop i xs)))
    → (IsTrue b → IsPair (stops_of_trip trip xs)) × (IsPair (stops_of_trip trip xs) → IsTrue b)
whole_pair trip i m xs b end tells told forth back =
    let none : stops_of_trip trip (drop i xs) ≡ [] = ap (stops_of_trip trip) (drop_all i xs end) in (
      λ is. forth (subst (IsRestAfter m) (sym none) (tells is)),
      λ pair. told (subst (IsRestAfter m) none (back pair)),
    )

same_number : (a b : ℕ) → (a == b) ≡ true → a ≡ b
same_number a b is = grind (arith, nat_tests)

-- if the trips that have stops are pairs, all are
pub pairs_of_all : (stops : List PlannedStop) → Each (λ stop. IsPair (stops_of_trip stop.trip stops)) stops
    → (trip : ℕ) → IsPair (stops_of_trip trip stops)
pairs_of_all stops each trip = elim (one_of (λ (s : PlannedStop). IsPair (stops_of_trip s.trip stops)) (λ (s : PlannedStop). s.trip == trip) stops each) [
  | inl none ↦ subst IsPair (sym none) tt
  | inr (stop, is, pair) ↦ subst (λ (n : ℕ). IsPair (stops_of_trip n stops)) (same_number stop.trip trip is) pair
]

pub pairs_each : (stops : List PlannedStop) → ((trip : ℕ) → IsPair (stops_of_trip trip stops))
    → Each (λ stop. IsPair (stops_of_trip stop.trip stops)) stops
pairs_each stops all = each_of (λ (s : PlannedStop). IsPair (stops_of_trip s.trip stops)) (λ s. all s.trip) stops
