-- The stops of a plan, each by its trip, are a route.
use Rattle.std.proofs.Common.{◌≡◌, ◌≢◌, ◌⊎◌, ℕ, ◌+◌, ◌<◌, ◌≤◌, zero, suc, Bool, true, false, List, [], ◌∷◌, length, Option, Some, None, cond, refl, sym, ap, ◌∙◌, subst, inl, inr, arith}
use Rattle.std.specs.Prelude.{◌==◌, filter, slice_get}
use Rattle.std.specs.List.{list_any}
use Rattle.std.proofs.lemmas.Bool.{or_cases, or_left, or_right}
use Rattle.std.proofs.lemmas.Bool.Decides.{nat_tests}
use Rattle.pt_base_values.specs.declared.trip.Trip.{Trip}
use Rattle.pt_feasible.specs.Pairing.{is_partner, IsPaired, IsPickupThenDrop}
use Rattle.pt_feasible.specs.Stop.{is_pickup, is_drop}
use Rattle.pt_feasible.specs.declared.stop.Stop.{Stop}
use Rattle.pt_feasible.specs.declared.stop.StopKind.{StopKind}
use Rattle.pt_feasible.specs.declared.stop.StopKind.TheVariants.{Pickup, Drop}
use Rattle.pt_base_records.specs.Records.{record_at}
use Rattle.pt_desk_scheduling.specs.Plan.{after_stop, stops_among, stops_of_trip, trip_stop, IsPair}
use Rattle.pt_desk_scheduling.specs.declared.planned.PlannedStop.{PlannedStop}

-- an element of a list
abbrev IsAmong : {X : Type 0} → X → List X → Type 0
IsAmong a [] = ⊥
IsAmong a (x ∷ xs) = (x ≡ a) ⊎ IsAmong a xs

-- an element, and one that comes after it
abbrev ComesBefore : {X : Type 0} → X → X → List X → Type 0
ComesBefore a b [] = ⊥
ComesBefore a b (x ∷ xs) = ((x ≡ a) × IsAmong b xs) ⊎ ComesBefore a b xs

among_at : {X : Type 0} (xs : List X) (k : ℕ) (a : X) → slice_get xs k ≡ Some a → IsAmong a xs
among_at [] k a at = absurd (cc)
among_at (x ∷ xs) zero a at = let same : x ≡ a = cc in inl same
among_at (x ∷ xs) (suc k) a at = inr (among_at xs k a at)

before_at : {X : Type 0} (xs : List X) (i j : ℕ) (a b : X) → i < j → slice_get xs i ≡ Some a → slice_get xs j ≡ Some b → ComesBefore a b xs
before_at [] i j a b lt at then = absurd (cc)
before_at (x ∷ xs) zero zero a b lt at then = absurd (omega arith)
before_at (x ∷ xs) zero (suc j) a b lt at then = let same : x ≡ a = cc in inl (same, among_at xs j b then)
before_at (x ∷ xs) (suc i) zero a b lt at then = absurd (omega arith)
before_at (x ∷ xs) (suc i) (suc j) a b lt at then = inr (before_at xs i j a b (omega arith) at then)

here_kept : {X : Type 0} (a x : X) (ys : List X) (b : Bool) → b ≡ true → x ≡ a → IsAmong a (cond b (x ∷ ys) ys)
here_kept a x ys true passes same = inl same
here_kept a x ys false passes same = absurd (cc)

there_kept : {X : Type 0} (a x : X) (ys : List X) (b : Bool) → IsAmong a ys → IsAmong a (cond b (x ∷ ys) ys)
there_kept a x ys true there = inr there
there_kept a x ys false there = there

-- an element that passes a test stays
among_kept : {X : Type 0} (test : X → Bool) (a : X) (xs : List X) → test a ≡ true → IsAmong a xs → IsAmong a (filter test xs)
among_kept test a [] passes there = there
among_kept test a (x ∷ xs) passes (inl same) = here_kept a x (filter test xs) (test x) (ap test same ∙ passes) same
among_kept test a (x ∷ xs) passes (inr there) = there_kept a x (filter test xs) (test x) (among_kept test a xs passes there)

first_kept : {X : Type 0} (a b x : X) (ys : List X) (p : Bool) → p ≡ true → x ≡ a → IsAmong b ys → ComesBefore a b (cond p (x ∷ ys) ys)
first_kept a b x ys true passes same there = inl (same, there)
first_kept a b x ys false passes same there = absurd (cc)

later_kept : {X : Type 0} (a b x : X) (ys : List X) (p : Bool) → ComesBefore a b ys → ComesBefore a b (cond p (x ∷ ys) ys)
later_kept a b x ys true there = inr there
later_kept a b x ys false there = there

-- and two that pass keep their order
before_kept : {X : Type 0} (test : X → Bool) (a b : X) (xs : List X) → test a ≡ true → test b ≡ true → ComesBefore a b xs → ComesBefore a b (filter test xs)
before_kept test a b [] one two there = there
before_kept test a b (x ∷ xs) one two (inl (same, there)) =
    first_kept a b x (filter test xs) (test x) (ap test same ∙ one) same (among_kept test b xs two there)
before_kept test a b (x ∷ xs) one two (inr there) = later_kept a b x (filter test xs) (test x) (before_kept test a b xs one two there)

any_of : {X : Type 0} (p test : X → Bool) (x : X) (xs ys : List X) (b : Bool) → (list_any p ys ≡ true → list_any p xs ≡ true) → list_any p (cond b (x ∷ ys) ys) ≡ true → list_any p (x ∷ xs) ≡ true
any_of p test x xs ys true gives some = elim (or_cases (p x) (list_any p ys) some) [
  | inl now ↦ or_left (p x) (list_any p xs) now
  | inr later ↦ or_right (p x) (list_any p xs) (gives later)
]
any_of p test x xs ys false gives some = or_right (p x) (list_any p xs) (gives some)

-- what is found among those that pass is found among all
pub any_kept : {X : Type 0} (p test : X → Bool) (xs : List X) → list_any p (filter test xs) ≡ true → list_any p xs ≡ true
any_kept p test [] some = some
any_kept p test (x ∷ xs) some = any_of p test x xs (filter test xs) (test x) (any_kept p test xs) some

-- a record that is found has the key that is looked for
found_here : {A : Type 0} (key : A → ℕ) (k : ℕ) (a x : A) (rest : Option A) (b : Bool) → (key x == k) ≡ b → (rest ≡ Some a → key a ≡ k) → cond b (Some x) rest ≡ Some a → key a ≡ k
found_here key k a x rest true is gives found = let same : x ≡ a = cc in let number : key x ≡ k = grind (arith, nat_tests) in sym (ap key same) ∙ number
found_here key k a x rest false is gives found = gives found

pub found_key : {A : Type 0} (key : A → ℕ) (k : ℕ) (a : A) (xs : List A) → record_at key k xs ≡ Some a → key a ≡ k
found_key key k a [] found = absurd (cc)
found_key key k a (x ∷ xs) found = found_here key k a x (record_at key k xs) (key x == k) refl (found_key key k a xs) found

abbrev pub number_of : Trip → ℕ
number_of trip = trip.id

-- a stop of a trip has the trip's number
pub stop_trip : (kind : StopKind) (trip : Trip) → (trip_stop kind trip).trip ≡ trip.id
stop_trip Pickup trip = refl
stop_trip Drop trip = refl

abbrev pub is_of : ℕ → Stop → Bool
is_of trip stop = stop.trip == trip

among_step : (k : ℕ) (trips : List Trip) (stop : PlannedStop) (found : Option Trip) (rest : List Stop)
    (kept : List PlannedStop) (b : Bool) → record_at (λ trip. trip.id) stop.trip trips ≡ found → (stop.trip == k) ≡ b
    → filter (is_of k) rest ≡ stops_among trips kept → filter (is_of k) (after_stop found stop.kind rest) ≡ stops_among trips (cond b (stop ∷ kept) kept)
among_step k trips stop None rest kept true is same ih = ih ∙ sym (ap (λ f. after_stop f stop.kind (stops_among trips kept)) is)
among_step k trips stop None rest kept false is same ih = ih
among_step k trips stop (Some t) rest kept true is same ih =
    let number : (trip_stop stop.kind t).trip ≡ stop.trip = stop_trip stop.kind t ∙ found_key number_of stop.trip t trips is in
    let passes : is_of k (trip_stop stop.kind t) ≡ true = ap (λ (n : ℕ). n == k) number ∙ same in
    ap (λ b. cond b (trip_stop stop.kind t ∷ filter (is_of k) rest) (filter (is_of k) rest)) passes
    ∙ ap (λ ys. trip_stop stop.kind t ∷ ys) ih ∙ sym (ap (λ f. after_stop f stop.kind (stops_among trips kept)) is)
among_step k trips stop (Some t) rest kept false is same ih =
    let number : (trip_stop stop.kind t).trip ≡ stop.trip = stop_trip stop.kind t ∙ found_key number_of stop.trip t trips is in
    let passes : is_of k (trip_stop stop.kind t) ≡ false = ap (λ (n : ℕ). n == k) number ∙ same in
    ap (λ b. cond b (trip_stop stop.kind t ∷ filter (is_of k) rest) (filter (is_of k) rest)) passes ∙ ih

-- the stops of one trip are those that the plan has of it
pub among_of_trip : (k : ℕ) (trips : List Trip) (stops : List PlannedStop) → filter (is_of k) (stops_among trips stops) ≡ stops_among trips (stops_of_trip k stops)
among_of_trip k trips [] = refl
among_of_trip k trips (stop ∷ later) =
    among_step k trips stop (record_at (λ trip. trip.id) stop.trip trips) (stops_among trips later) (stops_of_trip k later) (stop.trip == k) refl refl (among_of_trip k trips later)

-- a trip's two stops
abbrev pub pair_of : Trip → List Stop
pair_of trip = trip_stop Pickup trip ∷ trip_stop Drop trip ∷ []

abbrev IsPairAmong : List Trip → ℕ → List PlannedStop → Type 0
IsPairAmong trips k stops = (stops_among trips stops ≡ []) ⊎ ((trip : Trip) × (stops_among trips stops ≡ pair_of trip) × (trip.id ≡ k))

pair_step : (k : ℕ) (trips : List Trip) (a b : PlannedStop) (found : Option Trip) → record_at (λ trip. trip.id) k trips ≡ found → a.trip ≡ k → b.trip ≡ k → a.kind ≡ Pickup → b.kind ≡ Drop
    → IsPairAmong trips k (a ∷ b ∷ [])
pair_step k trips a b None is one two first second = inl (rw (one, two, is) refl)
pair_step k trips a b (Some trip) is one two first second = inr (trip, rw (one, two, is, first, second) refl, found_key number_of k trip trips is)

pub is_number : (n k : ℕ) → (n == k) ≡ true → n ≡ k
is_number n k same = grind (arith, nat_tests)

passes : {X : Type 0} (test : X → Bool) (a : X) (xs : List X) → IsAmong a (filter test xs) → test a ≡ true
passes test a [] there = absurd there
passes test a (x ∷ xs) there = passed test a x xs (test x) refl (passes test a xs) there
  where
    passed : {X : Type 0} (test : X → Bool) (a x : X) (xs : List X) (b : Bool) → test x ≡ b
        → (IsAmong a (filter test xs) → test a ≡ true) → IsAmong a (cond b (x ∷ filter test xs) (filter test xs))
        → test a ≡ true
    passed test a x xs true is rest (inl same) = sym (ap test same) ∙ is
    passed test a x xs true is rest (inr there) = rest there
    passed test a x xs false is rest there = rest there

pair_among : (k : ℕ) (trips : List Trip) (all stops : List PlannedStop) → stops_of_trip k all ≡ stops → IsPair stops → IsPairAmong trips k stops
pair_among k trips all [] is pair = inl refl
pair_among k trips all (a ∷ []) is pair = absurd pair
pair_among k trips all (a ∷ b ∷ []) is pair =
    let of_trip : (stop : PlannedStop) → IsAmong stop (a ∷ b ∷ []) → stop.trip ≡ k
    = λ stop there. is_number stop.trip k (passes (λ s. s.trip == k) stop all (subst (λ xs. IsAmong stop xs) (sym is) there)) in
    pair_step k trips a b (record_at (λ trip. trip.id) k trips) refl (of_trip a (inl refl)) (of_trip b (inr (inl refl))) pair.0 pair.1
pair_among k trips all (a ∷ b ∷ c ∷ d) is pair = absurd pair

-- of each trip a route has none, or its pickup and then its drop
pub of_each : (trips : List Trip) (stops : List PlannedStop) → ((trip : ℕ) → IsPair (stops_of_trip trip stops)) → (k : ℕ)
    → (filter (is_of k) (stops_among trips stops) ≡ []) ⊎ ((trip : Trip) × (filter (is_of k) (stops_among trips stops) ≡ pair_of trip) × (trip.id ≡ k))
of_each trips stops paired k = elim (pair_among k trips stops (stops_of_trip k stops) refl (paired k)) [
  | inl none ↦ inl (among_of_trip k trips stops ∙ none)
  | inr (trip, is, number) ↦ inr (trip, among_of_trip k trips stops ∙ is, number)
]

pair_before : (trip : Trip) (first second : Stop) → ComesBefore first second (pair_of trip) → IsPickupThenDrop first second
pair_before trip first second (inl (one, inl two)) = record {
  pickup_first = ap is_pickup (sym one);
  drop_second = ap is_drop (sym two);
  same_service = sym (ap (λ (s : Stop). s.service) one) ∙ ap (λ (s : Stop). s.service) two;
  same_load = sym (ap (λ (s : Stop). s.load) one) ∙ ap (λ (s : Stop). s.load) two;
  same_ride = sym (ap (λ (s : Stop). s.ride) one) ∙ ap (λ (s : Stop). s.ride) two;
}
pair_before trip first second (inl (one, inr two)) = absurd two
pair_before trip first second (inr (inl (one, two))) = absurd two
pair_before trip first second (inr (inr none)) = absurd none

pub eq_self : (n : ℕ) → (n == n) ≡ true
eq_self n = grind (arith, nat_tests)

pair_partner : (trip : Trip) (stop : Stop) → IsAmong stop (pair_of trip) → list_any (is_partner stop) (pair_of trip) ≡ true
pair_partner trip stop (inl is) = subst (λ (s : Stop). list_any (is_partner s) (pair_of trip) ≡ true) is (rw (eq_self trip.id) refl)
pair_partner trip stop (inr (inl is)) = subst (λ (s : Stop). list_any (is_partner s) (pair_of trip) ≡ true) is (rw (eq_self trip.id) refl)
pair_partner trip stop (inr (inr none)) = absurd none

-- the stops of a plan are in pairs
pub paired_among : (trips : List Trip) (stops : List PlannedStop) → ((trip : ℕ) → IsPair (stops_of_trip trip stops)) → IsPaired (stops_among trips stops)
paired_among trips stops paired = record {
  in_order = λ i j first second lt at then same.
      let kept = before_kept (is_of first.trip) first second (stops_among trips stops) (eq_self first.trip) (ap (λ (n : ℕ). n == first.trip) (sym same) ∙ eq_self first.trip)
      (before_at (stops_among trips stops) i j first second lt at then) in
      elim (of_each trips stops paired first.trip) [
        | inl none ↦ absurd (subst (λ xs. ComesBefore first second xs) none kept)
        | inr (trip, is, number) ↦ pair_before trip first second (subst (λ xs. ComesBefore first second xs) is kept)
      ];
  complete = λ i stop at.
      let kept = among_kept (is_of stop.trip) stop (stops_among trips stops) (eq_self stop.trip) (among_at (stops_among trips stops) i stop at) in
      elim (of_each trips stops paired stop.trip) [
        | inl none ↦ absurd (subst (λ xs. IsAmong stop xs) none kept)
        | inr (trip, is, number) ↦ any_kept (is_partner stop) (is_of stop.trip) (stops_among trips stops)
            (ap (list_any (is_partner stop)) is ∙ pair_partner trip stop (subst (λ xs. IsAmong stop xs) is kept))
      ];
}

after_length : (found : Option Trip) (kind : StopKind) (rest : List Stop) → length (after_stop found kind rest) ≤ length rest + 1
after_length None kind rest = omega arith
after_length (Some trip) kind rest = omega arith

-- they are at most as many as the plan has
pub length-among : (trips : List Trip) (stops : List PlannedStop) → length (stops_among trips stops) ≤ length stops
length-among trips [] = omega arith
length-among trips (stop ∷ later) =
    let fewer = length-among trips later in
    let one = after_length (record_at (λ trip. trip.id) stop.trip trips) stop.kind (stops_among trips later) in
    omega (arith, fewer, one)

-- where the plan has no stop of a trip, none is there
pub among_kept_at : (trip : ℕ) (trips : List Trip) (stops : List PlannedStop) (k : ℕ) (stop : Stop)
    → stops_of_trip trip stops ≡ [] → slice_get (stops_among trips stops) k ≡ Some stop → stop.trip ≢ trip
among_kept_at trip trips stops k stop none at same =
    let kept = among_kept (is_of trip) stop (stops_among trips stops) (ap (λ (n : ℕ). n == trip) same ∙ eq_self trip) (among_at (stops_among trips stops) k stop at) in
    let empty : filter (is_of trip) (stops_among trips stops) ≡ [] = among_of_trip trip trips stops ∙ ap (stops_among trips) none in
    subst (λ xs. IsAmong stop xs) empty kept
