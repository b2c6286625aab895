-- The stops of a route with a trip put in, by their places; and that they are in pairs.
use Rattle.std.proofs.Common.{◌≡◌, ℕ, suc, ◌+◌, ◌-◌, ◌<◌, ◌≤◌, List, ◌∷◌, ◌++◌, Some, length, take, drop, slice_get, ◌∙◌, arith, length-append, length-drop}
use Rattle.std.proofs.lemmas.List.{length-take-le}
use Rattle.pt_feasible.specs.declared.stop.Stop.{Stop}
use Rattle.pt_insertion_search.specs.declared.asked.Asked.{Asked}
use Rattle.pt_insertion_search.specs.Asked.{pickup_stop, drop_stop}
use Rattle.pt_insertion_search.specs.Insertion.{with_trip}
use Rattle.pt_insertion_search.proofs.ListLemmas.{slice_get-append_left, slice_get-append_right, slice_get-take, slice_get-drop}

-- how many stops come before the drop
length_before_drop : (asked : Asked) (i j : ℕ) (stops : List Stop) → i ≤ j → j ≤ length stops →
    length (take i stops ++ pickup_stop asked ∷ drop i (take j stops)) ≡ j + 1
length_before_drop asked i j stops h g =
    let first : length (take i stops) ≡ i = length-take-le i stops (omega arith) in
    let both : length (take j stops) ≡ j = length-take-le j stops g in
    omega (arith, length-append (take i stops) (pickup_stop asked ∷ drop i (take j stops)), length-drop i (take j stops))

pub length-with_trip : (asked : Asked) (i j : ℕ) (stops : List Stop) → i ≤ j → j ≤ length stops →
    length (with_trip asked i j stops) ≡ length stops + 2
unfolding with_trip
length-with_trip asked i j stops h g =
    omega (
      arith,
      length_before_drop asked i j stops h g,
      length-drop j stops,
      length-append (take i stops ++ pickup_stop asked ∷ drop i (take j stops)) (drop_stop asked ∷ drop j stops),
    )

-- the stops before the pickup
pub with_trip_before : (asked : Asked) (i j : ℕ) (stops : List Stop) (k : ℕ) → i ≤ j → j ≤ length stops → k < i →
    slice_get (with_trip asked i j stops) k ≡ slice_get stops k
unfolding with_trip
with_trip_before asked i j stops k h g before =
    let first : length (take i stops) ≡ i = length-take-le i stops (omega arith) in
    slice_get-append_left (take i stops ++ pickup_stop asked ∷ drop i (take j stops)) (drop_stop asked ∷ drop j stops) k
    (omega (arith, length_before_drop asked i j stops h g))
    ∙ slice_get-append_left (take i stops) (pickup_stop asked ∷ drop i (take j stops)) k (omega arith)
    ∙ slice_get-take i stops k before

-- the pickup
pub with_trip_pickup : (asked : Asked) (i j : ℕ) (stops : List Stop) → i ≤ j → j ≤ length stops →
    slice_get (with_trip asked i j stops) i ≡ Some (pickup_stop asked)
unfolding with_trip
with_trip_pickup asked i j stops h g =
    let first : length (take i stops) ≡ i = length-take-le i stops (omega arith) in
    slice_get-append_left (take i stops ++ pickup_stop asked ∷ drop i (take j stops)) (drop_stop asked ∷ drop j stops) i
    (omega (arith, length_before_drop asked i j stops h g))
    ∙ slice_get-append_right (take i stops) (pickup_stop asked ∷ drop i (take j stops)) i 0 (omega arith)

-- the stops between the pickup and the drop
pub with_trip_between : (asked : Asked) (i j : ℕ) (stops : List Stop) (k m : ℕ) → i ≤ j → j ≤ length stops →
    i ≤ m → m < j → k ≡ m + 1 → slice_get (with_trip asked i j stops) k ≡ slice_get stops m
unfolding with_trip
with_trip_between asked i j stops k m h g after before e =
    let first : length (take i stops) ≡ i = length-take-le i stops (omega arith) in
    slice_get-append_left (take i stops ++ pickup_stop asked ∷ drop i (take j stops)) (drop_stop asked ∷ drop j stops) k
    (omega (arith, length_before_drop asked i j stops h g))
    ∙ slice_get-append_right (take i stops) (pickup_stop asked ∷ drop i (take j stops)) k (suc (m - i)) (omega arith)
    ∙ slice_get-drop i (take j stops) (m - i) m (omega arith)
    ∙ slice_get-take j stops m before

-- the drop
pub with_trip_drop : (asked : Asked) (i j : ℕ) (stops : List Stop) (k : ℕ) → i ≤ j → j ≤ length stops → k ≡ j + 1 →
    slice_get (with_trip asked i j stops) k ≡ Some (drop_stop asked)
unfolding with_trip
with_trip_drop asked i j stops k h g e =
    slice_get-append_right (take i stops ++ pickup_stop asked ∷ drop i (take j stops)) (drop_stop asked ∷ drop j stops) k 0
    (omega (arith, length_before_drop asked i j stops h g))

-- the stops after the drop
pub with_trip_after : (asked : Asked) (i j : ℕ) (stops : List Stop) (k m : ℕ) → i ≤ j → j ≤ length stops →
    j ≤ m → k ≡ m + 2 → slice_get (with_trip asked i j stops) k ≡ slice_get stops m
unfolding with_trip
with_trip_after asked i j stops k m h g after e =
    slice_get-append_right (take i stops ++ pickup_stop asked ∷ drop i (take j stops)) (drop_stop asked ∷ drop j stops) k (suc (m - j))
    (omega (arith, length_before_drop asked i j stops h g))
    ∙ slice_get-drop j stops (m - j) m (omega arith)
