-- Loads that fit a vehicle still fit when a trip is taken out.
use Rattle.std.proofs.Common.{◌≡◌, ℕ, zero, suc, ◌+◌, ◌<◌, ◌≤◌, Bool, true, false, not, cond, ◌==◌, ◌⊎◌, List, []}
use Rattle.std.proofs.Common.{◌∷◌, Some, length, take, filter, slice_get, inl, inr, refl, ap, sym, subst, ◌∙◌, arith}
use Rattle.std.proofs.lemmas.Bool.{and_parts, eqb-true, cases_lt, cases_order, false≢true}
use Rattle.std.proofs.lemmas.List.{length-take}
use Rattle.std.proofs.lemmas.Option.{slice_get_within}
use Rattle.pt_feasible.specs.declared.stop.Stop.{Stop}
use Rattle.pt_feasible.specs.declared.stop.StopKind.TheVariants.{Pickup, Drop}
use Rattle.pt_feasible.specs.Stop.{is_pickup, is_drop, takes_aboard, lets_leave}
use Rattle.pt_base_values.specs.Load.{IsWithin, FitsWithin, room_of}
use Rattle.pt_base_values.specs.declared.load.Load.{Load}
use Rattle.pt_base_values.proofs.LoadLemmas.{within_more}
use Rattle.pt_feasible.proofs.LoadLemmas.{total_of, aboard-within}
use Rattle.pt_feasible.specs.Loads.{load_aboard}
use Rattle.pt_feasible.specs.Pairing.{IsPickupThenDrop, is_partner, IsPaired}
use Rattle.pt_insertion_search.specs.Removal.{is_of_another, without_trip, KeepsFittingLoads}
use Rattle.pt_insertion_search.proofs.ListLemmas.{slice_get-take, list_any_to}
use Rattle.pt_insertion_search.proofs.RemovalLemmas.{old_place, slice_get-filter, filter_keeps, old_place-rises, old_place-end, take-filter}
use Rattle.pt_insertion_search.proofs.RemovalPairing.{partner_trip}

-- the stop belongs to the trip
abbrev is_of : ℕ → Stop → Bool
is_of trip stop = not (is_of_another trip stop)

-- one part of the loads of a list are those of the other trips and those of the trip
total_of_parts : (part : Load → ℕ) (trip : ℕ) (q : Stop → Bool) (stops : List Stop) →
    total_of part (filter q stops) ≡ total_of part (filter q (filter (is_of_another trip) stops)) + total_of part (filter q (filter (is_of trip) stops))
total_of_parts part trip q [] = refl
total_of_parts part trip q (stop ∷ stops) =
    let rest : total_of part (filter q stops) ≡ total_of part (filter q (filter (is_of_another trip) stops)) + total_of part (filter q (filter (is_of trip) stops)) =
    total_of_parts part trip q stops in
    elim (is_of_another trip stop) as (λ v. total_of part (cond (q stop) (stop ∷ filter q stops) (filter q stops))
    ≡ total_of part (filter q (cond v (stop ∷ filter (is_of_another trip) stops) (filter (is_of_another trip) stops)))
    + total_of part (filter q (cond (not v) (stop ∷ filter (is_of trip) stops) (filter (is_of trip) stops)))) [
      | true ↦ elim (q stop) as (λ w. total_of part (cond w (stop ∷ filter q stops) (filter q stops))
          ≡ total_of part (cond w (stop ∷ filter q (filter (is_of_another trip) stops)) (filter q (filter (is_of_another trip) stops)))
          + total_of part (filter q (filter (is_of trip) stops))) [
            | true ↦ omega arith
            | false ↦ rest
          ]
      | false ↦ elim (q stop) as (λ w. total_of part (cond w (stop ∷ filter q stops) (filter q stops))
          ≡ total_of part (filter q (filter (is_of_another trip) stops))
          + total_of part (cond w (stop ∷ filter q (filter (is_of trip) stops)) (filter q (filter (is_of trip) stops)))) [
            | true ↦ omega arith
            | false ↦ rest
          ]
    ]

-- a stop is a pickup or a drop, not both
pickup_or_drop : (stop : Stop) → ((is_pickup stop ≡ true) × (is_drop stop ≡ false)) ⊎ ((is_pickup stop ≡ false) × (is_drop stop ≡ true))
pickup_or_drop stop = elim stop.kind as (λ kind. ((takes_aboard kind ≡ true) × (lets_leave kind ≡ false)) ⊎ ((takes_aboard kind ≡ false) × (lets_leave kind ≡ true))) [
  | Pickup ↦ inl (refl, refl)
  | Drop ↦ inr (refl, refl)
]

pickup_is_no_drop : (stop : Stop) → is_pickup stop ≡ true → is_drop stop ≡ false
pickup_is_no_drop stop comes = elim (pickup_or_drop stop) [
  | inl (_, stays) ↦ stays
  | inr (waits, _) ↦ absurd (false≢true (sym waits ∙ comes))
]

drop_is_no_pickup : (stop : Stop) → is_drop stop ≡ true → is_pickup stop ≡ false
drop_is_no_pickup stop leaves = elim (pickup_or_drop stop) [
  | inl (_, stays) ↦ absurd (false≢true (sym stays ∙ leaves))
  | inr (waits, _) ↦ waits
]

-- the partner of a drop is a pickup
partner_comes : (stop partner : Stop) → is_drop stop ≡ true → is_partner stop partner ≡ true → is_pickup partner ≡ true
partner_comes stop partner leaves passes =
    let other : cond (is_pickup stop) (is_drop partner) (is_pickup partner) ≡ true =
    (and_parts (stop.trip == partner.trip) (cond (is_pickup stop) (is_drop partner) (is_pickup partner)) passes).1 in
    let waits : is_pickup stop ≡ false = drop_is_no_pickup stop leaves in
    rw waits at other

-- a stop that does not belong to another trip belongs to the trip
trip_is : (trip : ℕ) (stop : Stop) → is_of trip stop ≡ true → stop.trip ≡ trip
trip_is trip stop h = eqb-true stop.trip trip (twice (stop.trip == trip) h)
  where
    twice : (b : Bool) → not (not b) ≡ true → b ≡ true
    twice true e = refl
    twice false e = e

-- a stop in the front of a route is at the same position there
front : (n : ℕ) (stops : List Stop) (k : ℕ) (stop : Stop) → slice_get (take n stops) k ≡ Some stop →
    (k < n) × (slice_get stops k ≡ Some stop)
front n stops k stop e =
    let within : k < length (take n stops) = slice_get_within (take n stops) k stop e in
    let below : k < n = omega (arith, length-take n stops) in
    (below, sym (slice_get-take n stops k below) ∙ e)

-- the pickup of a drop's trip comes before it
earlier : (stops : List Stop) → IsPaired stops → (k l : ℕ) (pickup drop : Stop) → slice_get stops k ≡ Some pickup →
    slice_get stops l ≡ Some drop → is_drop drop ≡ true → is_pickup pickup ≡ true → pickup.trip ≡ drop.trip → k < l
earlier stops paired k l pickup drop ek el leaves comes same =
    elim (cases_order k l) [
      | inl here ↦
          let one : Some pickup ≡ Some drop = sym ek ∙ ap (slice_get stops) here ∙ el in
          let stop : pickup ≡ drop = cc in
          absurd (false≢true (sym (pickup_is_no_drop pickup comes) ∙ ap is_drop stop ∙ leaves))
      | inr order ↦ elim order [
        | inl before ↦ before
        | inr after ↦ absurd (false≢true
            (sym (drop_is_no_pickup drop leaves) ∙ (paired.in_order l k drop pickup after el ek (sym same)).pickup_first))
      ]
    ]

-- what is known of the stops of one trip in the front of a paired route
pub record AreOneTrip (own : List Stop) : Type 0 where
  pub in_order : (i j : ℕ) (first second : Stop) → i < j → slice_get own i ≡ Some first → slice_get own j ≡ Some second →
      IsPickupThenDrop first second
  pub picked_up : (i : ℕ) (stop : Stop) → slice_get own i ≡ Some stop → is_drop stop ≡ true →
      (k : ℕ) × (pickup : Stop) × (slice_get own k ≡ Some pickup) × (is_pickup pickup ≡ true)

-- a trip drops at most what it picked up
pub drops_within_pickups : (part : Load → ℕ) (own : List Stop) → AreOneTrip own → total_of part (filter is_drop own) ≤ total_of part (filter is_pickup own)
drops_within_pickups part [] trip = omega arith
drops_within_pickups part (x ∷ []) trip =
    elim (pickup_or_drop x) [
      | inl (comes, stays) ↦ rw stays (omega arith)
      | inr (waits, leaves) ↦
          let (k, pickup, at, comes) = trip.picked_up zero x refl leaves in
          absurd (only k pickup at (λ same. let wrong : is_pickup x ≡ true = ap is_pickup same ∙ comes in cc))
    ]
  where
    only : (k : ℕ) (pickup : Stop) → slice_get (x ∷ []) k ≡ Some pickup → (x ≡ pickup → ⊥) → ⊥
    only zero pickup at differs = differs (let same : x ≡ pickup = cc in same)
    only (suc k) pickup at differs = cc
drops_within_pickups part (x ∷ y ∷ []) trip =
    let pair : IsPickupThenDrop x y = trip.in_order zero (suc zero) x y (omega arith) refl refl in
    let first_comes : is_pickup x ≡ true = pair.pickup_first in
    let second_leaves : is_drop y ≡ true = pair.drop_second in
    let first_stays : is_drop x ≡ false = pickup_is_no_drop x first_comes in
    let second_waits : is_pickup y ≡ false = drop_is_no_pickup y second_leaves in
    let load : part x.load ≡ part y.load = ap part pair.same_load in
    rw (first_comes, first_stays, second_leaves, second_waits) (omega arith)
drops_within_pickups part (x ∷ y ∷ z ∷ rest) trip =
    let first : IsPickupThenDrop x y = trip.in_order zero (suc zero) x y (omega arith) refl refl in
    let second : IsPickupThenDrop y z = trip.in_order (suc zero) (suc (suc zero)) y z (omega arith) refl refl in
    absurd (false≢true (sym (drop_is_no_pickup y first.drop_second) ∙ second.pickup_first))

-- the stops of a trip in the front of a paired route
one_trip : (trip : ℕ) (stops : List Stop) (n : ℕ) → IsPaired stops → AreOneTrip (filter (is_of trip) (take n stops))
one_trip trip stops n paired = record {
  in_order = λ i j first second lt ei ej.
      let (at_i, of_i) = slice_get-filter (is_of trip) (take n stops) i first ei in
      let (at_j, of_j) = slice_get-filter (is_of trip) (take n stops) j second ej in
      let rises = old_place-rises (is_of trip) (take n stops) i j lt in
      paired.in_order (old_place (is_of trip) (take n stops) i) (old_place (is_of trip) (take n stops) j) first second
      rises (front n stops _ first at_i).1 (front n stops _ second at_j).1
      (trip_is trip first of_i ∙ sym (trip_is trip second of_j));
  picked_up = λ i stop e leaves.
      let (at, of_trip) = slice_get-filter (is_of trip) (take n stops) i stop e in
      let (below, there) = front n stops _ stop at in
      let (k, partner, found, passes) = list_any_to (is_partner stop) stops (paired.complete _ stop there) in
      let comes : is_pickup partner ≡ true = partner_comes stop partner leaves passes in
      let before : k < old_place (is_of trip) (take n stops) i = earlier stops paired k (old_place (is_of trip) (take n stops) i) partner stop found there leaves comes
      (sym (partner_trip stop partner passes)) in
      let same : is_of trip partner ≡ true = ap (λ (t : ℕ). not (not (t == trip))) (sym (partner_trip stop partner passes)) ∙ of_trip in
      let (l, kept) = filter_keeps (is_of trip) (take n stops) k partner (slice_get-take n stops k (omega arith) ∙ found) same in
      (l, partner, kept, comes);
}

-- without a trip the load aboard after the stops in front is no larger
aboard_without_trip : (trip : ℕ) (stops : List Stop) (n : ℕ) → IsPaired stops →
    IsWithin (load_aboard (without_trip trip (take n stops))) (load_aboard (take n stops))
aboard_without_trip trip stops n paired = aboard-within (without_trip trip (take n stops)) (take n stops) (λ part.
    (let fewer : total_of part (filter is_drop (filter (is_of trip) (take n stops))) ≤ total_of part (filter is_pickup (filter (is_of trip) (take n stops))) =
    drops_within_pickups part (filter (is_of trip) (take n stops)) (one_trip trip stops n paired) in
    omega (arith, total_of_parts part trip is_pickup (take n stops), total_of_parts part trip is_drop (take n stops))))

pub loads_stay : (trip : ℕ) (stops : List Stop) → IsPaired stops → KeepsFittingLoads stops (without_trip trip stops)
loads_stay trip stops paired vehicle fits k h =
    let end : old_place (is_of_another trip) stops (length (without_trip trip stops)) ≡ length stops = old_place-end (is_of_another trip) stops in
    let within : old_place (is_of_another trip) stops k ≤ length stops = elim (cases_lt k (length (without_trip trip stops))) [
      | inl below ↦ omega (arith, old_place-rises (is_of_another trip) stops k (length (without_trip trip stops)) below)
      | inr from ↦ let same : k ≡ length (without_trip trip stops) = omega arith in
          omega (arith, ap (old_place (is_of_another trip) stops) same)
    ] in
    let old : FitsWithin (load_aboard (take (old_place (is_of_another trip) stops k) stops)) vehicle = fits (old_place (is_of_another trip) stops k) within in
    let fewer : IsWithin (load_aboard (without_trip trip (take (old_place (is_of_another trip) stops k) stops))) (load_aboard (take (old_place (is_of_another trip) stops k) stops)) =
    aboard_without_trip trip stops (old_place (is_of_another trip) stops k) paired in
    let same : load_aboard (take k (without_trip trip stops)) ≡ load_aboard (without_trip trip (take (old_place (is_of_another trip) stops k) stops)) =
    ap load_aboard (take-filter (is_of_another trip) stops k) in
    subst (λ (load : Load). FitsWithin load vehicle) (sym same)
    (within_more (load_aboard (without_trip trip (take (old_place (is_of_another trip) stops k) stops)))
    (load_aboard (take (old_place (is_of_another trip) stops k) stops)) (room_of vehicle) fewer old)
