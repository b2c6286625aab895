-- A trip has one pickup, and one drop after it.
use Rattle.std.proofs.Common.{arith, ◌≡◌, ◌≢◌, ℕ, zero, suc, ◌+◌, ◌-◌, ◌<◌}
use Rattle.std.proofs.Common.{◌≤◌, List, Some, slice_get, refl, subst, sym, ap, ◌∙◌}
use Rattle.std.proofs.lemmas.Option.{same_Some}
use Rattle.pt_feasible.specs.declared.stop.Stop.{Stop}
use Rattle.pt_feasible.specs.Pairing.{IsPaired}
use Rattle.pt_feasible.specs.Route.{stops_of}
use Rattle.pt_feasible.proofs.LimitsLemmas.{pickup-place, picked_up_before}
use Rattle.pt_feasible.proofs.LoadLemmas.{drop-place}
use Rattle.pt_insertion_search.proofs.InsertionPairing.{IsPaired-with_trip}
use Rattle.pt_audit.specs.declared.insertion.Insertion.{Insertion}
use Rattle.pt_audit.specs.Bounds.{RidesTo}
use Rattle.pt_audit.specs.Insertion.{inserted_stops}
use Rattle.pt_insertion_log.specs.Steps.{IsRide, IsRidden}

pub inserted-paired : (insertion : Insertion) → IsPaired (inserted_stops insertion)
inserted-paired insertion = IsPaired-with_trip insertion.asked.now insertion.i insertion.j
    (stops_of insertion.route.now) insertion.drop_later insertion.among insertion.new_trip insertion.route.now.paired

-- two stops of one trip are its pickup and its drop
pub ride-between : (stops : List Stop) → IsPaired stops → (i j : ℕ) (first second : Stop) → i < j →
    slice_get stops i ≡ Some first → slice_get stops j ≡ Some second → first.trip ≡ second.trip → IsRide stops i j
ride-between stops paired i j first second before here there same =
    let pair = paired.in_order i j first second before here there same in
    record {
      pickup = first;
      drop = second;
      here = here;
      there = there;
      picks = pair.pickup_first;
      drops = pair.drop_second;
      same = same;
    }

pub ride-later : (stops : List Stop) → IsPaired stops → (i j : ℕ) → IsRide stops i j → i < j
ride-later stops paired i j ride = picked_up_before stops paired j i ride.drop ride.pickup ride.there ride.here
    ride.drops ride.picks ride.same

pub ride-one_drop : (stops : List Stop) → IsPaired stops → (i j k : ℕ) → IsRide stops i j → IsRide stops i k → j ≡ k
ride-one_drop stops paired i j k one two =
    let pickup : one.pickup ≡ two.pickup = same_Some one.pickup two.pickup (sym one.here ∙ two.here) in
    drop-place stops paired j k one.drop two.drop one.there two.there one.drops two.drops
    (sym one.same ∙ (ap (λ (s : Stop). s.trip) pickup ∙ two.same))

pub ride-one_pickup : (stops : List Stop) → IsPaired stops → (i k j : ℕ) → IsRide stops i j → IsRide stops k j → i ≡ k
ride-one_pickup stops paired i k j one two =
    let drop : one.drop ≡ two.drop = same_Some one.drop two.drop (sym one.there ∙ two.there) in
    pickup-place stops paired i k one.pickup two.pickup one.here two.here one.picks two.picks
    (one.same ∙ (ap (λ (s : Stop). s.trip) drop ∙ sym two.same))

-- a visit that picks no trip up is left in time
pub ridden-none : (stops : List Stop) (bound : ℕ → ℕ) (k : ℕ) → ((j : ℕ) → ¬ IsRide stops (k - 1) j) →
    IsRidden stops bound k
ridden-none stops bound k none i j pickup drop next here there picks drops same =
    let place : i ≡ k - 1 = omega arith in
    absurd (none j (subst (λ (n : ℕ). IsRide stops n j) place
    (record {
      pickup = pickup;
      drop = drop;
      here = here;
      there = there;
      picks = picks;
      drops = drops;
      same = same;
    })))

-- so is a pickup that ends at most the ride limit before the only drop of its trip
pub ridden-one : (stops : List Stop) (bound : ℕ → ℕ) (k j : ℕ) (pickup : Stop) →
    slice_get stops (k - 1) ≡ Some pickup → ((other : ℕ) → IsRide stops (k - 1) other → j ≡ other) →
    bound (j + 1) - (pickup.service + pickup.ride) ≤ bound k → IsRidden stops bound k
ridden-one stops bound k j pickup at only kept i other pickup' drop next here there picks drops same =
    let place : i ≡ k - 1 = omega arith in
    let ride = subst (λ (n : ℕ). IsRide stops n other) place
    (record {
      pickup = pickup';
      drop = drop;
      here = here;
      there = there;
      picks = picks;
      drops = drops;
      same = same;
    }) in
    let that : pickup ≡ pickup' = same_Some pickup pickup'
    (sym at ∙ subst (λ (n : ℕ). slice_get stops n ≡ Some pickup') place here) in
    omega (
      arith,
      kept,
      ap (λ (n : ℕ). bound (n + 1)) (only other ride),
      ap (λ (s : Stop). s.service) that,
      ap (λ (s : Stop). s.ride) that,
    )

-- a pickup rides to its drop
pub rides-to : (stops : List Stop) (bound : ℕ → ℕ) (k n j : ℕ) (pickup : Stop) → k ≢ 0 →
    slice_get stops (k - 1) ≡ Some pickup → IsRide stops (k - 1) j →
    n + pickup.service + pickup.ride ≤ bound (j + 1) → RidesTo stops bound k n
rides-to stops bound zero n j pickup some at from least = absurd (some refl)
rides-to stops bound (suc i) n j pickup some at from least =
    let place : suc i - 1 ≡ i = omega arith in
    let ride = subst (λ (m : ℕ). IsRide stops m j) place from in
    let that : pickup ≡ ride.pickup = same_Some pickup ride.pickup
    (sym (subst (λ (m : ℕ). slice_get stops m ≡ Some pickup) place at) ∙ ride.here) in (
      j,
      ride.pickup,
      ride.drop,
      ride.here,
      ride.there,
      ride.picks,
      ride.drops,
      ride.same,
      omega (arith, least, ap (λ (s : Stop). s.service) that, ap (λ (s : Stop). s.ride) that),
    )
