-- The limits of a visit and the constraints that they are equivalent to.
use Rattle.std.proofs.Common.{◌≡◌, ℕ, ◌+◌, ◌-◌, ◌<◌, ◌≤◌, ◌↔◌, List, Option, Some, None, IsSomeAnd, IfNone, IsTrue, slice_get, slice_index, arith, ap, sym, subst, ◌∙◌, inl, inr}
use Rattle.std.proofs.lemmas.Option.{same_Some, slice_get_within}
use Rattle.std.proofs.lemmas.Bool.{cases_lt}
use Rattle.pt_base_values.specs.declared.vehicle.Vehicle.{Vehicle}
use Rattle.pt_feasible.specs.declared.limits.Limits.{Limits}
use Rattle.pt_feasible.specs.declared.stop.Stop.{Stop}
use Rattle.pt_feasible.specs.declared.visit.Visit.{Visit}
use Rattle.pt_feasible.specs.Limits.{EndsInTime}
use Rattle.pt_feasible.specs.Pairing.{IsPaired}
use Rattle.pt_feasible.specs.ServiceTimes.{KeepsDrivingTimes}
use Rattle.pt_feasible.specs.Stop.{is_pickup, is_drop, takes_aboard, lets_leave}
use Rattle.pt_feasible.specs.declared.stop.StopKind.TheVariants.{Pickup, Drop}

-- no limits at all
abbrev pub no_limits : Limits
no_limits = record { latest = 0; step = 0; since = record { visit = 0; most = 0 } }

-- a fact holds where there is no value
pub IfNone-from : {A : Type 0} (o : Option A) (P : Type 0) → P → IfNone o P
IfNone-from o P p = elim o as (λ o. IfNone o P) [ None ↦ p | Some _ ↦ tt ]

-- without a way no times keep the driving times
pub no_way : (minutes : ℕ → ℕ → Option ℕ) (all : List Visit) (b : List ℕ) (k : ℕ) (this next : Visit)
    → slice_get all k ≡ Some this → slice_get all (k + 1) ≡ Some next → minutes this.place next.place ≡ None
    → ¬ KeepsDrivingTimes minutes all b
no_way minutes all b k this next here there way drives =
    subst (λ (o : Option ℕ). IsSomeAnd o (λ drive. slice_index b k + this.service + drive ≤ slice_index b (k + 1))) way (drives k this next here there)

-- no stop is both a pickup and a drop
pub not_both : (stop : Stop) → IsTrue (is_pickup stop) → ¬ IsTrue (is_drop stop)
not_both stop = elim stop.kind as (λ kind. IsTrue (takes_aboard kind) → IsTrue (lets_leave kind) → ⊥) [ Pickup ↦ λ picks drops. cc | Drop ↦ λ picks drops. cc ]

-- of two stops of one trip only the first is a pickup
pub pickup-only : (stops : List Stop) → IsPaired stops → (i j : ℕ) (first second : Stop) → i < j
    → slice_get stops i ≡ Some first → slice_get stops j ≡ Some second → first.trip ≡ second.trip
    → ¬ IsTrue (is_pickup second)
pickup-only stops paired i j first second before here there same picks =
    not_both second picks (paired.in_order i j first second before here there same).drop_second

-- a trip is picked up at one place
pub pickup-place : (stops : List Stop) → IsPaired stops → (i k : ℕ) (first second : Stop)
    → slice_get stops i ≡ Some first → slice_get stops k ≡ Some second → IsTrue (is_pickup first)
    → IsTrue (is_pickup second) → first.trip ≡ second.trip → i ≡ k
pickup-place stops paired i k first second here there picks picks' same =
    elim (cases_lt i k) [
      | inl before ↦ absurd (pickup-only stops paired i k first second before here there same picks')
      | inr after ↦ elim (cases_lt k i) [
        | inl before ↦ absurd (pickup-only stops paired k i second first before there here (sym same) picks)
        | inr after' ↦ omega arith
      ]
    ]

-- a trip is not picked up from its drop on
pub picked_up_before : (stops : List Stop) → IsPaired stops → (j k : ℕ) (drop stop : Stop) → slice_get stops j ≡ Some drop → slice_get stops k ≡ Some stop →
    IsTrue (is_drop drop) → IsTrue (is_pickup stop) → stop.trip ≡ drop.trip → k < j
picked_up_before stops paired j k drop stop there here drops picks same =
    elim (cases_lt k j) [
      | inl before ↦ before
      | inr from ↦ elim (cases_lt j k) [
        | inl after ↦ absurd (pickup-only stops paired j k drop stop after there here (sym same) picks)
        | inr at ↦
            let place : k ≡ j = omega arith in
            let there' : slice_get stops j ≡ Some stop = subst (λ (n : ℕ). slice_get stops n ≡ Some stop) place here in
            absurd (not_both stop picks (subst (λ (s : Stop). IsTrue (is_drop s)) (same_Some drop stop (sym there ∙ there')) drops))
      ]
    ]

-- if the trip that ends at a stop begins at another, the ride is within its limit exactly if at most its minutes pass
pub ends-ride : (vehicle : Vehicle) (stops : List Stop) → IsPaired stops → (b : List ℕ) (i j k : ℕ) (pickup drop : Stop) → k ≡ j + 1 → i < j →
    slice_get stops i ≡ Some pickup → slice_get stops j ≡ Some drop →
    IsTrue (is_pickup pickup) → IsTrue (is_drop drop) → pickup.trip ≡ drop.trip →
    (slice_index b k ≤ slice_index b (i + 1) + (drop.service + drop.ride)) ↔ EndsInTime vehicle stops b k
ends-ride vehicle stops paired b i j k pickup drop next before here there picks drops same =
    let alike = paired.in_order i j pickup drop before here there same in
    let at : slice_index b k ≡ slice_index b (j + 1) = ap (slice_index b) next in (
      λ kept. record {
        ride = λ j' next' i' pickup' drop' here' there' picks' drops' same'.
            let stop : j' ≡ j = omega arith in
            let there'' : slice_get stops j ≡ Some drop' = subst (λ (n : ℕ). slice_get stops n ≡ Some drop') stop there' in
            let that : drop ≡ drop' = same_Some drop drop' (sym there ∙ there'') in
            let place : i ≡ i' = pickup-place stops paired i i' pickup pickup' here here' picks picks'
            (same ∙ ap (λ (s : Stop). s.trip) that ∙ sym same') in
            let found : slice_get stops i ≡ Some pickup' = subst (λ (n : ℕ). slice_get stops n ≡ Some pickup') (sym place) here' in
            let this : pickup ≡ pickup' = same_Some pickup pickup' (sym here ∙ found) in
            let from : slice_index b (i + 1) ≡ slice_index b (i' + 1) = ap (λ (n : ℕ). slice_index b (n + 1)) place in
            let to : slice_index b (j + 1) ≡ slice_index b (j' + 1) = ap (λ (n : ℕ). slice_index b (n + 1)) (sym stop) in
            let service : pickup'.service ≡ drop.service = ap (λ (s : Stop). s.service) (sym this) ∙ alike.same_service in
            let ride : pickup'.ride ≡ drop.ride = ap (λ (s : Stop). s.ride) (sym this) ∙ alike.same_ride in
            omega arith;
        route = λ last. absurd (omega (arith, slice_get_within stops j drop there));
      },
      λ ends.
          let within : slice_index b (j + 1) - (slice_index b (i + 1) + pickup.service) ≤ pickup.ride =
          ends.ride j next i pickup drop here there picks drops same in
          omega (arith, alike.same_service, alike.same_ride),
    )
