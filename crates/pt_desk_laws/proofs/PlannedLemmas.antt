-- The stops of plans are those of trips that are not cancelled.
use Rattle.std.proofs.Common.{◌≡◌, ℕ, ◌+◌, ◌≤◌, Bool, true, false, not, List, [], ◌∷◌, Option, Some, None, cond, refl, sym, ap, ◌∙◌, subst, arith}
use Rattle.std.specs.Prelude.{◌==◌, filter}
use Rattle.std.proofs.lemmas.Bool.Decides.{nat_tests}
use Rattle.std.proofs.lemmas.Option.{same_Some}
use Rattle.pt_desk_rules.specs.TripStatuses.{stands}
use Rattle.pt_desk_rules.specs.Trip.{Trip}
use Rattle.pt_base_records.specs.Keys.{pair_key}
use Rattle.pt_base_records.specs.Records.{is_within, put, record_at, take_away, Each}
use Rattle.pt_base_records.proofs.OrderLemmas.{Each-weaker, record_at-put_other, record_at-put_same}
use Rattle.pt_desk_scheduling.specs.Plan.{Plan, plan_key, planned_stops, stops_of_plan, without}
use Rattle.pt_desk_scheduling.specs.declared.planned.PlannedStop.{PlannedStop}
use Rattle.pt_desk_scheduling.proofs.PlanLemmas.{found_key}
use Rattle.pt_desk_scheduling.proofs.RouteLemmas.{Each-found}
use Rattle.pt_desk_rules.specs.Sound.{HasStandingTrips, IsNumberedTo, StandsIn}
use Rattle.pt_desk_rules.specs.State.{trip_key}
use Rattle.pt_desk_rules.specs.Trips.{plan_of_stops, plan_span}

pub filter-gives : {A : Type 0} (P R : A → Type 0) (test : A → Bool) → ((x : A) → P x → test x ≡ true → R x) → (xs : List A) → Each P xs → Each R (filter test xs)
filter-gives P R test gives [] each = tt
filter-gives P R test gives (x ∷ xs) each = passed P R test gives x (filter test xs) (test x) refl each.0 (filter-gives P R test gives xs each.1)
  where
    passed : {A : Type 0} (P R : A → Type 0) (test : A → Bool) → ((x : A) → P x → test x ≡ true → R x) → (x : A) (ys : List A) (b : Bool) → test x ≡ b → P x → Each R ys → Each R (cond b (x ∷ ys) ys)
    passed P R test gives x ys true is holds rest = (gives x holds is, rest)
    passed P R test gives x ys false is holds rest = rest

-- a trip that is not cancelled stays so when a trip with another number is put
pub still_stands : (trips : List Trip) (new : Trip) (key number : ℕ) → (number ≡ new.id → ⊥) → StandsIn trips key number → StandsIn (put trip_key new trips) key number
still_stands trips new key number other (trip, there, standing, at) =
    (trip, record_at-put_other trip_key number new trips (λ same. other (sym same)) ∙ there, standing, at)

-- a trip that is put, and is not cancelled, is in its vehicle on its day
pub put_stands : (trips : List Trip) (new : Trip) (key : ℕ) → stands new.status ≡ true → pair_key new.vehicle new.wish.day ≡ key → StandsIn (put trip_key new trips) key new.id
put_stands trips new key standing at = (new, record_at-put_same trip_key new trips, standing, at)

-- its number is at most the last number given
pub stands_below : (last : ℕ) (trips : List Trip) (key number : ℕ) → Each (IsNumberedTo last) trips → StandsIn trips key number → number ≤ last
stands_below last trips key number numbered (trip, there, standing, at) =
    subst (λ (n : ℕ). n ≤ last) (found_key trip_key number trip trips there) (Each-found (IsNumberedTo last) trip_key number trip trips numbered there)

is_later : (last number next : ℕ) → number ≤ last → next ≡ last + 1 → number ≡ next → ⊥
is_later last number next below is same = omega arith

-- all plans keep their trips when a trip with the next number is put
pub plans_after : (last : ℕ) (trips : List Trip) (new : Trip) (plans : List Plan) → new.id ≡ last + 1 → Each (IsNumberedTo last) trips → Each (HasStandingTrips trips) plans
    → Each (HasStandingTrips (put trip_key new trips)) plans
plans_after last trips new plans is numbered each =
    Each-weaker (HasStandingTrips trips) (HasStandingTrips (put trip_key new trips))
    (λ plan standing. Each-weaker (λ (stop : PlannedStop). StandsIn trips (plan_key plan) stop.trip) (λ (stop : PlannedStop). StandsIn (put trip_key new trips) (plan_key plan) stop.trip)
    (λ stop there. still_stands trips new (plan_key plan) stop.trip
    (is_later last stop.trip new.id (stands_below last trips (plan_key plan) stop.trip numbered there) is) there)
    plan.stops standing) plans each

-- a plan that has a stop of a trip is that of its vehicle and day
pub place_of_old : (trips : List Trip) (old : Trip) (plan : Plan) (stop : PlannedStop) → stop.trip ≡ old.id
    → record_at trip_key old.id trips ≡ Some old → StandsIn trips (plan_key plan) stop.trip
    → pair_key old.vehicle old.wish.day ≡ plan_key plan
place_of_old trips old plan stop same there (trip, found, standing, at) =
    let one : trip ≡ old = same_Some trip old (sym found ∙ ap (λ (n : ℕ). record_at trip_key n trips) same ∙ there) in
    sym (ap (λ (t : Trip). pair_key t.vehicle t.wish.day) one) ∙ at

pub own_key : (k key : ℕ) → k ≡ key → not (is_within key (record { from = k; to = k })) ≡ true → ⊥
own_key k key same left = grind (arith, nat_tests)

-- the other plans keep their trips when a trip is put over another and the other's plan is removed
pub plans_beside : (trips : List Trip) (old new : Trip) (plans : List Plan) → new.id ≡ old.id → record_at trip_key old.id trips ≡ Some old → Each (HasStandingTrips trips) plans
    → Each (HasStandingTrips (put trip_key new trips)) (take_away plan_key (plan_span old) plans)
plans_beside trips old new plans is there each =
    filter-gives (HasStandingTrips trips) (HasStandingTrips (put trip_key new trips)) (λ plan. not (is_within (plan_key plan) (plan_span old)))
    (λ plan standing left. Each-weaker (λ (stop : PlannedStop). StandsIn trips (plan_key plan) stop.trip) (λ (stop : PlannedStop). StandsIn (put trip_key new trips) (plan_key plan) stop.trip)
    (λ stop on. still_stands trips new (plan_key plan) stop.trip
    (λ same. own_key (pair_key old.vehicle old.wish.day) (plan_key plan)
    (place_of_old trips old plan stop (same ∙ is) there on) left) on) plan.stops standing) plans each

standing_found : (trips : List Trip) (key : ℕ) (plans : List Plan) (found : Option Plan) → record_at plan_key key plans ≡ found → Each (HasStandingTrips trips) plans
    → Each (λ stop. StandsIn trips key stop.trip) (stops_of_plan found)
standing_found trips key plans None is each = tt
standing_found trips key plans (Some plan) is each =
    subst (λ (k : ℕ). Each (λ (stop : PlannedStop). StandsIn trips k stop.trip) plan.stops) (found_key plan_key key plan plans is) (Each-found (HasStandingTrips trips) plan_key key plan plans each is)

-- the stops of a vehicle on a day are those of its trips that are not cancelled
pub standing_at : (trips : List Trip) (vehicle day : ℕ) (plans : List Plan) → Each (HasStandingTrips trips) plans
    → Each (λ stop. StandsIn trips (pair_key vehicle day) stop.trip) (planned_stops vehicle day plans)
standing_at trips vehicle day plans each = standing_found trips (pair_key vehicle day) plans (record_at plan_key (pair_key vehicle day) plans) refl each

is_no : (n k : ℕ) → not (n == k) ≡ true → n ≡ k → ⊥
is_no n k left same = grind (arith, nat_tests)

-- without a trip they stay so when that trip is put
pub standing_without : (trips : List Trip) (new : Trip) (number vehicle day : ℕ) (plans : List Plan) → new.id ≡ number → Each (HasStandingTrips trips) plans
    → Each (λ stop. StandsIn (put trip_key new trips) (pair_key vehicle day) stop.trip) (without number (planned_stops vehicle day plans))
standing_without trips new number vehicle day plans is each =
    filter-gives (λ (stop : PlannedStop). StandsIn trips (pair_key vehicle day) stop.trip) (λ (stop : PlannedStop). StandsIn (put trip_key new trips) (pair_key vehicle day) stop.trip)
    (λ stop. not (stop.trip == number))
    (λ stop there left. still_stands trips new (pair_key vehicle day) stop.trip (λ same. is_no stop.trip number left (same ∙ is)) there)
    (planned_stops vehicle day plans) (standing_at trips vehicle day plans each)

-- the same holds for a plan of them
pub left_standing : (trips : List Trip) (trip : Trip) (stops : List PlannedStop) → Each (λ stop. StandsIn trips (pair_key trip.vehicle trip.wish.day) stop.trip) stops
    → Each (HasStandingTrips trips) (plan_of_stops trip stops)
left_standing trips trip [] each = tt
left_standing trips trip (stop ∷ later) each = (each, tt)
