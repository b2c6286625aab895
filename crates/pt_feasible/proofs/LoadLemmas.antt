-- Loads aboard: on a route of pairs what was dropped was picked up before.
use Rattle.std.proofs.Common.{tests, ◌≡◌, ◌≢◌, ℕ, ◌+◌, ◌-◌, ◌<◌, ◌≤◌, zero, suc, Bool, true, false, nat_eq, cond}
use Rattle.std.proofs.Common.{List, [], ◌∷◌, ◌++◌, length, take, Option, Some, None, IsTrue, slice_get, arith, refl}
use Rattle.std.proofs.Common.{ap, sym, subst, ◌∙◌, inl, inr, ◌⊎◌, add-one}
use Rattle.std.specs.Prelude.{filter, if◌then◌else◌}
use Rattle.std.proofs.lemmas.Bool.{cases_lt, eqb-true, and_parts}
use Rattle.std.proofs.lemmas.List.{take_more}
use Rattle.std.proofs.lemmas.List.Elements.{filter-append}
use Rattle.std.proofs.lemmas.List.Folds.{Any-from_list_any}
use Rattle.std.proofs.lemmas.Option.{same_Some, slice_get_within, get_or_from_slice_get, slice_get_read}
use Rattle.pt_base_values.specs.declared.load.Load.{Load}
use Rattle.pt_base_values.specs.Load.{load_sum, load_difference, IsWithin}
use Rattle.pt_base_values.proofs.LoadLemmas.{same_load}
use Rattle.pt_feasible.specs.declared.stop.Stop.{Stop}
use Rattle.pt_feasible.specs.declared.stop.StopKind.TheVariants.{Pickup, Drop}
use Rattle.pt_feasible.specs.Loads.{total_load, load_aboard}
use Rattle.pt_feasible.specs.Pairing.{IsPaired, is_partner}
use Rattle.pt_feasible.specs.Stop.{is_pickup, is_drop, takes_aboard, lets_leave}
use Rattle.pt_feasible.proofs.LimitsLemmas.{not_both}

-- the two parts of a load
abbrev pub seats_of : Load → ℕ
seats_of load = load.seats

abbrev pub chairs_of : Load → ℕ
chairs_of load = load.chairs

-- one part of the loads of all these stops together
abbrev pub total_of : (Load → ℕ) → List Stop → ℕ
total_of part [] = 0
total_of part (stop ∷ stops) = part stop.load + total_of part stops

-- the loads of all these stops are their totals in both parts
pub total_load-parts : (stops : List Stop) → total_load stops ≡ record { seats = total_of seats_of stops; chairs = total_of chairs_of stops }
total_load-parts [] = refl
total_load-parts (stop ∷ stops) = ap (load_sum stop.load) (total_load-parts stops)

pub total-seats : (stops : List Stop) → (total_load stops).seats ≡ total_of seats_of stops
total-seats stops = ap seats_of (total_load-parts stops)

pub total-chairs : (stops : List Stop) → (total_load stops).chairs ≡ total_of chairs_of stops
total-chairs stops = ap chairs_of (total_load-parts stops)

-- one part of what is aboard after these stops
abbrev pub aboard_of : (Load → ℕ) → List Stop → ℕ
aboard_of part stops = total_of part (filter is_pickup stops) - total_of part (filter is_drop stops)

pub load_aboard-parts : (stops : List Stop) → load_aboard stops ≡ record { seats = aboard_of seats_of stops; chairs = aboard_of chairs_of stops }
load_aboard-parts stops =
    ap (λ (load : Load). load_difference load (total_load (filter is_drop stops))) (total_load-parts (filter is_pickup stops))
    ∙ ap (load_difference (record { seats = total_of seats_of (filter is_pickup stops); chairs = total_of chairs_of (filter is_pickup stops) }))
    (total_load-parts (filter is_drop stops))

-- what holds of both parts holds of what is aboard
pub aboard-seats : (stops : List Stop) → (load_aboard stops).seats ≡ aboard_of seats_of stops
aboard-seats stops = ap seats_of (load_aboard-parts stops)

pub aboard-chairs : (stops : List Stop) → (load_aboard stops).chairs ≡ aboard_of chairs_of stops
aboard-chairs stops = ap chairs_of (load_aboard-parts stops)

pub aboard-more : (xs ys : List Stop) (load : Load) → ((part : Load → ℕ) → aboard_of part xs ≡ aboard_of part ys + part load) → load_aboard xs ≡ load_sum (load_aboard ys) load
aboard-more xs ys load each = same_load (load_aboard xs) (load_sum (load_aboard ys) load)
    (omega (arith, aboard-seats xs, aboard-seats ys, each seats_of))
    (omega (arith, aboard-chairs xs, aboard-chairs ys, each chairs_of))

pub aboard-less : (xs ys : List Stop) (load : Load) → ((part : Load → ℕ) → aboard_of part xs ≡ aboard_of part ys - part load) → load_aboard xs ≡ load_difference (load_aboard ys) load
aboard-less xs ys load each = same_load (load_aboard xs) (load_difference (load_aboard ys) load)
    (omega (arith, aboard-seats xs, aboard-seats ys, each seats_of))
    (omega (arith, aboard-chairs xs, aboard-chairs ys, each chairs_of))

pub aboard-within : (xs ys : List Stop) → ((part : Load → ℕ) → aboard_of part xs ≤ aboard_of part ys) → IsWithin (load_aboard xs) (load_aboard ys)
aboard-within xs ys each = record {
  seats = omega (arith, aboard-seats xs, aboard-seats ys, each seats_of);
  chairs = omega (arith, aboard-chairs xs, aboard-chairs ys, each chairs_of);
}

-- one part of the loads of joined lists
pub total_of-append : (part : Load → ℕ) (xs ys : List Stop) → total_of part (xs ++ ys) ≡ total_of part xs + total_of part ys
total_of-append part [] ys = omega arith
total_of-append part (x ∷ xs) ys = omega (arith, total_of-append part xs ys)

-- one part of the load of a stop that passes a test, or none
abbrev pub load_if : (Load → ℕ) → Bool → Stop → ℕ
load_if part test stop = if test then part stop.load else 0

pub total_of-single : (part : Load → ℕ) (test : Bool) (stop : Stop) → total_of part (cond test (stop ∷ []) []) ≡ load_if part test stop
total_of-single part true stop = omega arith
total_of-single part false stop = refl

-- one part of the loads of the stops that pass a test, with one more stop
pub total_of-next : (part : Load → ℕ) (p : Stop → Bool) (stops : List Stop) (k : ℕ) (stop : Stop)
    → slice_get stops k ≡ Some stop → total_of part (filter p (take (k + 1) stops)) ≡ total_of part
    (filter p (take k stops)) + load_if part (p stop) stop
total_of-next part p stops k stop here =
    rw (
      take_more stops k stop (slice_get_within stops k stop here),
      get_or_from_slice_get stops k stop stop here,
      filter-append p (take k stops) (stop ∷ []),
      total_of-append part (filter p (take k stops))
          (filter p (stop ∷ [])),
    )
    (ap (λ (n : ℕ). total_of part (filter p (take k stops)) + n) (total_of-single part (p stop) stop))

-- the sum of a function below a number
abbrev pub sum_below : (ℕ → ℕ) → ℕ → ℕ
sum_below f zero = 0
sum_below f (suc n) = sum_below f n + f n

-- a function that is 0 at one number
abbrev pub without : (ℕ → ℕ) → ℕ → ℕ → ℕ
without f i k = if nat_eq k i then 0 else f k

without-same : (f : ℕ → ℕ) (i : ℕ) → without f i i ≡ 0
without-same f i = grind (arith, tests)

without-other : (f : ℕ → ℕ) (i k : ℕ) → k ≢ i → without f i k ≡ f k
without-other f i k other = grind (arith, tests)

sum_below-without-past : (f : ℕ → ℕ) (i n : ℕ) → n ≤ i → sum_below (without f i) n ≡ sum_below f n
sum_below-without-past f i zero past = refl
sum_below-without-past f i (suc n) past =
    let other : n ≢ i = omega arith in
    omega (arith, sum_below-without-past f i n (omega arith), without-other f i n other)

sum_below-without : (f : ℕ → ℕ) (i n : ℕ) → i < n → sum_below (without f i) n + f i ≡ sum_below f n
sum_below-without f i zero inside = absurd (omega arith)
sum_below-without f i (suc n) inside = elim (cases_lt i n) [
  | inl before ↦
      let other : n ≢ i = omega arith in
      omega (arith, sum_below-without f i n before, without-other f i n other)
  | inr last ↦
      let here : n ≡ i = omega arith in
      subst (λ (j : ℕ). sum_below (without f j) n + without f j n + f j ≡ sum_below f n + f n) here
      (omega (arith, sum_below-without-past f n n (omega arith), without-same f n))
]

-- where each number that counts has a partner of its own that counts as much, the sum is no larger
pub sum_below-partners : (m n : ℕ) (d p : ℕ → ℕ) (IsPartner : ℕ → ℕ → Type 0)
    → ((j : ℕ) → j < m → (d j ≡ 0) ⊎ ((i : ℕ) × (i < n) × (d j ≤ p i) × IsPartner i j))
    → ((i j k : ℕ) → IsPartner i j → IsPartner i k → j ≡ k) → sum_below d m ≤ sum_below p n
sum_below-partners zero n d p IsPartner each once = omega arith
sum_below-partners (suc m) n d p IsPartner each once = elim (each m (omega arith)) [
  | inl none ↦ omega (arith, sum_below-partners m n d p IsPartner (λ j below. each j (omega arith)) once)
  | inr found ↦
      let rest = sum_below-partners m n d (without p found.0) IsPartner
      (λ j below. elim (each j (omega arith)) as (λ _. (d j ≡ 0) ⊎ ((i : ℕ) × (i < n) × (d j ≤ without p found.0 i) × IsPartner i j)) [
        | inl none ↦ inl none
        | inr other ↦
            let apart : other.0 ≢ found.0 = λ same. (let taken : IsPartner found.0 j = subst (λ (i : ℕ). IsPartner i j) same other.3 in
            let clash = once found.0 j m taken found.3 in omega arith) in
            inr (other.0, other.1, (let kept = without-other p found.0 other.0 apart in omega arith), other.3)
      ]) once in
      omega (arith, rest, sum_below-without p found.0 n found.1)
]

-- one part of the load at a place of the list, if its stop passes a test
abbrev pub load_at : (Load → ℕ) → (Stop → Bool) → Option Stop → ℕ
load_at part p None = 0
load_at part p (Some stop) = load_if part (p stop) stop

-- a list has an element at each place within it
pub element_within : {A : Type 0} (xs : List A) (k : ℕ) → k < length xs → (x : A) × (slice_get xs k ≡ Some x)
element_within [] k inside = absurd (omega arith)
element_within (x ∷ xs) zero inside = (x, refl)
element_within (x ∷ xs) (suc k) inside = element_within xs k (omega arith)

-- one part of the load of the first stops that pass a test, as a sum over places
pub total_of-below : (part : Load → ℕ) (p : Stop → Bool) (stops : List Stop) (k : ℕ) → k ≤ length stops
    → total_of part (filter p (take k stops)) ≡ sum_below (λ i. load_at part p (slice_get stops i)) k
total_of-below part p stops zero inside = refl
total_of-below part p stops (suc k) inside =
    let found = element_within stops k (omega arith) in
    let next : total_of part (filter p (take (suc k) stops)) ≡ total_of part (filter p (take k stops)) + load_if part (p found.0) found.0 =
    subst (λ (n : ℕ). total_of part (filter p (take n stops)) ≡ total_of part (filter p (take k stops)) + load_if part
    (p found.0) found.0) (add-one k) (total_of-next part p stops k found.0 found.1) in
    let at_k : load_at part p (slice_get stops k) ≡ load_if part (p found.0) found.0 = ap (load_at part p) found.1 in
    omega (arith, next, at_k, total_of-below part p stops k (omega arith))

-- a stop either passes a test or does not
true_or_false : (b : Bool) → (b ≡ true) ⊎ (b ≡ false)
true_or_false b = elim b as (λ b. (b ≡ true) ⊎ (b ≡ false)) [ true ↦ inl refl | false ↦ inr refl ]

-- a drop is no pickup
pub drop-is-no-pickup : (stop : Stop) → IsTrue (is_drop stop) → is_pickup stop ≡ false
drop-is-no-pickup stop = elim stop.kind as (λ kind. IsTrue (lets_leave kind) → takes_aboard kind ≡ false) [ Pickup ↦ λ drops. cc | Drop ↦ λ drops. refl ]

-- a pickup is no drop
pub pickup-is-no-drop : (stop : Stop) → IsTrue (is_pickup stop) → is_drop stop ≡ false
pickup-is-no-drop stop = elim stop.kind as (λ kind. IsTrue (takes_aboard kind) → lets_leave kind ≡ false) [ Pickup ↦ λ picks. refl | Drop ↦ λ picks. cc ]

-- the partner of a drop is a pickup of its trip
pub partner-of-drop : (stop other : Stop) → IsTrue (is_drop stop) → is_partner stop other ≡ true → (other.trip ≡ stop.trip) × IsTrue (is_pickup other)
partner-of-drop stop other drops partner =
    let parts = and_parts _ _ partner in (
      sym (eqb-true stop.trip other.trip parts.0),
      subst (λ (b : Bool). (if b then is_drop other else is_pickup other) ≡ true) (drop-is-no-pickup stop drops) parts.1,
    )

-- of two stops of one trip the first is no drop
pub first-is-no-drop : (stops : List Stop) → IsPaired stops → (i j : ℕ) (first second : Stop) → i < j
    → slice_get stops i ≡ Some first → slice_get stops j ≡ Some second → first.trip ≡ second.trip
    → ¬ IsTrue (is_drop first)
first-is-no-drop stops paired i j first second before here there same drops =
    not_both first (paired.in_order i j first second before here there same).pickup_first drops

-- a trip is dropped at one place
pub drop-place : (stops : List Stop) → IsPaired stops → (j k : ℕ) (first second : Stop)
    → slice_get stops j ≡ Some first → slice_get stops k ≡ Some second → IsTrue (is_drop first)
    → IsTrue (is_drop second) → first.trip ≡ second.trip → j ≡ k
drop-place stops paired j k first second here there drops drops' same =
    elim (cases_lt j k) [
      | inl before ↦ absurd (first-is-no-drop stops paired j k first second before here there same drops)
      | inr after ↦ elim (cases_lt k j) [
        | inl before ↦ absurd (first-is-no-drop stops paired k j second first before there here (sym same) drops')
        | inr after' ↦ omega arith
      ]
    ]

-- the trip that is picked up at one place is dropped at the other
pub record IsRide (stops : List Stop) (i j : ℕ) : Type 0 where
  pub pickup : Stop
  pub drop : Stop
  pub here : slice_get stops i ≡ Some pickup
  pub there : slice_get stops j ≡ Some drop
  pub drops : IsTrue (is_drop drop)
  pub same : pickup.trip ≡ drop.trip

-- a trip that is dropped was picked up before, and its load is the same
pub ride-of-drop : (part : Load → ℕ) (stops : List Stop) → IsPaired stops → (j : ℕ) (stop : Stop)
    → slice_get stops j ≡ Some stop → IsTrue (is_drop stop) → (i : ℕ) × (i < j)
    × (load_at part is_drop (slice_get stops j) ≤ load_at part is_pickup (slice_get stops i)) × IsRide stops i j
ride-of-drop part stops paired j stop there drops =
    let any = Any-from_list_any (is_partner stop) stops (paired.complete j stop there) in
    let i = any.0 in
    let other = any.1 in
    let here : slice_get stops i ≡ Some other = slice_get_read stops (length stops) i other refl any.2 (sym any.3) in
    let is = partner-of-drop stop other drops any.4 in
    elim (cases_lt i j) [
      | inl before ↦
          let pair = paired.in_order i j other stop before here there is.0 in
          let left : load_at part is_drop (slice_get stops j) ≡ part stop.load = ap (load_at part is_drop) there ∙ ap (λ (b : Bool). load_if part b stop) drops in
          let taken : load_at part is_pickup (slice_get stops i) ≡ part other.load = ap (load_at part is_pickup) here ∙ ap (λ (b : Bool). load_if part b other) is.1 in (
            i,
            before,
            omega (arith, left, taken, ap part pair.same_load),
            record { pickup = other; drop = stop; here = here; there = there; drops = drops; same = is.0 },
          )
      | inr after ↦ elim (cases_lt j i) [
        | inl before ↦ absurd (first-is-no-drop stops paired j i stop other before there here (sym is.0) drops)
        | inr after' ↦
            let place : i ≡ j = omega arith in
            let found : slice_get stops j ≡ Some other = subst (λ (k : ℕ). slice_get stops k ≡ Some other) place here in
            let self : other ≡ stop = same_Some other stop (sym found ∙ there) in
            absurd (not_both stop (subst (λ (s : Stop). IsTrue (is_pickup s)) self is.1) drops)
      ]
    ]

-- among the first stops of a route, at most what was picked up is dropped
pub dropped-le-picked : (part : Load → ℕ) (stops : List Stop) → IsPaired stops → (k : ℕ) → k ≤ length stops
    → total_of part (filter is_drop (take k stops)) ≤ total_of part (filter is_pickup (take k stops))
dropped-le-picked part stops paired k inside =
    let dropped : ℕ → ℕ = λ i. load_at part is_drop (slice_get stops i) in
    let picked : ℕ → ℕ = λ i. load_at part is_pickup (slice_get stops i) in
    let each : (j : ℕ) → j < k → (dropped j ≡ 0) ⊎ ((i : ℕ) × (i < k) × (dropped j ≤ picked i) × IsRide stops i j) = λ j below.
    (let found = element_within stops j (omega arith) in
    let stop = found.0 in
    let there : slice_get stops j ≡ Some stop = found.1 in
    elim (true_or_false (is_drop stop)) [
      | inl drops ↦
          let ride = ride-of-drop part stops paired j stop there drops in
          inr (ride.0, omega (arith, ride.1), ride.2, ride.3)
      | inr stays ↦ inl (ap (load_at part is_drop) there ∙ ap (λ (b : Bool). load_if part b stop) stays)
    ]) in
    let once : (i j l : ℕ) → IsRide stops i j → IsRide stops i l → j ≡ l = λ i j l one two.
    (let pickup : one.pickup ≡ two.pickup = same_Some one.pickup two.pickup (sym one.here ∙ two.here) in
    drop-place stops paired j l one.drop two.drop one.there two.there one.drops two.drops
    (sym one.same ∙ (ap (λ (s : Stop). s.trip) pickup ∙ two.same))) in
    omega (
      arith,
      total_of-below part is_drop stops k inside,
      total_of-below part is_pickup stops k inside,
      sum_below-partners k k dropped picked (IsRide stops) each once,
    )

-- a pickup adds its load to those aboard
pub load_aboard-pickup : (stops : List Stop) → IsPaired stops → (k : ℕ) (stop : Stop) → slice_get stops k ≡ Some stop
    → IsTrue (is_pickup stop) → load_aboard (take (k + 1) stops) ≡ load_sum (load_aboard (take k stops)) stop.load
load_aboard-pickup stops paired k stop here picks =
    aboard-more (take (k + 1) stops) (take k stops) stop.load (λ part.
    (let inside = slice_get_within stops k stop here in
    let one : load_if part (is_pickup stop) stop ≡ part stop.load = ap (λ (b : Bool). load_if part b stop) picks in
    let none : load_if part (is_drop stop) stop ≡ 0 = ap (λ (b : Bool). load_if part b stop) (pickup-is-no-drop stop picks) in
    omega (arith, total_of-next part is_pickup stops k stop here, total_of-next part is_drop stops k stop here, dropped-le-picked part stops paired k (omega arith), one, none)))

-- a drop takes its load from those aboard
pub load_aboard-drop : (stops : List Stop) (k : ℕ) (stop : Stop) → slice_get stops k ≡ Some stop
    → IsTrue (is_drop stop) → load_aboard (take (k + 1) stops) ≡ load_difference (load_aboard (take k stops))
    stop.load
load_aboard-drop stops k stop here drops =
    aboard-less (take (k + 1) stops) (take k stops) stop.load (λ part.
    (let one : load_if part (is_drop stop) stop ≡ part stop.load = ap (λ (b : Bool). load_if part b stop) drops in
    let none : load_if part (is_pickup stop) stop ≡ 0 = ap (λ (b : Bool). load_if part b stop) (drop-is-no-pickup stop drops) in
    omega (arith, total_of-next part is_pickup stops k stop here, total_of-next part is_drop stops k stop here, one, none)))

-- the loads of the stops that pass a test, with one more stop that passes
pub total_load-takes : (p : Stop → Bool) (stops : List Stop) (k : ℕ) (stop : Stop) → slice_get stops k ≡ Some stop
    → p stop ≡ true → total_load (filter p (take (k + 1) stops)) ≡ load_sum (total_load (filter p (take k stops)))
    stop.load
total_load-takes p stops k stop here passes =
    let each : (part : Load → ℕ) → total_of part (filter p (take (k + 1) stops)) ≡ total_of part (filter p (take k stops)) + part stop.load = λ part.
    (total_of-next part p stops k stop here ∙ ap (λ (b : Bool). total_of part (filter p (take k stops)) + load_if part b stop) passes) in
    same_load (total_load (filter p (take (k + 1) stops))) (load_sum (total_load (filter p (take k stops))) stop.load)
    (omega (arith, total-seats (filter p (take (k + 1) stops)), total-seats (filter p (take k stops)), each seats_of))
    (omega (arith, total-chairs (filter p (take (k + 1) stops)), total-chairs (filter p (take k stops)), each chairs_of))

-- and with one more that does not pass
pub total_load-leaves : (p : Stop → Bool) (stops : List Stop) (k : ℕ) (stop : Stop) → slice_get stops k ≡ Some stop
    → p stop ≡ false → total_load (filter p (take (k + 1) stops)) ≡ total_load (filter p (take k stops))
total_load-leaves p stops k stop here fails =
    let each : (part : Load → ℕ) → total_of part (filter p (take (k + 1) stops)) ≡ total_of part (filter p (take k stops)) + 0 = λ part.
    (total_of-next part p stops k stop here ∙ ap (λ (b : Bool). total_of part (filter p (take k stops)) + load_if part b stop) fails) in
    same_load (total_load (filter p (take (k + 1) stops))) (total_load (filter p (take k stops)))
    (omega (arith, total-seats (filter p (take (k + 1) stops)), total-seats (filter p (take k stops)), each seats_of))
    (omega (arith, total-chairs (filter p (take (k + 1) stops)), total-chairs (filter p (take k stops)), each chairs_of))
