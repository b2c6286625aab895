-- A ride goes on from stop to stop: nobody sits where others do, and driving and service take their time.
use Rattle.std.proofs.Common.{◌≡◌, ℕ, zero, suc, get_or, ◌+◌, ◌-◌, ◌<◌, ◌≤◌, Bool, List, Option, Some, None, IsSomeAnd, length, take, slice_get, slice_index, refl, ap, sym, subst, ◌∙◌, arith, add-one}
use Rattle.std.specs.Prelude.{filter}
use Rattle.std.proofs.lemmas.Option.{same_Some, slice_get-get_or}
use Rattle.pt_base_values.specs.Load.{load_sum, IsLoad, FitsWithin}
use Rattle.pt_base_values.specs.Ranges.{last_minute}
use Rattle.pt_base_values.specs.declared.load.Load.{Load}
use Rattle.pt_base_values.specs.declared.vehicle.Vehicle.{Vehicle}
use Rattle.pt_feasible.specs.declared.stop.Stop.{Stop}
use Rattle.pt_feasible.specs.declared.visit.Visit.{Visit}
use Rattle.pt_base_values.proofs.LoadLemmas.{fits-is_load}
use Rattle.pt_feasible.specs.Loads.{load_aboard, LoadsFit}
use Rattle.pt_feasible.specs.Pairing.{IsPaired}
use Rattle.pt_feasible.specs.ServiceTimes.{TimesFit}
use Rattle.pt_feasible.specs.Stop.{is_pickup, is_drop}
use Rattle.pt_feasible.specs.Visit.{visits, depot_visit, stop_visit}
use Rattle.pt_feasible.proofs.LoadLemmas.{total_of, aboard_of, aboard-more, load_if, total_of-next, dropped-le-picked, element_within}
use Rattle.pt_feasible.proofs.VisitLemmas.{length-visits, visits-stop}
use Rattle.pt_insertion_search.specs.declared.asked.Asked.{Asked}
use Rattle.pt_insertion_search.specs.Asked.{pickup_stop, drop_stop}
use Rattle.pt_insertion_search.specs.Insertion.{with_trip, IsWithout}
use Rattle.pt_insertion_search.specs.Possible.{IsPossible}
use Rattle.pt_insertion_search.specs.declared.bounds.Bounds.{Bounds}
use Rattle.pt_insertion_search.specs.declared.window.ServiceWindow.{ServiceWindow}
use Rattle.pt_insertion_search.specs.Bounds.{AreBounds, IsPickupWindow, IsDropWindow}
use Rattle.pt_insertion_search.specs.Riding.{IsRiddenFor, IsServedUntil}
use Rattle.pt_insertion_search.specs.TravelTimes.{KeepsTriangleLaw}
use Rattle.pt_insertion_search.proofs.BetweenLemmas.{old_visit_at, old_time_between, drive_between, drop_at, drop_can_begin, is_ride, no_sooner, some_and_more}
use Rattle.pt_insertion_search.proofs.InsertionLemmas.{length-with_trip, with_trip_before, with_trip_pickup, with_trip_between}
use Rattle.pt_insertion_search.proofs.InsertionPairing.{IsPaired-with_trip}
use Rattle.pt_insertion_search.proofs.PlaceLemmas.{without_with, old_visit-between}
use Rattle.pt_insertion_search.proofs.RemovalLoads.{loads_stay}

-- before the pickup the load is that of the route without the trip
load_before : (part : Load → ℕ) (p : Stop → Bool) (asked : Asked) (i j : ℕ) (stops : List Stop) (k : ℕ) → i ≤ j → j ≤ length stops → k ≤ i →
    total_of part (filter p (take k (with_trip asked i j stops))) ≡ total_of part (filter p (take k stops))
load_before part p asked i j stops zero h g before = refl
load_before part p asked i j stops (suc k) h g before =
    let (stop, here) = element_within stops k (omega arith) in
    let there : slice_get (with_trip asked i j stops) k ≡ Some stop = with_trip_before asked i j stops k h g (omega arith) ∙ here in
    let old = total_of-next part p stops k stop here in
    let new = total_of-next part p (with_trip asked i j stops) k stop there in
    let rest = load_before part p asked i j stops k h g (omega arith) in
    let next : k + 1 ≡ suc k = omega arith in
    subst (λ (n : ℕ). total_of part (filter p (take n (with_trip asked i j stops))) ≡ total_of part (filter p (take n stops))) next (omega arith)

-- from the pickup on the party is loaded too
load_between : (part : Load → ℕ) (p : Stop → Bool) (asked : Asked) (i j : ℕ) (stops : List Stop) (n : ℕ) → i ≤ j → j ≤ length stops → i + n ≤ j →
    total_of part (filter p (take (i + n + 1) (with_trip asked i j stops)))
    ≡ total_of part (filter p (take (i + n) stops)) + load_if part (p (pickup_stop asked)) (pickup_stop asked)
load_between part p asked i j stops zero h g within =
    let same : i ≡ i + 0 = omega arith in
    let new = total_of-next part p (with_trip asked i j stops) i (pickup_stop asked) (with_trip_pickup asked i j stops h g) in
    let before = load_before part p asked i j stops i h g (omega arith) in
    subst (λ (m : ℕ). total_of part (filter p (take (m + 1) (with_trip asked i j stops)))
    ≡ total_of part (filter p (take m stops)) + load_if part (p (pickup_stop asked)) (pickup_stop asked)) same (omega arith)
load_between part p asked i j stops (suc n) h g within =
    let (stop, here) = element_within stops (i + n) (omega arith) in
    let there : slice_get (with_trip asked i j stops) (i + n + 1) ≡ Some stop =
    with_trip_between asked i j stops (i + n + 1) (i + n) h g (omega arith) (omega arith) refl ∙ here in
    let old = total_of-next part p stops (i + n) stop here in
    let new = total_of-next part p (with_trip asked i j stops) (i + n + 1) stop there in
    let rest = load_between part p asked i j stops n h g (omega arith) in
    let next : i + n + 1 ≡ i + suc n = omega arith in
    subst (λ (m : ℕ). total_of part (filter p (take (m + 1) (with_trip asked i j stops)))
    ≡ total_of part (filter p (take m stops)) + load_if part (p (pickup_stop asked)) (pickup_stop asked)) next (omega arith)

-- during the ride all others are aboard together with the party
aboard_beside : (asked : Asked) (i j : ℕ) (stops : List Stop) (k : ℕ) → IsPaired stops → i ≤ k → k ≤ j → j ≤ length stops →
    load_aboard (take (k + 1) (with_trip asked i j stops)) ≡ load_sum (load_aboard (take k stops)) asked.load
aboard_beside asked i j stops k paired from to g =
    aboard-more (take (k + 1) (with_trip asked i j stops)) (take k stops) asked.load (λ part.
    (let within : i + (k - i) ≤ j = omega arith in
    let at : i + (k - i) ≡ k = omega arith in
    let picked : total_of part (filter is_pickup (take (i + (k - i) + 1) (with_trip asked i j stops)))
    ≡ total_of part (filter is_pickup (take (i + (k - i)) stops)) + part asked.load = load_between part is_pickup asked i j stops (k - i) (omega arith) g within in
    let dropped : total_of part (filter is_drop (take (i + (k - i) + 1) (with_trip asked i j stops)))
    ≡ total_of part (filter is_drop (take (i + (k - i)) stops)) + 0 = load_between part is_drop asked i j stops (k - i) (omega arith) g within in
    let fewer = dropped-le-picked part stops paired (i + (k - i)) (omega arith) in
    subst (λ (m : ℕ). aboard_of part (take (m + 1) (with_trip asked i j stops)) ≡ aboard_of part (take m stops) + part asked.load) at (omega arith)))

-- where the vehicle is too full with the party at a stop of the ride, no place is possible
pub no_room : (minutes : ℕ → ℕ → Option ℕ) (vehicle : Vehicle) (stops : List Stop) (asked : Asked) (i k : ℕ) → IsPaired stops → i ≤ k →
    ¬ FitsWithin (load_sum (load_aboard (take k stops)) asked.load) vehicle →
    (later : ℕ) → k ≤ later → ¬ IsPossible minutes vehicle stops asked i later
no_room minutes vehicle stops asked i k paired from full later to possible =
    let among : later ≤ length stops = possible.among in
    let fits : FitsWithin (load_aboard (take (k + 1) (with_trip asked i later stops))) vehicle =
    possible.loads (k + 1) (omega (arith, length-with_trip asked i later stops possible.drop_later among)) in
    full (subst (λ (load : Load). FitsWithin load vehicle) (aboard_beside asked i later stops k paired from to among) fits)

-- a route on which more are aboard than any vehicle carries has no possible place
pub none_fit : (minutes : ℕ → ℕ → Option ℕ) (vehicle : Vehicle) (stops : List Stop) (asked : Asked) (k : ℕ) → IsPaired stops →
    IsWithout asked.trip stops → k ≤ length stops → ¬ IsLoad (load_aboard (take k stops)) →
    (i j : ℕ) → ¬ IsPossible minutes vehicle stops asked i j
none_fit minutes vehicle stops asked k paired new within full i j possible =
    let pairs = IsPaired-with_trip asked i j stops possible.drop_later possible.among new paired in
    let old : LoadsFit vehicle stops =
    subst (LoadsFit vehicle) (without_with asked i j stops possible.drop_later new)
    (loads_stay asked.trip (with_trip asked i j stops) pairs vehicle possible.loads) in
    full (fits-is_load (load_aboard (take k stops)) vehicle (old k within))

-- the ride as it begins
pub begins_ride : (minutes : ℕ → ℕ → Option ℕ) (vehicle : Vehicle) (stops : List Stop) (asked : Asked) (i : ℕ) →
    IsRiddenFor minutes vehicle stops asked i i asked.origin 0
begins_ride minutes vehicle stops asked i later b last from among fits e =
    let there = visits-stop vehicle (with_trip asked i later stops) i (pickup_stop asked) (with_trip_pickup asked i later stops from among) in
    let same : stop_visit (pickup_stop asked) ≡ last = same_Some _ last (sym there ∙ ap (slice_get (visits vehicle (with_trip asked i later stops))) (sym (add-one i)) ∙ e) in
    let place : asked.origin ≡ last.place = ap (λ (visit : Visit). visit.place) same in
    let service : asked.service ≡ last.service = ap (λ (visit : Visit). visit.service) same in
    (sym place, omega arith)

-- the pickup's service ends at the start of its window plus the service, or later
pub begins_served : (minutes : ℕ → ℕ → Option ℕ) (vehicle : Vehicle) (stops : List Stop) (asked : Asked) (i : ℕ) (pickup : ServiceWindow) →
    IsPickupWindow minutes vehicle stops asked i pickup → IsServedUntil minutes vehicle stops asked i i (pickup.lo + asked.service)
begins_served minutes vehicle stops asked i pickup begins later b last from among fits e =
    let (at, least) = begins_ride minutes vehicle stops asked i later b last from among fits e in
    let (low, high) = begins later b from among fits in
    omega (arith, low, least)

-- what has to be driven from the last visit to a later one
drive_on : (minutes : ℕ → ℕ → Option ℕ) (vehicle : Vehicle) (stops : List Stop) (asked : Asked) (i j place ridden : ℕ) →
    KeepsTriangleLaw minutes → vehicle.closes ≤ last_minute → IsRiddenFor minutes vehicle stops asked i j place ridden →
    (later : ℕ) (b : List ℕ) → i ≤ j → j ≤ later → later ≤ length stops → TimesFit minutes vehicle (with_trip asked i later stops) b →
    (k : ℕ) (next : Visit) → j + 1 < k → slice_get (visits vehicle (with_trip asked i later stops)) k ≡ Some next →
    IsSomeAnd (minutes place next.place) (λ drive. slice_index b (i + 1) + asked.service + ridden + drive ≤ slice_index b k)
drive_on minutes vehicle stops asked i j place ridden law day so_far later b h from among fits k next after there =
    let all = visits vehicle (with_trip asked i later stops) in
    let count = length-visits vehicle (with_trip asked i later stops) in
    let longer = length-with_trip asked i later stops (omega arith) among in
    let last = get_or all (j + 1) (depot_visit vehicle) in
    let here : slice_get all (j + 1) ≡ Some last = slice_get-get_or all (j + 1) (depot_visit vehicle) (omega arith) in
    let (at, least) = so_far later b last from among fits here in
    subst (λ (p : ℕ). IsSomeAnd (minutes p next.place) (λ drive. slice_index b (i + 1) + asked.service + ridden + drive ≤ slice_index b k)) at
    (some_and_more (minutes last.place next.place) _ _ (λ drive late. omega arith)
    (drive_between minutes vehicle (with_trip asked i later stops) b law day fits (j + 1) k last next after here there))

-- what holds of a value holds of the one that is there
pub held : (o : Option ℕ) (P : ℕ → Type 0) (t : ℕ) → o ≡ Some t → IsSomeAnd o P → P t
held o P t is holds = subst (λ (o : Option ℕ). IsSomeAnd o P) is holds

pub nothing_held : (o : Option ℕ) (P : ℕ → Type 0) → o ≡ None → ¬ IsSomeAnd o P
nothing_held o P is holds = subst (λ (o : Option ℕ). IsSomeAnd o P) is holds

-- the next stop in the route with the trip, where the drop comes later
next_stop : (vehicle : Vehicle) (stops : List Stop) (asked : Asked) (i j later : ℕ) (here : Visit) → i ≤ j → j + 1 ≤ later → later ≤ length stops →
    IsWithout asked.trip stops → slice_get (visits vehicle stops) (j + 1) ≡ Some here →
    slice_get (visits vehicle (with_trip asked i later stops)) (j + 2) ≡ Some here
next_stop vehicle stops asked i j later here h after among new e =
    let place = old_visit-between asked i later stops (j + 1) (omega arith) among new (omega arith) after in
    let next : j + 1 + 1 ≡ j + 2 = omega arith in
    subst (λ (k : ℕ). slice_get (visits vehicle (with_trip asked i later stops)) k ≡ Some here) (place ∙ next)
    (old_visit_at vehicle asked i later stops (j + 1) here (omega arith) new e)

-- the ride one stop on
pub rides_on : (minutes : ℕ → ℕ → Option ℕ) (vehicle : Vehicle) (stops : List Stop) (asked : Asked) (i j place ridden : ℕ) (here : Visit) (drive : ℕ) →
    KeepsTriangleLaw minutes → vehicle.closes ≤ last_minute → IsWithout asked.trip stops → i ≤ j →
    slice_get (visits vehicle stops) (j + 1) ≡ Some here → minutes place here.place ≡ Some drive →
    IsRiddenFor minutes vehicle stops asked i j place ridden →
    IsRiddenFor minutes vehicle stops asked i (j + 1) here.place (ridden + drive + here.service)
rides_on minutes vehicle stops asked i j place ridden here drive law day new h e way so_far later b last from among fits at =
    let there = next_stop vehicle stops asked i j later here h from among new e in
    let next : j + 1 + 1 ≡ j + 2 = omega arith in
    let same : here ≡ last = same_Some here last (sym there ∙ ap (slice_get (visits vehicle (with_trip asked i later stops))) (sym next) ∙ at) in
    let service : here.service ≡ last.service = ap (λ (visit : Visit). visit.service) same in
    let begun = ap (slice_index b) next in
    let late = held (minutes place here.place) _ drive way
    (drive_on minutes vehicle stops asked i j place ridden law day so_far later b h (omega arith) among fits (j + 2) here (omega arith) there) in
    (sym (ap (λ (visit : Visit). visit.place) same), omega arith)

-- without a way to the next stop no drop comes after it
pub no_way_on : (minutes : ℕ → ℕ → Option ℕ) (vehicle : Vehicle) (stops : List Stop) (asked : Asked) (i j place ridden : ℕ) (here : Visit) →
    KeepsTriangleLaw minutes → vehicle.closes ≤ last_minute → IsWithout asked.trip stops → i ≤ j →
    slice_get (visits vehicle stops) (j + 1) ≡ Some here → minutes place here.place ≡ None →
    IsRiddenFor minutes vehicle stops asked i j place ridden →
    (later : ℕ) → j + 1 ≤ later → ¬ IsPossible minutes vehicle stops asked i later
no_way_on minutes vehicle stops asked i j place ridden here law day new h e way so_far later from possible =
    let (b, fits) = possible.times in
    nothing_held (minutes place here.place) _ way
    (drive_on minutes vehicle stops asked i j place ridden law day so_far later b h (omega arith) possible.among fits (j + 2) here (omega arith)
    (next_stop vehicle stops asked i j later here h from possible.among new e))

-- the ride limit leaves time for the way to the goal
pub way_left : (minutes : ℕ → ℕ → Option ℕ) (vehicle : Vehicle) (stops : List Stop) (asked : Asked) (i j place ridden : ℕ) →
    KeepsTriangleLaw minutes → vehicle.closes ≤ last_minute → i ≤ j → IsRiddenFor minutes vehicle stops asked i j place ridden →
    (later : ℕ) → j ≤ later → IsPossible minutes vehicle stops asked i later →
    IsSomeAnd (minutes place asked.goal) (λ rest. ridden + rest ≤ asked.ride)
way_left minutes vehicle stops asked i j place ridden law day h so_far later from possible =
    let (b, fits) = possible.times in
    let among : later ≤ length stops = possible.among in
    let ride = is_ride minutes vehicle stops asked i later b law day possible.drop_later among fits in
    some_and_more (minutes place asked.goal) _ _ (λ rest late. omega (arith, ride.within_limit, late))
    (drive_on minutes vehicle stops asked i j place ridden law day so_far later b h from among fits (later + 2) (stop_visit (drop_stop asked))
    (omega arith) (drop_at vehicle asked i later stops possible.drop_later among))

-- a later visit is begun no sooner than where the vehicle leaves and drives to it
comes_on : (minutes : ℕ → ℕ → Option ℕ) (vehicle : Vehicle) (stops : List Stop) (asked : Asked) (i j place ridden leaves : ℕ) →
    KeepsTriangleLaw minutes → vehicle.closes ≤ last_minute →
    IsRiddenFor minutes vehicle stops asked i j place ridden → IsServedUntil minutes vehicle stops asked i j leaves →
    (later : ℕ) (b : List ℕ) → i ≤ j → j ≤ later → later ≤ length stops → TimesFit minutes vehicle (with_trip asked i later stops) b →
    (k : ℕ) (next : Visit) → j + 1 < k → slice_get (visits vehicle (with_trip asked i later stops)) k ≡ Some next →
    IsSomeAnd (minutes place next.place) (λ drive. leaves + drive ≤ slice_index b k)
comes_on minutes vehicle stops asked i j place ridden leaves law day so_far served later b h from among fits k next after there =
    let all = visits vehicle (with_trip asked i later stops) in
    let count = length-visits vehicle (with_trip asked i later stops) in
    let longer = length-with_trip asked i later stops (omega arith) among in
    let last = get_or all (j + 1) (depot_visit vehicle) in
    let here : slice_get all (j + 1) ≡ Some last = slice_get-get_or all (j + 1) (depot_visit vehicle) (omega arith) in
    let (at, least) = so_far later b last from among fits here in
    let ends = served later b last from among fits here in
    subst (λ (p : ℕ). IsSomeAnd (minutes p next.place) (λ drive. leaves + drive ≤ slice_index b k)) at
    (some_and_more (minutes last.place next.place) _ _ (λ drive late. omega arith)
    (drive_between minutes vehicle (with_trip asked i later stops) b law day fits (j + 1) k last next after here there))

-- the next stop is begun no sooner than the vehicle comes there, and between its bounds
pub comes_between : (minutes : ℕ → ℕ → Option ℕ) (vehicle : Vehicle) (stops : List Stop) (asked : Asked) (bounds : Bounds)
    (i j place ridden leaves : ℕ) (here : Visit) (drive : ℕ) →
    KeepsTriangleLaw minutes → AreBounds minutes vehicle stops bounds → IsWithout asked.trip stops → i ≤ j →
    slice_get (visits vehicle stops) (j + 1) ≡ Some here → minutes place here.place ≡ Some drive →
    IsRiddenFor minutes vehicle stops asked i j place ridden → IsServedUntil minutes vehicle stops asked i j leaves →
    (later : ℕ) (b : List ℕ) → j + 1 ≤ later → later ≤ length stops → TimesFit minutes vehicle (with_trip asked i later stops) b →
    (leaves + drive ≤ slice_index b (j + 2))
    × (slice_index bounds.earliest.items (j + 1) ≤ slice_index b (j + 2)) × (slice_index b (j + 2) ≤ slice_index bounds.latest (j + 1))
comes_between minutes vehicle stops asked bounds i j place ridden leaves here drive law are new h e way so_far served later b from among fits =
    let (low, high) = old_time_between minutes vehicle asked i later stops bounds b law are (omega arith) new fits (j + 1) in
    let stands = ap (slice_index b) (old_visit-between asked i later stops (j + 1) (omega arith) among new (omega arith) from) in
    let next : slice_index b (j + 1 + 1) ≡ slice_index b (j + 2) = ap (slice_index b) (let same : j + 1 + 1 ≡ j + 2 = omega arith in same) in
    let late = held (minutes place here.place) _ drive way
    (comes_on minutes vehicle stops asked i j place ridden leaves law are.within_a_day so_far served later b h (omega arith) among fits (j + 2) here
    (omega arith) (next_stop vehicle stops asked i j later here h from among new e)) in
    (late, omega (arith, low, stands, next), omega (arith, high, stands, next))

-- the service at the next stop ends no sooner than it begins, by its bound and by the way there, and lasts
pub serves_on : (minutes : ℕ → ℕ → Option ℕ) (vehicle : Vehicle) (stops : List Stop) (asked : Asked) (bounds : Bounds)
    (i j place ridden leaves : ℕ) (here : Visit) (drive begins : ℕ) →
    KeepsTriangleLaw minutes → AreBounds minutes vehicle stops bounds → IsWithout asked.trip stops → i ≤ j →
    slice_get (visits vehicle stops) (j + 1) ≡ Some here → minutes place here.place ≡ Some drive →
    IsRiddenFor minutes vehicle stops asked i j place ridden → IsServedUntil minutes vehicle stops asked i j leaves →
    ((minute : ℕ) → slice_index bounds.earliest.items (j + 1) ≤ minute → leaves + drive ≤ minute → begins ≤ minute) →
    IsServedUntil minutes vehicle stops asked i (j + 1) (begins + here.service)
serves_on minutes vehicle stops asked bounds i j place ridden leaves here drive begins law are new h e way so_far served least later b last from among fits at =
    let there = next_stop vehicle stops asked i j later here h from among new e in
    let next : j + 1 + 1 ≡ j + 2 = omega arith in
    let same : here ≡ last = same_Some here last (sym there ∙ ap (slice_get (visits vehicle (with_trip asked i later stops))) (sym next) ∙ at) in
    let service : here.service ≡ last.service = ap (λ (visit : Visit). visit.service) same in
    let begun = ap (slice_index b) next in
    let (come, low, high) = comes_between minutes vehicle stops asked bounds i j place ridden leaves here drive law are new h e way so_far served later b from
    among fits in
    let after = least (slice_index b (j + 2)) low come in
    omega (arith, after, service, begun)

-- where the next stop would begin too late no drop comes after it
pub too_late_on : (minutes : ℕ → ℕ → Option ℕ) (vehicle : Vehicle) (stops : List Stop) (asked : Asked) (bounds : Bounds)
    (i j place ridden leaves : ℕ) (here : Visit) (drive begins : ℕ) →
    KeepsTriangleLaw minutes → AreBounds minutes vehicle stops bounds → IsWithout asked.trip stops → i ≤ j →
    slice_get (visits vehicle stops) (j + 1) ≡ Some here → minutes place here.place ≡ Some drive →
    IsRiddenFor minutes vehicle stops asked i j place ridden → IsServedUntil minutes vehicle stops asked i j leaves →
    ((minute : ℕ) → slice_index bounds.earliest.items (j + 1) ≤ minute → leaves + drive ≤ minute → begins ≤ minute) →
    slice_index bounds.latest (j + 1) < begins → (later : ℕ) → j + 1 ≤ later → ¬ IsPossible minutes vehicle stops asked i later
too_late_on minutes vehicle stops asked bounds i j place ridden leaves here drive begins law are new h e way so_far served least late later from possible =
    let (b, fits) = possible.times in
    let (come, low, high) = comes_between minutes vehicle stops asked bounds i j place ridden leaves here drive law are new h e way so_far served later b from
    possible.among fits in
    let after = least (slice_index b (j + 2)) low come in
    omega (arith, after, high, late)

-- where the vehicle leaves after the drop's window, no drop comes later
pub no_drops_after : (minutes : ℕ → ℕ → Option ℕ) (vehicle : Vehicle) (stops : List Stop) (asked : Asked) (window : ServiceWindow) (i j place ridden leaves : ℕ) →
    KeepsTriangleLaw minutes → vehicle.closes ≤ last_minute → IsDropWindow minutes vehicle stops asked i window → i ≤ j →
    IsRiddenFor minutes vehicle stops asked i j place ridden → IsServedUntil minutes vehicle stops asked i j leaves →
    window.hi < leaves → (later : ℕ) → j ≤ later → ¬ IsPossible minutes vehicle stops asked i later
no_drops_after minutes vehicle stops asked window i j place ridden leaves law day begins h so_far served late later from possible =
    let (b, fits) = possible.times in
    let (low, high) = begins later b possible.drop_later possible.among fits in
    let come = no_sooner (minutes place asked.goal) _ _
    (comes_on minutes vehicle stops asked i j place ridden leaves law day so_far served later b h from possible.among fits (later + 2)
    (stop_visit (drop_stop asked)) (omega arith) (drop_at vehicle asked i later stops possible.drop_later possible.among)) in
    omega (arith, high, come, late)

-- the drop comes no sooner than the way to it takes, in its window, and in time for the next stop
pub drop_comes : (minutes : ℕ → ℕ → Option ℕ) (vehicle : Vehicle) (stops : List Stop) (asked : Asked) (bounds : Bounds) (window : ServiceWindow)
    (i j place ridden leaves : ℕ) (next : Visit) →
    KeepsTriangleLaw minutes → AreBounds minutes vehicle stops bounds → IsWithout asked.trip stops → IsDropWindow minutes vehicle stops asked i window →
    slice_get (visits vehicle stops) (j + 1) ≡ Some next →
    IsRiddenFor minutes vehicle stops asked i j place ridden → IsServedUntil minutes vehicle stops asked i j leaves →
    IsPossible minutes vehicle stops asked i j →
    IsSomeAnd (minutes place asked.goal) (λ to. (leaves + to ≤ window.hi)
    × IsSomeAnd (minutes asked.goal next.place) (λ on. leaves + to + asked.service + on ≤ slice_index bounds.latest (j + 1)))
drop_comes minutes vehicle stops asked bounds window i j place ridden leaves next law are new begins e so_far served possible =
    let (b, fits) = possible.times in
    let (low, high) = begins j b possible.drop_later possible.among fits in
    let can = drop_can_begin minutes vehicle asked i j stops bounds b law are possible.drop_later possible.among new fits in
    some_and_more (minutes place asked.goal) _ _ (λ to come.
    (omega (arith, high, come), some_and_more (minutes asked.goal next.place) _ _ (λ on before. omega (arith, come, before)) (can.before next e)))
    (comes_on minutes vehicle stops asked i j place ridden leaves law are.within_a_day so_far served j b possible.drop_later (omega arith) possible.among fits
    (j + 2) (stop_visit (drop_stop asked)) (omega arith) (drop_at vehicle asked i j stops possible.drop_later possible.among))
