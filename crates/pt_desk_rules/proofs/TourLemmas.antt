-- Tours: the stops that are shown one after the other, and when a vehicle has a tour.
use Rattle.std.proofs.Common.{◌≡◌, ℕ, ◌+◌, ◌≤◌, zero, suc, List, [], ◌∷◌, ◌++◌, length}
use Rattle.std.proofs.Common.{take, map, Option, Some, None, refl, sym, ap, ◌∙◌, subst, arith, add-one}
use Rattle.std.specs.List.{AllZip}
use Rattle.std.specs.Prelude.{slice_get, slice_index}
use Rattle.std.proofs.lemmas.Option.{same_Some}
use Rattle.pt_base_values.specs.declared.trip.Trip.{Trip}
use Rattle.pt_base_values.specs.declared.vehicle.Vehicle.{Vehicle}
use Rattle.pt_feasible.specs.declared.stop.Stop.{Stop}
use Rattle.pt_feasible.specs.Loads.{load_aboard}
use Rattle.pt_feasible.specs.ServiceTimes.{KeepsTimeWindows}
use Rattle.pt_feasible.specs.Visit.{depot_visit, stop_visit, visits}
use Rattle.pt_feasible.proofs.VisitLemmas.{visits-stop}
use Rattle.pt_desk_requests.specs.declared.sheets.TourStop.{TourStop}
use Rattle.pt_base_records.specs.Records.{record_at, Each}
use Rattle.pt_base_records.proofs.TableLemmas.{found_is_some}
use Rattle.pt_desk_scheduling.specs.Plan.{after_stop, stops_among, trip_stop}
use Rattle.pt_desk_scheduling.specs.declared.planned.PlannedStop.{PlannedStop}
use Rattle.pt_desk_scheduling.proofs.PlanLemmas.{found_key, stop_trip}
use Rattle.pt_travel.specs.Chain.{Row, IsTime}
use Rattle.pt_desk_rules.specs.Booking.{AreTimes}
use Rattle.pt_desk_rules.specs.Sound.{IsIn}
use Rattle.pt_desk_rules.specs.State.{trip_key}
use Rattle.pt_desk_rules.specs.Tours.{place_of, window_of, IsShownAt}

-- what holds of each element, and of one that is added at the end
pub each_pushed : {A : Type 0} (P : ℕ → A → Type 0) (xs : List A) (x : A)
    → ((k : ℕ) (a : A) → slice_get xs k ≡ Some a → P k a) → P (length xs) x
    → (k : ℕ) (a : A) → slice_get (xs ++ x ∷ []) k ≡ Some a → P k a
each_pushed P [] x each last zero a at = subst (P 0) (same_Some x a at) last
each_pushed P [] x each last (suc k) a at = absurd (cc)
each_pushed P (y ∷ ys) x each last zero a at = each 0 a at
each_pushed P (y ∷ ys) x each last (suc k) a at =
    each_pushed (λ n. P (suc n)) ys x (λ n b is. each (suc n) b is) last k a at

-- lists that go on place by place
pub zip_pushed : {A B : Type 0} (R : A → B → Type 0) (xs : List A) (ys : List B) (x : A) (y : B) → AllZip R xs ys
    → R x y → AllZip R (xs ++ x ∷ []) (ys ++ y ∷ [])
zip_pushed R [] [] x y all last = (last, tt)
zip_pushed R [] (z ∷ ys) x y all last = absurd all
zip_pushed R (z ∷ xs) [] x y all last = absurd all
zip_pushed R (w ∷ xs) (z ∷ ys) x y all last = (all.0, zip_pushed R xs ys x y all.1 last)

-- what holds of each of a list holds of the one with this number
pub each_at : {A : Type 0} (P : A → Type 0) (xs : List A) → Each P xs → (k : ℕ) (a : A) → slice_get xs k ≡ Some a
    → P a
each_at P [] each k a at = absurd (cc)
each_at P (x ∷ xs) each zero a at = subst P (same_Some x a at) each.0
each_at P (x ∷ xs) each (suc k) a at = each_at P xs each.1 k a at

after_there : (trips : List Trip) (stop : PlannedStop) (found : Option Trip) (rest : List Stop)
    → record_at trip_key stop.trip trips ≡ found → Each (λ (s : Stop). IsIn trip_key trips s.trip) rest
    → Each (λ (s : Stop). IsIn trip_key trips s.trip) (after_stop found stop.kind rest)
after_there trips stop None rest found each = each
after_there trips stop (Some trip) rest found each =
    let own : (trip_stop stop.kind trip).trip ≡ stop.trip
    = stop_trip stop.kind trip ∙ found_key trip_key stop.trip trip trips found in (
      subst (λ (n : ℕ). IsIn trip_key trips n) (sym own)
          (found_is_some (record_at trip_key stop.trip trips) trip found),
      each,
    )

-- the trips of the stops that are selected from these exist
pub trips_there : (trips : List Trip) (stops : List PlannedStop)
    → Each (λ (s : Stop). IsIn trip_key trips s.trip) (stops_among trips stops)
trips_there trips [] = tt
trips_there trips (stop ∷ later) =
    after_there trips stop (record_at trip_key stop.trip trips) (stops_among trips later) refl
    (trips_there trips later)

-- rows determine the driving times
time_one : (rows : List Row) (from to : ℕ) (a b : Option ℕ) → IsTime rows from to a → IsTime rows from to b → a ≡ b
time_one rows from to None None one two = refl
time_one rows from to None (Some n) one (within, ((chain, is, total), least)) =
    absurd (let long = one chain is in omega arith)
time_one rows from to (Some m) None (within, ((chain, is, total), least)) two =
    absurd (let long = two chain is in omega arith)
time_one rows from to (Some m) (Some n) (within, ((chain, is, total), least)) (also, ((other, it, sum), least_too)) =
    let below = least other it in
    let above = least_too chain is in
    let same : m ≡ n = omega arith in
    ap Some same

pub minutes_one : (rows : List Row) (a b : ℕ → ℕ → Option ℕ) → AreTimes rows a → AreTimes rows b → a ≡ b
minutes_one rows a b one two = λ i from to. time_one rows from to (a from to) (b from to) (one from to) (two from to) i

-- service times begin before the windows end: at a stop, and at the depot
pub within_stop : (vehicle : Vehicle) (stops : List Stop) (b : List ℕ) (k : ℕ) (stop : Stop)
    → KeepsTimeWindows (visits vehicle stops) b → slice_get stops k ≡ Some stop → slice_index b (k + 1) ≤ stop.hi
within_stop vehicle stops b k stop keeps at =
    (keeps (k + 1) (stop_visit stop) (subst (λ (n : ℕ). slice_get (visits vehicle stops) n ≡ Some (stop_visit stop))
    (sym (add-one k)) (visits-stop vehicle stops k stop at))).1

pub within_first : (vehicle : Vehicle) (stops : List Stop) (b : List ℕ) → KeepsTimeWindows (visits vehicle stops) b
    → slice_index b 0 ≤ vehicle.closes
within_first vehicle stops b keeps = (keeps 0 (depot_visit vehicle) refl).1

last_at : {A B : Type 0} (f : A → B) (xs : List A) (y : B) → slice_get (map f xs ++ y ∷ []) (length xs) ≡ Some y
last_at f [] y = refl
last_at f (x ∷ xs) y = last_at f xs y

pub within_last : (vehicle : Vehicle) (stops : List Stop) (b : List ℕ) (n : ℕ) → n ≡ length stops
    → KeepsTimeWindows (visits vehicle stops) b → slice_index b (n + 1) ≤ vehicle.closes
within_last vehicle stops b n is keeps =
    (keeps (n + 1) (depot_visit vehicle) (subst (λ (m : ℕ). slice_get (visits vehicle stops) m ≡ Some (depot_visit
    vehicle)) (ap suc (sym is) ∙ sym (add-one n)) (last_at stop_visit stops (depot_visit vehicle)))).1

-- a stop is shown with the values of its trip and the service times
pub shown_at : (trips : List Trip) (stops : List Stop) (b : List ℕ) (k : ℕ) (stop : Stop) (trip : Trip)
    (shown : TourStop) → slice_get stops k ≡ Some stop → record_at trip_key stop.trip trips ≡ Some trip
    → shown.minute ≡ slice_index b (k + 1) → shown.window ≡ window_of stop.kind trip → shown.trip ≡ trip.id
    → shown.rider ≡ trip.rider → shown.place ≡ place_of stop.kind trip
    → shown.aboard ≡ load_aboard (take (k + 1) stops) → IsShownAt trips stops b k shown
shown_at trips stops b k stop trip shown at found minute window number rider place aboard = record {
  stop = stop;
  trip = trip;
  is_stop = at;
  is_trip = found;
  value = λ i. record {
    minute = minute i;
    window = window i;
    trip = number i;
    rider = rider i;
    place = place i;
    aboard = aboard i;
  };
}
