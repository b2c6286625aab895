-- A route in pairs stays in pairs when a new trip is put in.
use Rattle.std.proofs.Common.{◌≡◌, ℕ, ◌+◌, ◌-◌, ◌<◌, ◌≤◌, true, ◌==◌, List, Some, length, slice_get, IsTrue, inl, inr, refl, ap, sym, subst, ◌∙◌, arith}
use Rattle.std.specs.List.{list_any}
use Rattle.std.proofs.lemmas.Bool.{cases_lt, cases_eq, eq-eqb, and_from}
use Rattle.pt_feasible.specs.declared.stop.Stop.{Stop}
use Rattle.pt_feasible.specs.Pairing.{IsPickupThenDrop, is_partner, IsPaired}
use Rattle.pt_insertion_search.specs.declared.asked.Asked.{Asked}
use Rattle.pt_insertion_search.specs.Asked.{pickup_stop, drop_stop}
use Rattle.pt_insertion_search.specs.Insertion.{with_trip, IsWithout}
use Rattle.pt_insertion_search.proofs.ListLemmas.{list_any_from, list_any_to}
use Rattle.pt_insertion_search.proofs.InsertionLemmas.{with_trip_before, with_trip_pickup, with_trip_between, with_trip_drop, with_trip_after}

-- the place of an old stop after the trip is put in
record IsMoved (i j old new : ℕ) : Type 0 where
  before : old < i → new ≡ old
  between : i ≤ old → old < j → new ≡ old + 1
  after : j ≤ old → new ≡ old + 2

-- old stops keep their order
moved_in_order : (i j m n a b : ℕ) → i ≤ j → IsMoved i j m a → IsMoved i j n b → a < b → m < n
moved_in_order i j m n a b h first second lt =
    elim (cases_lt m n) [
      | inl done ↦ done
      | inr back ↦ elim (cases_lt n i) [
        | inl before ↦ let second_at : b ≡ n = second.before before in
            elim (cases_lt m i) [
              | inl low ↦ let first_at : a ≡ m = first.before low in omega arith
              | inr high ↦ elim (cases_lt m j) [
                | inl low ↦ let first_at : a ≡ m + 1 = first.between high low in omega arith
                | inr past ↦ let first_at : a ≡ m + 2 = first.after past in omega arith
              ]
            ]
        | inr from ↦ elim (cases_lt n j) [
          | inl between ↦ let second_at : b ≡ n + 1 = second.between from between in
              elim (cases_lt m j) [
                | inl low ↦ let first_at : a ≡ m + 1 = first.between (omega arith) low in omega arith
                | inr past ↦ let first_at : a ≡ m + 2 = first.after past in omega arith
              ]
          | inr after ↦ let second_at : b ≡ n + 2 = second.after after in
              let first_at : a ≡ m + 2 = first.after (omega arith) in omega arith
        ]
      ]
    ]

-- where a stop of the route with the trip put in comes from
data Origin (asked : Asked) (i j : ℕ) (stops : List Stop) (k : ℕ) (stop : Stop) : Type 0 where
  the_pickup : k ≡ i → pickup_stop asked ≡ stop → Origin asked i j stops k stop
  the_drop : k ≡ j + 1 → drop_stop asked ≡ stop → Origin asked i j stops k stop
  an_old_stop : (m : ℕ) → slice_get stops m ≡ Some stop → IsMoved i j m k → Origin asked i j stops k stop

origin_of : (asked : Asked) (i j : ℕ) (stops : List Stop) → i ≤ j → j ≤ length stops → (k : ℕ) (stop : Stop) →
    slice_get (with_trip asked i j stops) k ≡ Some stop → Origin asked i j stops k stop
origin_of asked i j stops h g k stop e =
    elim (cases_lt k i) [
      | inl before ↦ an_old_stop k (sym (with_trip_before asked i j stops k h g before) ∙ e)
          (record { before = λ _. refl; between = λ after _. absurd (omega arith); after = λ after. absurd (omega arith) })
      | inr from ↦ elim (cases_eq k i) [
        | inl here ↦ the_pickup here (some_same (sym (with_trip_pickup asked i j stops h g) ∙ sym (ap (slice_get (with_trip asked i j stops)) here) ∙ e))
        | inr other ↦ elim (cases_lt k (j + 1)) [
          | inl between ↦ an_old_stop (k - 1)
              (sym (with_trip_between asked i j stops k (k - 1) h g (omega arith) (omega arith) (omega arith)) ∙ e)
              (record { before = λ lt. absurd (omega arith); between = λ _ _. omega arith; after = λ after. absurd (omega arith) })
          | inr past ↦ elim (cases_eq k (j + 1)) [
            | inl there ↦ the_drop there (some_same (sym (with_trip_drop asked i j stops k h g there) ∙ e))
            | inr later ↦ an_old_stop (k - 2)
                (sym (with_trip_after asked i j stops k (k - 2) h g (omega arith) (omega arith)) ∙ e)
                (record { before = λ lt. absurd (omega arith); between = λ _ lt. absurd (omega arith); after = λ _. omega arith })
          ]
        ]
      ]
    ]
  where
    some_same : {a b : Stop} → Some a ≡ Some b → a ≡ b
    some_same p = cc

-- an old stop is in the route with the trip put in
old_stop_stays : (asked : Asked) (i j : ℕ) (stops : List Stop) → i ≤ j → j ≤ length stops → (m : ℕ) (stop : Stop) →
    slice_get stops m ≡ Some stop → (k : ℕ) × (slice_get (with_trip asked i j stops) k ≡ Some stop)
old_stop_stays asked i j stops h g m stop e =
    elim (cases_lt m i) [
      | inl before ↦ (m, with_trip_before asked i j stops m h g before ∙ e)
      | inr from ↦ elim (cases_lt m j) [
        | inl between ↦ (m + 1, with_trip_between asked i j stops (m + 1) m h g from between refl ∙ e)
        | inr after ↦ (m + 2, with_trip_after asked i j stops (m + 2) m h g after refl ∙ e)
      ]
    ]

-- the new trip's two stops are a pair
new_pair : (asked : Asked) (first second : Stop) → pickup_stop asked ≡ first → drop_stop asked ≡ second →
    IsPickupThenDrop first second
new_pair asked first second p d =
    subst (λ (x : Stop). IsPickupThenDrop x second) p
    (subst (λ (y : Stop). IsPickupThenDrop (pickup_stop asked) y) d
    (record { pickup_first = refl; drop_second = refl; same_service = refl; same_load = refl; same_ride = refl }))

in_order_with_trip : (asked : Asked) (i j : ℕ) (stops : List Stop) → i ≤ j → j ≤ length stops →
    IsWithout asked.trip stops → IsPaired stops → (a b : ℕ) (first second : Stop) → a < b →
    Origin asked i j stops a first → Origin asked i j stops b second →
    first.trip ≡ second.trip → IsPickupThenDrop first second
in_order_with_trip asked i j stops h g new paired a b first second lt (the_pickup ka ea) (the_pickup kb eb) same = absurd (omega arith)
in_order_with_trip asked i j stops h g new paired a b first second lt (the_pickup ka ea) (the_drop kb eb) same =
    new_pair asked first second ea eb
in_order_with_trip asked i j stops h g new paired a b first second lt (the_pickup ka ea) (an_old_stop m eb kb) same =
    absurd (new m second eb (sym same ∙ sym (ap (λ (stop : Stop). stop.trip) ea)))
in_order_with_trip asked i j stops h g new paired a b first second lt (the_drop ka ea) (the_pickup kb eb) same = absurd (omega arith)
in_order_with_trip asked i j stops h g new paired a b first second lt (the_drop ka ea) (the_drop kb eb) same = absurd (omega arith)
in_order_with_trip asked i j stops h g new paired a b first second lt (the_drop ka ea) (an_old_stop m eb kb) same =
    absurd (new m second eb (sym same ∙ sym (ap (λ (stop : Stop). stop.trip) ea)))
in_order_with_trip asked i j stops h g new paired a b first second lt (an_old_stop m ea ka) (the_pickup kb eb) same =
    absurd (new m first ea (same ∙ sym (ap (λ (stop : Stop). stop.trip) eb)))
in_order_with_trip asked i j stops h g new paired a b first second lt (an_old_stop m ea ka) (the_drop kb eb) same =
    absurd (new m first ea (same ∙ sym (ap (λ (stop : Stop). stop.trip) eb)))
in_order_with_trip asked i j stops h g new paired a b first second lt (an_old_stop m ea ka) (an_old_stop n eb kb) same =
    paired.in_order m n first second (moved_in_order i j m n a b h ka kb lt) ea eb same

-- each stop of the route with the trip put in has its partner there
complete_with_trip : (asked : Asked) (i j : ℕ) (stops : List Stop) → i ≤ j → j ≤ length stops → IsPaired stops →
    (k : ℕ) (stop : Stop) → Origin asked i j stops k stop →
    IsTrue (list_any (is_partner stop) (with_trip asked i j stops))
complete_with_trip asked i j stops h g paired k stop (the_pickup at e) =
    list_any_from (is_partner stop) (with_trip asked i j stops) (j + 1) (drop_stop asked)
    (with_trip_drop asked i j stops (j + 1) h g refl)
    (subst (λ (x : Stop). is_partner x (drop_stop asked) ≡ true) e
    (and_from (asked.trip == asked.trip) true (eq-eqb asked.trip asked.trip refl) refl))
complete_with_trip asked i j stops h g paired k stop (the_drop at e) =
    list_any_from (is_partner stop) (with_trip asked i j stops) i (pickup_stop asked)
    (with_trip_pickup asked i j stops h g)
    (subst (λ (x : Stop). is_partner x (pickup_stop asked) ≡ true) e
    (and_from (asked.trip == asked.trip) true (eq-eqb asked.trip asked.trip refl) refl))
complete_with_trip asked i j stops h g paired k stop (an_old_stop m e moved) =
    let (n, partner, at, passes) = list_any_to (is_partner stop) stops (paired.complete m stop e) in
    let (l, stays) = old_stop_stays asked i j stops h g n partner at in
    list_any_from (is_partner stop) (with_trip asked i j stops) l partner stays passes

pub IsPaired-with_trip : (asked : Asked) (i j : ℕ) (stops : List Stop) → i ≤ j → j ≤ length stops →
    IsWithout asked.trip stops → IsPaired stops → IsPaired (with_trip asked i j stops)
IsPaired-with_trip asked i j stops h g new paired = record {
  in_order = λ a b first second lt ea eb same. in_order_with_trip asked i j stops h g new paired a b first second lt
      (origin_of asked i j stops h g a first ea) (origin_of asked i j stops h g b second eb) same;
  complete = λ k stop e. complete_with_trip asked i j stops h g paired k stop (origin_of asked i j stops h g k stop e);
}
