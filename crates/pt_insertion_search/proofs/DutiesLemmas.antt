-- The best in the routes of the vehicles so far, and of one more vehicle.
use Rattle.std.proofs.Common.{◌≡◌, ℕ, ◌+◌, ◌<◌, ◌≤◌, ◌⊎◌, List, Option, Some, None, length, get_or, IfSome, IfNone, inl, inr, ap, sym, subst, ◌∙◌, arith}
use Rattle.std.specs.Prelude.{⊤, All, AllPairs, Any}
use Rattle.std.proofs.lemmas.Bool.{cases_lt}
use Rattle.std.proofs.lemmas.List.{get_or_read}
use Rattle.pt_feasible.specs.Route.{stops_of}
use Rattle.pt_insertion_search.specs.declared.asked.Asked.{Asked}
use Rattle.pt_insertion_search.specs.declared.chosen.Chosen.{Chosen}
use Rattle.pt_insertion_search.specs.declared.duty.Duty.{Duty}
use Rattle.pt_insertion_search.specs.Choice.{IsChosenIn, IsNoWorseThan, IsBestIn}
use Rattle.pt_insertion_search.specs.BestBelow.{IsBestBelow, limit_after, later_of}
use Rattle.pt_insertion_search.specs.Possible.{IsPossible}
use Rattle.pt_insertion_search.proofs.BelowLemmas.{less_driving}

-- the best in the routes of the first n duties
pub record IsBestSoFar (minutes : ℕ → ℕ → Option ℕ) (duties : List Duty) (asked : Asked) (n : ℕ) (best : Option Chosen) : Type 0 where
  pub none : IfNone best ((k : ℕ) (d : Duty) → k < n → (i j : ℕ) →
      IsPossible minutes (get_or duties k d).vehicle.now (stops_of (get_or duties k d).route.now) asked i j → ⊥)
  pub chosen : IfSome best (λ choice. (k : ℕ) × (duty : Duty) × (k < n) × (get_or duties k duty ≡ duty)
      × IsChosenIn minutes duty.vehicle.now (stops_of duty.route.now) asked choice)
  pub least : IfSome best (λ choice. (k : ℕ) (d : Duty) → k < n →
      IsBestIn minutes (get_or duties k d).vehicle.now (stops_of (get_or duties k d).route.now) asked choice)

-- a choice in an earlier vehicle is no worse than what adds as much driving in a later one
earlier_vehicle : (first : Chosen) (added vehicle i j : ℕ) → first.added ≤ added → first.vehicle < vehicle → IsNoWorseThan first added vehicle i j
earlier_vehicle first added vehicle i j less before = record {
  driving_first = less;
  then_vehicle = λ _. omega arith;
  then_pickup = λ _ same. absurd (omega arith);
  then_drop = λ _ same _. absurd (omega arith);
}

-- one of the first n duties, or the next one
first_or_next : (duties : List Duty) (n : ℕ) (duty : Duty) → n < length duties → duty ≡ get_or duties n duty →
    (k : ℕ) (d : Duty) → k < n + 1 → (k < n) ⊎ (duty ≡ get_or duties k d)
first_or_next duties n duty within at k d h =
    elim (cases_lt k n) [
      | inl before ↦ inl before
      | inr from ↦ let same : n ≡ k = omega arith in
          inr (get_or_read duties n duty within at d ∙ ap (λ (m : ℕ). get_or duties m d) same)
    ]

pub no_duties_yet : (minutes : ℕ → ℕ → Option ℕ) (duties : List Duty) (asked : Asked) → IsBestSoFar minutes duties asked 0 None
no_duties_yet minutes duties asked = record {
  none = λ k d h. absurd (omega arith);
  chosen = tt;
  least = tt;
}

-- the routes of one vehicle more
pub one_more_duty : (minutes : ℕ → ℕ → Option ℕ) (duties : List Duty) (asked : Asked) (n : ℕ) (duty : Duty) (narrower : Option ℕ) (best other new : Option Chosen) →
    n < length duties → duty ≡ get_or duties n duty →
    AllPairs (λ first second. first.vehicle.now.id < second.vehicle.now.id) duties →
    new ≡ later_of best other → narrower ≡ limit_after None best → IsBestSoFar minutes duties asked n best →
    IsBestBelow minutes duty.vehicle.now (stops_of duty.route.now) asked (λ pickup drop. ⊤) narrower other →
    IsBestSoFar minutes duties asked (n + 1) new
one_more_duty minutes duties asked n duty narrower best other new within at rising same narrow is_best is_other =
    subst (λ (choice : Option Chosen). IsBestSoFar minutes duties asked (n + 1) choice) (sym same) (go best other is_best
    (subst (λ (o : Option ℕ). IsBestBelow minutes duty.vehicle.now (stops_of duty.route.now) asked (λ pickup drop. ⊤) o other) narrow is_other))
  where
    -- what holds of the next duty holds of it in the list
    next_is : (P : Duty → Type 0) → P duty → (k : ℕ) (d : Duty) → duty ≡ get_or duties k d → P (get_or duties k d)
    next_is P holds k d e = subst P e holds

    chosen_before : (choice : Chosen) → IsBestSoFar minutes duties asked n (Some choice) →
        (k : ℕ) × (d : Duty) × (k < n + 1) × (get_or duties k d ≡ d)
        × IsChosenIn minutes d.vehicle.now (stops_of d.route.now) asked choice
    chosen_before choice is = let (k, d, below, there, holds) = is.chosen in (k, d, omega arith, there, holds)

    chosen_next : (choice : Chosen) → IsChosenIn minutes duty.vehicle.now (stops_of duty.route.now) asked choice →
        (k : ℕ) × (d : Duty) × (k < n + 1) × (get_or duties k d ≡ d)
        × IsChosenIn minutes d.vehicle.now (stops_of d.route.now) asked choice
    chosen_next choice holds = (n, duty, omega arith, sym at, holds)

    before_next : (choice : Chosen) → IsBestSoFar minutes duties asked n (Some choice) → choice.vehicle < duty.vehicle.now.id
    before_next choice is =
        let (k, d, below, there, holds) = is.chosen in
        let next : duty ≡ get_or duties n d = get_or_read duties n duty within at d in
        let rises : (get_or duties k d).vehicle.now.id < (get_or duties n d).vehicle.now.id = rising k n d below within in
        let first : (get_or duties k d).vehicle.now.id ≡ d.vehicle.now.id = ap (λ (x : Duty). x.vehicle.now.id) there in
        let second : duty.vehicle.now.id ≡ (get_or duties n d).vehicle.now.id = ap (λ (x : Duty). x.vehicle.now.id) next in
        let number : choice.vehicle ≡ d.vehicle.now.id = holds.vehicle_number in
        omega arith

    go : (best other : Option Chosen) → IsBestSoFar minutes duties asked n best →
        IsBestBelow minutes duty.vehicle.now (stops_of duty.route.now) asked (λ pickup drop. ⊤) (limit_after None best) other →
        IsBestSoFar minutes duties asked (n + 1) (later_of best other)
    go None None is_best is_other = record {
      none = λ k d h. elim (first_or_next duties n duty within at k d h) [
        | inl before ↦ is_best.none k d before
        | inr next ↦ next_is (λ (x : Duty). (i j : ℕ) → IsPossible minutes x.vehicle.now (stops_of x.route.now) asked i j → ⊥)
            (λ i j possible. is_other.none i j tt possible) k d next
      ];
      chosen = tt;
      least = tt;
    }
    go None (Some choice) is_best is_other = record {
      none = tt;
      chosen = chosen_next choice is_other.chosen;
      least = λ k d h. elim (first_or_next duties n duty within at k d h) [
        | inl before ↦ λ i j possible. absurd (is_best.none k d before i j possible)
        | inr next ↦ next_is (λ (x : Duty). IsBestIn minutes x.vehicle.now (stops_of x.route.now) asked choice)
            (λ i j possible. is_other.least i j tt possible) k d next
      ];
    }
    go (Some choice) None is_best is_other = record {
      none = tt;
      chosen = chosen_before choice is_best;
      least = λ k d h. elim (first_or_next duties n duty within at k d h) [
        | inl before ↦ is_best.least k d before
        | inr next ↦ next_is (λ (x : Duty). IsBestIn minutes x.vehicle.now (stops_of x.route.now) asked choice)
            (λ i j possible. earlier_vehicle choice _ _ i j (is_other.none i j tt possible) (before_next choice is_best)) k d next
      ];
    }
    go (Some first) (Some second) is_best is_other = record {
      none = tt;
      chosen = chosen_next second is_other.chosen;
      least = λ k d h. elim (first_or_next duties n duty within at k d h) [
        | inl before ↦ λ i j possible. less_driving first second _ _ i j is_other.below (is_best.least k d before i j possible)
        | inr next ↦ next_is (λ (x : Duty). IsBestIn minutes x.vehicle.now (stops_of x.route.now) asked second)
            (λ i j possible. is_other.least i j tt possible) k d next
      ];
    }

-- after all duties
pub none_at_all : (minutes : ℕ → ℕ → Option ℕ) (duties : List Duty) (asked : Asked) (n : ℕ) (best : Option Chosen) → length duties ≤ n →
    IsBestSoFar minutes duties asked n best →
    IfNone best (All (λ duty. (i j : ℕ) → IsPossible minutes duty.vehicle.now (stops_of duty.route.now) asked i j → ⊥) duties)
none_at_all minutes duties asked n None all is_best = λ k d h. is_best.none k d (omega arith)
none_at_all minutes duties asked n (Some choice) all is_best = tt

pub chosen_at_all : (minutes : ℕ → ℕ → Option ℕ) (duties : List Duty) (asked : Asked) (n : ℕ) (best : Option Chosen) → n ≤ length duties →
    IsBestSoFar minutes duties asked n best →
    IfSome best (λ choice. Any (λ duty. IsChosenIn minutes duty.vehicle.now (stops_of duty.route.now) asked choice) duties)
chosen_at_all minutes duties asked n None all is_best = tt
chosen_at_all minutes duties asked n (Some choice) all is_best =
    let (k, duty, below, there, holds) = is_best.chosen in (k, duty, omega arith, there, holds)

pub least_at_all : (minutes : ℕ → ℕ → Option ℕ) (duties : List Duty) (asked : Asked) (n : ℕ) (best : Option Chosen) → length duties ≤ n →
    IsBestSoFar minutes duties asked n best →
    IfSome best (λ choice. All (λ duty. IsBestIn minutes duty.vehicle.now (stops_of duty.route.now) asked choice) duties)
least_at_all minutes duties asked n None all is_best = tt
least_at_all minutes duties asked n (Some choice) all is_best = λ k d h. is_best.least k d (omega arith)
