-- The best of a set of places below a limit: one place, one more place, and one more set.
use Rattle.std.proofs.Common.{◌≡◌, ℕ, ◌+◌, ◌<◌, ◌≤◌, ◌⊎◌, List, Option, Some, None, IfSome, IsSomeAnd, length, inl, inr, refl, ap, sym, subst, ◌∙◌, arith}
use Rattle.std.proofs.lemmas.Bool.{cases_lt}
use Rattle.std.proofs.lemmas.Option.{IfSome_then}
use Rattle.std.specs.Prelude.{⊤}
use Rattle.pt_base_values.specs.declared.vehicle.Vehicle.{Vehicle}
use Rattle.pt_feasible.specs.declared.stop.Stop.{Stop}
use Rattle.pt_insertion_search.specs.declared.asked.Asked.{Asked}
use Rattle.pt_insertion_search.specs.declared.chosen.Chosen.{Chosen}
use Rattle.pt_insertion_search.specs.Choice.{added_driving, IsChosenIn, IsNoWorseThan}
use Rattle.pt_insertion_search.specs.BestBelow.{IsBestBelow, limit_after, later_of}
use Rattle.pt_insertion_search.specs.Possible.{IsPossible}

-- if a choice is no worse than a place, a choice that adds less driving is no worse either
pub less_driving : (first second : Chosen) (added vehicle i j : ℕ) → second.added < first.added →
    IsNoWorseThan first added vehicle i j → IsNoWorseThan second added vehicle i j
less_driving first second added vehicle i j less no_worse =
    let at_most : first.added ≤ added = no_worse.driving_first in
    record {
      driving_first = omega arith;
      then_vehicle = λ same. absurd (omega arith);
      then_pickup = λ same _. absurd (omega arith);
      then_drop = λ same _ _. absurd (omega arith);
    }

-- no place among these is possible
pub no_place : (minutes : ℕ → ℕ → Option ℕ) (vehicle : Vehicle) (stops : List Stop) (asked : Asked) (A : ℕ → ℕ → Type 0) (limit : Option ℕ)
    (best : Option Chosen) → best ≡ None → ((i j : ℕ) → A i j → ¬ IsPossible minutes vehicle stops asked i j) →
    IsBestBelow minutes vehicle stops asked A limit best
no_place minutes vehicle stops asked A limit best is_none never =
    subst (λ (choice : Option Chosen). IsBestBelow minutes vehicle stops asked A limit choice) (sym is_none)
    (record { none = λ i j at possible. absurd (never i j at possible); chosen = tt; among = tt; below = tt; least = tt })

-- a place that is possible
pub chosen_here : (minutes : ℕ → ℕ → Option ℕ) (vehicle : Vehicle) (stops : List Stop) (asked : Asked) (limit : Option ℕ) (choice : Chosen) →
    IsChosenIn minutes vehicle stops asked choice → IfSome limit (λ most. choice.added < most) →
    IsBestBelow minutes vehicle stops asked (λ pickup drop. (pickup ≡ choice.i) × (drop ≡ choice.j)) limit (Some choice)
chosen_here minutes vehicle stops asked limit choice is_chosen less = record {
  none = tt;
  chosen = is_chosen;
  among = (refl, refl);
  below = less;
  least = λ pickup drop here possible.
      let same : choice.added ≡ added_driving minutes vehicle stops asked pickup drop =
      is_chosen.added ∙ sym (ap (λ (k : ℕ). added_driving minutes vehicle stops asked k choice.j) here.0)
      ∙ sym (ap (λ (k : ℕ). added_driving minutes vehicle stops asked pickup k) here.1) in
      record {
        driving_first = omega arith;
        then_vehicle = λ _. omega (arith, is_chosen.vehicle_number);
        then_pickup = λ _ _. omega (arith, here.0);
        then_drop = λ _ _ _. omega (arith, here.1);
      };
}

-- a number below a limit is less than one that is not
below_limit : (limit : Option ℕ) (low high : ℕ) → IfSome limit (λ most. low < most) → IsSomeAnd limit (λ most. most ≤ high) → low < high
below_limit None low high less far = absurd far
below_limit (Some most) low high less far = omega arith

-- less driving than a place adds
less_than : (choice : Chosen) (added vehicle i j : ℕ) → choice.added < added → IsNoWorseThan choice added vehicle i j
less_than choice added vehicle i j less = record {
  driving_first = omega arith;
  then_vehicle = λ same. absurd (omega arith);
  then_pickup = λ same _. absurd (omega arith);
  then_drop = λ same _ _. absurd (omega arith);
}

-- the best of some places and then the best of later ones that adds less is the best of both
pub later_of_both : (minutes : ℕ → ℕ → Option ℕ) (vehicle : Vehicle) (stops : List Stop) (asked : Asked)
    (A B C : ℕ → ℕ → Type 0) (limit : Option ℕ) (best other : Option Chosen) →
    ((i j k l : ℕ) → A i j → B k l → (i ≤ k) × (i ≡ k → j ≤ l)) →
    ((i j : ℕ) → A i j → C i j) → ((i j : ℕ) → B i j → C i j) →
    ((i j : ℕ) → C i j → A i j ⊎ B i j) →
    IsBestBelow minutes vehicle stops asked A limit best → IsBestBelow minutes vehicle stops asked B (limit_after limit best) other →
    IsBestBelow minutes vehicle stops asked C limit (later_of best other)
later_of_both minutes vehicle stops asked A B C limit None None order from_a from_b parts is_best is_other = record {
  none = λ i j at possible. elim (parts i j at) [
    | inl at_a ↦ is_best.none i j at_a possible
    | inr at_b ↦ is_other.none i j at_b possible
  ];
  chosen = tt;
  among = tt;
  below = tt;
  least = tt;
}
later_of_both minutes vehicle stops asked A B C limit None (Some other) order from_a from_b parts is_best is_other = record {
  none = tt;
  chosen = is_other.chosen;
  among = from_b other.i other.j is_other.among;
  below = is_other.below;
  least = λ i j at possible. elim (parts i j at) [
    | inl at_a ↦ less_than other _ vehicle.id i j (below_limit limit other.added _ is_other.below (is_best.none i j at_a possible))
    | inr at_b ↦ is_other.least i j at_b possible
  ];
}
later_of_both minutes vehicle stops asked A B C limit (Some best) None order from_a from_b parts is_best is_other = record {
  none = tt;
  chosen = is_best.chosen;
  among = from_a best.i best.j is_best.among;
  below = is_best.below;
  least = λ i j at possible. elim (parts i j at) [
    | inl at_a ↦ is_best.least i j at_a possible
    | inr at_b ↦ let (before, then) = order best.i best.j i j is_best.among at_b in
        let far : best.added ≤ added_driving minutes vehicle stops asked i j = is_other.none i j at_b possible in
        record {
          driving_first = far;
          then_vehicle = λ _. omega (arith, is_best.chosen.vehicle_number);
          then_pickup = λ _ _. before;
          then_drop = λ _ _ here. then here;
        }
  ];
}
later_of_both minutes vehicle stops asked A B C limit (Some best) (Some other) order from_a from_b parts is_best is_other =
    let less : other.added < best.added = is_other.below in
    record {
      none = tt;
      chosen = is_other.chosen;
      among = from_b other.i other.j is_other.among;
      below = IfSome_then limit is_best.below (λ most more. omega arith);
      least = λ i j at possible. elim (parts i j at) [
        | inl at_a ↦ less_driving best other _ vehicle.id i j less (is_best.least i j at_a possible)
        | inr at_b ↦ is_other.least i j at_b possible
      ];
    }

-- the same best among more places, of which no other is possible
pub best_among_all : (minutes : ℕ → ℕ → Option ℕ) (vehicle : Vehicle) (stops : List Stop) (asked : Asked)
    (A C : ℕ → ℕ → Type 0) (limit : Option ℕ) (best : Option Chosen) →
    ((i j : ℕ) → A i j → C i j) → ((i j : ℕ) → C i j → IsPossible minutes vehicle stops asked i j → A i j) →
    IsBestBelow minutes vehicle stops asked A limit best → IsBestBelow minutes vehicle stops asked C limit best
best_among_all minutes vehicle stops asked A C limit None wider all is_best = record {
  none = λ i j at possible. is_best.none i j (all i j at possible) possible;
  chosen = tt;
  among = tt;
  below = tt;
  least = tt;
}
best_among_all minutes vehicle stops asked A C limit (Some choice) wider all is_best = record {
  none = tt;
  chosen = is_best.chosen;
  among = wider choice.i choice.j is_best.among;
  below = is_best.below;
  least = λ i j at possible. is_best.least i j (all i j at possible) possible;
}

-- drops before the pickup are not possible
pub no_drops_yet : (minutes : ℕ → ℕ → Option ℕ) (vehicle : Vehicle) (stops : List Stop) (asked : Asked) (limit : Option ℕ) (i : ℕ) →
    IsBestBelow minutes vehicle stops asked (λ pickup drop. (pickup ≡ i) × (drop < i)) limit None
no_drops_yet minutes vehicle stops asked limit i =
    no_place minutes vehicle stops asked (λ pickup drop. (pickup ≡ i) × (drop < i)) limit None refl (λ pickup drop at possible.
    let later : pickup ≤ drop = possible.drop_later in let here : pickup ≡ i = at.0 in let before : drop < i = at.1 in omega arith)

-- one more drop with the same pickup
pub one_more_drop : (minutes : ℕ → ℕ → Option ℕ) (vehicle : Vehicle) (stops : List Stop) (asked : Asked) (limit narrower : Option ℕ) (i j : ℕ)
    (best other new : Option Chosen) → new ≡ later_of best other → narrower ≡ limit_after limit best →
    IsBestBelow minutes vehicle stops asked (λ pickup drop. (pickup ≡ i) × (drop < j)) limit best →
    IsBestBelow minutes vehicle stops asked (λ pickup drop. (pickup ≡ i) × (drop ≡ j)) narrower other →
    IsBestBelow minutes vehicle stops asked (λ pickup drop. (pickup ≡ i) × (drop < j + 1)) limit new
one_more_drop minutes vehicle stops asked limit narrower i j best other new same narrow is_best is_other =
    subst (λ (choice : Option Chosen). IsBestBelow minutes vehicle stops asked (λ pickup drop. (pickup ≡ i) × (drop < j + 1)) limit choice)
    (sym same)
    (later_of_both minutes vehicle stops asked (λ pickup drop. (pickup ≡ i) × (drop < j))
    (λ pickup drop. (pickup ≡ i) × (drop ≡ j)) (λ pickup drop. (pickup ≡ i) × (drop < j + 1)) limit best other
    (λ k l m n at_a at_b. (omega (arith, at_a.0, at_b.0), λ _. omega (arith, at_a.1, at_b.1)))
    (λ k l at. (at.0, omega (arith, at.1)))
    (λ k l at. (at.0, omega (arith, at.1)))
    (λ k l at. elim (cases_lt l j) [
      | inl before ↦ inl (at.0, before)
      | inr from ↦ inr (at.0, omega (arith, at.1))
    ])
    is_best
    (subst (λ (o : Option ℕ). IsBestBelow minutes vehicle stops asked (λ pickup drop. (pickup ≡ i) × (drop ≡ j)) o other) narrow is_other))

-- all drops with the same pickup
pub all_drops : (minutes : ℕ → ℕ → Option ℕ) (vehicle : Vehicle) (stops : List Stop) (asked : Asked) (limit : Option ℕ) (i j : ℕ)
    (best : Option Chosen) → length stops < j →
    IsBestBelow minutes vehicle stops asked (λ pickup drop. (pickup ≡ i) × (drop < j)) limit best →
    IsBestBelow minutes vehicle stops asked (λ pickup drop. pickup ≡ i) limit best
all_drops minutes vehicle stops asked limit i j best past is_best =
    best_among_all minutes vehicle stops asked (λ pickup drop. (pickup ≡ i) × (drop < j)) (λ pickup drop. pickup ≡ i) limit best
    (λ k l at. at.0)
    (λ k l at possible. let among : l ≤ length stops = possible.among in (at, omega arith))
    is_best

-- no pickups yet
pub no_pickups_yet : (minutes : ℕ → ℕ → Option ℕ) (vehicle : Vehicle) (stops : List Stop) (asked : Asked) (limit : Option ℕ) →
    IsBestBelow minutes vehicle stops asked (λ pickup drop. pickup < 0) limit None
no_pickups_yet minutes vehicle stops asked limit =
    no_place minutes vehicle stops asked (λ pickup drop. pickup < 0) limit None refl (λ pickup drop at possible. omega arith)

-- one more pickup
pub one_more_pickup : (minutes : ℕ → ℕ → Option ℕ) (vehicle : Vehicle) (stops : List Stop) (asked : Asked) (limit narrower : Option ℕ) (i : ℕ)
    (best other new : Option Chosen) → new ≡ later_of best other → narrower ≡ limit_after limit best →
    IsBestBelow minutes vehicle stops asked (λ pickup drop. pickup < i) limit best →
    IsBestBelow minutes vehicle stops asked (λ pickup drop. pickup ≡ i) narrower other →
    IsBestBelow minutes vehicle stops asked (λ pickup drop. pickup < i + 1) limit new
one_more_pickup minutes vehicle stops asked limit narrower i best other new same narrow is_best is_other =
    subst (λ (choice : Option Chosen). IsBestBelow minutes vehicle stops asked (λ pickup drop. pickup < i + 1) limit choice)
    (sym same)
    (later_of_both minutes vehicle stops asked (λ pickup drop. pickup < i)
    (λ pickup drop. pickup ≡ i) (λ pickup drop. pickup < i + 1) limit best other
    (λ k l m n at_a at_b. (omega arith, λ same. absurd (omega arith)))
    (λ k l at. omega arith)
    (λ k l at. omega arith)
    (λ k l at. elim (cases_lt k i) [ inl before ↦ inl before | inr from ↦ inr (omega arith) ])
    is_best
    (subst (λ (o : Option ℕ). IsBestBelow minutes vehicle stops asked (λ pickup drop. pickup ≡ i) o other) narrow is_other))

-- a pickup that is nowhere possible
pub no_more_pickup : (minutes : ℕ → ℕ → Option ℕ) (vehicle : Vehicle) (stops : List Stop) (asked : Asked) (limit : Option ℕ) (i : ℕ)
    (best new : Option Chosen) → new ≡ best → ((drop : ℕ) → ¬ IsPossible minutes vehicle stops asked i drop) →
    IsBestBelow minutes vehicle stops asked (λ pickup drop. pickup < i) limit best →
    IsBestBelow minutes vehicle stops asked (λ pickup drop. pickup < i + 1) limit new
no_more_pickup minutes vehicle stops asked limit i best new same never is_best =
    one_more_pickup minutes vehicle stops asked limit (limit_after limit best) i best None new same refl is_best
    (no_place minutes vehicle stops asked (λ pickup drop. pickup ≡ i) (limit_after limit best) None refl (λ pickup drop at possible.
    never drop (subst (λ (k : ℕ). IsPossible minutes vehicle stops asked k drop) at possible)))

-- all pickups
pub all_pickups : (minutes : ℕ → ℕ → Option ℕ) (vehicle : Vehicle) (stops : List Stop) (asked : Asked) (limit : Option ℕ) (i : ℕ)
    (best : Option Chosen) → length stops < i →
    IsBestBelow minutes vehicle stops asked (λ pickup drop. pickup < i) limit best →
    IsBestBelow minutes vehicle stops asked (λ pickup drop. ⊤) limit best
all_pickups minutes vehicle stops asked limit i best past is_best =
    best_among_all minutes vehicle stops asked (λ pickup drop. pickup < i) (λ pickup drop. ⊤) limit best
    (λ k l at. tt)
    (λ k l at possible. let among : l ≤ length stops = possible.among in let later : k ≤ l = possible.drop_later in omega arith)
    is_best

-- the drops so far, where none from here on is possible
pub all_drops_before : (minutes : ℕ → ℕ → Option ℕ) (vehicle : Vehicle) (stops : List Stop) (asked : Asked) (limit : Option ℕ) (i j : ℕ)
    (best : Option Chosen) → ((later : ℕ) → j ≤ later → ¬ IsPossible minutes vehicle stops asked i later) →
    IsBestBelow minutes vehicle stops asked (λ pickup drop. (pickup ≡ i) × (drop < j)) limit best →
    IsBestBelow minutes vehicle stops asked (λ pickup drop. pickup ≡ i) limit best
all_drops_before minutes vehicle stops asked limit i j best none is_best =
    best_among_all minutes vehicle stops asked (λ pickup drop. (pickup ≡ i) × (drop < j)) (λ pickup drop. pickup ≡ i) limit best
    (λ k l at. at.0)
    (λ k l at possible. elim (cases_lt l j) [
      | inl before ↦ (at, before)
      | inr after ↦ absurd (none l after (subst (λ (n : ℕ). IsPossible minutes vehicle stops asked n l) at possible))
    ])
    is_best

-- the pickups so far, where none from here on is possible
pub all_pickups_before : (minutes : ℕ → ℕ → Option ℕ) (vehicle : Vehicle) (stops : List Stop) (asked : Asked) (limit : Option ℕ) (i : ℕ)
    (best : Option Chosen) → ((later drop : ℕ) → i ≤ later → ¬ IsPossible minutes vehicle stops asked later drop) →
    IsBestBelow minutes vehicle stops asked (λ pickup drop. pickup < i) limit best →
    IsBestBelow minutes vehicle stops asked (λ pickup drop. ⊤) limit best
all_pickups_before minutes vehicle stops asked limit i best none is_best =
    best_among_all minutes vehicle stops asked (λ pickup drop. pickup < i) (λ pickup drop. ⊤) limit best
    (λ k l at. tt)
    (λ k l at possible. elim (cases_lt k i) [ inl before ↦ before | inr after ↦ absurd (none k l after possible) ])
    is_best

-- if a number is not below the limit, no larger one is
never_below : (limit : Option ℕ) (least added : ℕ) → ¬ IfSome limit (λ most. least < most) → least ≤ added → IsSomeAnd limit (λ most. most ≤ added)
never_below None least added above more = absurd (above tt)
never_below (Some most) least added above more = elim (cases_lt least most) [ inl below ↦ absurd (above below) | inr from ↦ omega arith ]

-- a pickup that alone adds as much driving as the limit has no better place
pub none_below : (minutes : ℕ → ℕ → Option ℕ) (vehicle : Vehicle) (stops : List Stop) (asked : Asked) (limit : Option ℕ) (i least : ℕ)
    (best : Option Chosen) → best ≡ None → ¬ IfSome limit (λ most. least < most) →
    ((j : ℕ) → IsPossible minutes vehicle stops asked i j → least ≤ added_driving minutes vehicle stops asked i j) →
    IsBestBelow minutes vehicle stops asked (λ pickup drop. pickup ≡ i) limit best
none_below minutes vehicle stops asked limit i least best is_none above at_least =
    subst (λ (choice : Option Chosen). IsBestBelow minutes vehicle stops asked (λ pickup drop. pickup ≡ i) limit choice) (sym is_none) (record {
      none = λ pickup drop at. subst (λ (k : ℕ). IsPossible minutes vehicle stops asked k drop →
          IsSomeAnd limit (λ most. most ≤ added_driving minutes vehicle stops asked k drop)) (sym at)
          (λ possible. never_below limit least _ above (at_least drop possible));
      chosen = tt;
      among = tt;
      below = tt;
      least = tt;
    })
