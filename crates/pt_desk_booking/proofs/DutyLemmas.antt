-- The vehicles on duty as plain records, and the one of them that is chosen.
use Rattle.std.proofs.Common.{◌≡◌, ℕ, ◌<◌, List, map, get_or, Any, All, AllPairs, Contains, inl, inr, sym, ap, subst, ◌∙◌, arith}
use Rattle.std.proofs.lemmas.Bool.{cases_lt}
use Rattle.std.proofs.lemmas.List.{length-map, get_or-map, get_or_default}
use Rattle.pt_insertion_search.specs.declared.duty.Duty.{Duty}

-- some element of a list that a function makes
pub Any-map : {X Y : Type 0} (P : Y → Type 0) (f : X → Y) (xs : List X) → Any (λ x. P (f x)) xs → Any P (map f xs)
Any-map P f xs some =
    let (k, x, within, at, holds) = some in
    (k, f x, omega (arith, length-map xs f), get_or-map f xs k x (f x) within ∙ ap f at, holds)

-- a fact that no element meets is met by none
pub no_any : {X : Type 0} (P : X → Type 0) (xs : List X) → All (λ x. ¬ P x) xs → ¬ Any P xs
no_any P xs none some =
    let (k, x, within, at, holds) = some in
    none k x within (subst P (sym at) holds)

-- no two vehicles on duty have the same number
pub same-duty : (duties : List Duty) → AllPairs (λ first second. first.vehicle.now.id < second.vehicle.now.id) duties →
    (x y : Duty) → Contains duties x → Contains duties y → x.vehicle.now.id ≡ y.vehicle.now.id → x ≡ y
same-duty duties rising x y (j, below_j, at_j) (k, below_k, at_k) same =
    elim (cases_lt j k) [
      | inl before ↦ absurd (omega (arith, rising j k x before below_k, first, then_y, same))
      | inr from ↦ elim (cases_lt k j) [
        | inl after ↦ absurd (omega (arith, rising k j x after below_j, first, then_y, same))
        | inr until ↦
            let here : j ≡ k = omega arith in
            sym at_j ∙ ap (λ (n : ℕ). get_or duties n x) here ∙ there
      ]
    ]
  where
    there : get_or duties k x ≡ y
    there = get_or_default duties k x y below_k ∙ at_k

    first : (get_or duties j x).vehicle.now.id ≡ x.vehicle.now.id
    first = ap (λ (d : Duty). d.vehicle.now.id) at_j

    then_y : (get_or duties k x).vehicle.now.id ≡ y.vehicle.now.id
    then_y = ap (λ (d : Duty). d.vehicle.now.id) there
