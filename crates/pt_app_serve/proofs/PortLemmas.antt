-- Connections that a port is still open to.
use Rattle.std.proofs.Common.{◌≡◌, ◌↔◌, ◌+◌, ℕ, suc, List, [], ◌∷◌, Option, zero, Some, None, Result, Ok, Err, IfSome, IsSome, ap, arith, refl, replicate}
use Rattle.std.specs.Prelude.{⊤}
use Rattle.pt_app_serve.specs.Connection.{IsNext}

abbrev unknown : ℕ → List (Option (List ℕ))
unknown count = replicate count None

-- one more to come
pub one_to_come : (left before : ℕ) → left + 1 ≡ before → unknown before ≡ None ∷ unknown left
one_to_come left before is =
    let next : before ≡ suc left = omega (arith, is) in
    ap unknown next

-- none is to come
pub none_to_come : (left : ℕ) → (left ≡ 0) ↔ (unknown left ≡ [])
none_to_come zero = (λ is. refl, λ is. refl)
none_to_come (suc left) = (λ is. (let no : ⊥ = omega (arith, is) in absurd no), λ is. absurd (cc))

-- of one that a port gives nothing is known
pub next_to_come : {S E : Type 0} (given : Option (Result S E)) (left before : ℕ)
    → (IsSome given → left + 1 ≡ before)
    → IfSome given (λ connection. IsNext {S = S} {E = E} (λ _. None) (λ _. None) (λ _. ⊤) (unknown before)
    (unknown left) connection)
next_to_come None left before one = tt
next_to_come (Some (Ok stream)) left before one = (None, one_to_come left before (one refl), (refl, refl))
next_to_come (Some (Err error)) left before one = (None, one_to_come left before (one refl), (refl, tt))
