-- What `any` answers of a list.
use Rattle.std.proofs.Common.{ℕ, ◌<◌, ◌↔◌, Bool, true, false, IsTrue, List, length, MatchBool, refl, subst, sym, inl, inr, arith}
use Rattle.std.specs.List.{HoldsAt, AllWithin, Any}
use Rattle.std.proofs.lemmas.Option.{slice_get_cases}

-- it is true exactly where the fact holds of some item
pub any_decided : {X : Type 0} (P : X → Type 0) (r : Bool) (xs : List X) → MatchBool r ((k : ℕ) × (k < length xs) × HoldsAt P xs k) (AllWithin (λ x. ¬ P x) xs 0 (length xs)) → IsTrue r ↔ Any P xs
any_decided P true xs h = (
  (λ _.
      elim ((slice_get_cases xs h.0).1) [
        | inl found ↦ (h.0, found.0, found.1, found.3, subst P found.3 (h.2 found.0))
        | inr past ↦ absurd (omega (arith, past.0))
      ]),
  (λ _. refl),
)
any_decided P false xs h =
    ((λ e. cc), (λ some. absurd (h some.0 some.1 (omega arith) some.2 (subst P (sym some.3) some.4))))
