-- What a result must be.
use Rattle.std.proofs.Common.{◌≡◌, Ok, Err, Some, None, ap}
use Rattle.std.specs.Prelude.{Result, Option, IsSome, IfSome}

pub ok_value : {A E : Type 0} (r : Result A E) (x y : A) → r ≡ Ok x → r ≡ Ok y → x ≡ y
ok_value r x y one other = cc

pub ok-not_err : {A E : Type 0} (r : Result A E) (x : A) (e : E) → r ≡ Ok x → r ≡ Err e → ⊥
ok-not_err r x e one other = absurd (cc)

-- it is there, and it can only be this
pub some-from_only : {A : Type 0} (found : Option A) (x : A) → IsSome found → IfSome found (λ y. y ≡ x) → found ≡ Some x
some-from_only None x there only = absurd (cc)
some-from_only (Some y) x there only = ap Some only
