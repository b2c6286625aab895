-- Results of reading a text.
use Rattle.std.proofs.Common.{◌≡◌, sym, refl}
use Rattle.std.specs.Prelude.{Option, Some, None, Result, Ok, Err, MatchResult, IfSome, IsNone}
use Rattle.std.specs.Result.{result_ok}

-- a result without a value is an error
pub error-from_none : {T E : Type 0} (r : Result T E) (P : T → Type 0) (Q : E → Type 0) → result_ok r ≡ None
    → MatchResult r P Q → (e : E) × Q e
error-from_none (Ok value) P Q none cases = cc
error-from_none (Err e) P Q none cases = (e, cases)

none-from : {A : Type 0} (o : Option A) → ((x : A) → o ≡ Some x → ⊥) → o ≡ None
none-from None never = refl
none-from (Some x) never = absurd (never x refl)

-- a result that is there exactly if some value meets P is the known one
pub read-known : {A : Type 0} (known : Option A) (P : A → Type 0) → ((x : A) → P x → known ≡ Some x) → ((x : A)
    → known ≡ Some x → P x) → (result : Option A) → IfSome result P → (IsNone result → (x : A) → ¬ (P x))
    → result ≡ known
read-known known P complete sound None some none = sym (none-from known (λ x e. none refl x (sound x e)))
read-known known P complete sound (Some x) some none = sym (complete x some)
