-- Values that depend on a test.
use Rattle.std.proofs.Common.{◌≡◌, refl, ap, ℕ, ◌≤◌, Bool, true, false, Option, Some, None}
use Rattle.std.proofs.lemmas.Bool.{leb-true, le-leb}
use Rattle.std.proofs.lemmas.Bool.Decides.{Decides-and}
use Rattle.std.specs.Int.{IsInRange}
use Rattle.std.specs.Prelude.{Decides, nat_le, if◌then◌else◌, IsSome, IfSome, ◌↔◌}
use Rattle.pt_base_values.specs.SpelledNumber.{is_within}

pub Decides-le : (a b : ℕ) → Decides (nat_le a b) (a ≤ b)
Decides-le a b = (leb-true a b, le-leb a b)

pub Decides-within : (least most number : ℕ) → Decides (is_within least most number) (IsInRange least most number)
Decides-within least most number = Decides-and _ _ (Decides-le least number) (Decides-le number most)

-- if a test chooses a value, the test passes and the value is this one
pub chosen : {A P : Type 0} (test : Bool) (o : Option A) (x : A) → Decides test P
    → (if test then o else None) ≡ Some x → P × (o ≡ Some x)
chosen true o x decides e = (decides.0 refl, e)
chosen false o x decides e = cc e

pub chosen-known : {A P : Type 0} (test : Bool) (o : Option A) → Decides test P → P → (if test then o else None) ≡ o
chosen-known test o decides holds = ap (λ (t : Bool). if t then o else None) (decides.1 holds)

-- a result that is there exactly if a test passes, and can only be this value
pub test-read : {A P : Type 0} (test : Bool) (value : A) (result : Option A) → Decides test P → (IsSome result ↔ P)
    → IfSome result (λ found. found ≡ value) → result ≡ (if test then Some value else None)
test-read true value None decides some found = cc (some.1 (decides.0 refl))
test-read true value (Some x) decides some found = ap Some found
test-read false value None decides some found = refl
test-read false value (Some x) decides some found = cc (decides.1 (some.0 refl))
