-- The values of a STRICT column are stored as they are.
use Rattle.std.proofs.Common.{◌≡◌, ℕ, ℤ, pos, negsuc, Bool, true, false, cond, Option, None, Some, refl}
use Rattle.sqlite.specs.declared.types.Value.{Value}
use Rattle.sqlite.specs.declared.types.Value.TheVariants.{Null, Int}
use Rattle.sqlite.specs.Cast.{cast}
use Rattle.sqlite.specs.Kind.TheVariants.{Integer}
use Rattle.pt_tables_rows.specs.Rows.{optional_value}
use Rattle.sqlite.specs.Ops.{unary}

either : (b : Bool) (x : Value) → cond b x x ≡ x
either true x = refl
either false x = refl

pub cast_null : cast Integer Null ≡ Null
unfolding unary
cast_null = either _ Null

pub cast_int : (n : ℤ) → cast Integer (Int n) ≡ Int n
unfolding unary
cast_int n = either _ (Int n)

pub optional_cast : (n : Option ℕ) → cast Integer (optional_value n) ≡ optional_value n
optional_cast None = cast_int (negsuc 0)
optional_cast (Some n) = cast_int (pos n)
