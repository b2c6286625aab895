-- Rows found by the numbers in their first columns.
use Rattle.std.proofs.Common.{◌≡◌, ℕ, ◌<◌, ◌==◌, pos, [], ◌∷◌, Bool, true, false, ◌&&◌, refl, ap, ap₂, ◌∙◌, int_cmp, int_le, arith}
use Rattle.std.specs.Prelude.{nat_le}
use Rattle.std.specs.Ordering.{nat_cmp, is_eq}
use Rattle.std.proofs.lemmas.Bool.Decides.{nat_tests}
use Rattle.sqlite.specs.Collation.TheVariants.{Binary}
use Rattle.sqlite.specs.Order.{Row}
use Rattle.sqlite.specs.declared.types.Value.TheVariants.{Int}
use Rattle.pt_tables_rows.specs.Rules.{equal}
use Rattle.pt_tables_rows.specs.BinaryOp.TheVariants.{Compare}
use Rattle.pt_tables_rows.specs.CompareOp.TheVariants.{Eq, Ge}
use Rattle.sqlite.specs.Ops.{binary, is_true}
use Rattle.sqlite_typed.proofs.TestLemmas.{at_ints}
use Rattle.pt_base_records.specs.Keys.{pair_key}
use Rattle.pt_tables_writing.proofs.DeleteLemmas.{has_columns, has_columns_from}

int_cmp-pos : (a b : ℕ) → int_cmp (pos a) (pos b) ≡ nat_cmp a b
int_cmp-pos a b = grind (arith, nat_tests)

is_eq_cmp : (a b : ℕ) → is_eq (nat_cmp a b) ≡ (a == b)
is_eq_cmp a b = grind (arith, nat_tests)

equal-numbers : (a b : ℕ) → equal Binary (Int (pos a)) (Int (pos b)) ≡ (a == b)
equal-numbers a b = at_ints false Eq (pos a) (pos b) ∙ ap is_eq (int_cmp-pos a b) ∙ is_eq_cmp a b

and_true : (b : Bool) → (b && true) ≡ b
and_true true = refl
and_true false = refl

same_pair : (x y a b : ℕ) → y < 4_294_967_296 → b < 4_294_967_296 → ((x == a) && (y == b)) ≡ (pair_key x y == pair_key a b)
same_pair x y a b low other_low = grind (arith, nat_tests)

-- by one number
pub one-told : (x k : ℕ) (more : Row) → has_columns (Int (pos k) ∷ []) (Int (pos x) ∷ more) ≡ (x == k)
one-told x k more = and_true _ ∙ equal-numbers x k

-- by two numbers of 32 bits
pub pair-told : (x y a b : ℕ) (more : Row) → y < 4_294_967_296 → b < 4_294_967_296
    → has_columns (Int (pos a) ∷ Int (pos b) ∷ []) (Int (pos x) ∷ Int (pos y) ∷ more) ≡ (pair_key x y == pair_key a b)
pair-told x y a b more low other_low = ap₂ ◌&&◌ (equal-numbers x a) (and_true _ ∙ equal-numbers y b) ∙ same_pair x y a b low other_low

-- ---- from a number on

int_le-pos : (a b : ℕ) → int_le (pos a) (pos b) ≡ nat_le a b
int_le-pos a b = refl

at_least : (n least : ℕ) → is_true (binary (Compare Ge Binary) (Int (pos n)) (Int (pos least))) ≡ nat_le least n
at_least n least = at_ints false Ge (pos n) (pos least) ∙ int_le-pos least n

and_and : (a b c : Bool) → (a && (b && c)) ≡ ((a && b) && c)
and_and true b c = refl
and_and false b c = refl

-- by two numbers of 32 bits, and a third that is at least this
pub from-told : (x y n a b least : ℕ) (more : Row) → y < 4_294_967_296 → b < 4_294_967_296
    → has_columns_from (Int (pos a) ∷ Int (pos b) ∷ []) (Int (pos least)) (Int (pos x) ∷ Int (pos y) ∷ Int (pos n) ∷ more)
    ≡ ((pair_key x y == pair_key a b) && nat_le least n)
from-told x y n a b least more low other_low =
    ap₂ ◌&&◌ (equal-numbers x a) (ap₂ ◌&&◌ (equal-numbers y b) (and_true _ ∙ at_least n least))
    ∙ and_and (x == a) (y == b) (nat_le least n) ∙ ap (λ t. t && nat_le least n) (same_pair x y a b low other_low)
