-- The text of a condition is ASCII.
use Rattle.std.proofs.Common.{ℕ, ◌<◌, ◌≤◌, List, [], ◌∷◌, ◌++◌, decimal, arith, zero, suc}
use Rattle.std.specs.Char.{digit_value}
use Rattle.std.specs.Int.{IsInRange}
use Rattle.std.specs.List.{AllByRecursion}
use Rattle.std.specs.Prelude.{codes, IsUtf8}
use Rattle.std.specs.Str.{IsAscii}
use Rattle.std.specs.Str.Parse.{AllDigits}
use Rattle.std.proofs.lemmas.Bool.Decides.{nat_tests}
use Rattle.std.proofs.lemmas.Fmt.{decimal_is_IsNumeral}
use Rattle.std.proofs.lemmas.List.Elements.{recursion_from_All}
use Rattle.std.proofs.lemmas.Str.{IsUtf8-from_ascii}
use Rattle.pt_rights_conditions.specs.Texts.{condition_text, numbers_text}
use Rattle.pt_rights_conditions.proofs.NumbersLemmas.{months-from_set}
use Rattle.pt_rights_files.specs.Conditions.{IsCondition}
use Rattle.pt_rights_files.specs.Months.{numbers_of}
use Rattle.pt_rights_files.specs.declared.conditions.Condition.{Condition}
use Rattle.pt_rights_files.specs.declared.conditions.Condition.TheVariants.{Always, Months, Farther, NoLift}

abbrev IsSmall : ℕ → Type 0
IsSmall b = b < 128

all-append : {A : Type 0} (P : A → Type 0) (one other : List A) → AllByRecursion P one → AllByRecursion P other
    → AllByRecursion P (one ++ other)
all-append P [] other ones others = others
all-append P (x ∷ one) other ones others = (ones.0, all-append P one other ones.1 others)

digit-small : (c : ℕ) → digit_value c < 10 → IsSmall c
digit-small c digit = grind (arith, nat_tests)

digits-small : (text : List ℕ) → AllDigits 10 text → AllByRecursion IsSmall text
digits-small [] digits = tt
digits-small (c ∷ text) digits = (digit-small c digits.0, digits-small text digits.1)

decimal-small : (n : ℕ) → n ≤ 100_000 → AllByRecursion IsSmall (decimal n)
decimal-small n few = digits-small (decimal n) (decimal_is_IsNumeral n (omega arith)).0.1

numbers-small : (numbers : List ℕ) → AllByRecursion (IsInRange 1 12) numbers
    → AllByRecursion IsSmall (numbers_text numbers)
numbers-small [] months = tt
numbers-small (n ∷ []) months = let top = months.0.1 in decimal-small n (omega arith)
numbers-small (n ∷ m ∷ numbers) months =
    let top = months.0.1 in
    all-append IsSmall (decimal n) (44 ∷ numbers_text (m ∷ numbers)) (decimal-small n (omega arith))
    (omega arith, numbers-small (m ∷ numbers) months.1)

condition-small : (condition : Condition) → IsCondition condition → AllByRecursion IsSmall (condition_text condition)
condition-small Always fits =
    (omega arith, (omega arith, (omega arith, (omega arith, (omega arith, (omega arith, tt))))))
condition-small (Months months) fits =
    all-append IsSmall (codes "months:") (numbers_text (numbers_of months))
    (omega arith, (omega arith, (omega arith, (omega arith, (omega arith, (omega arith, (omega arith, tt)))))))
    (numbers-small (numbers_of months)
    (recursion_from_All (IsInRange 1 12) (numbers_of months) (months-from_set months fits).in_range))
condition-small (Farther feet) fits =
    all-append IsSmall (codes "farther:") (decimal feet) (
      omega arith,
      (
        omega arith,
        (
          omega arith,
          (
            omega arith,
            (
              omega arith,
              (
                omega arith,
                (
                  omega arith,
                  (
                    omega arith,
                    tt,
                  ),
                ),
              ),
            ),
          ),
        ),
      ),
    ) (decimal-small feet fits.1)
condition-small NoLift fits =
    (omega arith, (omega arith, (omega arith, (omega arith, (omega arith, (omega arith, tt))))))

ascii-small : (bytes : List ℕ) → AllByRecursion IsSmall bytes → IsAscii bytes
ascii-small [] all i = omega arith
ascii-small (b ∷ bytes) all zero = all.0
ascii-small (b ∷ bytes) all (suc i) = ascii-small bytes all.1 i

pub condition-utf8 : (condition : Condition) → IsCondition condition → IsUtf8 (condition_text condition)
condition-utf8 condition fits =
    IsUtf8-from_ascii (condition_text condition)
    (ascii-small (condition_text condition) (condition-small condition fits))
