-- No two conditions have the same text.
use Rattle.std.proofs.Common.{◌≡◌, get_or, refl, ap, arith}
use Rattle.std.proofs.lemmas.Fmt.{decimal_injective}
use Rattle.pt_rights_files.specs.Conditions.{IsCondition}
use Rattle.pt_rights_files.specs.declared.conditions.Condition.{Condition}
use Rattle.pt_rights_files.specs.declared.conditions.Condition.TheVariants.{Always, Months, Farther, NoLift}
use Rattle.pt_rights_conditions.proofs.NumbersLemmas.{months_text-injective}
use Rattle.pt_rights_conditions.specs.Texts.{condition_text}

pub condition_text-injective : (one other : Condition) → IsCondition one → IsCondition other → condition_text one ≡ condition_text other → one ≡ other
condition_text-injective Always Always ones others e = refl
condition_text-injective (Months one) (Months other) ones others e = ap Months (months_text-injective one other ones others (cc))
condition_text-injective (Farther one) (Farther other) ones others e =
    let top = ones.1 in
    let least = others.1 in
    ap Farther (decimal_injective one other (omega arith) (omega arith) (cc))
condition_text-injective NoLift NoLift ones others e = refl
condition_text-injective one other ones others e =
    absurd (let first : get_or (condition_text one) 0 0 ≡ get_or (condition_text other) 0 0 = ap (λ bytes. get_or bytes 0 0) e in omega (arith, first))
