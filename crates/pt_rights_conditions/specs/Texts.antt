-- Conditions of a grant (49 CFR 37.123(b), (e)) as texts.
use Rattle.std.specs.Prelude.{◌≡◌, ℕ, List, ◌++◌, map, codes, decimal}
use Rattle.std.specs.List.{join_with_byte}
use Rattle.pt_rights_files.specs.Conditions.{IsCondition}
use Rattle.pt_rights_files.specs.Months.{numbers_of}
use Rattle.pt_rights_files.specs.declared.conditions.Condition.{Condition}
use Rattle.pt_rights_files.specs.declared.conditions.Condition.TheVariants.{Always, Months, Farther, NoLift}

-- numbers in decimal digits, with a comma (byte 44) between each two
abbrev pub numbers_text : List ℕ → List ℕ
numbers_text numbers = join_with_byte 44 (map decimal numbers)

-- the text of a condition: its name, and then its months or feet if it has them
abbrev pub condition_text : Condition → List ℕ
condition_text Always = codes "always"
condition_text (Months months) = codes "months:" ++ numbers_text (numbers_of months)
condition_text (Farther feet) = codes "farther:" ++ decimal feet
condition_text NoLift = codes "nolift"

-- the text is the condition's, and the condition is in its range
abbrev pub SpellsCondition : List ℕ → Condition → Type 0
SpellsCondition text condition = IsCondition condition × (text ≡ condition_text condition)

-- no two conditions have the same text
abbrev pub TextTellsCondition : Type 0
TextTellsCondition = (one other : Condition) → IsCondition one → IsCondition other
    → condition_text one ≡ condition_text other → one ≡ other
