-- The conditions of a grant.
use Rattle.std.specs.Prelude.{⊤, ◌≤◌, List, length}
use Rattle.pt_rights_files.specs.Feet.{IsFeet}
use Rattle.pt_rights_files.specs.Months.{IsMonthSet}
use Rattle.pt_rights_files.specs.declared.conditions.Condition.{Condition}
use Rattle.pt_rights_files.specs.declared.conditions.Condition.TheVariants.{Always, Months, Farther, NoLift}
use Rattle.pt_rights_files.specs.Limits.{most_conditions}

-- a condition's months are a set of months, its distance 1 to 100,000 feet
abbrev pub IsCondition : Condition → Type 0
IsCondition Always = ⊤
IsCondition (Months months) = IsMonthSet months
IsCondition (Farther feet) = IsFeet feet
IsCondition NoLift = ⊤

-- a grant lists one to four conditions
abbrev pub IsConditions : List Condition → Type 0
IsConditions members = (1 ≤ length members) × (length members ≤ most_conditions)
