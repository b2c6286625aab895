-- Conditions of grants, by their texts.
use Rattle.std.specs.Prelude.{ℕ, zero, suc, ◌++◌, Bool, true, false, List, [], ◌∷◌, map, filter, find, length, nat_le}
use Rattle.std.specs.Prelude.{Option, bytes_eq}
use Rattle.std.specs.List.{range_with_len}
use Rattle.pt_rights_files.specs.Feet.{most_feet}
use Rattle.pt_rights_files.specs.Months.{numbers_of}
use Rattle.pt_rights_files.specs.declared.conditions.Condition.{Condition}
use Rattle.pt_rights_files.specs.declared.conditions.Condition.TheVariants.{Always, Months, Farther, NoLift}
use Rattle.pt_rights_conditions.specs.Texts.{condition_text}

-- all lists of this number of marks
abbrev pub mark_sets : ℕ → List (List Bool)
mark_sets zero = [] ∷ []
mark_sets (suc rest) =
    map (λ marks. true ∷ marks) (mark_sets rest) ++ map (λ marks. false ∷ marks) (mark_sets rest)

-- each set of at least one month
unfoldable pub month_sets : List (List Bool)
month_sets = filter (λ marks. nat_le 1 (length (numbers_of marks))) (mark_sets 12)

-- each distance in feet
unfoldable pub distances : List ℕ
distances = range_with_len 1 most_feet

-- each condition
abbrev pub conditions : List Condition
conditions = Always ∷ NoLift ∷ map Months month_sets ++ map Farther distances

-- the condition with this text
unfoldable pub condition_from : List ℕ → Option Condition
condition_from text = find (λ condition. bytes_eq (condition_text condition) text) conditions
