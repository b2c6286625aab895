-- A rider's standing (49 CFR 37.125(c), (e) and (g)), by each entry of the case file and those after it.
use Rattle.std.specs.Prelude.{ℕ, ◌+◌, Bool, ◌&&◌, not, List, Option, Some, None, nat_le, if◌then◌else◌}
use Rattle.std.specs.List.{list_any, filter_map, last_or}
use Rattle.pt_rights_files.specs.declared.entry.Grant.{Grant}
use Rattle.pt_rights_files.specs.declared.entry.Entered.{Entered}
use Rattle.pt_rights_files.specs.declared.case_file.Standing.{Standing}
use Rattle.pt_rights_files.specs.declared.case_file.Standing.TheVariants as standing
use Rattle.pt_rights_files.specs.Appeals.{is_overdue}
use Rattle.pt_rights_files.specs.Kinds.{is_complete, is_decision, grant_of}
use Rattle.pt_rights_files.specs.Positions.{some_position}
use Rattle.pt_rights_files.specs.Limits.{days_to_presumption}

-- an application is unanswered if no later entry decides one
abbrev pub is_unanswered : Entered → List Entered → Bool
is_unanswered entered later =
    is_complete entered.entry && not (list_any (λ e. is_decision e.entry) later)

-- the file has an unanswered application
abbrev pub is_waiting : List Entered → Bool
is_waiting file = some_position is_unanswered file

-- an application that was completed on day c and is unanswered on day c + 21 or later is presumed granted (37.125(c))
abbrev pub is_presumed : List Entered → ℕ → Bool
is_presumed file today =
    some_position
    (λ entered later. is_unanswered entered later && nat_le (entered.day + days_to_presumption) today) file

-- the last grant of the file: a later grant replaces it, a refusal does not
abbrev pub last_grant : List Entered → Option Grant
last_grant file = last_or None (filter_map (λ entered. grant_of entered.entry) file)

-- what the last grant gives: eligibility to its last day, that day included (37.125(e))
abbrev pub standing_by : Option Grant → ℕ → Standing
standing_by None day = standing.None
standing_by (Some grant) day = if nat_le day grant.until then standing.Granted grant else standing.None

-- the standing for a day as seen on the day today: the first of presumed, overdue, granted and none that holds
abbrev pub standing_of : List Entered → ℕ → ℕ → Standing
standing_of file today day =
    if is_presumed file today then standing.Presumed
    else (if is_overdue file today then standing.AppealOverdue else standing_by (last_grant file) day)
