-- Right logs: each case of a day ends in a constraint that no service times meet.
use Rattle.std.specs.Prelude.{◌≡◌, ℕ, ◌⊎◌, List, [], ◌∷◌, ◌++◌, map, All, Option, None}
use Rattle.pt_feasible.specs.Route.{stops_of}
use Rattle.pt_insertion_search.specs.declared.asked.Asked.{Asked}
use Rattle.pt_insertion_search.specs.declared.duty.Duty.{Duty}
use Rattle.pt_insertion_search.specs.Possible.{IsPossible}
use Rattle.pt_audit.specs.Bounds.{AreRight}
use Rattle.pt_audit.specs.Cases.{Case, cases_of_day}
use Rattle.pt_audit.specs.declared.line.Line.{Line}
use Rattle.pt_audit.specs.declared.line.Line.TheVariants as line
use Rattle.pt_audit.specs.declared.line.Raise.{Raise}
use Rattle.pt_audit.specs.declared.line.End.{End}

-- the line that opens a case
abbrev pub case_line : Case → Line
case_line case = line.Case case.vehicle.id case.pickup case.drop

-- the lines of a case
abbrev pub lines_of : Case → List Raise → End → List Line
lines_of case raises end = case_line case ∷ map line.Raise raises ++ line.End end ∷ []

-- the lines are those of these cases in turn, and then the rest; in each case all bounds begin at 0
abbrev pub BeginsWithCases : (ℕ → ℕ → Option ℕ) → List Case → List Line → List Line → Type 0
BeginsWithCases minutes [] lines rest = lines ≡ rest
BeginsWithCases minutes (case ∷ cases) lines rest = (raises : List Raise) × (end : End) × (after : List Line)
    × (lines ≡ lines_of case raises end ++ after)
    × AreRight minutes case.vehicle case.stops (λ _. 0) raises end
    × BeginsWithCases minutes cases after rest

-- The log has the lines of each case of the day. Or it has one line, and there is no way from the origin to the goal.
abbrev pub IsRightLog : (ℕ → ℕ → Option ℕ) → List Duty → Asked → List Line → Type 0
IsRightLog minutes duties asked lines =
    ((lines ≡ line.NoDirect ∷ []) × (minutes asked.origin asked.goal ≡ None))
    ⊎ BeginsWithCases minutes (cases_of_day asked duties) lines []

-- the trip has no place in any of the routes
abbrev pub IsNowherePossible : (ℕ → ℕ → Option ℕ) → List Duty → Asked → Type 0
IsNowherePossible minutes duties asked = All (λ duty. (i j : ℕ) →
    ¬ IsPossible minutes duty.vehicle.now (stops_of duty.route.now) asked i j) duties

-- if a log is right, whoever made it, the trip has no place in any of the routes
abbrev pub RightLogRefuses : Type 0
RightLogRefuses = (minutes : ℕ → ℕ → Option ℕ) (duties : List Duty) (asked : Asked) (lines : List Line) →
    IsRightLog minutes duties asked lines → IsNowherePossible minutes duties asked
