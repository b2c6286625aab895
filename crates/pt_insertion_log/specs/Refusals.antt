-- Every refusal has a log.
use Rattle.std.specs.Prelude.{ℕ, ◌≤◌, List, All, Option}
use Rattle.pt_audit.specs.RightLog.{IsNowherePossible, IsRightLog}
use Rattle.pt_audit.specs.Text.{IsLogText, IsNumber}
use Rattle.pt_audit.specs.declared.line.Line.{Line}
use Rattle.pt_base_values.specs.Ranges.{last_minute}
use Rattle.pt_feasible.specs.Route.{stops_of}
use Rattle.pt_insertion_search.specs.declared.asked.Asked.{Asked}
use Rattle.pt_insertion_search.specs.declared.duty.Duty.{Duty}

-- the vehicle's number is in the range of a log, and its route is driven within a day
pub record IsOfADay (duty : Duty) : Type 0 where
  pub number : IsNumber duty.vehicle.now.id
  pub closes : duty.vehicle.now.closes ≤ last_minute
  pub stops : All (λ stop. stop.hi ≤ last_minute) (stops_of duty.route.now)

-- if the trip has no place in any of the routes, there is a text of a right log
abbrev pub RefusalsHaveLogs : Type 0
RefusalsHaveLogs = (minutes : ℕ → ℕ → Option ℕ) (duties : List Duty) (asked : Asked) →
    All IsOfADay duties → asked.hi ≤ last_minute → asked.latest ≤ last_minute →
    IsNowherePossible minutes duties asked →
    (text : List ℕ) × (lines : List Line) × IsLogText text lines × IsRightLog minutes duties asked lines
