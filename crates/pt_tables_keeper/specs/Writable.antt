-- Which changes can be written, so that the result can be read back from its rows.
use Rattle.std.specs.Prelude.{◌≡◌, ◌≤◌, ℕ, List, [], length, Some}
use Rattle.pt_base_values.specs.Moment.{Moment}
use Rattle.pt_base_values.specs.declared.vehicle.Vehicle.{Vehicle}
use Rattle.pt_desk_rules.specs.Deciding.{IsDecision}
use Rattle.pt_desk_rules.specs.Facts.{facts_of}
use Rattle.pt_desk_rules.specs.Ranges.{PutsInRange}
use Rattle.pt_desk_rules.specs.Sound.{IsSound}
use Rattle.pt_desk_rules.specs.State.{State}
use Rattle.pt_desk_rules.specs.Step.{arrival_in, sender, sent_with}
use Rattle.pt_desk_rules.specs.declared.change.Change.{Change}
use Rattle.pt_desk_rules.specs.declared.deciding.Decision.TheVariants.{Accepted}
use Rattle.pt_desk_rules.specs.declared.kept.Arrival.TheVariants.{New}
use Rattle.pt_base_records.specs.Records.{Each}
use Rattle.pt_desk_requests.specs.declared.caller.Caller.{Caller}
use Rattle.pt_desk_requests.specs.declared.request.Answer.{Answer}
use Rattle.pt_desk_requests.specs.declared.request.Write.{Write}
use Rattle.pt_desk_spelling.specs.Ranges.{IsRequest}
use Rattle.pt_tables_asking.specs.Plans.{HasVersionAmong}
use Rattle.pt_tables_rows.specs.Tables.{PutsWellFormed}
use Rattle.pt_tables_keeper.specs.Plans.{IsFleetEdit, IsOneKey}

-- Rows can represent all that the change puts. From the tables that are not in memory it removes only plans, one by
-- one. It puts at most one rider, and only plans of these vehicles.
pub record IsWritable (vehicles : List Vehicle) (change : Change) : Type 0 where
  pub told : PutsWellFormed change
  pub kept : change.kept.away ≡ []
  pub riders : change.riders.away ≡ []
  pub entries : change.entries.away ≡ []
  pub trips : change.trips.away ≡ []
  pub one_rider : length change.riders.puts ≤ 1
  pub fleet : IsFleetEdit change.vehicles
  pub plans_away : Each IsOneKey change.planned.away
  pub plans_put : Each (HasVersionAmong vehicles) change.planned.puts

-- In a sound state, a new write by the caller with the key is accepted only with such a change. The write and what the
-- change puts are in the ranges of their types.
abbrev pub ChangesOfRulesAreWritten : Type 0
ChangesOfRulesAreWritten =
    (key : List ℕ) (now : Moment) (number : ℕ) (asked : Write) (me : Caller) (s : State) (told : Answer)
    (change : Change) → IsSound s → sender key s ≡ Some me → arrival_in s asked me number ≡ New
    → IsDecision asked me now (sent_with number asked) (facts_of asked s) (Accepted told change)
    → PutsInRange change → IsRequest asked → IsWritable s.vehicles change
