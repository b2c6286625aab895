use Rattle.std.proofs.Common.{take}
use Rattle.std.specs.List.{AllZip}
use Rattle.pt_desk_rules.specs.Tours.{IsSheetOf}
use Rattle.pt_desk_reads.proofs.tours.sheets_of.Given as goal

abbrev pub invariant-loop-vehicle : goal.invariant-loop-vehicle
invariant-loop-vehicle l = AllZip (IsSheetOf l.day l.facts) (take l.vehicle-index l.vehicles) l.sheets.items
