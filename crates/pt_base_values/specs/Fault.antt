-- Faults: what went wrong outside the rules.
use Rattle.std.specs.Prelude.{ℕ}
use Rattle.pt_base_values.specs.declared.fault.Cause.{Cause}
use Rattle.pt_base_values.specs.declared.fault.Cause.TheVariants as cause
use Rattle.pt_base_values.specs.declared.fault.Fault.{Fault}

-- the code that programs print for a cause
abbrev pub code_of : Cause → ℕ
code_of cause.Memory = 0
code_of cause.NoSuchDate = 1
code_of cause.DateOutOfRange = 2
code_of cause.NoSuchZone = 3
code_of cause.NoSuchFile = 5
code_of cause.PortRefused = 6
code_of cause.FileExists = 7
code_of cause.WrongWords = 8
code_of cause.RoutePoints = 10
code_of cause.RouteWidth = 11
code_of cause.RouteCoordinate = 12
code_of cause.RouteHours = 13
code_of cause.TravelRecord = 20
code_of cause.TravelHeader = 21
code_of cause.TravelPlace = 22
code_of cause.TravelMinutes = 23
code_of cause.TravelPair = 24
code_of cause.TravelPlaces = 25
code_of cause.OtherTables = 30
code_of cause.UnsoundRows = 31
code_of cause.StoreFailed = 32
code_of cause.ReadFailed = 46
code_of cause.WriteFailed = 47
code_of cause.MomentLine = 48
code_of cause.LogLine = 50

-- the fault of this cause, in no row
abbrev pub fault : Cause → Fault
fault why = record { code = code_of why; row = 0 }

-- the fault of this cause, found in this row
abbrev pub fault_at : Cause → ℕ → Fault
fault_at why row = record { code = code_of why; row = row }
