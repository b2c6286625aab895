use Rattle.std.proofs.Common.{◌≡◌, arith}
use Rattle.pt_base_values.specs.Fault.{code_of}
use Rattle.pt_base_values.specs.declared.fault.Cause.{Cause}
use Rattle.pt_base_values.specs.declared.fault.Cause.TheVariants as cause
use Rattle.pt_base_values.proofs.fault.Cause.of.Goals as goal

pub returns-in_default-clause-unknown : goal.returns-in_default-clause-unknown
returns-in_default-clause-unknown c = λ none why. elim why as (λ (w : Cause). ¬ (code_of w ≡ c.args.code)) [
  | cause.Memory ↦ λ same. omega arith
  | cause.NoSuchDate ↦ λ same. omega arith
  | cause.DateOutOfRange ↦ λ same. omega arith
  | cause.NoSuchZone ↦ λ same. omega arith
  | cause.NoSuchFile ↦ λ same. omega arith
  | cause.PortRefused ↦ λ same. omega arith
  | cause.FileExists ↦ λ same. omega arith
  | cause.WrongWords ↦ λ same. omega arith
  | cause.RoutePoints ↦ λ same. omega arith
  | cause.RouteWidth ↦ λ same. omega arith
  | cause.RouteCoordinate ↦ λ same. omega arith
  | cause.RouteHours ↦ λ same. omega arith
  | cause.TravelRecord ↦ λ same. omega arith
  | cause.TravelHeader ↦ λ same. omega arith
  | cause.TravelPlace ↦ λ same. omega arith
  | cause.TravelMinutes ↦ λ same. omega arith
  | cause.TravelPair ↦ λ same. omega arith
  | cause.TravelPlaces ↦ λ same. omega arith
  | cause.OtherTables ↦ λ same. omega arith
  | cause.UnsoundRows ↦ λ same. omega arith
  | cause.StoreFailed ↦ λ same. omega arith
  | cause.ReadFailed ↦ λ same. omega arith
  | cause.WriteFailed ↦ λ same. omega arith
  | cause.MomentLine ↦ λ same. omega arith
  | cause.LogLine ↦ λ same. omega arith
]
