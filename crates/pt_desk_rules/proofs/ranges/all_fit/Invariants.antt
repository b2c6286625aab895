use Rattle.std.proofs.Common.{take}
use Rattle.pt_base_records.specs.Records.{Each}
use Rattle.pt_desk_rules.proofs.ranges.all_fit.Given as goal

abbrev pub invariant-loop-record : goal.invariant-loop-record
invariant-loop-record g l = Each g.T.Fitting.Fits (take l.record-index l.records)
