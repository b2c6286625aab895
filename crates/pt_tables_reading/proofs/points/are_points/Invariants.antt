use Rattle.std.proofs.Common.{take, All}
use Rattle.pt_tables_reading.specs.Fitting.{FitsPoint}
use Rattle.pt_tables_reading.proofs.points.are_points.Given as goal

abbrev pub invariant-loop-point : goal.invariant-loop-point
invariant-loop-point l = All FitsPoint (take l.point-index l.points)
