use Rattle.std.proofs.Common.{subst, arith, All}
use Rattle.std.proofs.lemmas.List.{take_all}
use Rattle.std.proofs.lemmas.List.Elements.{All-more}
use Rattle.pt_tables_reading.specs.Fitting.{FitsPoint}
use Rattle.pt_tables_reading.proofs.points.are_points.Goals as goal

pub loop-point-preserved : goal.loop-point-preserved
loop-point-preserved c =
    All-more FitsPoint c.args.points.now c.loop-point.point-index _ (omega arith) c.loop-point.invariant
    c.is_point.ensures

pub returns : goal.returns
returns c =
    subst (All FitsPoint) (take_all c.loop-point.point-index c.args.points.now (omega arith)) c.loop-point.invariant
