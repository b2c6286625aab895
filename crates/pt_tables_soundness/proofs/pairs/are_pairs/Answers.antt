use Rattle.std.proofs.Common.{arith}
use Rattle.pt_desk_scheduling.specs.Plan.{stops_of_trip, IsPair}
use Rattle.pt_desk_scheduling.specs.declared.planned.PlannedStop.{PlannedStop}
use Rattle.pt_tables_soundness.proofs.EachLemmas.{each_past, fails_at, holds_all}
use Rattle.pt_tables_soundness.proofs.pairs.are_pairs.Goals as goal

pub loop-stop-preserved : goal.loop-stop-preserved
loop-stop-preserved c =
    each_past (λ (stop : PlannedStop). IsPair (stops_of_trip stop.trip c.args.all.now)) c.stop-item.result c.args.stops.now c.loop-stop.stop-index (omega arith) c.stop-item.is
    (c.is_pair_of.ensures.0 c.if-not-is_pair_of.false) c.loop-stop.invariant

pub returns-then-not-is_pair_of : goal.returns-then-not-is_pair_of
returns-then-not-is_pair_of c =
    fails_at (λ (stop : PlannedStop). IsPair (stops_of_trip stop.trip c.args.all.now)) c.stop-item.result c.args.stops.now c.loop-stop.stop-index c.is_pair_of.result (omega arith) c.stop-item.is
    c.is_pair_of.ensures.1 c.if-not-is_pair_of.true

pub returns : goal.returns
returns c = holds_all (λ (stop : PlannedStop). IsPair (stops_of_trip stop.trip c.args.all.now)) c.args.stops.now c.loop-stop.stop-index (omega arith) c.loop-stop.invariant
