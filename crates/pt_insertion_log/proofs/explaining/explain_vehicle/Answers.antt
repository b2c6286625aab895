use Rattle.std.proofs.Common.{◌+◌}
use Rattle.pt_feasible.specs.Route.{stops_of}
use Rattle.pt_audit.specs.Cases.{numbers_from, cases_of_pickup}
use Rattle.pt_audit.proofs.CasesLemmas.{numbers_below_next}
use Rattle.pt_insertion_log.proofs.WrittenLemmas.{more_written}
use Rattle.pt_insertion_log.proofs.explaining.explain_vehicle.Goals as goal

pub loop-i-preserved : goal.loop-i-preserved
loop-i-preserved g c =
    more_written (g.T.Times.minutes c.args.times.now) (cases_of_pickup c.args.asked.now c.args.duty.now.vehicle.now (stops_of c.args.duty.now.route.now)) (numbers_from 0 c.loop-i.i) c.loop-i.i
    (numbers_from 0 (c.loop-i.i + 1)) (g.W.Write.contents c.args.out.now) (g.W.Write.contents c.loop-i.out) (g.W.Write.contents c.explain_pickup.new.out)
    (numbers_below_next c.loop-i.i) c.loop-i.invariant c.in_ok-explain_pickup.ensures.written
