use Rattle.std.specs.List.{flat_map}
use Rattle.pt_feasible.specs.Route.{stops_of}
use Rattle.pt_audit.specs.Cases.{cases_of_pickup, numbers_from}
use Rattle.pt_insertion_log.specs.Written.{WritesCases}
use Rattle.pt_insertion_log.proofs.explaining.explain_vehicle.Given as goal

-- the cases of the pickups so far were written
abbrev pub invariant-loop-i : goal.invariant-loop-i
invariant-loop-i g l = WritesCases (g.T.Times.minutes l.times)
    (flat_map (cases_of_pickup l.asked l.duty.vehicle.now (stops_of l.duty.route.now)) (numbers_from 0 l.i))
    (g.W.Write.contents l.fn.out) (g.W.Write.contents l.out)
