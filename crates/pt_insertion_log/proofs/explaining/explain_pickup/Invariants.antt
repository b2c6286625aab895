use Rattle.std.proofs.Common.{◌-◌}
use Rattle.std.specs.List.{flat_map}
use Rattle.pt_feasible.specs.Route.{stops_of}
use Rattle.pt_audit.specs.Cases.{numbers_from}
use Rattle.pt_audit.proofs.CasesLemmas.{one_case}
use Rattle.pt_insertion_log.specs.Written.{WritesCases}
use Rattle.pt_insertion_log.proofs.explaining.explain_pickup.Given as goal

-- the cases of the drops so far were written
abbrev pub invariant-loop-j : goal.invariant-loop-j
invariant-loop-j g l = WritesCases (g.T.Times.minutes l.times)
    (flat_map (one_case l.asked l.duty.vehicle.now (stops_of l.duty.route.now) l.i) (numbers_from l.i (l.j - l.i)))
    (g.W.Write.contents l.fn.out) (g.W.Write.contents l.out)
