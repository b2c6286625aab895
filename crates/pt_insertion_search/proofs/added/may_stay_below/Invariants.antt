use Rattle.pt_feasible.specs.Route.{stops_of}
use Rattle.pt_insertion_search.proofs.DetourLemmas.{AddNoLess, IsLeastDetour}
use Rattle.pt_insertion_search.proofs.added.may_stay_below.Given as goal

abbrev pub invariant-loop-k : goal.invariant-loop-k
invariant-loop-k g l = record {
  seen : AddNoLess (g.T.Times.minutes l.times) l.duty.vehicle.now (stops_of l.duty.route.now) l.asked l.k l.most;
  least : IsLeastDetour (g.T.Times.minutes l.times) l.duty.vehicle.now (stops_of l.duty.route.now) l.asked l.k l.least;
}
