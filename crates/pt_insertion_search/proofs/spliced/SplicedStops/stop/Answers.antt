use Rattle.std.proofs.Common.{arith}
use Rattle.pt_feasible.specs.Route.{stops_of}
use Rattle.pt_insertion_search.proofs.InsertionLemmas.{length-with_trip}
use Rattle.pt_insertion_search.proofs.spliced.SplicedStops.stop.Goals as goal

pub stop_at-requires-clause-stop : goal.stop_at-requires-clause-stop
stop_at-requires-clause-stop c =
    let spliced = c.args.self.now in
    omega (arith, c.requires, length-with_trip spliced.asked.now spliced.i spliced.j (stops_of spliced.route.now) spliced.drop_later spliced.among)
