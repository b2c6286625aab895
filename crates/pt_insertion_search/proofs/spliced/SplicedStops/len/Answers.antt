use Rattle.std.proofs.Common.{arith}
use Rattle.pt_feasible.specs.Route.{stops_of}
use Rattle.pt_insertion_search.proofs.InsertionLemmas.{length-with_trip}
use Rattle.pt_insertion_search.proofs.spliced.SplicedStops.len.Goals as goal

pub returns : goal.returns
returns c =
    let spliced = c.args.self.now in
    record {
      value = omega (arith, length-with_trip spliced.asked.now spliced.i spliced.j (stops_of spliced.route.now) spliced.drop_later spliced.among);
    }
