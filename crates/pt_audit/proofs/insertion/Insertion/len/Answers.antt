use Rattle.std.proofs.Common.{arith}
use Rattle.pt_feasible.specs.Route.{stops_of}
use Rattle.pt_insertion_search.proofs.InsertionLemmas.{length-with_trip}
use Rattle.pt_audit.proofs.insertion.Insertion.len.Goals as goal

pub returns-clause-value : goal.returns-clause-value
returns-clause-value c =
    let insertion = c.args.self.now in
    omega (arith, length-with_trip insertion.asked.now insertion.i insertion.j (stops_of insertion.route.now) insertion.drop_later insertion.among)

pub returns-clause-short : goal.returns-clause-short
returns-clause-short c = omega (arith, c.args.self.now.route.now.short)
