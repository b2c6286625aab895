-- A route in pairs stays in pairs when a new trip is put in.
use Rattle.pt_feasible.specs.Route.{stops_of}
use Rattle.pt_insertion_search.proofs.InsertionPairing.{IsPaired-with_trip}
use Rattle.pt_insertion_search.proofs.spliced.Spliced.of.Goals as goal

pub invariant_of-result : goal.invariant_of-result
invariant_of-result c = record {
  drop_later = c.requires.drop_later;
  among = c.requires.among;
  paired = IsPaired-with_trip c.args.asked.now c.args.i c.args.j (stops_of c.args.route.now) c.requires.drop_later c.requires.among
      c.requires.new_trip c.args.route.now.paired;
}
