use Rattle.pt_travel.specs.Closure.{IsClosedOver}
use Rattle.pt_travel.specs.Places.{list_of}
use Rattle.pt_travel.proofs.closed.Closed.of.Given as goal

abbrev pub invariant-loop-k : goal.invariant-loop-k
invariant-loop-k l = IsClosedOver l.raw (list_of l.places) l.k l.lines.items
