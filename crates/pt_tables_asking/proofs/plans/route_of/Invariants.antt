use Rattle.std.proofs.Common.{◌≡◌, ◌++◌, drop, map}
use Rattle.pt_tables_reading.specs.declared.stops.StopAt.{StopAt}
use Rattle.pt_tables_asking.proofs.plans.route_of.Given as goal

abbrev pub invariant-loop-at : goal.invariant-loop-at
invariant-loop-at l = l.planned.items ++ map (λ (at : StopAt). at.stop) (drop l.at-index l.stops) ≡ map (λ (at : StopAt). at.stop) l.stops
