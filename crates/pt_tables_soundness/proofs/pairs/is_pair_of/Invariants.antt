use Rattle.std.proofs.Common.{drop}
use Rattle.pt_desk_scheduling.specs.Plan.{stops_of_trip, IsPair}
use Rattle.pt_tables_soundness.specs.Pairs.{IsRestAfter}
use Rattle.pt_tables_soundness.proofs.pairs.is_pair_of.Given as goal

abbrev pub invariant-loop-stop : goal.invariant-loop-stop
invariant-loop-stop l = record {
  forth : IsRestAfter l.met (stops_of_trip l.trip (drop l.stop-index l.stops)) → IsPair (stops_of_trip l.trip l.stops);
  back : IsPair (stops_of_trip l.trip l.stops) → IsRestAfter l.met (stops_of_trip l.trip (drop l.stop-index l.stops));
}
