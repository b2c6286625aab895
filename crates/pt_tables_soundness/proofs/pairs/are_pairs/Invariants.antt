use Rattle.std.proofs.Common.{drop}
use Rattle.pt_desk_scheduling.specs.Plan.{stops_of_trip, IsPair}
use Rattle.pt_desk_scheduling.specs.declared.planned.PlannedStop.{PlannedStop}
use Rattle.pt_base_records.specs.Records.{Each}
use Rattle.pt_tables_soundness.proofs.pairs.are_pairs.Given as goal

abbrev pub invariant-loop-stop : goal.invariant-loop-stop
invariant-loop-stop l = Each (λ (stop : PlannedStop). IsPair (stops_of_trip stop.trip l.all))
    (drop l.stop-index l.stops) → Each (λ (stop : PlannedStop). IsPair (stops_of_trip stop.trip l.all)) l.stops
