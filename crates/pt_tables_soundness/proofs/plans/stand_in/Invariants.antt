use Rattle.std.proofs.Common.{drop}
use Rattle.pt_desk_rules.specs.Sound.{StandsIn}
use Rattle.pt_desk_scheduling.specs.Plan.{plan_key}
use Rattle.pt_desk_scheduling.specs.declared.planned.PlannedStop.{PlannedStop}
use Rattle.pt_base_records.specs.Records.{Each}
use Rattle.pt_tables_soundness.proofs.plans.stand_in.Given as goal

abbrev pub invariant-loop-stop : goal.invariant-loop-stop
invariant-loop-stop l = Each (λ (stop : PlannedStop). StandsIn l.trips.items (plan_key l.plan) stop.trip)
    (drop l.stop-index l.stops) → Each (λ (stop : PlannedStop). StandsIn l.trips.items (plan_key l.plan) stop.trip)
    l.stops
