use Rattle.std.proofs.Common.{◌≡◌, ◌++◌, drop}
use Rattle.pt_desk_rules.specs.Planned.{planned_on}
use Rattle.pt_desk_store.proofs.answers.planned_on.Given as goal

abbrev pub invariant-loop-plan : goal.invariant-loop-plan
invariant-loop-plan l = l.found.items ++ planned_on l.day (drop l.plan-index l.plans) ≡ planned_on l.day l.plans
