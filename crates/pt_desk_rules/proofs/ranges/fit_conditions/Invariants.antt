use Rattle.std.proofs.Common.{take, All}
use Rattle.pt_rights_files.specs.Conditions.{IsCondition}
use Rattle.pt_desk_rules.proofs.ranges.fit_conditions.Given as goal

abbrev pub invariant-loop-condition : goal.invariant-loop-condition
invariant-loop-condition l = All IsCondition (take l.condition-index l.conditions)
