use Rattle.std.proofs.Common.{◌≡◌, take}
use Rattle.pt_rights_files.proofs.conditions.Conditions.copy.Given as goal

abbrev pub invariant-loop-condition : goal.invariant-loop-condition
invariant-loop-condition l = l.members.items ≡ take l.condition-index l.condition-items
