use Rattle.std.proofs.Common.{◌≡◌, ℕ, ◌<◌, ◌++◌, take, get_or}
use Rattle.std.specs.List.{flat_map}
use Rattle.pt_rights_files.specs.Conditions.{IsCondition}
use Rattle.pt_rights_files.specs.declared.conditions.Condition.{Condition}
use Rattle.pt_desk_spelling.specs.Requests.{condition_bytes}
use Rattle.pt_desk_spelling.proofs.riders.push_conditions.Given as goal

abbrev pub invariant-loop-member : goal.invariant-loop-member
invariant-loop-member l = record {
  text : l.out.items ≡ l.initial.out.items ++ flat_map condition_bytes (take l.member-index l.members);
  ranges : (k : ℕ) → k < l.member-index → (d : Condition) → IsCondition (get_or l.members k d);
}
