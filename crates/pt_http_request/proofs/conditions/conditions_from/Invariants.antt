use Rattle.std.proofs.Common.{◌≡◌, Some, map, take}
use Rattle.serde_json.specs.View.{view}
use Rattle.pt_http_request.specs.Entries.{condition_in}
use Rattle.pt_http_request.proofs.conditions.conditions_from.Given as goal

abbrev pub invariant-loop-value : goal.invariant-loop-value
invariant-loop-value l = map condition_in (map view (take l.value-index l.list)) ≡ map Some l.members.items
