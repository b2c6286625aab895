use Rattle.std.proofs.Common.{◌≡◌, ◌++◌, take}
use Rattle.pt_http_reply.specs.Body.{conditions_text}
use Rattle.pt_http_reply.proofs.standing.write_conditions.Given as goal

abbrev pub invariant-loop-index : goal.invariant-loop-index
invariant-loop-index l = l.out.items ≡ l.fn.out.items ++ conditions_text (take l.index l.condition-items)
