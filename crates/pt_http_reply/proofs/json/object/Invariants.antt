use Rattle.std.proofs.Common.{◌≡◌, ◌≤◌, ◌+◌, ◌*◌, ◌++◌, codes, length, map, take}
use Rattle.std.specs.List.{join_with_byte}
use Rattle.pt_http_reply.specs.Json.{member_text}
use Rattle.pt_http_reply.proofs.json.object.Given as goal

abbrev pub invariant-loop-index : goal.invariant-loop-index
invariant-loop-index l =
    (l.text ≡ codes "{" ++ join_with_byte 44 (map member_text (take l.index l.members))) × (length l.text ≤ 1 + 32 * l.index)
