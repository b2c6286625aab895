-- Members of objects, one after another.
use Rattle.std.proofs.Common.{ℕ, zero, suc, ◌<◌, List, [], ◌∷◌, length, get_or, arith}
use Rattle.pt_http_request.specs.declared.field_name.FieldName.{FieldName}
use Rattle.pt_http_reply.specs.Json.{IsShortValue, AreShort}
use Rattle.pt_http_reply.specs.declared.json.MemberValue.{MemberValue}

-- each of the members is short
pub AreShort-at : (parts : List (FieldName × MemberValue)) (index : ℕ) (d : FieldName × MemberValue) → AreShort parts → index < length parts → IsShortValue (get_or parts index d).1
AreShort-at [] index d short inside = absurd (omega arith)
AreShort-at (part ∷ parts) zero d short inside = short.0
AreShort-at (part ∷ parts) (suc index) d short inside = AreShort-at parts index d short.1 (omega arith)
