-- Compact JSON (RFC 8259): values, members and objects.
use Rattle.std.specs.Prelude.{◌≤◌, ℕ, List, [], ◌∷◌, ◌++◌, length, Bool, true, false, codes, decimal}
use Rattle.std.specs.List.{join_with_byte}
use Rattle.pt_http_request.specs.Names.{field_name}
use Rattle.pt_http_request.specs.declared.field_name.FieldName.{FieldName}
use Rattle.pt_http_reply.specs.declared.json.MemberValue.{MemberValue}
use Rattle.pt_http_reply.specs.declared.json.MemberValue.TheVariants as value

-- a truth value
abbrev pub truth_text : Bool → List ℕ
truth_text true = codes "true"
truth_text false = codes "false"

-- a text whose characters need no escape
abbrev pub quoted : List ℕ → List ℕ
quoted text = codes "\"" ++ text ++ codes "\""

-- a member of an object: its name and its value
abbrev pub member : FieldName → List ℕ → List ℕ
member name value = quoted (field_name name) ++ codes ":" ++ value

-- an object of these members, with a comma (byte 44) between each two
abbrev pub object : List (List ℕ) → List ℕ
object members = codes "{" ++ join_with_byte 44 members ++ codes "}"

-- a value that the writer of objects takes, as JSON
abbrev pub value_text : MemberValue → List ℕ
value_text value.Null = codes "null"
value_text (value.Truth truth) = truth_text truth
value_text (value.Number number) = decimal number
value_text (value.Text text) = quoted text.now

-- a member that it takes, as JSON
abbrev pub member_text : FieldName × MemberValue → List ℕ
member_text part = member part.0 (value_text part.1)

-- the text of a value has at most 15 bytes
abbrev pub IsShortValue : MemberValue → Type 0
IsShortValue (value.Text text) = length text.now ≤ 15
IsShortValue _ = Unit {0}

-- the text of each value has at most 15 bytes
abbrev pub AreShort : List (FieldName × MemberValue) → Type 0
AreShort [] = Unit {0}
AreShort (part ∷ parts) = IsShortValue part.1 × AreShort parts
