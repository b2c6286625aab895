-- A reply before it is written.
use Rattle.std.specs.Prelude.{◌≡◌, ◌≤◌, ◌⊎◌, ℕ, List, ◌++◌, length, Bool, true, false, Ok, Err}
use Rattle.pt_desk_store.specs.declared.keeper.StoreFault.TheVariants.{Memory}
use Rattle.pt_desk_requests.specs.declared.request.Answer.{Answer}
use Rattle.pt_desk_requests.specs.declared.request.Answer.TheVariants as answer
use Rattle.pt_http_reply.specs.declared.body.Body.{Body}
use Rattle.pt_http_reply.specs.declared.body.Body.TheVariants.{Fixed, Grown}
use Rattle.pt_http_reply.specs.declared.reply_bytes.ReplyBytes.{ReplyBytes}
use Rattle.pt_http_reply.specs.declared.response.Response.{Response}
use Rattle.pt_http_reply.specs.declared.response.Response.TheVariants as response

-- the answer to a read that no rule denies: it may be of any length
abbrev pub is_of_read : Answer → Bool
is_of_read (answer.Standing standing suspended) = true
is_of_read (answer.Visitor may_use) = true
is_of_read (answer.Trips trips) = true
is_of_read (answer.Letter letter) = true
is_of_read (answer.Manifest day sheet) = true
is_of_read (answer.DaySheet sheet) = true
is_of_read (answer.Export trips) = true
is_of_read _ = false

abbrev pub is_told : Response → Bool
is_told (response.Answered (Ok told)) = is_of_read told
is_told _ = false

-- the bytes of a body
abbrev pub bytes_in : Body → List ℕ
bytes_in (Fixed text) = text
bytes_in (Grown text) = text.items

-- a body in a fixed buffer leaves room for a head
abbrev pub IsShort : Body → Type 0
IsShort (Fixed text) = length text ≤ 200
IsShort (Grown text) = Unit {0}

-- the body is in a fixed buffer
abbrev pub IsFixed : Body → Type 0
IsFixed (Fixed text) = Unit {0}
IsFixed (Grown text) = ⊥

-- the bytes of a reply
abbrev pub bytes_of : ReplyBytes → List ℕ
bytes_of reply = reply.front ++ reply.rest.items

-- the response is sent; or, instead of the answer to a read, the reply that memory ran out
abbrev pub IsSent : Response → Response → Type 0
IsSent asked sent = (sent ≡ asked) ⊎ ((is_told asked ≡ true) × (sent ≡ response.Answered (Err Memory)))
