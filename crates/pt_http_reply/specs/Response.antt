-- Replies in bytes, as HTTP/1.1 messages (RFC 9112).
use Rattle.std.specs.Prelude.{◌≡◌, ℕ, List, [], ◌++◌, length, codes, decimal, Ok, Err}
use Rattle.pt_base_values.specs.declared.rule.Rule.TheVariants.{Key}
use Rattle.pt_desk_requests.specs.declared.request.Answer.TheVariants as answer
use Rattle.pt_http_request.specs.Names.{method_name, status_of_fault}
use Rattle.pt_http_request.specs.declared.fault.RequestFault.TheVariants as fault
use Rattle.http.specs.StatusCode.{status_text}
use Rattle.pt_http_reply.specs.Body.{IsBody}
use Rattle.pt_http_reply.specs.ContentType.{type_text}
use Rattle.pt_http_reply.specs.declared.content_type.ContentType.{ContentType}
use Rattle.pt_http_reply.specs.declared.content_type.ContentType.TheVariants.{Json, Text, Csv}
use Rattle.pt_http_reply.specs.Status.{status_of_rule}
use Rattle.pt_http_reply.specs.declared.response.Response.{Response}
use Rattle.pt_http_reply.specs.declared.response.Response.TheVariants as response

-- the status of a reply: OK, that of a denial or a fault, or Service Unavailable
abbrev pub status_of : Response → ℕ
status_of (response.Answered (Ok (answer.Denied rule))) = status_of_rule rule
status_of (response.Answered (Ok told)) = 200
status_of (response.Answered (Err failed)) = 503
status_of (response.Refused refused) = status_of_fault refused

-- the media type of a reply's body
abbrev pub type_of : Response → ContentType
type_of (response.Answered (Ok (answer.Letter letter))) = Text
type_of (response.Answered (Ok (answer.Manifest day sheet))) = Text
type_of (response.Answered (Ok (answer.DaySheet sheet))) = Text
type_of (response.Answered (Ok (answer.Export trips))) = Csv
type_of reply = Json

-- a line of a head
abbrev pub line : List ℕ → List ℕ
line text = text ++ codes "\r\n"

-- the extra lines of some replies: 401 names the key's header, 405 the allowed method
abbrev pub own_lines : Response → List ℕ
own_lines (response.Answered (Ok (answer.Denied Key))) = line (codes "WWW-Authenticate: Desk-Key")
own_lines (response.Refused (fault.Method allowed)) = line (codes "Allow: " ++ method_name allowed)
own_lines _ = []

-- the lines of a head before a body of this length; the last line is empty
abbrev pub head_text : Response → ℕ → List ℕ
head_text reply body_length =
    line (codes "HTTP/1.1 " ++ status_text (status_of reply))
    ++ line (codes "Content-Type: " ++ type_text (type_of reply))
    ++ line (codes "Content-Length: " ++ decimal body_length)
    ++ own_lines reply
    ++ line (codes "Connection: close")
    ++ line []

-- a reply in bytes: its head and its body
abbrev pub reply_text : Response → List ℕ → List ℕ
reply_text reply body = head_text reply (length body) ++ body

-- the bytes are those of the reply
pub record IsReplyText (reply : Response) (bytes : List ℕ) : Type 0 where
  pub body : List ℕ
  pub told : IsBody reply body
  pub text : bytes ≡ reply_text reply body
