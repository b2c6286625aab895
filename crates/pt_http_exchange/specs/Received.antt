-- The result of reading a request from some bytes.
use Rattle.std.specs.Prelude.{◌≡◌, ℕ, Bool, false, List, Option}
use Rattle.pt_base_values.specs.Moment.{Moment}
use Rattle.pt_http_reply.specs.declared.response.Response.{Response}
use Rattle.pt_http_reply.specs.declared.response.Response.TheVariants as response
use Rattle.pt_desk.specs.State.{State}
use Rattle.pt_http_exchange.specs.Exchange.{Desk, AnswersMessage, IsCommittedBy, is_last}
use Rattle.httparse.specs.Grammar.{RequestHead}
use Rattle.pt_http_request.specs.Messages.{SpellsMessage, IsMessageFault}
use Rattle.pt_http_request.specs.Targets.{desk_routes}
use Rattle.pt_http_exchange.specs.Message.{BeginsWithMessage, BeginsWithFault}
use Rattle.pt_http_exchange.specs.Parts.{lines_of}
use Rattle.pt_http_exchange.specs.declared.received.Received.{Received}
use Rattle.pt_http_exchange.specs.declared.received.Received.TheVariants as received

-- a head and a body spell this message, or have this fault
abbrev pub IsSpelledBy : RequestHead → List ℕ → Received → Type 0
IsSpelledBy head body (received.Message message) =
    SpellsMessage desk_routes head.method head.target (lines_of head) body message
IsSpelledBy head body (received.Refused why) =
    IsMessageFault desk_routes head.method head.target (lines_of head) body why

-- the start of the next message is not known
abbrev pub is_end : Received → Bool
is_end (received.Message message) = false
is_end (received.Refused why) = is_last (response.Refused why)

-- the bytes begin with this message, or with one that has this fault
abbrev pub BeginsWith : List ℕ → Received → List ℕ → Type 0
BeginsWith bytes (received.Message message) rest = BeginsWithMessage bytes message rest
BeginsWith bytes (received.Refused why) rest = BeginsWithFault bytes why rest

-- what was received is a message that commits what an opening finds
abbrev pub CommitsReceived : Moment → Received → State → Option State → Type 0
CommitsReceived now (received.Message message) s o = IsCommittedBy now message s o
CommitsReceived now (received.Refused why) s o = ⊥

-- the desk's response to what was received: an answer; or the fault, which changes nothing
abbrev pub Responds : Moment → Received → Desk → Desk → Response → Type 0
Responds now (received.Message message) old new (response.Answered told) =
    AnswersMessage now message old new told
Responds now (received.Refused why) old new (response.Refused named) = (named ≡ why) × (new ≡ old)
Responds now _ old new _ = ⊥
