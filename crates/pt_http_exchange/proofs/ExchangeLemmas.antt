-- Exchanges, from what was received and the desk's response.
use Rattle.std.proofs.Common.{◌≡◌, ℕ, List, refl, sym, ap, subst}
use Rattle.pt_base_values.specs.Moment.{Moment}
use Rattle.pt_http_reply.specs.declared.response.Response.{Response}
use Rattle.pt_http_reply.specs.declared.response.Response.TheVariants as response
use Rattle.pt_http_exchange.specs.Exchange.{Desk, Exchanges, Serves, is_last}
use Rattle.pt_http_exchange.specs.Message.{BeginsWithFault}
use Rattle.pt_http_exchange.specs.Received.{BeginsWith, Responds, is_end}
use Rattle.pt_http_exchange.specs.declared.received.Received.{Received}
use Rattle.pt_http_exchange.specs.declared.received.Received.TheVariants as received

-- what was received is exchanged for the desk's response
pub exchanged : (now : Moment) (input : List ℕ) (came : Received) (old new : Desk) (reply : Response)
    (rest : List ℕ) → BeginsWith input came rest → Responds now came old new reply
    → Exchanges now input old new reply rest
exchanged now input (received.Message message) old new (response.Answered told) rest begins responds
    = (message, begins, responds)
exchanged now input (received.Message message) old new (response.Refused named) rest begins responds
    = absurd responds
exchanged now input (received.Refused why) old new (response.Answered told) rest begins responds = absurd responds
exchanged now input (received.Refused why) old new (response.Refused named) rest begins (is, same) =
    (subst (λ fault. BeginsWithFault input fault rest) (sym is) begins, same)

-- the response ends the messages exactly if what was received does
pub same_end : (now : Moment) (came : Received) (old new : Desk) (reply : Response)
    → Responds now came old new reply
    → is_end came ≡ is_last reply
same_end now (received.Message message) old new (response.Answered told) responds = refl
same_end now (received.Message message) old new (response.Refused named) responds = absurd responds
same_end now (received.Refused why) old new (response.Answered told) responds = absurd responds
same_end now (received.Refused why) old new (response.Refused named) (is, same) =
    ap (λ fault. is_last (response.Refused fault)) (sym is)

-- whatever came in, it was served
pub served : (now : Moment) (came : Received) (old new : Desk) (reply : Response)
    → Responds now came old new reply → Serves now old new reply
served now (received.Message message) old new (response.Answered told) responds = (message, responds)
served now (received.Message message) old new (response.Refused named) responds = absurd responds
served now (received.Refused why) old new (response.Answered told) responds = absurd responds
served now (received.Refused why) old new (response.Refused named) (is, same) = same
