-- The front of some bytes: a message, or the first fault in it.
use Rattle.std.specs.Prelude.{ℕ, ◌<◌, List, length}
use Rattle.httparse.specs.Grammar.{RequestHead}
use Rattle.pt_http_inbox.specs.Head.{BeginsWithHead, HasNoHead}
use Rattle.pt_http_request.specs.declared.fault.RequestFault.{RequestFault}
use Rattle.pt_http_request.specs.declared.fault.RequestFault.TheVariants as fault
use Rattle.pt_http_request.specs.Headers.{IsBodyLength}
use Rattle.pt_http_request.specs.Messages.{SpellsMessage, IsMessageFault}
use Rattle.pt_http_request.specs.Targets.{desk_routes}
use Rattle.pt_http_request.specs.declared.message.Message.{Message}
use Rattle.pt_http_exchange.specs.Parts.{lines_of, BeginsWithParts}

-- the bytes begin with this message, and the rest follows it
pub record BeginsWithMessage (bytes : List ℕ) (message : Message) (rest : List ℕ) : Type 0 where
  pub head : RequestHead
  pub body : List ℕ
  pub parts : BeginsWithParts bytes head body rest
  pub spelled : SpellsMessage desk_routes head.method head.target (lines_of head) body message

-- fewer bytes follow a head than its fields say, or the fields give no length in the limits
pub record HasNoBody (bytes : List ℕ) : Type 0 where
  pub head : RequestHead
  pub after : List ℕ
  pub begins : BeginsWithHead bytes head after
  pub short : (size : ℕ) → IsBodyLength (lines_of head) size → length after < size

-- the bytes begin with the parts of a request that has this fault, and the rest follows them
pub record BeginsWithRefused (bytes : List ℕ) (why : RequestFault) (rest : List ℕ) : Type 0 where
  pub head : RequestHead
  pub body : List ℕ
  pub parts : BeginsWithParts bytes head body rest
  pub refused : IsMessageFault desk_routes head.method head.target (lines_of head) body why

-- this is the first fault in the message at the front of the bytes
abbrev pub BeginsWithFault : List ℕ → RequestFault → List ℕ → Type 0
BeginsWithFault bytes fault.Head rest = HasNoHead bytes
BeginsWithFault bytes fault.Length rest = HasNoBody bytes
BeginsWithFault bytes why rest = BeginsWithRefused bytes why rest
