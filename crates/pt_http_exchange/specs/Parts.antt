-- The parts of a request in bytes (RFC 9112): a head, and a body of the length that the head's fields give.
use Rattle.std.specs.Prelude.{ℕ, List, ◌++◌, length, map}
use Rattle.httparse.specs.Grammar.{RequestHead, IsRequestHead}
use Rattle.httparse.specs.Spans.{name_and_value}
use Rattle.pt_http_inbox.specs.Head.{BeginsWithHead, HasParts, IsHeadWithin}
use Rattle.pt_http_inbox.specs.declared.head.Head.{Head}
use Rattle.pt_http_request.specs.Headers.{IsBodyLength}

-- the names and values of a head's fields, in order
abbrev pub lines_of : RequestHead → List (List ℕ × List ℕ)
lines_of head = map name_and_value head.fields

-- the parts that were found are those of this head, and they are within its bytes
pub record AreParts (bytes : List ℕ) (found : Head) (head : RequestHead) : Type 0 where
  pub well_formed : IsRequestHead head
  pub parts : HasParts bytes found head
  pub inside : IsHeadWithin (length bytes) found

-- the bytes begin with this head and this body, and the rest follows them
pub record BeginsWithParts (bytes : List ℕ) (head : RequestHead) (body rest : List ℕ) : Type 0 where
  pub begins : BeginsWithHead bytes head (body ++ rest)
  pub body_length : IsBodyLength (lines_of head) (length body)
