-- Heads of requests (RFC 9112), of a bounded size.
use Rattle.std.specs.Prelude.{◌≡◌, ℕ, ◌≤◌, List, ◌++◌, length, take, drop, map, All}
use Rattle.httparse.specs.Grammar.{RequestHead, ReadsRequest, print_request}
use Rattle.httparse.specs.Spans.{IsWithin, IsHeaderWithin, span_bytes, header_bytes, name_and_value}
use Rattle.pt_http_inbox.specs.declared.head.Head.{Head}

-- the most bytes of a head
abbrev pub longest_head : ℕ
longest_head = 8_192

-- the most header lines of a head
abbrev pub most_fields : ℕ
most_fields = 64

-- the bytes begin with this head, which is in the limits, and the rest follows it
pub record BeginsWithHead (bytes : List ℕ) (head : RequestHead) (rest : List ℕ) : Type 0 where
  pub reads : ReadsRequest bytes head rest
  pub short : length (print_request head) ≤ longest_head
  pub few : length head.fields ≤ most_fields

-- its method, its target and its header lines are these parts of its bytes
pub record HasParts (bytes : List ℕ) (found : Head) (head : RequestHead) : Type 0 where
  pub method : span_bytes bytes found.method ≡ head.method
  pub target : span_bytes bytes found.target ≡ head.target
  pub lines : map (header_bytes bytes) found.lines.items ≡ map name_and_value head.fields

-- all those parts are within the first `count` bytes
pub record IsHeadWithin (count : ℕ) (found : Head) : Type 0 where
  pub method : IsWithin count found.method
  pub target : IsWithin count found.target
  pub lines : All (IsHeaderWithin count) found.lines.items

-- this head was found at the front of the bytes
pub record IsHead (bytes : List ℕ) (found : Head) : Type 0 where
  pub head : RequestHead
  pub begins : BeginsWithHead bytes head (drop found.length bytes)
  pub parts : HasParts (take found.length bytes) found head
  pub inside : IsHeadWithin found.length found
  pub within : found.length ≤ length bytes

-- the bytes begin with no head in the limits
abbrev pub HasNoHead : List ℕ → Type 0
HasNoHead bytes = (head : RequestHead) (rest : List ℕ) → ¬ (BeginsWithHead bytes head rest)

-- the bytes begin with no head in the limits, whatever bytes follow
abbrev pub NeverHasHead : List ℕ → Type 0
NeverHasHead bytes = (more : List ℕ) → HasNoHead (bytes ++ more)
