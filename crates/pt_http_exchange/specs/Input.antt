-- The bytes that an inbox has still to give.
use Rattle.std.specs.Prelude.{◌≡◌, ℕ, List, ◌++◌, Option, Some}
use Rattle.pt_http_inbox.specs.Inbox.{buffer, reader_of}
use Rattle.pt_http_inbox.specs.declared.inbox.Inbox.{Inbox}

-- the input is what the inbox holds and then what its reader has left, if that is known
pub record HasInput {R : Type 0} (remaining : R → Option (List ℕ)) (inbox : Inbox R) (input : List ℕ) : Type 0 where
  pub left : List ℕ
  pub known : remaining (reader_of inbox) ≡ Some left
  pub whole : input ≡ buffer inbox ++ left
