-- What a look at the front of some bytes found.
use Rattle.std.specs.Prelude.{ℕ, ◌<◌, List, length}
use Rattle.pt_http_inbox.specs.Head.{longest_head, IsHead, HasNoHead, NeverHasHead}
use Rattle.pt_http_inbox.specs.declared.head.Front.{Front}
use Rattle.pt_http_inbox.specs.declared.head.Front.TheVariants.{Head, Open, Never}

abbrev pub Says : List ℕ → Front → Type 0
Says bytes (Head found) = IsHead bytes found
Says bytes Open = HasNoHead bytes × (length bytes < longest_head)
Says bytes Never = NeverHasHead bytes
