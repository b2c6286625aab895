-- What a contract sees of an inbox.
use Rattle.std.specs.Prelude.{◌≡◌, ℕ, ◌+◌, ◌*◌, ◌≤◌, List, ◌++◌, length, Option}
use Rattle.std.specs.Io.KnownBytes.{Consumes}
use Rattle.pt_http_inbox.specs.declared.inbox.Inbox.{Inbox}
use Rattle.pt_http_inbox.specs.Reads.{longest_piece}

-- the bytes that have been read and not yet consumed
abbrev pub buffer : {R : Type 0} → Inbox R → List ℕ
buffer inbox = inbox.bytes.value.items

-- the reader behind them
abbrev pub reader_of : {R : Type 0} → Inbox R → R
reader_of inbox = inbox.reader.reader

-- the reads since the last request was dropped
abbrev pub reads_of : {R : Type 0} → Inbox R → ℕ
reads_of inbox = inbox.reader.reads

-- The inbox holds more bytes of the reader at its end, and each read was counted. This speaks of the reader's bytes if
-- they are known.
pub record ReadsOn {R : Type 0} (remaining : R → Option (List ℕ)) (old new : Inbox R) : Type 0 where
  pub more : List ℕ
  pub consumed : Consumes (remaining (reader_of old)) (remaining (reader_of new)) more
  pub appended : buffer new ≡ buffer old ++ more
  pub counted : length more + longest_piece * reads_of old ≤ longest_piece * reads_of new
