use Rattle.std.proofs.Common.{◌≡◌}
use Rattle.std.specs.Io.KnownBytes.{Keeps}
use Rattle.pt_http_inbox.specs.Inbox.{buffer, reader_of, reads_of}
use Rattle.pt_http_inbox.proofs.inbox.Inbox.read_piece.Given as goal

abbrev pub invariant-loop : goal.invariant-loop
invariant-loop g l = record {
  same : buffer l.self ≡ buffer l.fn.self;
  kept : Keeps (g.R.Read.remaining (reader_of l.fn.self)) (g.R.Read.remaining (reader_of l.self));
  asked : reads_of l.self ≡ l.counter;
}
