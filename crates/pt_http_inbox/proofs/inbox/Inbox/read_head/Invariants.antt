use Rattle.pt_http_inbox.specs.Inbox.{ReadsOn}
use Rattle.pt_http_inbox.proofs.inbox.Inbox.read_head.Given as goal

abbrev pub invariant-loop : goal.invariant-loop
invariant-loop g l = ReadsOn g.R.Read.remaining l.fn.self l.self
