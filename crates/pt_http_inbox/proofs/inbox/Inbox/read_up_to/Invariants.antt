use Rattle.pt_http_inbox.specs.Inbox.{ReadsOn}
use Rattle.pt_http_inbox.proofs.inbox.Inbox.read_up_to.Given as goal

abbrev pub invariant-loop : goal.invariant-loop
invariant-loop g l = ReadsOn g.R.Read.remaining l.fn.self l.self
