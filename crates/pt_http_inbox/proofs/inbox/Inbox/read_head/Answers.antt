use Rattle.std.proofs.Common.{◌≡◌, List, ℕ, Ok, false, ap, ◌∙◌, subst}
use Rattle.pt_http_inbox.specs.Head.{HasNoHead}
use Rattle.pt_http_inbox.specs.Inbox.{buffer}
use Rattle.pt_http_inbox.proofs.HeadLemmas.{none_at_end}
use Rattle.pt_http_inbox.proofs.inbox.Inbox.read_head.Goals as goal

pub returns-then-not-branch-clause-none : goal.returns-then-not-branch-clause-none
returns-then-not-branch-clause-none g c _ more is =
    let ended : c.read_more.result ≡ Ok false = c.in_ok-read_more-in-Open.was ∙ ap Ok c.if-not-branch.true in
    let P : List ℕ → Type 0 = λ bytes. HasNoHead bytes in
    let none : HasNoHead (buffer c.loop.self) = subst P c.buffer.ensures.value c.in-Open.ensures.0 in
    none_at_end _ more (buffer c.loop.self) _ (c.read_more.ensures.end ended) is (c.read_more.ensures.nothing ended) none
