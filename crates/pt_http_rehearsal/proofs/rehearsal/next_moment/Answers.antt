use Rattle.std.proofs.Common.{◌≡◌, ◌≤◌, ◌++◌, Ok, true, length, refl, subst, sym, ap, ◌∙◌, drop, List, ℕ, arith}
use Rattle.pt_http_inbox.specs.Inbox.{buffer}
use Rattle.pt_http_rehearsal.specs.Moment.{BeginsWithMoment}
use Rattle.pt_http_rehearsal.proofs.MomentLemmas.{moment_before, no_moment_after}
use Rattle.pt_http_rehearsal.specs.Rehearsal.{HasNoMoment}
use Rattle.pt_http_rehearsal.proofs.NextLemmas.{one_of_two, not_empty}
use Rattle.pt_http_exchange.proofs.ReceivedLemmas.{reads_input, none_left}
use Rattle.pt_http_rehearsal.proofs.rehearsal.next_moment.Goals as goal

pub returns-in_default-clause-line : goal.returns-in_default-clause-line
returns-in_default-clause-line g c = λ input has is.
    let bytes = buffer c.read_up_to-2.new.self in
    let first = reads_input g.R.Read.remaining c.args.inbox.now c.read_up_to.new.self input c.read_up_to.ensures.reads
    has in
    let now = reads_input g.R.Read.remaining c.read_up_to.new.self c.read_up_to-2.new.self input
    c.read_up_to-2.ensures.reads first in
    let none : HasNoMoment bytes = subst HasNoMoment c.buffer.ensures.value (c.in_default.ensures.none refl) in
    let all = one_of_two c.in_ok-read_up_to-2.field-0 c.read_up_to-2.result c.in_ok-read_up_to-2.was
    c.read_up_to-2.ensures.enough
    (λ ended. none_left _ now.left (c.read_up_to-2.ensures.end ended) now.known) in
    let came : c.read_up_to.result ≡ Ok true = c.in_ok-read_up_to.was ∙ ap Ok c.if-not-branch.false in
    let some : 1 ≤ length (buffer c.read_up_to.new.self) = c.read_up_to.ensures.enough came in (
      not_empty input _ first.left first.whole some,
      subst HasNoMoment (sym now.whole)
          (no_moment_after bytes now.left all none),
    )

pub returns-clause-next : goal.returns-clause-next
returns-clause-next g c = λ input has.
    let bytes = buffer c.read_up_to-2.new.self in
    let day = c.in-Some.line.moment.0 in
    let minute = c.in-Some.line.moment.1 in
    let end = c.in-Some.line.end in
    let first = reads_input g.R.Read.remaining c.args.inbox.now c.read_up_to.new.self input c.read_up_to.ensures.reads
    has in
    let now = reads_input g.R.Read.remaining c.read_up_to.new.self c.read_up_to-2.new.self input
    c.read_up_to-2.ensures.reads first in
    let here : BeginsWithMoment bytes day minute (drop end bytes)
    = subst (λ (b : List ℕ). BeginsWithMoment b day minute (drop end b)) c.buffer.ensures.value c.in-Some.ensures.moment
    in
    let rest = drop end bytes ++ now.left in (
      rest,
      record {
        left = now.left;
        known = ap g.R.Read.remaining c.consume.ensures.reader ∙ now.known;
        whole = ap (λ b. b ++ now.left) (sym c.consume.ensures.rest);
      },
      subst (λ b. BeginsWithMoment b day minute rest) (sym now.whole)
          (moment_before bytes now.left day minute (drop end bytes) here),
    )
