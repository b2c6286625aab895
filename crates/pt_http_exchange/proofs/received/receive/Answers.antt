use Rattle.std.proofs.Common.{◌≡◌, ℕ, Ok, false, true, map, ap, ◌∙◌, refl, subst, sym, take, drop, ◌+◌, ◌++◌}
use Rattle.std.proofs.Common.{slice_range}
use Rattle.httparse.specs.Spans.{header_bytes}
use Rattle.pt_http_inbox.specs.Head.{HasNoHead}
use Rattle.pt_http_inbox.specs.Inbox.{buffer}
use Rattle.pt_http_inbox.proofs.ReadsLemmas.{reads_then}
use Rattle.pt_http_exchange.proofs.ReceivedLemmas.{reads_input, none_left, head_found, head_is, parts_in, parts_later, head_more}
use Rattle.pt_http_request.specs.Headers.{IsBodyLength}
use Rattle.pt_http_exchange.specs.Parts.{lines_of, AreParts}
use Rattle.pt_http_exchange.proofs.ReceivedLemmas.{no_length, on_err, short_body, whole_parts, body_between, received_whole}
use Rattle.pt_http_exchange.proofs.received.receive.Goals as goal

pub returns-in_default-clause-received : goal.returns-in_default-clause-received
returns-in_default-clause-received g c = λ input has.
    let now = reads_input g.R.Read.remaining c.args.inbox.now c.read_head.new.self input c.read_head.ensures.reads has
    in
    let none = c.read_head.ensures.none (c.in_ok-head.was ∙ ap Ok c.in_default.is) now.left now.known in
    (input, now, subst HasNoHead (sym now.whole) none)

pub returns-in_default-body_length-clause-received : goal.returns-in_default-body_length-clause-received
returns-in_default-body_length-clause-received g c = λ input has.
    let bytes = buffer c.read_head.new.self in
    let found = c.in-Some.head in
    let now = reads_input g.R.Read.remaining c.args.inbox.now c.read_head.new.self input c.read_head.ensures.reads has
    in
    let is = head_found _ bytes found c.in-Some.is c.in_ok-head.ensures.head in
    let there : AreParts (take found.length c.buffer.result.now) found is.head
    = subst (λ b. AreParts (take found.length b) found is.head) (sym c.buffer.ensures.value) (parts_in bytes found is) in
    let same = ap (map (header_bytes (take found.length c.buffer.result.now))) c.deref.ensures.0 ∙ there.parts.lines in
    let none : (size : ℕ) → ¬ (IsBodyLength (lines_of is.head) size)
    = subst (λ lines. (size : ℕ) → ¬ (IsBodyLength lines size)) same (c.in_default-body_length.ensures.none refl) in
    (input, now, no_length bytes now.left input found.length is.head now.whole (head_is bytes found is) none)

pub returns-then-not-branch-clause-received : goal.returns-then-not-branch-clause-received
returns-then-not-branch-clause-received g c = λ input has.
    let bytes = buffer c.read_head.new.self in
    let longer = buffer c.read_up_to.new.self in
    let found = c.in-Some.head in
    let size = c.in-Some-body_length.length in
    let first = reads_input g.R.Read.remaining c.args.inbox.now c.read_head.new.self input c.read_head.ensures.reads
    has in
    let now = reads_input g.R.Read.remaining c.read_head.new.self c.read_up_to.new.self input
    c.read_up_to.ensures.reads first in
    let is = head_found _ bytes found c.in-Some.is c.in_ok-head.ensures.head in
    let there : AreParts (take found.length c.buffer.result.now) found is.head
    = subst (λ b. AreParts (take found.length b) found is.head) (sym c.buffer.ensures.value) (parts_in bytes found is) in
    let same = ap (map (header_bytes (take found.length c.buffer.result.now))) c.deref.ensures.0 ∙ there.parts.lines in
    let taken : IsBodyLength (lines_of is.head) size
    = subst (λ lines. IsBodyLength lines size) same c.in-Some-body_length.ensures.length in
    let ended : c.read_up_to.result ≡ Ok false = c.in_ok-read_up_to.was ∙ ap Ok c.if-not-branch.true in
    let none = none_left _ _ (c.read_up_to.ensures.end ended) now.known in
    let later = head_more bytes c.read_up_to.ensures.reads.more longer found.length is.head
    c.read_up_to.ensures.reads.appended (head_is bytes found is) in (
      input,
      now,
      short_body longer now.left input found.length size is.head now.whole none
          (c.read_up_to.ensures.short ended) later taken,
    )

pub returns-clause-received : goal.returns-clause-received
returns-clause-received g c = λ input has.
    let bytes = buffer c.read_head.new.self in
    let longer = buffer c.read_up_to.new.self in
    let found = c.in-Some.head in
    let count = found.length in
    let size = c.in-Some-body_length.length in
    let more = c.read_up_to.ensures.reads.more in
    let first = reads_input g.R.Read.remaining c.args.inbox.now c.read_head.new.self input c.read_head.ensures.reads
    has in
    let now = reads_input g.R.Read.remaining c.read_head.new.self c.read_up_to.new.self input
    c.read_up_to.ensures.reads first in
    let is = head_found _ bytes found c.in-Some.is c.in_ok-head.ensures.head in
    let there : AreParts (take found.length c.buffer.result.now) found is.head
    = subst (λ b. AreParts (take found.length b) found is.head) (sym c.buffer.ensures.value) (parts_in bytes found is) in
    let same = ap (map (header_bytes (take found.length c.buffer.result.now))) c.deref.ensures.0 ∙ there.parts.lines in
    let taken : IsBodyLength (lines_of is.head) size
    = subst (λ lines. IsBodyLength lines size) same c.in-Some-body_length.ensures.length in
    let came : c.read_up_to.result ≡ Ok true = c.in_ok-read_up_to.was ∙ ap Ok c.if-not-branch.false in
    let later = head_more bytes more longer count is.head c.read_up_to.ensures.reads.appended (head_is bytes found is)
    in
    let again : AreParts (take count c.buffer-buffer.result.now) found is.head
    = subst (λ b. AreParts (take count b) found is.head) (sym c.buffer-buffer.ensures.value)
    (parts_later bytes more longer found is c.read_up_to.ensures.reads.appended) in
    let body = slice_range c.buffer-buffer.result.now count (count + size) in
    let is_body : body ≡ take size (drop count longer)
    = body_between c.buffer-buffer.result.now count size ∙ ap (λ b. take size (drop count b)) c.buffer-buffer.ensures.value in
    let rest = drop (count + size) longer ++ now.left in
    let parts = whole_parts longer now.left input body count size is.head now.whole (c.read_up_to.ensures.enough came)
    later taken is_body in (
      rest,
      record {
        left = now.left;
        known = ap g.R.Read.remaining c.finish_request.ensures.reader ∙ now.known;
        whole = ap (λ b. b ++ now.left) (sym c.finish_request.ensures.rest);
      },
      received_whole input body rest is.head c.in_ok-received.received parts
          (c.in_ok-received.ensures.spelled is.head again),
    )

pub returns-in_err-head-clause-still_there : goal.returns-in_err-head-clause-still_there
returns-in_err-head-clause-still_there g c = on_err c.from_residual.result (λ error input has.
    reads_input g.R.Read.remaining c.args.inbox.now c.read_head.new.self input c.read_head.ensures.reads has)

pub returns-in_err-read_up_to-clause-still_there : goal.returns-in_err-read_up_to-clause-still_there
returns-in_err-read_up_to-clause-still_there g c = on_err c.from_residual-in_err-read_up_to.result (λ error input has.
    let reads = reads_then g.R.Read.remaining c.args.inbox.now c.read_head.new.self c.read_up_to.new.self
    c.read_head.ensures.reads c.read_up_to.ensures.reads in
    reads_input g.R.Read.remaining c.args.inbox.now c.read_up_to.new.self input reads has)

pub returns-in_err-read_up_to-clause-still_held : goal.returns-in_err-read_up_to-clause-still_held
returns-in_err-read_up_to-clause-still_held g c = on_err c.from_residual-in_err-read_up_to.result (λ error.
    reads_then g.R.Read.remaining c.args.inbox.now c.read_head.new.self c.read_up_to.new.self
    c.read_head.ensures.reads c.read_up_to.ensures.reads)

pub returns-in_err-received-clause-still_there : goal.returns-in_err-received-clause-still_there
returns-in_err-received-clause-still_there g c = on_err c.from_residual-in_err-received.result (λ error input has.
    let reads = reads_then g.R.Read.remaining c.args.inbox.now c.read_head.new.self c.read_up_to.new.self
    c.read_head.ensures.reads c.read_up_to.ensures.reads in
    reads_input g.R.Read.remaining c.args.inbox.now c.read_up_to.new.self input reads has)

pub returns-in_err-received-clause-still_held : goal.returns-in_err-received-clause-still_held
returns-in_err-received-clause-still_held g c = on_err c.from_residual-in_err-received.result (λ error.
    reads_then g.R.Read.remaining c.args.inbox.now c.read_head.new.self c.read_up_to.new.self
    c.read_head.ensures.reads c.read_up_to.ensures.reads)

pub received_from-requires-clause-parts : goal.received_from-requires-clause-parts
received_from-requires-clause-parts g c =
    let bytes = buffer c.read_head.new.self in
    let found = c.in-Some.head in
    let is = head_found _ bytes found c.in-Some.is c.in_ok-head.ensures.head in
    let longer = buffer c.read_up_to.new.self in
    let again : AreParts (take found.length c.buffer-buffer.result.now) found is.head
    = subst (λ b. AreParts (take found.length b) found is.head) (sym c.buffer-buffer.ensures.value)
    (parts_later bytes c.read_up_to.ensures.reads.more longer found is c.read_up_to.ensures.reads.appended) in
    (is.head, again)
