use Rattle.std.proofs.Common.{◌≡◌, ◌∷◌, [], ◌++◌, Ok, Err, false, refl, sym, ap, ◌∙◌, arith, inl, inr}
use Rattle.std.proofs.KnownBytes.{Appends-trans}
use Rattle.std.proofs.lemmas.Result.{err_from_is_err_and}
use Rattle.pt_http_exchange.proofs.AnsweringLemmas.{goes_further, goes_nowhere}
use Rattle.pt_http_exchange.specs.Exchange.{desk_of}
use Rattle.pt_http_rehearsal.proofs.NextLemmas.{next_some, next_none, nothing_left}
use Rattle.pt_http_exchange.proofs.ReceivedLemmas.{reads_input, none_left}
use Rattle.pt_http_rehearsal.proofs.RehearsalLemmas.{begun, stops, ends, step_of, one_longer, one_more, went_on}
use Rattle.pt_http_rehearsal.proofs.RehearsalLemmas.{stopped_here, stopped_unanswered, stopped_unheard, either, read_no_line}
use Rattle.pt_http_rehearsal.proofs.RehearsalLemmas.{read_cause_no_line}
use Rattle.pt_http_rehearsal.proofs.ServedLemmas.{served_here, served_last, served_on, served_unanswered}
use Rattle.pt_http_rehearsal.proofs.ServedLemmas.{served_unheard, serving_begun}
use Rattle.pt_http_rehearsal.proofs.rehearsal.go_through.Goals as goal

pub loop-init : goal.loop-init
loop-init g c = record {
  goes = goes_nowhere (g.K.Keeper.store c.args.keeper.now);
  stands = λ clean input has. begun g.R.Read.remaining input _ _ c.args.inbox.now has;
  served = λ clean. serving_begun _ _;
}

pub returns-in_err-now-clause-stopped : goal.returns-in_err-now-clause-stopped
returns-in_err-now-clause-stopped g c = λ clean input has.
    let st = c.loop.invariant.stands clean input has in
    let p = err_from_is_err_and c.from_residual.result c.from_residual.ensures.1 in
    rw (p.1, p.2) (stopped_here _ input _ _ _ _ _ c.in_err-now.field-0.0 st (omega (arith, c.loop-test.true))
    (λ line. c.next_moment.ensures.line st.left st.has (c.in_err-now.was ∙ ap Err line)))

pub returns-in_default-clause-finished : goal.returns-in_default-clause-finished
returns-in_default-clause-finished g c = λ clean input has.
    let st = c.loop.invariant.stands clean input has in
    let empty = next_none g.R.Read.remaining c.next_moment.new.inbox st.left c.in_ok-now.field-0 c.in_default.is
    (c.in_ok-now.ensures.next st.left st.has) in (
      st.messages,
      st.written,
      st.left,
      stops _ input _ _ _ _ _ st,
      st.appended,
      inl empty,
      omega (arith, st.few, c.loop-test.true),
    )

pub returns-in_err-response-clause-stopped : goal.returns-in_err-response-clause-stopped
returns-in_err-response-clause-stopped g c = λ clean input has.
    let store = g.K.Keeper.store in
    let contents = g.W.Write.contents in
    let was : (store c.loop.keeper).doubt ≡ 0 = omega (arith, clean, c.exchange.ensures.exchange.goes.clean) in
    let st = c.loop.invariant.stands was input has in
    let next = next_some g.R.Read.remaining c.next_moment.new.inbox st.left c.in_ok-now.field-0 c.in-Some.now
    c.in-Some.is (c.in_ok-now.ensures.next st.left st.has) in
    let error = c.in_err-response.field-0.0 in
    let p = err_from_is_err_and c.from_residual-in_err-response.result c.from_residual-in_err-response.ensures.1 in
    rw (p.1, p.2) (either c.in_err-response.ensures.exchange.failure.fault
    (λ unanswered.
    let kept = c.in_err-response.ensures.exchange.failure.unanswered unanswered in
    stopped_unanswered _ input _ _ _ _ _ _ _ error st (omega (arith, c.loop-test.true)) unanswered
    (ap (λ keeper. desk_of (store keeper)) kept.0) (ap contents kept.1))
    (λ write.
    let unheard = c.exchange.ensures.exchange.unheard clean next.0 next.1 (c.in_err-response.was ∙ ap Err write) in
    let text = unheard.2 in
    let one = one_more c.in-Some.now unheard.0 text.0 in
    let step = step_of c.in-Some.now st.left next.0 unheard.1.0 text.0 _ _ unheard.0 next.2
    unheard.1.2 text.1 in
    stopped_unheard _ input unheard.1.0 _ _ _ _ _ _ _ one error st c.loop-test.true write step))

pub returns-then-is_last-clause-finished : goal.returns-then-is_last-clause-finished
returns-then-is_last-clause-finished g c = λ clean input has.
    let store = g.K.Keeper.store in
    let was : (store c.loop.keeper).doubt ≡ 0 = omega (arith, clean, c.exchange.ensures.exchange.goes.clean) in
    let st = c.loop.invariant.stands was input has in
    let next = next_some g.R.Read.remaining c.next_moment.new.inbox st.left c.in_ok-now.field-0 c.in-Some.now
    c.in-Some.is (c.in_ok-now.ensures.next st.left st.has) in
    let answered = c.in_ok-response.ensures.exchange.answered clean next.0 next.1 in
    let written = c.in_ok-response.ensures.exchange.written in
    let reply = c.in_ok-response.response in
    let one = one_more c.in-Some.now reply written.0 in
    let step = step_of c.in-Some.now st.left next.0 answered.0 written.0 _ _ reply next.2
    answered.2 written.1 in (
      st.messages ++ one ∷ [],
      st.written ++ written.0,
      answered.0,
      ends _ input answered.0 _ _ _ _ _ _ one st step,
      Appends-trans _ _ _ st.written written.0 st.appended written.2,
      inr (st.messages, one, refl, sym c.is_last.ensures ∙ c.if-is_last.true),
      one_longer st.messages one st.few c.loop-test.true,
    )

pub loop-preserved : goal.loop-preserved
loop-preserved g c =
    let store = g.K.Keeper.store in
    record {
      goes = goes_further (store c.args.keeper.now) (store c.loop.keeper) (store c.exchange.new.keeper) c.loop.invariant.goes c.exchange.ensures.exchange.goes;
      stands = λ clean input has.
          let was : (store c.loop.keeper).doubt ≡ 0 = omega (arith, clean, c.exchange.ensures.exchange.goes.clean) in
          let st = c.loop.invariant.stands was input has in
          let next = next_some g.R.Read.remaining c.next_moment.new.inbox st.left c.in_ok-now.field-0 c.in-Some.now
          c.in-Some.is (c.in_ok-now.ensures.next st.left st.has) in
          let answered = c.in_ok-response.ensures.exchange.answered clean next.0 next.1 in
          let written = c.in_ok-response.ensures.exchange.written in
          let reply = c.in_ok-response.response in
          let one = one_more c.in-Some.now reply written.0 in
          let step = step_of c.in-Some.now st.left next.0 answered.0 written.0 _ _ reply
          next.2 answered.2 written.1 in
          went_on _ input answered.0 _ _ _ _ _ _ _ _ one st step (sym c.is_last.ensures ∙ c.if-is_last.false)
          answered.1 written.2 (omega arith);
      served = λ clean.
          let was : (store c.loop.keeper).doubt ≡ 0 = omega (arith, clean, c.exchange.ensures.exchange.goes.clean) in
          let serves = c.in_ok-response.ensures.exchange.served clean in
          let written = c.in_ok-response.ensures.exchange.written in
          served_on _ _ _ _ _ _ c.in-Some.now c.in_ok-response.response written.0 (c.loop.invariant.served was)
          serves.0 written.1 written.2 (sym c.is_last.ensures ∙ c.if-is_last.false) (omega arith);
    }

pub returns-in_err-read_up_to-clause-stopped : goal.returns-in_err-read_up_to-clause-stopped
returns-in_err-read_up_to-clause-stopped g c = λ clean input has.
    let st = c.loop.invariant.stands clean input has in
    let p = err_from_is_err_and c.from_residual-in_err-read_up_to.result c.from_residual-in_err-read_up_to.ensures.1 in
    rw (p.1, p.2) (stopped_here _ input _ _ _ _ _ c.in_err-read_up_to.field-0.0 st c.loop.auto.counter-end
    (λ line. absurd (read_no_line _ c.in_err-read_up_to.ensures.fault line)))

pub returns-then-branch-clause-stopped : goal.returns-then-branch-clause-stopped
returns-then-branch-clause-stopped g c = λ clean input has.
    let st = c.loop.invariant.stands clean input has in
    stopped_here _ input _ _ _ _ _ c.of.result st c.loop.auto.counter-end
    (λ line. absurd (read_cause_no_line c.of.result c.of.ensures.code line))

pub returns-clause-finished : goal.returns-clause-finished
returns-clause-finished g c = λ clean input has.
    let st = c.loop.invariant.stands clean input has in
    let now = reads_input g.R.Read.remaining c.loop.inbox c.read_up_to.new.self st.left c.read_up_to.ensures.reads
    st.has in
    let ended : c.read_up_to.result ≡ Ok false = c.in_ok-read_up_to.was ∙ ap Ok c.if-branch.false in
    let none = none_left _ now.left (c.read_up_to.ensures.end ended) now.known in
    let empty = nothing_left st.left _ now.left now.whole (c.read_up_to.ensures.short ended) none in (
      st.messages,
      st.written,
      st.left,
      stops _ input _ _ _ _ _ st,
      st.appended,
      inl empty,
      omega (arith, st.few, c.loop.auto.counter-end),
    )

pub returns-in_err-response-clause-goes : goal.returns-in_err-response-clause-goes
returns-in_err-response-clause-goes g c =
    let store = g.K.Keeper.store in
    goes_further (store c.args.keeper.now) (store c.loop.keeper) (store c.exchange.new.keeper) c.loop.invariant.goes c.exchange.ensures.exchange.goes

pub returns-then-is_last-clause-goes : goal.returns-then-is_last-clause-goes
returns-then-is_last-clause-goes g c =
    let store = g.K.Keeper.store in
    goes_further (store c.args.keeper.now) (store c.loop.keeper) (store c.exchange.new.keeper) c.loop.invariant.goes c.exchange.ensures.exchange.goes

pub returns-in_err-now-clause-served : goal.returns-in_err-now-clause-served
returns-in_err-now-clause-served g c = λ clean.
    served_here _ _ _ _ c.from_residual.result (c.loop.invariant.served clean) (omega (arith, c.loop-test.true))

pub returns-in_default-clause-served : goal.returns-in_default-clause-served
returns-in_default-clause-served g c = λ clean.
    served_here _ _ _ _ _ (c.loop.invariant.served clean) (omega (arith, c.loop-test.true))

pub returns-in_err-response-clause-served : goal.returns-in_err-response-clause-served
returns-in_err-response-clause-served g c = λ clean.
    let store = g.K.Keeper.store in
    let contents = g.W.Write.contents in
    let was : (store c.loop.keeper).doubt ≡ 0 = omega (arith, clean, c.exchange.ensures.exchange.goes.clean) in
    let has = c.loop.invariant.served was in
    let failure = c.in_err-response.ensures.exchange.failure in
    let p = err_from_is_err_and c.from_residual-in_err-response.result c.from_residual-in_err-response.ensures.1 in
    either failure.fault
    (λ unanswered.
    let kept = failure.unanswered unanswered in
    served_unanswered _ _ _ _ _ _ c.from_residual-in_err-response.result has (omega (arith, c.loop-test.true))
    (ap (λ keeper. desk_of (store keeper)) kept.0) (ap contents kept.1))
    (λ write.
    let unseen = c.exchange.ensures.exchange.failure.unseen clean (c.in_err-response.was ∙ ap Err write) in
    served_unheard _ _ _ _ _ _ c.in-Some.now unseen.0 c.from_residual-in_err-response.result has c.loop-test.true
    unseen.1.0 (p.1 ∙ ap Err (p.2 ∙ write)))

pub returns-then-is_last-clause-served : goal.returns-then-is_last-clause-served
returns-then-is_last-clause-served g c = λ clean.
    let store = g.K.Keeper.store in
    let was : (store c.loop.keeper).doubt ≡ 0 = omega (arith, clean, c.exchange.ensures.exchange.goes.clean) in
    let serves = c.in_ok-response.ensures.exchange.served clean in
    let written = c.in_ok-response.ensures.exchange.written in
    served_last _ _ _ _ _ _ c.in-Some.now c.in_ok-response.response written.0 _ (c.loop.invariant.served was)
    c.loop-test.true serves.0 written.1 written.2

pub returns-in_err-read_up_to-clause-served : goal.returns-in_err-read_up_to-clause-served
returns-in_err-read_up_to-clause-served g c = λ clean.
    served_here _ _ _ _ c.from_residual-in_err-read_up_to.result (c.loop.invariant.served clean)
    c.loop.auto.counter-end

pub returns-then-branch-clause-served : goal.returns-then-branch-clause-served
returns-then-branch-clause-served g c = λ clean.
    served_here _ _ _ _ _ (c.loop.invariant.served clean) c.loop.auto.counter-end

pub returns-clause-served : goal.returns-clause-served
returns-clause-served g c = λ clean.
    served_here _ _ _ _ _ (c.loop.invariant.served clean) c.loop.auto.counter-end
