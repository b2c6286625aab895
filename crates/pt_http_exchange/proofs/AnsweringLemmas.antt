-- One request is answered or not, from what its parts ensure.
use Rattle.std.proofs.Common.{◌≡◌, ◌⊎◌, ◌∙◌, ℕ, false, List, Option, Some, None, option_map, Result, Ok, Err, ap, arith, inl, inr, sym, subst}
use Rattle.std.proofs.lemmas.Result.{IfErr-weaker, on_ok_weaker}
use Rattle.std.specs.Result.{IsErrAnd}
use Rattle.pt_base_values.specs.declared.fault.Cause.TheVariants as cause
use Rattle.pt_base_values.specs.Fault.{fault}
use Rattle.pt_base_values.proofs.FaultLemmas.{other_fault}
use Rattle.pt_base_values.specs.declared.fault.Fault.{Fault}
use Rattle.pt_base_values.specs.Moment.{Moment}
use Rattle.pt_desk.proofs.CrashLemmas.{lasts_further, lasts_still}
use Rattle.pt_desk_store.specs.Store.{Answers, IsFault, IsLeft, Store}
use Rattle.pt_http_exchange.specs.Answering.{AnswersOne, CanBeAskedAgain, ExchangesOne, GoesOn, TellsFailure}
use Rattle.pt_desk.specs.State.{State}
use Rattle.pt_desk.specs.Step.{IsOutcome}
use Rattle.pt_http_request.specs.declared.message.Message.{Message}
use Rattle.pt_desk_requests.specs.declared.request.Answer.{Answer}
use Rattle.pt_desk_store.specs.declared.keeper.StoreFault.{StoreFault}
use Rattle.pt_http_exchange.specs.Exchange.{IsCommittedBy, IsCommittedFrom, IsExchangedOver, IsUnanswered, IsWritten, KeepsFound, ServesOver, desk_of}
use Rattle.pt_http_exchange.specs.Input.{HasInput}
use Rattle.pt_http_exchange.specs.Received.{BeginsWith, CommitsReceived, Responds, is_end}
use Rattle.pt_http_exchange.specs.declared.received.Received.{Received}
use Rattle.pt_http_exchange.specs.declared.received.Received.TheVariants as received
use Rattle.pt_http_inbox.specs.Inbox.{reads_of}
use Rattle.pt_http_inbox.specs.declared.inbox.Inbox.{Inbox}
use Rattle.pt_http_reply.specs.Response.{IsReplyText}
use Rattle.pt_http_reply.specs.declared.response.Response.{Response}
use Rattle.pt_http_exchange.proofs.ExchangeLemmas.{exchanged, same_end, served}
use Rattle.pt_http_exchange.proofs.ToldLemmas.{sent_responds}
use Rattle.pt_http_reply.specs.Reply.{IsSent}

-- a fault as `?` returns it
pub handed : {T : Type 0} (P : Result T Fault → Type 0) (error : Fault) (result : Result T Fault)
    → IsErrAnd result (λ told. told ≡ error) → P (Err error) → P result
handed P error (Ok value) is holds = absurd is
handed {T} P error (Err told) is holds = subst (λ (it : Fault). P (Err it)) (sym is) holds

-- an opening after a crash finds what it could have found before, or what begins such an input commits
abbrev pub CrashesFrom : (List ℕ → Type 0) → Store → Store → Moment → Type 0
CrashesFrom Gives old new now = new.doubt ≡ 0 → (input : List ℕ) → Gives input → (o : Option State) → new.found o
    → old.found o ⊎ IsCommittedFrom now input old.content o

committed_from : (now : Moment) (input : List ℕ) (came : Received) (s : State) (o : Option State) (Before : Type 0)
    (rest : List ℕ) → BeginsWith input came rest → Before ⊎ CommitsReceived now came s o
    → Before ⊎ IsCommittedFrom now input s o
committed_from now input came s o Before rest begins (inl before) = inl before
committed_from now input (received.Message message) s o Before rest begins (inr is) = inr (message, rest, begins, is)
committed_from now input (received.Refused why) s o Before rest begins (inr none) = absurd none

committed_by : (now : Moment) (message : Message) (keys : List ℕ) (s : State) (told : Answer) (left o : Option State)
    (reply : Result Answer StoreFault) (Before : Type 0)
    → option_map (λ given. given.items) message.key ≡ Some keys
    → IsOutcome keys now message.number message.request s told left ⊎ (IsFault reply × (left ≡ None))
    → Before ⊎ IsLeft left o → Before ⊎ IsCommittedBy now message s o
committed_by now message keys s told left o reply Before has by (inl before) = inl before
committed_by now message keys s told left o reply Before has (inl outcome) (inr is) = inr record {
  key = keys;
  has_key = has;
  told = told;
  left = left;
  outcome = outcome;
  is_left = is;
}
committed_by now message keys s told None o reply Before has (inr fault) (inr none) = absurd none
committed_by now message keys s told (Some new) o reply Before has (inr fault) (inr is) = absurd (let none = fault.1 in cc)

-- what a message commits, whose key is this
pub commits_message : (old new : Store) (now : Moment) (message : Message) (keys : List ℕ)
    (reply : Result Answer StoreFault) → option_map (λ given. given.items) message.key ≡ Some keys
    → Answers old new (IsOutcome keys now message.number message.request) reply → new.doubt ≡ 0
    → (o : Option State) → new.found o → old.found o ⊎ IsCommittedBy now message old.content o
commits_message old new now message keys reply has (told, left, goes, by) clean o found =
    committed_by now message keys old.content told left o reply (old.found o) has (by clean)
    ((goes.holds clean).crash o found)

-- a store that got no request
pub goes_nowhere : (store : Store) → GoesOn store store
goes_nowhere store = record { clean = omega arith; serves = omega arith; settled = λ was. was; lasts = lasts_still store }

-- one call after another
pub goes_further : (old mid new : Store) → GoesOn old mid → GoesOn mid new → GoesOn old new
goes_further old mid new first next = record {
  clean = omega (arith, first.clean, next.clean);
  serves = omega (arith, first.serves, next.serves);
  settled = λ was. next.settled (first.settled was);
  lasts = lasts_further old mid new first.lasts next.lasts;
}

-- out of memory and a failed read are not a failed write
pub no_write : (error : Fault) → IsUnanswered error → error ≡ fault cause.WriteFailed → ⊥
no_write error (inl memory) write = other_fault error cause.Memory cause.WriteFailed (omega arith) memory write
no_write error (inr read) write = other_fault error cause.ReadFailed cause.WriteFailed (omega arith) read write

told_error : {T : Type 0} (error other : Fault) → ◌≡◌ {A = Result T Fault} (Err error) (Err other) → error ≡ other
told_error error other is = cc

no_error : {T : Type 0} (value : T) (error : Fault) → ◌≡◌ {A = Result T Fault} (Ok value) (Err error) → ⊥
no_error value error is = absurd (cc)

-- the error of a call that was not answered
pub tells_unanswered : {T : Type 0} (old new : Store) (now : Moment) (Same : Type 0) (error : Fault)
    → IsUnanswered error → Same → TellsFailure {T = T} old new now Same (Err error)
tells_unanswered old new now Same error unanswered same = record {
  unseen = λ clean is. absurd (no_write error unanswered (told_error error (fault cause.WriteFailed) is));
  unanswered = λ again. same;
  fault = inl unanswered;
}

-- the error of a call whose reply was not wholly written
pub tells_unwritten : {T : Type 0} (old new : Store) (now : Moment) (Same : Type 0) (error : Fault)
    → error ≡ fault cause.WriteFailed → (new.doubt ≡ 0 → (reply : Response) × ServesOver old new now reply)
    → TellsFailure {T = T} old new now Same (Err error)
tells_unwritten old new now Same error write served = record {
  unseen = λ clean is. served clean;
  unanswered = λ again. absurd (no_write error again write);
  fault = inr write;
}

-- a call that succeeded has no error
pub tells_nothing : {T : Type 0} (old new : Store) (now : Moment) (Same : Type 0) (value : T)
    → TellsFailure old new now Same (Ok value)
tells_nothing old new now Same value = record {
  unseen = λ clean is. absurd (no_error value (fault cause.WriteFailed) is);
  unanswered = tt;
  fault = tt;
}

-- the same for a weaker claim
pub tells_more : {T : Type 0} (old new : Store) (now : Moment) (Same More : Type 0) (result : Result T Fault)
    → (Same → More) → TellsFailure old new now Same result → TellsFailure old new now More result
tells_more old new now Same More result more tells = record {
  unseen = tells.unseen;
  unanswered = IfErr-weaker result (λ error. IsUnanswered error → Same) (λ error. IsUnanswered error → More)
      (λ error kept. λ unanswered. more (kept unanswered)) tells.unanswered;
  fault = tells.fault;
}

-- nothing was answered and nothing changed
pub answers_none : {T : Type 0} (Gives : List ℕ → Type 0) (Answers : List ℕ → Response → Type 0) (store : Store)
    (now : Moment) (out : Option (List ℕ)) (Same : Type 0) (error : Fault) → IsUnanswered error → Same
    → AnswersOne {T = T} Gives Answers store store now out out Same (Err error)
answers_none Gives Answers store now out Same error unanswered same = record {
  answered = λ clean input gives. tt;
  unheard = λ clean input gives is. absurd (no_write error unanswered (told_error error (fault cause.WriteFailed) is));
  served = λ clean. tt;
  crash = λ clean input gives o found. inl found;
  failure = tells_unanswered store store now Same error unanswered same;
  goes = goes_nowhere store;
}

-- the same for bytes from another source
pub answers_otherwise : {T : Type 0} (Gives Has : List ℕ → Type 0) (Answers Tells : List ℕ → Response → Type 0)
    (old new : Store) (now : Moment) (out_old out_new : Option (List ℕ)) (Same More : Type 0)
    (result : Result T Fault) → ((input : List ℕ) → Has input → Gives input)
    → ((input : List ℕ) (reply : Response) → Answers input reply → Tells input reply) → (Same → More)
    → AnswersOne Gives Answers old new now out_old out_new Same result
    → AnswersOne Has Tells old new now out_old out_new More result
answers_otherwise Gives Has Answers Tells old new now out_old out_new Same More result gives tells more one = record {
  answered = λ clean input has. on_ok_weaker result (λ found. (found.0, tells input found.0 found.1, found.2))
      (one.answered clean input (gives input has));
  unheard = λ clean input has is.
      let found = one.unheard clean input (gives input has) is in
      (found.0, tells input found.0 found.1);
  served = one.served;
  crash = λ clean input has. one.crash clean input (gives input has);
  failure = tells_more old new now Same More result more one.failure;
  goes = one.goes;
}

-- what was received is exchanged for what was sent, and the rest is left
pub exchanged_over : {R : Type 0} (remaining : R → Option (List ℕ)) (inbox_old inbox_new : Inbox R) (old new : Store)
    (now : Moment) (came : Received) (reply sent : Response)
    → ((input : List ℕ) → HasInput remaining inbox_old input
    → (rest : List ℕ) × HasInput remaining inbox_new rest × BeginsWith input came rest)
    → (is_end came ≡ false → reads_of inbox_new ≡ 0)
    → (new.doubt ≡ 0 → Responds now came (desk_of old) (desk_of new) reply)
    → (new.doubt ≡ 0 → (it : Response) → IsSent reply it → KeepsFound it old new) → IsSent reply sent → new.doubt ≡ 0
    → (input : List ℕ) → HasInput remaining inbox_old input
    → IsExchangedOver remaining old new now input inbox_new sent
exchanged_over remaining inbox_old inbox_new old new now came reply sent received fresh responds keeps is clean input has =
    let begins = received input has in
    let answers = sent_responds now came (desk_of old) (desk_of new) reply sent (responds clean) is in (
      begins.0,
      begins.1,
      exchanged now input came (desk_of old) (desk_of new) sent begins.0 begins.2 answers,
      (λ more. fresh (same_end now came (desk_of old) (desk_of new) sent answers ∙ more)),
      keeps clean sent is,
    )

-- whatever came in
pub served_over : (old new : Store) (now : Moment) (came : Received) (reply sent : Response)
    → (new.doubt ≡ 0 → Responds now came (desk_of old) (desk_of new) reply)
    → (new.doubt ≡ 0 → (it : Response) → IsSent reply it → KeepsFound it old new) → IsSent reply sent → new.doubt ≡ 0
    → ServesOver old new now sent
served_over old new now came reply sent responds keeps is clean = (
  served now came (desk_of old) (desk_of new) sent
      (sent_responds now came (desk_of old) (desk_of new) reply sent (responds clean) is),
  keeps clean sent is,
)

-- an exchange that was not answered
pub exchanges_none : {R : Type 0} (remaining : R → Option (List ℕ)) (inbox_old inbox_new : Inbox R) (store : Store)
    (now : Moment) (out : Option (List ℕ)) (Same : Type 0) (error : Fault) → IsUnanswered error → Same
    → ExchangesOne remaining inbox_old inbox_new store store now out out Same (Err error)
exchanges_none remaining inbox_old inbox_new store now out Same error unanswered same = record {
  answered = λ clean input has. tt;
  written = tt;
  unheard = λ clean input has is. absurd (no_write error unanswered (told_error error (fault cause.WriteFailed) is));
  served = λ clean. tt;
  crash = λ clean input has o found. inl found;
  failure = tells_unanswered store store now Same error unanswered same;
  goes = goes_nowhere store;
}

-- what a request commits that was received from the input
pub crash_over : {R : Type 0} (remaining : R → Option (List ℕ)) (inbox_old inbox_new : Inbox R) (old new : Store)
    (now : Moment) (came : Received)
    → ((input : List ℕ) → HasInput remaining inbox_old input
    → (rest : List ℕ) × HasInput remaining inbox_new rest × BeginsWith input came rest)
    → (new.doubt ≡ 0 → (o : Option State) → new.found o → old.found o ⊎ CommitsReceived now came old.content o)
    → CrashesFrom (HasInput remaining inbox_old) old new now
crash_over remaining inbox_old inbox_new old new now came received crash clean input has o found =
    committed_from now input came old.content o (old.found o) (received input has).0 (received input has).2
    (crash clean o found)

-- one whose reply was not wholly written
pub exchanges_unwritten : {R : Type 0} (remaining : R → Option (List ℕ)) (inbox_old inbox_new : Inbox R)
    (old new : Store) (now : Moment) (out_old out_new : Option (List ℕ)) (Same : Type 0) (error : Fault)
    (reply : Response) → error ≡ fault cause.WriteFailed
    → (new.doubt ≡ 0 → (input : List ℕ) → HasInput remaining inbox_old input
    → IsExchangedOver remaining old new now input inbox_new reply)
    → ((text : List ℕ) × IsReplyText reply text) → (new.doubt ≡ 0 → ServesOver old new now reply)
    → CrashesFrom (HasInput remaining inbox_old) old new now → GoesOn old new
    → ExchangesOne remaining inbox_old inbox_new old new now out_old out_new Same (Err error)
exchanges_unwritten remaining inbox_old inbox_new old new now out_old out_new Same error reply write exchanged text served
    crash goes = record {
      answered = λ clean input has. tt;
      written = tt;
      unheard = λ clean input has is. (reply, exchanged clean input has, text);
      served = λ clean. tt;
      crash = crash;
      failure = tells_unwritten old new now Same error write (λ clean. (reply, served clean));
      goes = goes;
    }

-- an exchange that was answered
pub exchanges : {R : Type 0} (remaining : R → Option (List ℕ)) (inbox_old inbox_new : Inbox R) (old new : Store)
    (now : Moment) (out_old out_new : Option (List ℕ)) (Same : Type 0) (reply : Response)
    → (new.doubt ≡ 0 → (input : List ℕ) → HasInput remaining inbox_old input
    → IsExchangedOver remaining old new now input inbox_new reply)
    → IsWritten reply out_old out_new → (new.doubt ≡ 0 → ServesOver old new now reply)
    → CrashesFrom (HasInput remaining inbox_old) old new now → GoesOn old new
    → ExchangesOne remaining inbox_old inbox_new old new now out_old out_new Same (Ok reply)
exchanges remaining inbox_old inbox_new old new now out_old out_new Same reply exchanged written served crash goes = record {
  answered = exchanged;
  written = written;
  unheard = λ clean input has is. absurd (no_error reply (fault cause.WriteFailed) is);
  served = served;
  crash = crash;
  failure = tells_nothing old new now Same reply;
  goes = goes;
}

-- the same if the reply is not returned
pub answers_told : {R T : Type 0} (remaining : R → Option (List ℕ)) (inbox_old inbox_new : Inbox R)
    (old new : Store) (now : Moment) (out_old out_new : Option (List ℕ)) (Same : Type 0) (reply : Response) (value : T)
    → ExchangesOne remaining inbox_old inbox_new old new now out_old out_new Same (Ok reply)
    → AnswersOne (HasInput remaining inbox_old) (λ input. IsExchangedOver remaining old new now input inbox_new) old new
    now out_old out_new Same (Ok value)
answers_told remaining inbox_old inbox_new old new now out_old out_new Same reply value one = record {
  answered = λ clean input has. (reply, one.answered clean input has, one.written);
  unheard = λ clean input has is. absurd (no_error value (fault cause.WriteFailed) is);
  served = λ clean. (reply, one.served clean, one.written);
  crash = one.crash;
  failure = tells_nothing old new now Same value;
  goes = one.goes;
}

pub answers_failed : {R T : Type 0} (remaining : R → Option (List ℕ)) (inbox_old inbox_new : Inbox R)
    (old new : Store) (now : Moment) (out_old out_new : Option (List ℕ)) (Same : Type 0) (error : Fault)
    → ExchangesOne remaining inbox_old inbox_new old new now out_old out_new Same (Err error)
    → AnswersOne {T = T} (HasInput remaining inbox_old)
    (λ input. IsExchangedOver remaining old new now input inbox_new) old new now out_old out_new Same (Err error)
answers_failed remaining inbox_old inbox_new old new now out_old out_new Same error one = record {
  answered = λ clean input has. tt;
  unheard = λ clean input has is.
      let found = one.unheard clean input has (ap Err (told_error error (fault cause.WriteFailed) is)) in
      (found.0, found.1);
  served = λ clean. tt;
  crash = one.crash;
  failure = record {
    unseen = λ clean is. one.failure.unseen clean (ap Err (told_error error (fault cause.WriteFailed) is));
    unanswered = one.failure.unanswered;
    fault = one.failure.fault;
  };
  goes = one.goes;
}

-- a request that was answered need not be asked again
pub again_told : {R T : Type 0} (remaining : R → Option (List ℕ)) (old new : Inbox R) (value : T)
    → CanBeAskedAgain remaining old new (Ok value)
again_told remaining old new value = record { still_there = tt; still_held = tt }

pub again_unwritten : {R T : Type 0} (remaining : R → Option (List ℕ)) (old new : Inbox R) (error : Fault)
    → error ≡ fault cause.WriteFailed → CanBeAskedAgain {T = T} remaining old new (Err error)
again_unwritten remaining old new error write = record {
  still_there = λ unanswered. absurd (no_write error unanswered write);
  still_held = λ unanswered. absurd (no_write error unanswered write);
}

pub again_failed : {R T U : Type 0} (remaining : R → Option (List ℕ)) (old new : Inbox R) (error : Fault)
    → CanBeAskedAgain {T = T} remaining old new (Err error) → CanBeAskedAgain {T = U} remaining old new (Err error)
again_failed remaining old new error again = record {
  still_there = again.still_there;
  still_held = again.still_held;
}
