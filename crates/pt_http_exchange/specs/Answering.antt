-- What a call that answers one request ensures about the answer, an error, the store and the inbox.
use Rattle.std.specs.Prelude.{◌≡◌, ◌⊎◌, ℕ, ◌≤◌, List, Option, Result, Err, IfOk, IfErr, OnOk}
use Rattle.pt_base_values.specs.declared.fault.Cause.TheVariants as cause
use Rattle.pt_base_values.specs.Fault.{fault}
use Rattle.pt_base_values.specs.declared.fault.Fault.{Fault}
use Rattle.pt_base_values.specs.Moment.{Moment}
use Rattle.pt_desk.specs.Crash.{Lasts}
use Rattle.pt_desk_store.specs.Store.{IsSettled, Store}
use Rattle.pt_desk.specs.State.{State}
use Rattle.pt_http_exchange.specs.Exchange.{IsCommittedFrom, IsExchangedOver, IsUnanswered, IsWritten, ServesOver}
use Rattle.pt_http_exchange.specs.Input.{HasInput}
use Rattle.pt_http_inbox.specs.Inbox.{ReadsOn}
use Rattle.pt_http_inbox.specs.declared.inbox.Inbox.{Inbox}
use Rattle.pt_http_reply.specs.Response.{IsReplyText}
use Rattle.pt_http_reply.specs.declared.response.Response.{Response}

-- what any call leaves of a store, whatever its result
pub record GoesOn (old new : Store) : Type 0 where
  -- doubt never falls
  pub clean : old.doubt ≤ new.doubt
  -- a shut store stays shut
  pub serves : old.shut ≤ new.shut
  -- a settled store stays settled
  pub settled : IsSettled old → IsSettled new
  -- an opening after a crash finds what it could have found before, or what calls by the rules lead to
  pub lasts : Lasts old new

-- the error says whether the request was answered; `Same` says that nothing changed
pub record TellsFailure {T : Type 0} (old new : Store) (now : Moment) (Same : Type 0) (result : Result T Fault)
    : Type 0 where
  -- the request was answered, but the reply was not wholly written
  pub unseen : new.doubt ≡ 0 → result ≡ Err (fault cause.WriteFailed)
      → (reply : Response) × ServesOver old new now reply
  -- a request that was not answered changed nothing
  pub unanswered : IfErr result (λ error. IsUnanswered error → Same)
  -- there is no other error
  pub fault : IfErr result (λ error. IsUnanswered error ⊎ (error ≡ fault cause.WriteFailed))

-- One request is answered. `Gives input` says that the reader gives these bytes, `Answers input reply` that their first
-- message gets this reply. `out_old` and `out_new` are what was written before and after.
pub record AnswersOne {T : Type 0} (Gives : List ℕ → Type 0) (Answers : List ℕ → Response → Type 0)
    (old new : Store) (now : Moment) (out_old out_new : Option (List ℕ)) (Same : Type 0) (result : Result T Fault)
    : Type 0 where
  -- the first message of the reader's bytes, good or bad, is answered, and the reply's bytes are appended
  pub answered : new.doubt ≡ 0 → (input : List ℕ) → Gives input
      → OnOk result ((reply : Response) × Answers input reply × IsWritten reply out_old out_new)
  -- the request was answered, but the reply was not wholly written
  pub unheard : new.doubt ≡ 0 → (input : List ℕ) → Gives input → result ≡ Err (fault cause.WriteFailed)
      → (reply : Response) × Answers input reply
  -- this holds whatever the reader gives, also if its bytes are not known
  pub served : new.doubt ≡ 0
      → OnOk result ((reply : Response) × ServesOver old new now reply × IsWritten reply out_old out_new)
  -- an opening after a crash finds what it could have found before, or what the request commits
  pub crash : new.doubt ≡ 0 → (input : List ℕ) → Gives input → (o : Option State) → new.found o
      → old.found o ⊎ IsCommittedFrom now input old.content o
  pub failure : TellsFailure old new now Same result
  pub goes : GoesOn old new

-- One request from an inbox is answered, and the reply is returned.
pub record ExchangesOne {R : Type 0} (remaining : R → Option (List ℕ)) (inbox_old inbox_new : Inbox R)
    (old new : Store) (now : Moment) (out_old out_new : Option (List ℕ)) (Same : Type 0)
    (result : Result Response Fault) : Type 0 where
  -- the first message of the inbox's bytes, good or bad, is answered, and the inbox holds what follows it
  pub answered : new.doubt ≡ 0 → (input : List ℕ) → HasInput remaining inbox_old input
      → IfOk result (IsExchangedOver remaining old new now input inbox_new)
  -- the reply's bytes are appended
  pub written : IfOk result (λ reply. IsWritten reply out_old out_new)
  -- the request was answered, but the reply was not wholly written
  pub unheard : new.doubt ≡ 0 → (input : List ℕ) → HasInput remaining inbox_old input
      → result ≡ Err (fault cause.WriteFailed) → (reply : Response)
      × IsExchangedOver remaining old new now input inbox_new reply × ((text : List ℕ) × IsReplyText reply text)
  -- this holds whatever the reader gives, also if its bytes are not known
  pub served : new.doubt ≡ 0 → IfOk result (ServesOver old new now)
  -- an opening after a crash finds what it could have found before, or what the request commits
  pub crash : new.doubt ≡ 0 → (input : List ℕ) → HasInput remaining inbox_old input → (o : Option State) → new.found o
      → old.found o ⊎ IsCommittedFrom now input old.content o
  pub failure : TellsFailure old new now Same result
  pub goes : GoesOn old new

-- a request that was not answered can be asked again
pub record CanBeAskedAgain {R T : Type 0} (remaining : R → Option (List ℕ)) (old new : Inbox R)
    (result : Result T Fault) : Type 0 where
  -- the bytes that were still to come still are
  pub still_there : IfErr result (λ error. IsUnanswered error → (input : List ℕ) → HasInput remaining old input
      → HasInput remaining new input)
  -- the inbox holds its earlier bytes, and then those that came since
  pub still_held : IfErr result (λ error. IsUnanswered error → ReadsOn remaining old new)
