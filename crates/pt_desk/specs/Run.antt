-- Requests, their replies, and whole runs.
use Rattle.std.specs.Prelude.{◌≡◌, ◌≢◌, ◌⊎◌, ℕ, ◌<◌, List, [], ◌∷◌, Option, Some, None, Result, Ok, Err}
use Rattle.std.specs.Prelude.{IsOk}
use Rattle.pt_desk_store.specs.Records.{Each}
use Rattle.pt_desk_laws.specs.Again.{IsToldAgain}
use Rattle.pt_desk_laws.specs.Numbers.{committed, AreCalls, AreMadeBy, Call as Made}
use Rattle.pt_desk_rules.specs.Sound.{IsSound}
use Rattle.pt_desk_rules.specs.State.{State}
use Rattle.pt_desk_rules.specs.Step.{IsOutcome, state_after}
use Rattle.pt_desk_requests.specs.declared.request.Answer.{Answer}
use Rattle.pt_desk_requests.specs.declared.request.Answer.TheVariants.{Denied}
use Rattle.pt_desk_requests.specs.declared.request.Request.{Request}
use Rattle.pt_desk_requests.specs.declared.request.Request.TheVariants.{Explain, Read, Write}
use Rattle.pt_desk_store.specs.Store.{Answers, IsSettled, Store, TellsBy}
use Rattle.pt_desk_store.specs.declared.keeper.StoreFault.{StoreFault}
use Rattle.pt_desk_store.specs.declared.keeper.StoreFault.TheVariants.{Memory, Store as Failed}
use Rattle.pt_desk.specs.declared.running.Call.{Call}

-- a request that only reads
abbrev pub IsRead : Request → Type 0
IsRead (Read asked) = Unit {0}
IsRead (Explain rider wish) = Unit {0}
IsRead (Write asked) = ⊥

-- a reply that names the rule that denies a request
abbrev pub IsDenial : Result Answer StoreFault → Type 0
IsDenial (Ok (Denied rule)) = Unit {0}
IsDenial _ = ⊥

-- the call is denied, or it is a read with an answer
abbrev pub IsOnlyTold : Call → Result Answer StoreFault → Type 0
IsOnlyTold call reply = IsDenial reply ⊎ (IsRead call.request × IsOk reply)

-- each of these calls is denied or is a read with an answer
abbrev pub AreOnlyTold : List Call → List (Result Answer StoreFault) → Type 0
AreOnlyTold [] [] = Unit {0}
AreOnlyTold (call ∷ calls) (reply ∷ replies) = IsOnlyTold call reply × AreOnlyTold calls replies
AreOnlyTold _ _ = ⊥

-- the rules give this call this answer, and it commits this state, if any
abbrev pub IsOutcomeOf : Call → State → Answer → Option State → Type 0
IsOutcomeOf call s told left = IsOutcome call.key.items call.now call.number call.request s told left

-- the rules answer the call, or the error is out of memory and nothing changes
abbrev pub AnswersCall : Call → State → State → Result Answer StoreFault → Type 0
AnswersCall call old new reply = TellsBy old new (IsOutcomeOf call) reply

-- the store has failed, and the reply to each of these calls says so
abbrev pub AreRefused : List Call → List (Result Answer StoreFault) → Type 0
AreRefused [] [] = Unit {0}
AreRefused (call ∷ calls) (reply ∷ replies) = (reply ≡ Err Failed) × AreRefused calls replies
AreRefused _ _ = ⊥

-- Each reply is the rules' answer, or it is out of memory and nothing changes. Once the store has failed, each reply
-- says so, and nothing is claimed about the state that is left.
abbrev pub Runs : State → List Call → List (Result Answer StoreFault) → State → Type 0
Runs old [] [] new = new ≡ old
Runs old (call ∷ calls) (Err Failed ∷ replies) new = AreRefused calls replies
Runs old (call ∷ calls) (Err Memory ∷ replies) new = Runs old calls replies new
Runs old (call ∷ calls) (Ok told ∷ replies) new =
    (left : Option State) × IsOutcomeOf call old told left × Runs (state_after left old) calls replies new
Runs old [] (reply ∷ replies) new = ⊥
Runs old (call ∷ calls) [] new = ⊥

-- an answered call as the laws over lists of calls see it, with its answer and the state that it commits, if any
abbrev pub made : Call → Answer → Option State → Made
made call told left = record {
  key = call.key.items;
  now = call.now;
  number = call.number;
  asked = call.request;
  told = told;
  left = left;
}

-- the answered calls with the answers in their replies; calls that failed or ran out of memory are left out
abbrev pub AreAnswered : List Call → List (Result Answer StoreFault) → List Made → Type 0
AreAnswered [] [] [] = Unit {0}
AreAnswered (call ∷ calls) (Err fault ∷ replies) answered = AreAnswered calls replies answered
AreAnswered (call ∷ calls) (Ok told ∷ replies) (one ∷ answered) =
    (one ≡ made call told one.left) × AreAnswered calls replies answered
AreAnswered _ _ _ = ⊥

-- some reply says that the store has failed
abbrev pub TellOfFailure : List (Result Answer StoreFault) → Type 0
TellOfFailure [] = ⊥
TellOfFailure (reply ∷ replies) = (reply ≡ Err Failed) ⊎ TellOfFailure replies

-- the reply is an answer, or out of memory
abbrev pub IsServed : Result Answer StoreFault → Type 0
IsServed reply = reply ≢ Err Failed

-- the answered calls of a run, and the state that they leave
pub record IsRunOf (old new : State) (calls : List Call) (replies : List (Result Answer StoreFault)) : Type 0 where
  pub answered : List Made
  pub after : State
  pub are_answered : AreAnswered calls replies answered
  pub by_rules : AreCalls old answered after
  pub left : Each IsServed replies → new ≡ after

-- The answered calls of a run are a list of calls by the rules, with the answers in their replies. If the store has not
-- failed, they leave the state that the run leaves. So each law over lists of calls holds for every run.
abbrev pub RunsAreCalls : Type 0
RunsAreCalls = (old new : State) (calls : List Call) (replies : List (Result Answer StoreFault)) →
    Runs old calls replies new → IsRunOf old new calls replies

-- If the store has not failed, a run's accepted writes alone, each made once, leave the same state as the run.
abbrev pub RunsLeaveAcceptedWrites : Type 0
RunsLeaveAcceptedWrites = (old new : State) (calls : List Call) (replies : List (Result Answer StoreFault)) →
    Runs old calls replies new → Each IsServed replies →
    (answered : List Made) × AreAnswered calls replies answered × AreMadeBy old new answered (committed answered)

-- the store is clean, serves and has not failed
pub record IsServing (s : Store) : Type 0 where
  pub clean : s.doubt ≡ 0
  pub serves : s.shut ≡ 0
  pub whole : s.failures ≡ 0

-- A settled store with a sound content answers a call and still serves. An opening after a crash finds what the call
-- left. If the call comes again there at the same moment, it gets the same answer and changes nothing.
abbrev pub IsToldAfterACrash : Store → Store → Type 0
IsToldAfterACrash before after = (call : Call) (told again : Answer) (opened : State) (left : Option State) →
    IsSound before.content → IsSettled before → IsServing after → Answers before after (IsOutcomeOf call) (Ok told) →
    after.found (Some opened) → IsOutcomeOf call opened again left →
    IsToldAgain call.key.items call.request before.content opened told again × (left ≡ None)

-- how a run continues after this number of failures
pub record GoesOn (failures : ℕ) (old : State) (calls : List Call) (replies : List (Result Answer StoreFault))
    (new : State) : Type 0 where
  pub runs : failures ≡ 0 → Runs old calls replies new
  pub failed : 0 < failures → AreRefused calls replies
