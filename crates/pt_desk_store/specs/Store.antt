-- A store as contracts see it, and what calls do to it.
use Rattle.std.specs.Prelude.{◌≡◌, ◌≤◌, ◌<◌, ◌⊎◌, ℕ, List, Option, Some, None, Result, Ok, Err, IfOk, OnOk}
use Rattle.pt_base_values.specs.Moment.{Moment}
use Rattle.pt_desk_rules.specs.Deciding.{IsDecision}
use Rattle.pt_desk_rules.specs.Facts.{facts_of}
use Rattle.pt_desk_rules.specs.Ranges.{PutsInRange}
use Rattle.pt_desk_rules.specs.Sound.{IsSound}
use Rattle.pt_desk_rules.specs.State.{State}
use Rattle.pt_desk_rules.specs.Step.{arrival_in, sender, sent_with, state_after}
use Rattle.pt_desk_rules.specs.declared.change.Change.{Change}
use Rattle.pt_desk_rules.specs.declared.deciding.Decision.TheVariants.{Accepted}
use Rattle.pt_desk_rules.specs.declared.kept.Arrival.TheVariants.{New}
use Rattle.pt_desk_requests.specs.declared.caller.Caller.{Caller}
use Rattle.pt_desk_requests.specs.declared.request.Answer.{Answer}
use Rattle.pt_desk_requests.specs.declared.request.Write.{Write}
use Rattle.pt_desk_spelling.specs.Ranges.{IsRequest}
use Rattle.pt_desk_store.specs.declared.keeper.StoreFault.{StoreFault}
use Rattle.pt_desk_store.specs.declared.keeper.StoreFault.TheVariants.{Memory, Store as failed}

pub record Store : Type 1 where
  -- the records that it stores
  pub content : State
  -- 0 as long as nobody else writes to it, and reads return what was written
  pub doubt : ℕ
  -- 0 as long as it serves; a fault may end that in a call that is also out of memory
  pub shut : ℕ
  -- 0, and 1 for good once it has failed in a call
  pub failures : ℕ
  -- 0, and more once it was given a change that it does not take
  pub unfit : ℕ
  -- what an opening after a crash at this moment may find; None for what is no content
  pub found : Option State → Type 0

-- an opening after a crash finds the content and nothing else
abbrev pub FindsContent : Store → Type 0
FindsContent s = (o : Option State) → s.found o → o ≡ Some s.content

-- so it is while the store serves and has not failed
abbrev pub IsSettled : Store → Type 0
IsSettled s = s.shut ≡ 0 → s.failures ≡ 0 → FindsContent s

-- what calls may leave at a crash in addition to what was there before: the state that they commit, if any
abbrev pub IsLeft : Option State → Option State → Type 0
IsLeft None o = ⊥
IsLeft (Some new) o = o ≡ Some new

-- the result of calls that answer `value` and commit `left`: Ok means that all was done, Memory that the content is
-- unchanged
abbrev pub Tells : {X : Type 0} → State → State → X → Option State → Result X StoreFault → Type 0
Tells old new value left (Ok x) = (x ≡ value) × (new ≡ state_after left old)
Tells old new value left (Err Memory) = new ≡ old
Tells old new value left (Err failed) = Unit {0}

-- once a commit has returned, an opening finds it and nothing else
abbrev pub IsDurable : {X : Type 0} → Store → Option State → Result X StoreFault → Type 0
IsDurable after (Some new) (Ok x) = (o : Option State) → after.found o → o ≡ Some after.content
IsDurable after _ _ = Unit {0}

-- what holds of the content, if the store is clean as the calls end
pub record Holds {X : Type 0} (before after : Store) (value : X) (left : Option State)
    (result : Result X StoreFault) : Type 0 where
  pub tells : Tells before.content after.content value left result
  pub crash : (o : Option State) → after.found o → before.found o ⊎ IsLeft left o
  pub durable : IsDurable after left result
  -- out of memory: an opening finds the content, if it would have found it before
  pub memory : result ≡ Err Memory → FindsContent before → FindsContent after
  -- calls that commit nothing give it no change
  pub fits : left ≡ None → after.unfit ≡ before.unfit

-- Calls that answer `value` and commit `left`, if anything: none, reads, or reads and then a commit.
pub record Goes {X : Type 0} (before after : Store) (value : X) (left : Option State)
    (result : Result X StoreFault) : Type 0 where
  pub clean : before.doubt ≤ after.doubt
  pub serves : before.shut ≤ after.shut
  pub grows : before.failures ≤ after.failures
  pub told : result ≡ Err failed → 0 < after.failures
  pub stays : before.failures < 1 → 0 < after.failures → result ≡ Err failed
  pub settled : IsSettled before → IsSettled after
  pub holds : after.doubt ≡ 0 → Holds before after value left result

-- If the store is clean, calls that answer leave the content as it was, and an opening after a crash finds nothing
-- that it would not have found before them.
pub record ChangesNothing {X E : Type 0} (before after : Store) (result : Result X E) : Type 0 where
  pub content : after.doubt ≡ 0 → OnOk result (after.content ≡ before.content)
  pub found : after.doubt ≡ 0 → (o : Option State) → after.found o → before.found o

-- memory was refused, or the store failed
abbrev pub IsFault : {X : Type 0} → Result X StoreFault → Type 0
IsFault (Ok x) = ⊥
IsFault (Err fault) = Unit {0}

-- the result is one of these outcomes in the content before, or a fault came before a decision
abbrev pub TellsBy : {X : Type 0} → State → State → (State → X → Option State → Type 0) → Result X StoreFault → Type 0
TellsBy {X} old new IsOutcome result =
    (told : X) × (left : Option State) × Tells old new told left result
    × (IsOutcome old told left ⊎ (IsFault result × (left ≡ None)))

-- Calls that answer and commit as these outcomes of the content allow, if the store is clean. A fault may come before
-- a decision: then nothing is committed.
abbrev pub Answers : {X : Type 0} → Store → Store → (State → X → Option State → Type 0) → Result X StoreFault → Type 0
Answers {X} before after IsOutcome result =
    (told : X) × (left : Option State) × Goes before after told left result
    × (after.doubt ≡ 0 → IsOutcome before.content told left ⊎ (IsFault result × (left ≡ None)))

-- calls that only read
abbrev pub Reads : {X : Type 0} → Store → Store → (State → X) → Result X StoreFault → Type 0
Reads before after told result = Goes before after (told before.content) None result

-- calls that only read, and return something of which this holds in the content
pub record ReadsSome {X : Type 0} (before after : Store) (Is : State → X → Type 0) (result : Result X StoreFault) :
    Type 0 where
  pub goes : (value : X) × Goes before after value None result
  pub is : after.doubt ≡ 0 → IfOk result (Is before.content)

-- a commit that makes this of the content
abbrev pub Commits : Store → Store → (State → State) → Result (Unit {0}) StoreFault → Type 0
Commits before after changed result = Goes before after tt (Some (changed before.content)) result

-- the state is sound, and in it the rules accept a new write with this change
pub record IsByRules (change : Change) (s : State) : Type 0 where
  pub sound : IsSound s
  pub key : List ℕ
  pub now : Moment
  pub number : ℕ
  pub asked : Write
  pub me : Caller
  pub told : Answer
  pub sends : sender key s ≡ Some me
  pub arrives : arrival_in s asked me number ≡ New
  pub decided : IsDecision asked me now (sent_with number asked) (facts_of asked s) (Accepted told change)
  pub puts : PutsInRange change
  pub ranges : IsRequest asked

-- if the store is clean and this holds of its content, it is given no change that it does not take
abbrev pub Fits : Store → Store → (State → Type 0) → Type 0
Fits before after Is = after.doubt ≡ 0 → Is before.content → after.unfit ≡ before.unfit

-- the same where the content is sound; a store that has failed before is given nothing
abbrev pub FitsSound : Store → Store → Type 0
FitsSound before after =
    after.doubt ≡ 0 → (before.failures ≡ 0 → IsSound before.content) → after.unfit ≡ before.unfit

-- once a store has failed, it says so whatever it is asked, and writes nothing
abbrev pub Refuses : {X : Type 0} → Store → Store → Result X StoreFault → Type 0
Refuses before after result =
    0 < before.failures → (result ≡ Err failed) × ((o : Option State) → after.found o → before.found o)

-- the answer is `Store` exactly if the store has failed in this call or before it
pub record Fails {X : Type 0} (before after : ℕ) (result : Result X StoreFault) : Type 0 where
  pub grows : before ≤ after
  pub told : result ≡ Err failed → 0 < after
  pub stays : 0 < after → result ≡ Err failed

-- a sound content stays sound, while the store is clean and has not failed
abbrev pub IsSoundKept : Store → Store → Type 0
IsSoundKept before after = after.doubt ≡ 0 → after.failures ≡ 0 → IsSound before.content → IsSound after.content
