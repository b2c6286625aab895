-- What a caller may rely on who numbers its writes, and sends a write again if the reply was lost.
use Rattle.std.specs.Prelude.{◌≡◌, ◌≢◌, ℕ, ◌<◌, ◌==◌, List, [], ◌∷◌, map, filter, Option, Some, None, is_some}
use Rattle.std.specs.Prelude.{if◌then◌else◌}
use Rattle.std.specs.Option.{unwrap_or}
use Rattle.std.specs.List.{cons_option, last_or}
use Rattle.std.specs.List.Sorted.{IsStrictlyIncreasing}
use Rattle.pt_desk_rules.specs.Rule.{Rule}
use Rattle.pt_desk_rules.specs.Moment.{Moment}
use Rattle.pt_base_records.specs.Records.{Each}
use Rattle.pt_desk_spelling.specs.Replies.{answer_of, reply_of}
use Rattle.pt_desk_spelling.specs.Requests.{spelling}
use Rattle.pt_desk_rules.specs.Deciding.{kept_by}
use Rattle.pt_desk_rules.specs.Sound.{IsSound}
use Rattle.pt_desk_rules.specs.State.{State, kept_of}
use Rattle.pt_desk_rules.specs.Step.{sender, sent_with, state_after, IsOutcome}
use Rattle.pt_desk_rules.specs.declared.kept.Kept.{Kept}
use Rattle.pt_desk_spelling.specs.declared.replies.KeptReply.{KeptReply}
use Rattle.pt_desk_spelling.specs.declared.replies.KeptReply.TheVariants.{Done}
use Rattle.pt_desk_rules.specs.Caller.{Caller}
use Rattle.pt_desk_rules.specs.Answer.{Answer}
use Rattle.pt_desk_rules.specs.Answer.TheVariants as answer
use Rattle.pt_desk_rules.specs.Request.{Request}
use Rattle.pt_desk_rules.specs.Request.TheVariants as request
use Rattle.pt_desk_rules.specs.Write.{Write}

-- the number of the kept request; 0 if there is none
abbrev pub number_of : Option Kept → ℕ
number_of None = 0
number_of (Some kept) = kept.number

-- the number of a caller's last accepted write; 0 if none was accepted
abbrev pub last_number : ℕ → State → ℕ
last_number id s = number_of (kept_of id s)

-- An accepted write becomes its caller's last one: its number is above the earlier one's. It is stored with its number,
-- its spelling and its answer. The kept requests of other callers stay.
pub record IsKept (me : Caller) (number : ℕ) (asked : Write) (told : Answer) (s new : State) : Type 0 where
  pub above : last_number me.id s < number
  pub kept : (reply : KeptReply) × (told ≡ answer_of reply)
      × (kept_of me.id new ≡ Some (kept_by me.id (sent_with number asked) reply))
  pub others_stay : (id : ℕ) → id ≢ me.id → kept_of id new ≡ kept_of id s

-- each write that commits a state is stored like this
abbrev pub AcceptedWritesAreKept : Type 0
AcceptedWritesAreKept = (key : List ℕ) (now : Moment) (number : ℕ) (asked : Write) (me : Caller) (s new : State)
    (told : Answer) → sender key s ≡ Some me → IsOutcome key now number (request.Write asked) s told (Some new) →
    IsKept me number asked told s new

-- a caller's last accepted write, sent again at any moment, gets its first reply and commits nothing
abbrev pub RepeatsAreToldTheSame : Type 0
RepeatsAreToldTheSame = (key : List ℕ) (now : Moment) (asked : Write) (me : Caller) (kept : Kept) (s : State)
    (told : Answer) (left : Option State) → sender key s ≡ Some me → kept_of me.id s ≡ Some kept →
    kept.request ≡ spelling asked → IsOutcome key now kept.number (request.Write asked) s told left →
    (told ≡ answer_of kept.reply) × (left ≡ None)

-- a request that came, its answer, and the state that it committed, if any
pub record Call : Type 0 where
  pub key : List ℕ
  pub now : Moment
  pub number : ℕ
  pub asked : Request
  pub told : Answer
  pub left : Option State

-- the requests came one after the other, beginning in state s, and left the state `after`
abbrev pub AreCalls : State → List Call → State → Type 0
AreCalls s [] after = after ≡ s
AreCalls s (call ∷ later) after =
    IsOutcome call.key call.now call.number call.asked s call.told call.left
    × AreCalls (state_after call.left s) later after

-- The kept request of this caller's request with this number. Only a write that committed a state has one: its number,
-- its spelling and its reply.
abbrev pub kept_where : ℕ → ℕ → Request → Answer → Option State → Option Kept
kept_where id number (request.Read read) told left = None
kept_where id number (request.Explain rider wish) told left = None
kept_where id number (request.Write write) told None = None
kept_where id number (request.Write write) told (Some new) =
    Some (kept_by id (sent_with number write) (unwrap_or (reply_of told) Done))

-- the same for a call, if the caller with this number has its key
abbrev pub kept_from : ℕ → Option Caller → Call → Option Kept
kept_from id None call = None
kept_from id (Some me) call = if me.id == id then kept_where id call.number call.asked call.told call.left else None

-- a caller's accepted writes among these calls, in their order
abbrev pub accepted_writes : ℕ → State → List Call → List Kept
accepted_writes id s [] = []
accepted_writes id s (call ∷ later) =
    cons_option (kept_from id (sender call.key s) call) (accepted_writes id (state_after call.left s) later)

-- The numbers of a caller's accepted writes rise. The first is above that of the last accepted write before these
-- calls.
abbrev pub AcceptedNumbersRise : Type 0
AcceptedNumbersRise = (id : ℕ) (s after : State) (calls : List Call) → AreCalls s calls after →
    IsStrictlyIncreasing (last_number id s ∷ map (λ kept. kept.number) (accepted_writes id s calls))

-- A caller's kept request is its last accepted write among the calls. If there is none, it is the earlier kept request.
abbrev pub LastAcceptedIsKept : Type 0
LastAcceptedIsKept = (id : ℕ) (s after : State) (calls : List Call) → AreCalls s calls after →
    kept_of id after ≡ last_or (kept_of id s) (accepted_writes id s calls)

-- the calls that committed a state
abbrev pub committed : List Call → List Call
committed calls = filter (λ call. is_some call.left) calls

-- a request that changes something
abbrev pub IsWrite : Request → Type 0
IsWrite (request.Read asked) = ⊥
IsWrite (request.Explain rider wish) = ⊥
IsWrite (request.Write asked) = Unit {0}

-- The accepted writes alone, each made once and in its turn, leave the same state as all calls. Only writes commit a
-- state, and each caller's are its accepted ones. All other calls leave no trace.
pub record AreMadeBy (s after : State) (calls writes : List Call) : Type 0 where
  pub alone : AreCalls s writes after
  pub are_writes : Each (λ call. IsWrite call.asked) writes
  pub each_once : (id : ℕ) → accepted_writes id s writes ≡ accepted_writes id s calls

abbrev pub AcceptedWritesMakeTheState : Type 0
AcceptedWritesMakeTheState = (s after : State) (calls : List Call) → AreCalls s calls after →
    AreMadeBy s after calls (committed calls)

-- A write was accepted. Other calls followed, and none of them was an accepted write of the same caller.
pub record IsLastOf (key : List ℕ) (now : Moment) (number : ℕ) (asked : Write) (me : Caller) (told : Answer)
    (calls : List Call) (s after : State) : Type 0 where
  pub committed : State
  pub by : sender key s ≡ Some me
  pub accepted : IsOutcome key now number (request.Write asked) s told (Some committed)
  pub calls_since : AreCalls committed calls after
  pub none_since : accepted_writes me.id committed calls ≡ []

-- A caller who does not know whether a write was accepted may send it again with its number. Suppose that it was
-- accepted, that the caller made no accepted write since, and that the key is still the caller's. Then the write gets
-- the same answer and changes nothing, at any later moment and whatever others have changed since.
abbrev pub WritesMayBeSentAgain : Type 0
WritesMayBeSentAgain = (key with : List ℕ) (now later : Moment) (number : ℕ) (asked : Write) (me holder : Caller)
    (told again : Answer) (calls : List Call) (s after : State) (left : Option State) →
    IsLastOf key now number asked me told calls s after → sender with after ≡ Some holder → holder.id ≡ me.id →
    IsOutcome with later number (request.Write asked) after again left → (again ≡ told) × (left ≡ None)

-- A request is denied in a sound state, and comes again at the same moment with nothing between. It is denied by the
-- same rule and changes nothing.
abbrev pub DenialsAreTheSameAgain : Type 0
DenialsAreTheSameAgain = (key : List ℕ) (now : Moment) (number : ℕ) (asked : Request) (s : State) (rule : Rule)
    (told : Answer) (left after : Option State) → IsSound s →
    IsOutcome key now number asked s (answer.Denied rule) left →
    IsOutcome key now number asked (state_after left s) told after → (told ≡ answer.Denied rule) × (after ≡ None)
