-- The answer to each request, and the state that it commits.
use Rattle.std.specs.Prelude.{◌≡◌, ℕ, List, Option, Some, None}
use Rattle.pt_desk_requests.specs.Sha256.{sha256}
use Rattle.pt_base_values.specs.declared.rule.Rule.TheVariants as rule
use Rattle.pt_base_values.specs.declared.trip.Wish.{Wish}
use Rattle.pt_base_values.specs.Moment.{Moment}
use Rattle.pt_desk_spelling.specs.Ranges.{IsRequest}
use Rattle.pt_desk_spelling.specs.Replies.{answer_of}
use Rattle.pt_desk_spelling.specs.Requests.{spelling}
use Rattle.pt_desk_rules.specs.Arrival.{arrival_of}
use Rattle.pt_desk_rules.specs.State.{State, caller_with, kept_of, applied}
use Rattle.pt_desk_rules.specs.Explaining.{IsExplained}
use Rattle.pt_desk_rules.specs.Facts.{facts_of, read_facts_of, wish_facts}
use Rattle.pt_desk_rules.specs.Deciding.{IsDecision, IsTold, PutsInRangeIf}
use Rattle.pt_desk_requests.specs.declared.caller.Caller.{Caller}
use Rattle.pt_desk_rules.specs.declared.kept.Arrival.{Arrival}
use Rattle.pt_desk_rules.specs.declared.kept.Arrival.TheVariants.{New, Repeated, Stale}
use Rattle.pt_desk_rules.specs.declared.kept.Sent.{Sent}
use Rattle.pt_desk_rules.specs.declared.deciding.Decision.{Decision}
use Rattle.pt_desk_rules.specs.declared.deciding.Decision.TheVariants.{Denied, Accepted}
use Rattle.pt_desk_requests.specs.declared.request.Answer.{Answer}
use Rattle.pt_desk_requests.specs.declared.request.Answer.TheVariants as answer
use Rattle.pt_desk_requests.specs.declared.request.Read.{Read}
use Rattle.pt_desk_requests.specs.declared.request.Request.{Request}
use Rattle.pt_desk_requests.specs.declared.request.Request.TheVariants as request
use Rattle.pt_desk_requests.specs.declared.request.Write.{Write}

-- the state after a commit, or the old state if there was none
abbrev pub state_after : Option State → State → State
state_after None s = s
state_after (Some new) s = new

-- the answer to a write with this decision
abbrev pub told_of : Decision → Answer
told_of (Denied first) = answer.Denied first
told_of (Accepted told change) = told

-- the state that it commits, if any: a denial changes nothing
abbrev pub left_of : Decision → State → Option State
left_of (Denied first) s = None
left_of (Accepted told change) s = Some (applied change s)

-- a write's number and spelling
abbrev pub sent_with : ℕ → Write → Sent
sent_with number asked = record { number = number; request = spelling asked }

-- a read has this answer and commits nothing
abbrev pub IsReadOutcome : Read → Caller → Moment → State → Answer → Option State → Type 0
IsReadOutcome asked me now s told left = IsTold asked me now (read_facts_of asked s) told × (left ≡ None)

-- a question about a rider's wish has this answer and commits nothing
abbrev pub IsExplainOutcome : ℕ → Wish → Caller → Moment → State → Answer → Option State → Type 0
IsExplainOutcome rider wish me now s told left =
    IsExplained wish me now (wish_facts rider wish None s) told × (left ≡ None)

-- the answer that the rules give to a valid write, and the state that it commits
abbrev pub IsDecidedOutcome : Write → Caller → Moment → ℕ → State → Answer → Option State → Type 0
IsDecidedOutcome asked me now number s told left =
    (decided : Decision) × IsDecision asked me now (sent_with number asked) (facts_of asked s) decided
    × (PutsInRangeIf decided × IsRequest asked)
    × (told ≡ told_of decided) × (left ≡ left_of decided s)

-- how a write with this number relates to the caller's last accepted one
abbrev pub arrival_in : State → Write → Caller → ℕ → Arrival
arrival_in s asked me number = arrival_of number (spelling asked) (kept_of me.id s)

-- The rules decide on a new write. The caller's last accepted write gets its first reply again and does nothing,
-- whatever changed since. Any other used number is denied.
abbrev pub IsOutcomeAs : Arrival → Write → Caller → Moment → ℕ → State → Answer → Option State → Type 0
IsOutcomeAs New asked me now number s told left = IsDecidedOutcome asked me now number s told left
IsOutcomeAs (Repeated reply) asked me now number s told left = (told ≡ answer_of reply) × (left ≡ None)
IsOutcomeAs Stale asked me now number s told left = (told ≡ answer.Denied rule.Number) × (left ≡ None)

abbrev pub IsWriteOutcome : Write → Caller → Moment → ℕ → State → Answer → Option State → Type 0
IsWriteOutcome asked me now number s told left =
    IsOutcomeAs (arrival_in s asked me number) asked me now number s told left

-- the outcome of a request by the caller who has the key, if there is one
abbrev pub IsOutcomeBy : Option Caller → Moment → ℕ → Request → State → Answer → Option State → Type 0
IsOutcomeBy None now number asked s told left = (told ≡ answer.Denied rule.Key) × (left ≡ None)
IsOutcomeBy (Some me) now number (request.Read read) s told left = IsReadOutcome read me now s told left
IsOutcomeBy (Some me) now number (request.Write write) s told left = IsWriteOutcome write me now number s told left
IsOutcomeBy (Some me) now number (request.Explain rider wish) s told left =
    IsExplainOutcome rider wish me now s told left

-- the caller who has the key
abbrev pub sender : List ℕ → State → Option Caller
sender key s = caller_with (sha256 key) s

-- the answer to a request with this key and number at this moment, and the state that it commits, if any
abbrev pub IsOutcome : List ℕ → Moment → ℕ → Request → State → Answer → Option State → Type 0
IsOutcome key now number asked s told left = IsOutcomeBy (sender key s) now number asked s told left
