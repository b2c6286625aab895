-- One call in one state has one outcome.
use Rattle.std.specs.Prelude.{◌≡◌, ◌⊎◌, ℕ, List, Option}
use Rattle.pt_desk_rules.specs.Moment.{Moment}
use Rattle.pt_desk_laws.specs.Again.{IsSameAnswer, IsToldAgain}
use Rattle.pt_desk_rules.specs.Sound.{IsSound}
use Rattle.pt_desk_rules.specs.State.{State}
use Rattle.pt_desk_rules.specs.Step.{state_after, IsOutcome}
use Rattle.pt_desk_rules.specs.Answer.{Answer}
use Rattle.pt_desk_rules.specs.Request.{Request}

-- A call has at most one outcome in a sound state: one reply, and one committed state or none. So the rules determine
-- each answer, including the place and the window of a trip.
abbrev pub OutcomesAreOne : Type 0
OutcomesAreOne = (key : List ℕ) (now : Moment) (number : ℕ) (asked : Request) (s : State) (told other : Answer)
    (left also : Option State) → IsSound s → IsOutcome key now number asked s told left →
    IsOutcome key now number asked s other also → IsSameAnswer told other × (left ≡ also)

-- A crash leaves the state before a request or the state after it. In both, the request is made again at the same
-- moment with its key and number. It gets the same answer and leaves the same state. If it gave its caller another key
-- before the crash, it must be sent with that key.
abbrev pub RequestsOutliveCrashes : Type 0
RequestsOutliveCrashes = (key : List ℕ) (now : Moment) (number : ℕ) (asked : Request) (s found : State)
    (told again : Answer) (left after : Option State) → IsSound s → IsOutcome key now number asked s told left →
    (found ≡ s) ⊎ (found ≡ state_after left s) → IsOutcome key now number asked found again after →
    IsToldAgain key asked s (state_after left s) told again × (state_after after found ≡ state_after left s)
