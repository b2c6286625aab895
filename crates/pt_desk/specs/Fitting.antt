-- Which changes a store is given for a write.
use Rattle.std.specs.Prelude.{◌≡◌, ℕ, List, Some}
use Rattle.pt_desk_rules.specs.Sound.{IsSound}
use Rattle.pt_desk_rules.specs.State.{State}
use Rattle.pt_desk_rules.specs.Step.{arrival_in, sender}
use Rattle.pt_desk_rules.specs.declared.deciding.Decision.{Decision}
use Rattle.pt_desk_rules.specs.declared.deciding.Decision.TheVariants.{Denied, Accepted}
use Rattle.pt_desk_rules.specs.declared.kept.Arrival.TheVariants.{New}
use Rattle.pt_desk_requests.specs.declared.caller.Caller.{Caller}
use Rattle.pt_desk_requests.specs.declared.request.Write.{Write}
use Rattle.pt_desk_store.specs.Store.{IsByRules}

-- the change of the decision, if it has one, is one that the rules make in this state
abbrev pub ChangesByRules : Decision → State → Type 0
ChangesByRules (Denied first) s = Unit {0}
ChangesByRules (Accepted told change) s = IsByRules change s

-- the state is sound, and some key is this caller's
abbrev pub IsSentBy : Caller → State → Type 0
IsSentBy me s = IsSound s × ((key : List ℕ) × (sender key s ≡ Some me))

-- so it is, and this write with this number is a new one of the caller
abbrev pub IsNewBy : Caller → ℕ → Write → State → Type 0
IsNewBy me number asked s = IsSentBy me s × (arrival_in s asked me number ≡ New)
