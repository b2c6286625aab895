-- A ruling on a write by the facts that were read.
use Rattle.std.proofs.Common.{◌≡◌, None, Result, Ok, Err, subst}
use Rattle.std.specs.Result.{IsErrAnd}
use Rattle.pt_base_values.specs.Moment.{Moment}
use Rattle.pt_base_values.specs.declared.rule.Rule.TheVariants as rule
use Rattle.pt_desk_rules.specs.Deciding.{IsRuling}
use Rattle.pt_desk_rules.specs.Facts.{facts_of, FactsOf}
use Rattle.pt_desk_rules.specs.State.{State}
use Rattle.pt_desk_rules.specs.declared.deciding.Decision.{Decision}
use Rattle.pt_desk_rules.specs.declared.deciding.Decision.TheVariants.{Denied}
use Rattle.pt_desk_requests.specs.declared.caller.Caller.{Caller}
use Rattle.pt_desk_requests.specs.declared.request.Write.{Write}
use Rattle.pt_desk_store.specs.Store.{Store, Goes, Reads, ReadsSome}
use Rattle.pt_desk_store.specs.Wished.{IsEnoughFor}
use Rattle.pt_desk_store.specs.declared.keeper.StoreFault.{StoreFault}
use Rattle.pt_desk_store.specs.declared.keeper.StoreFault.TheVariants.{Memory}
use Rattle.pt_desk_store.proofs.SomeLemmas.{some_fault_as, some_made, some_memory, some_unread}

-- calls that only read, and return the ruling on this write in the content
abbrev pub ReadsRuling : Write → Caller → Moment → Store → Store → Result Decision StoreFault → Type 0
ReadsRuling asked me now a b r = ReadsSome a b (λ (s : State). IsRuling asked me now (facts_of asked s)) r

pub ruled : (asked : Write) (me : Caller) (now : Moment) (a b : Store) (facts : FactsOf asked) (made : Decision)
    → Reads a b (facts_of asked) (Ok facts) → IsRuling asked me now facts made → ReadsRuling asked me now a b (Ok made)
ruled asked me now a b facts made read by =
    some_made a b (facts_of asked a.content) facts made (λ (s : State). IsRuling asked me now (facts_of asked s)) read
    (λ clean. subst (λ f. IsRuling asked me now f made) (read.holds clean).tells.0 by)

-- by facts that are enough
pub ruled_enough : (asked : Write) (me : Caller) (now : Moment) (a b : Store) (facts : FactsOf asked) (made : Decision)
    → ReadsSome a b (IsEnoughFor asked me now) (Ok facts) → IsRuling asked me now facts made
    → ReadsRuling asked me now a b (Ok made)
ruled_enough asked me now a b facts made read by =
    some_made a b read.goes.0 facts made (λ (s : State). IsRuling asked me now (facts_of asked s)) read.goes.1
    (λ clean. read.is clean made by)

-- without a read, where the facts are empty
pub ruled_unread : (asked : Write) (me : Caller) (now : Moment) (a : Store) (made : Decision)
    → IsRuling asked me now (facts_of asked a.content) made → ReadsRuling asked me now a a (Ok made)
ruled_unread asked me now a made by =
    some_unread a made (λ (s : State). IsRuling asked me now (facts_of asked s)) by

-- a fault while the facts are read, as `?` returns it
pub ruled_fault : {F : Type 0} {a b : Store} {Is : State → Decision → Type 0} {v : F} {e : StoreFault}
    {r : Result Decision StoreFault} → IsErrAnd r (λ error. error ≡ e) → Goes {X = F} a b v None (Err e)
    → ReadsSome a b Is r
ruled_fault {F} {a} {b} {Is} {v} {e} {r} is fault = some_fault_as a b v (Denied rule.Caller) Is e r is fault

-- out of memory after the facts were read, as `?` returns it
pub ruled_memory : {F : Type 0} {a b : Store} {Is : State → Decision → Type 0} {x v : F}
    {r : Result Decision StoreFault} → IsErrAnd r (λ error. error ≡ Memory) → Goes {X = F} a b v None (Ok x)
    → ReadsSome a b Is r
ruled_memory {F} {a} {b} {Is} {x} {v} {r} is read = some_memory a b x v (Denied rule.Caller) Is r is read
