-- What an opening after a crash finds of calls that a store went through.
use Rattle.std.specs.Prelude.{◌≡◌, ◌⊎◌, ℕ, ◌<◌, ◌≤◌, List, [], ◌∷◌, Option, Some, None, Result, Ok, Err}
use Rattle.pt_desk_laws.specs.Numbers.{AreCalls, Call as Made}
use Rattle.pt_desk_rules.specs.State.{State}
use Rattle.pt_desk_rules.specs.Step.{state_after}
use Rattle.pt_desk_requests.specs.declared.request.Answer.{Answer}
use Rattle.pt_desk_store.specs.Store.{FindsContent, IsLeft, Store}
use Rattle.pt_desk_store.specs.declared.keeper.StoreFault.{StoreFault}
use Rattle.pt_desk_store.specs.declared.keeper.StoreFault.TheVariants.{Memory, Store as failed}
use Rattle.pt_desk.specs.Run.{IsOutcomeOf}
use Rattle.pt_desk.specs.declared.running.Call.{Call}

-- calls by the rules, one after another, lead from the one state to the other
abbrev pub Reaches : State → State → Type 0
Reaches old new = (calls : List Made) × AreCalls old calls new

-- an opening finds a state that calls by the rules lead to
abbrev pub FindsReached : State → Option State → Type 0
FindsReached old o = (new : State) × (o ≡ Some new) × Reaches old new

-- What calls by the rules leave of a store, at a crash too.
pub record Lasts (old new : Store) : Type 0 where
  pub clean : old.doubt ≤ new.doubt
  pub grows : old.failures ≤ new.failures
  -- an opening after a crash finds what it could have found before, or a state that such calls lead to
  pub crash : new.doubt ≡ 0 → (o : Option State) → new.found o → old.found o ⊎ FindsReached old.content o
  -- such calls lead to the content, while the store has not failed
  pub content : new.doubt ≡ 0 → new.failures ≡ 0 → Reaches old.content new.content
  -- a store that had failed has written nothing more
  pub silent : 0 < old.failures → (o : Option State) → new.found o → old.found o

-- the store failed in this call: an opening finds the state before it, or the one that the call commits, if any
abbrev pub FindsEither : State → Call → Store → Type 0
FindsEither s call store =
    (told : Answer) × (left : Option State) × (IsOutcomeOf call s told left ⊎ (left ≡ None))
    × ((o : Option State) → store.found o → (o ≡ Some s) ⊎ IsLeft left o)

-- What calls with these replies leave of a store, if an opening found this state before them. The answered calls make
-- the content, and an opening finds it. If the store fails in a call, an opening finds the state before or after it.
abbrev pub FindsAfter : State → List Call → List (Result Answer StoreFault) → Store → Type 0
FindsAfter s [] [] store = (store.content ≡ s) × FindsContent store
FindsAfter s (call ∷ calls) (Err failed ∷ replies) store = FindsEither s call store
FindsAfter s (call ∷ calls) (Err Memory ∷ replies) store = FindsAfter s calls replies store
FindsAfter s (call ∷ calls) (Ok told ∷ replies) store =
    (left : Option State) × IsOutcomeOf call s told left × FindsAfter (state_after left s) calls replies store
FindsAfter s [] (reply ∷ replies) store = ⊥
FindsAfter s (call ∷ calls) [] store = ⊥
