-- What an opening finds after calls with their replies, one call after another.
use Rattle.std.proofs.Common.{◌≡◌, ◌∙◌, ℕ, ◌<◌, ◌≤◌, ◌+◌, inl, inr, List, [], ◌∷◌, ◌++◌, Option, Some, None, Result, Ok, Err, ap, refl, sym, subst, length, take, get_or}
use Rattle.std.proofs.lemmas.List.{take_all, take_more}
use Rattle.pt_desk_rules.specs.State.{State}
use Rattle.pt_desk_rules.specs.Step.{state_after}
use Rattle.pt_desk_requests.specs.declared.request.Answer.{Answer}
use Rattle.pt_desk_store.specs.Store.{Answers, FindsContent, Holds, Store}
use Rattle.pt_desk_store.specs.declared.keeper.StoreFault.{StoreFault}
use Rattle.pt_desk_store.specs.declared.keeper.StoreFault.TheVariants.{Memory, Store as failed}
use Rattle.pt_desk_store.proofs.StoreLemmas.{found_still}
use Rattle.pt_desk.specs.Crash.{FindsAfter}
use Rattle.pt_desk.specs.Run.{IsOutcomeOf, TellOfFailure}
use Rattle.pt_desk.specs.declared.running.Call.{Call}

abbrev Reply : Type 0
Reply = Result Answer StoreFault

-- after an answer an opening finds the content, if it found it before
found_answered : (a b : Store) (told answer : Answer) (left : Option State) → Holds a b told left (Ok answer) → FindsContent a → FindsContent b
found_answered a b told answer None holds finds = found_still a b holds.tells.1 holds.crash finds
found_answered a b told answer (Some new) holds finds = holds.durable

-- one call
found_call : (call : Call) (reply : Reply) (a b : Store) → FindsContent a → Answers a b (IsOutcomeOf call) reply → b.doubt ≡ 0 → FindsAfter a.content (call ∷ []) (reply ∷ []) b
found_call call (Ok answer) a b finds (told, left, goes, by) clean =
    let holds = goes.holds clean in
    elim (by clean) [
      | inl is ↦ (left, subst (λ (v : Answer). IsOutcomeOf call a.content v left) (sym holds.tells.0) is, (holds.tells.1, found_answered a b told answer left holds finds))
      | inr fault ↦ absurd fault.0
    ]
found_call call (Err Memory) a b finds (told, left, goes, by) clean =
    let holds = goes.holds clean in
    (holds.tells, holds.memory refl finds)
found_call call (Err failed) a b finds (told, left, goes, by) clean = (
  told,
  left,
  elim (by clean) [ inl is ↦ inl is | inr fault ↦ inr fault.1 ],
  λ o found. elim ((goes.holds clean).crash o found) [ inl was ↦ inl (finds o was) | inr is ↦ inr is ],
)

-- one more call; a store that has failed writes nothing in it
found_more : (s : State) (calls : List Call) (replies : List Reply) (call : Call) (reply : Reply) (a b : Store) → FindsAfter s calls replies a
    → Answers a b (IsOutcomeOf call) reply → b.doubt ≡ 0 → (TellOfFailure replies → (o : Option State) → b.found o → a.found o)
    → FindsAfter s (calls ++ call ∷ []) (replies ++ reply ∷ []) b
found_more s [] [] call reply a b (is, finds) answers clean silent = subst (λ t. FindsAfter t (call ∷ []) (reply ∷ []) b) is (found_call call reply a b finds answers clean)
found_more s [] (other ∷ replies) call reply a b none answers clean silent = absurd none
found_more s (first ∷ calls) [] call reply a b none answers clean silent = absurd none
found_more s (first ∷ calls) (Err failed ∷ replies) call reply a b (told, left, by, found) answers clean silent = (told, left, by, λ o after. found o (silent (inl refl) o after))
found_more s (first ∷ calls) (Err Memory ∷ replies) call reply a b rest answers clean silent =
    found_more s calls replies call reply a b rest answers clean (λ some. silent (inr some))
found_more s (first ∷ calls) (Ok told ∷ replies) call reply a b (left, is, rest) answers clean silent =
    (left, is, found_more (state_after left s) calls replies call reply a b rest answers clean (λ some. silent (inr some)))

-- the same for the call that comes next
pub found_at : (s : State) (calls : List Call) (i : ℕ) (call : Call) (replies longer : List Reply) (reply : Reply) (a b : Store) → i < length calls → call ≡ get_or calls i call
    → longer ≡ replies ++ reply ∷ [] → FindsAfter s (take i calls) replies a → Answers a b (IsOutcomeOf call) reply → b.doubt ≡ 0
    → (TellOfFailure replies → (o : Option State) → b.found o → a.found o) → FindsAfter s (take (i + 1) calls) longer b
found_at s calls i call replies longer reply a b lt here is before answers clean silent =
    let more : take (i + 1) calls ≡ take i calls ++ call ∷ [] = take_more calls i call lt ∙ ap (λ c. take i calls ++ c ∷ []) (sym here) in
    subst (λ cs. FindsAfter s cs longer b) (sym more) (subst (λ rs. FindsAfter s (take i calls ++ call ∷ []) rs b) (sym is)
    (found_more s (take i calls) replies call reply a b before answers clean silent))

-- after the last call
pub found_all : (s : State) (calls : List Call) (i : ℕ) (replies : List Reply) (store : Store) → length calls ≤ i → FindsAfter s (take i calls) replies store → FindsAfter s calls replies store
found_all s calls i replies store all found = subst (λ cs. FindsAfter s cs replies store) (take_all i calls all) found
