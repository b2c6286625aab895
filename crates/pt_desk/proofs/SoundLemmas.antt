-- An answer in a sound state leaves a sound state.
use Rattle.std.proofs.Common.{◌≡◌, ◌⊎◌, ℕ, List, Option, None, Result, Ok, Err, arith, refl, sym, subst, inl, inr}
use Rattle.pt_base_values.specs.Moment.{Moment}
use Rattle.pt_desk_rules.specs.State.{State}
use Rattle.pt_desk_rules.specs.Step.{state_after, IsOutcome}
use Rattle.pt_desk_rules.specs.Sound.{IsSound}
use Rattle.pt_desk_requests.specs.declared.request.Answer.{Answer}
use Rattle.pt_desk_requests.specs.declared.request.Request.{Request}
use Rattle.pt_desk_laws.proofs.SoundLemmas.{request_sound}
use Rattle.pt_desk_store.specs.Store.{Store, Answers, Tells, IsFault}
use Rattle.pt_desk_store.specs.declared.keeper.StoreFault.{StoreFault}
use Rattle.pt_desk_store.specs.declared.keeper.StoreFault.TheVariants.{Memory, Store as failed}

abbrev Reply : Type 0
Reply = Result Answer StoreFault

answered : (before after : Store) (told : Answer) (left : Option State) (reply : Reply) → Tells before.content after.content told left reply
    → (◌≡◌ {A = Reply} reply (Err failed) → ⊥) → IsSound before.content → (IsSound (state_after left before.content) ⊎ IsFault reply) → IsSound after.content
answered before after told left (Ok x) tells fine sound (inl then) = subst IsSound (sym tells.1) then
answered before after told left (Ok x) tells fine sound (inr fault) = absurd fault
answered before after told left (Err Memory) tells fine sound by = subst IsSound (sym tells) sound
answered before after told left (Err failed) tells fine sound by = absurd (fine refl)

allowed_sound : (key : List ℕ) (now : Moment) (number : ℕ) (asked : Request) (s : State) (told : Answer) (left : Option State) (reply : Reply) → IsSound s
    → IsOutcome key now number asked s told left ⊎ (IsFault reply × (left ≡ None)) → IsSound (state_after left s) ⊎ IsFault reply
allowed_sound key now number asked s told left reply sound (inl is) = inl (request_sound key now number asked s told left sound is)
allowed_sound key now number asked s told left reply sound (inr fault) = inr fault.0

-- while the store has not failed
pub answered_sound : (before after : Store) (key : List ℕ) (now : Moment) (number : ℕ) (asked : Request) (reply : Reply)
    → Answers before after (IsOutcome key now number asked) reply
    → after.doubt ≡ 0 → after.failures ≡ 0 → IsSound before.content → IsSound after.content
answered_sound before after key now number asked reply (told, left, goes, by) clean none sound =
    answered before after told left reply (goes.holds clean).tells (λ is. let some = goes.told is in absurd (omega arith)) sound
    (allowed_sound key now number asked before.content told left reply sound (by clean))
