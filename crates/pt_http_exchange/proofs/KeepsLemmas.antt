-- A reply that is out of memory leaves an opening what it found.
use Rattle.std.proofs.Common.{◌≡◌, ◌∙◌, ℕ, true, List, Option, Some, None, Result, Ok, Err, ap, inl, inr, refl, subst, sym}
use Rattle.pt_base_values.specs.Moment.{Moment}
use Rattle.pt_desk_store.specs.Store.{Answers, FindsContent, Goes, Store}
use Rattle.pt_desk_store.specs.declared.keeper.StoreFault.{StoreFault}
use Rattle.pt_desk_store.specs.declared.keeper.StoreFault.TheVariants.{Memory, Store as failed}
use Rattle.pt_desk_store.proofs.StoreLemmas.{leaves_nothing}
use Rattle.pt_desk.specs.State.{State}
use Rattle.pt_desk.specs.Step.{IsOutcome, sender, state_after}
use Rattle.pt_desk_requests.specs.declared.request.Answer.{Answer}
use Rattle.pt_desk_requests.specs.declared.request.Request.{Request}
use Rattle.pt_desk_laws.proofs.OutcomeLemmas.{commits_nothing}
use Rattle.pt_http_reply.specs.Reply.{IsSent, is_of_read, is_told}
use Rattle.pt_http_reply.specs.declared.response.Response.{Response}
use Rattle.pt_http_reply.specs.declared.response.Response.TheVariants as response
use Rattle.pt_http_exchange.specs.Exchange.{KeepsFound}
use Rattle.pt_http_exchange.proofs.ToldLemmas.{of_read}

-- a store that nothing was asked of
pub keeps_still : (sent : Response) (store : Store) → KeepsFound sent store store
keeps_still (response.Answered (Err Memory)) store = λ finds. finds
keeps_still (response.Answered (Err failed)) store = tt
keeps_still (response.Answered (Ok told)) store = tt
keeps_still (response.Refused why) store = tt

-- the reply of a call is sent as it is
keeps_reply : (old new : Store) (key : List ℕ) (now : Moment) (number : ℕ) (asked : Request) (reply : Result Answer StoreFault)
    → Answers old new (IsOutcome key now number asked) reply → new.doubt ≡ 0 → KeepsFound (response.Answered reply) old new
keeps_reply old new key now number asked (Err Memory) (told, left, goes, by) clean = (goes.holds clean).memory refl
keeps_reply old new key now number asked (Err failed) (told, left, goes, by) clean = tt
keeps_reply old new key now number asked (Ok answer) (told, left, goes, by) clean = tt

-- what commits nothing leaves an opening that finds the content
finds_still : (old new : Store) (told answer : Answer) (left : Option State) → Goes old new told left (Ok answer) → left ≡ None → new.doubt ≡ 0 → FindsContent old → FindsContent new
finds_still old new told answer left goes none clean finds o found =
    let same : new.content ≡ old.content = (goes.holds clean).tells.1 ∙ ap (λ left. state_after left old.content) none in
    finds o (leaves_nothing old new told left (Ok answer) o goes none clean found) ∙ ap Some (sym same)

-- the answer to a read commits nothing, so out of memory may be sent instead
keeps_read : (old new : Store) (key : List ℕ) (now : Moment) (number : ℕ) (asked : Request) (reply : Result Answer StoreFault)
    → Answers old new (IsOutcome key now number asked) reply → new.doubt ≡ 0 → is_told (response.Answered reply) ≡ true → FindsContent old → FindsContent new
keeps_read old new key now number asked (Ok answer) (told, left, goes, by) clean reads finds = elim (by clean) [
  | inl is ↦
      let none : left ≡ None = commits_nothing (sender key old.content) now number asked old.content told left is
      (of_read told (ap is_of_read (sym (goes.holds clean).tells.0) ∙ reads)) in
      finds_still old new told answer left goes none clean finds
  | inr fault ↦ absurd fault.0
]
keeps_read old new key now number asked (Err fault) (told, left, goes, by) clean reads finds = absurd (cc)

-- whatever is sent
pub keeps_sent : (old new : Store) (key : List ℕ) (now : Moment) (number : ℕ) (asked : Request) (reply : Result Answer StoreFault) (sent : Response)
    → Answers old new (IsOutcome key now number asked) reply → new.doubt ≡ 0 → IsSent (response.Answered reply) sent → KeepsFound sent old new
keeps_sent old new key now number asked reply sent answers clean (inl same) = subst (λ (it : Response). KeepsFound it old new) (sym same) (keeps_reply old new key now number asked reply answers clean)
keeps_sent old new key now number asked reply sent answers clean (inr (reads, wanting)) =
    subst (λ (it : Response). KeepsFound it old new) (sym wanting) (keeps_read old new key now number asked reply answers clean reads)
