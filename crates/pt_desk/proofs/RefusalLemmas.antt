-- What an audit of a refusal shows.
use Rattle.std.proofs.Common.{◌≡◌, inl, inr, ℕ, List, Option, Some, None, Result, Ok, Err, IfOk, refl, sym, subst}
use Rattle.pt_base_values.specs.declared.rule.Rule.TheVariants as rule
use Rattle.pt_base_values.specs.declared.trip.Wish.{Wish}
use Rattle.pt_base_values.specs.Moment.{Moment}
use Rattle.pt_desk_laws.specs.Planning.{SomeVehicleCan}
use Rattle.pt_desk.specs.Refusals.{GivesFacts, IsFacts, IsGiven, IsInquired, IsInquiryBy, RefusalsAreTold}
use Rattle.pt_desk_store.specs.Store.{Answers, Store}
use Rattle.pt_desk_store.specs.declared.keeper.StoreFault.{StoreFault}
use Rattle.pt_desk_laws.proofs.AgainLemmas.{denials_are_the_same_again}
use Rattle.pt_desk_reads.proofs.ExplainLemmas.{refusals_are_shown}
use Rattle.pt_desk_rules.specs.Booking.{AreTimes}
use Rattle.pt_desk_rules.specs.Facts.{wish_facts}
use Rattle.pt_desk_reads.specs.Refusal.{Refusal}
use Rattle.pt_desk_rules.specs.State.{State}
use Rattle.pt_desk_rules.specs.Step.{sender, IsOutcomeBy}
use Rattle.pt_desk_reads.specs.declared.explaining.Inquiry.{Inquiry}
use Rattle.pt_desk_reads.specs.declared.explaining.Inquiry.TheVariants as inquiry
use Rattle.pt_desk_requests.specs.declared.caller.Caller.{Caller}
use Rattle.pt_desk_requests.specs.declared.request.Answer.TheVariants as answer
use Rattle.pt_desk_requests.specs.declared.request.Answer.{Answer}
use Rattle.pt_desk_requests.specs.declared.request.Request.{Request}
use Rattle.pt_desk_requests.specs.declared.request.Request.TheVariants as request

-- asking commits nothing
pub inquiry_commits_nothing : (by : Option Caller) (now : Moment) (rider : ℕ) (wish : Wish) (s : State)
    (found : Inquiry) (left : Option State) → IsInquiryBy by now rider wish s found left → left ≡ None
inquiry_commits_nothing None now rider wish s found left is = is.1
inquiry_commits_nothing (Some me) now rider wish s found left is = is.1

-- the result is by the content
pub found_by : (a b : Store) (key : List ℕ) (now : Moment) (rider : ℕ) (wish : Wish) (r : Result Inquiry StoreFault)
    → Answers a b (IsFacts key now rider wish) r → b.doubt ≡ 0
    → IfOk r (λ found. IsFacts key now rider wish a.content found None)
found_by a b key now rider wish (Err e) answers clean = tt
found_by a b key now rider wish (Ok found) (told, left, goes, by) clean = elim (by clean) [
  | inl is ↦
      let same = (goes.holds clean).tells.0 in
      let nothing = inquiry_commits_nothing (sender key a.content) now rider wish a.content told left is in
      subst (λ l. IsFacts key now rider wish a.content found l) nothing
      (subst (λ f. IsFacts key now rider wish a.content f left) (sym same) is)
  | inr (fault, none) ↦ absurd fault
]

-- the wish is denied `no vehicle`
shown_by : (by : Option Caller) (now : Moment) (number rider : ℕ) (wish : Wish) (s : State) (found : Refusal)
    (left : Option State) (minutes : ℕ → ℕ → Option ℕ) → IsInquiryBy by now rider wish s (inquiry.Facts found) left
    → AreTimes found.rows minutes → ¬ SomeVehicleCan minutes found.vehicles found.asked
    → IsOutcomeBy by now number (request.Explain rider wish) s (answer.Denied rule.NoVehicle) None
shown_by None now number rider wish s found left minutes is times never = absurd (let no = is.0 in cc)
shown_by (Some me) now number rider wish s found left minutes is times never =
    (refusals_are_shown wish me now (wish_facts rider wish None s) found minutes is.0 times never, refl)

pub refusals_are_told : RefusalsAreTold
refusals_are_told key now number rider wish s found left after minutes told sound is times never outcome =
    (denials_are_the_same_again key now number (request.Explain rider wish) s rule.NoVehicle told None after sound
    (shown_by (sender key s) now number rider wish s found left minutes is times never) outcome).0

-- what the inquiry of a question gives
pub gives : (key : List ℕ) (now : Moment) (asked : Request) (rider : ℕ) (wish : Wish) (a b : Store)
    (r s : Result Inquiry StoreFault) (given : Result Refusal (Result Answer StoreFault))
    → asked ≡ request.Explain rider wish → r ≡ s → IsGiven s given → IsInquired key now rider wish a b r
    → GivesFacts key now asked a b given
gives key now asked rider wish a b r s given is same told inquired =
    subst (λ (it : Request). GivesFacts key now it a b given) (sym is)
    (r, inquired, subst (λ (x : Result Inquiry StoreFault). IsGiven x given) (sym same) told)
