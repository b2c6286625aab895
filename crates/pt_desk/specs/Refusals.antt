-- The facts behind a denial `no vehicle`, and what an audit of them shows.
use Rattle.std.specs.Prelude.{◌≡◌, ℕ, List, Option, Some, None, Result, Ok, Err, IfOk}
use Rattle.pt_base_values.specs.declared.rule.Rule.{Rule}
use Rattle.pt_base_values.specs.declared.rule.Rule.TheVariants as rule
use Rattle.pt_base_values.specs.declared.trip.Wish.{Wish}
use Rattle.pt_base_values.specs.Moment.{Moment}
use Rattle.pt_desk_laws.specs.Planning.{SomeVehicleCan}
use Rattle.pt_desk_rules.specs.Booking.{AreTimes}
use Rattle.pt_desk_reads.specs.Inquiry.{IsInquiry}
use Rattle.pt_desk_rules.specs.Facts.{wish_facts}
use Rattle.pt_desk_reads.specs.Refusal.{Refusal}
use Rattle.pt_desk_rules.specs.Sound.{IsSound}
use Rattle.pt_desk_rules.specs.State.{State}
use Rattle.pt_desk_rules.specs.Step.{sender, IsOutcome}
use Rattle.pt_desk_reads.specs.declared.explaining.Inquiry.{Inquiry}
use Rattle.pt_desk_reads.specs.declared.explaining.Inquiry.TheVariants as inquiry
use Rattle.pt_desk_requests.specs.declared.caller.Caller.{Caller}
use Rattle.pt_desk_requests.specs.declared.request.Answer.{Answer}
use Rattle.pt_desk_requests.specs.declared.request.Answer.TheVariants as answer
use Rattle.pt_desk_requests.specs.declared.request.Request.{Request}
use Rattle.pt_desk_requests.specs.declared.request.Request.TheVariants as request
use Rattle.pt_desk_store.specs.Store.{Answers, ChangesNothing, Fails, Store}
use Rattle.pt_desk_store.specs.declared.keeper.StoreFault.{StoreFault}

-- the result for a caller who has the key, if there is one; the question commits nothing
abbrev pub IsInquiryBy : Option Caller → Moment → ℕ → Wish → State → Inquiry → Option State → Type 0
IsInquiryBy None now rider wish s found left = (found ≡ inquiry.Denied rule.Key) × (left ≡ None)
IsInquiryBy (Some me) now rider wish s found left =
    IsInquiry wish me now (wish_facts rider wish None s) found × (left ≡ None)

-- the result of asking with this key, at this moment, for the facts of a refusal of a rider's wish
abbrev pub IsFacts : List ℕ → Moment → ℕ → Wish → State → Inquiry → Option State → Type 0
IsFacts key now rider wish s found left = IsInquiryBy (sender key s) now rider wish s found left

-- the result of asking a store with this key for the facts of a refusal of a rider's wish; the store before and after
pub record IsInquired (key : List ℕ) (now : Moment) (rider : ℕ) (wish : Wish) (old new : Store)
    (inquired : Result Inquiry StoreFault) : Type 0 where
  pub goes : Answers old new (IsFacts key now rider wish) inquired
  pub fails : Fails old.failures new.failures inquired
  -- the result is by the content, if the store is clean
  pub found : new.doubt ≡ 0 → IfOk inquired (λ found. IsFacts key now rider wish old.content found None)
  pub unchanged : ChangesNothing old new inquired

-- the facts, or the reply that stands in their place: the rule that denies the question, or the store's fault
abbrev pub IsGiven : Result Inquiry StoreFault → Result Refusal (Result Answer StoreFault) → Type 0
IsGiven (Ok (inquiry.Facts found)) given = given ≡ Ok found
IsGiven (Ok (inquiry.Denied first)) given = given ≡ Err (Ok (answer.Denied first))
IsGiven (Err fault) given = given ≡ Err (Err fault)

-- the request asks why a wish cannot be booked
abbrev pub IsQuestion : Request → Type 0
IsQuestion (request.Explain rider wish) = Unit {0}
IsQuestion (request.Read asked) = ⊥
IsQuestion (request.Write asked) = ⊥

-- the facts that a question gives, or the reply to it
abbrev pub GivesFacts : List ℕ → Moment → Request → Store → Store → Result Refusal (Result Answer StoreFault) → Type 0
GivesFacts key now (request.Explain rider wish) old new given =
    (inquired : Result Inquiry StoreFault) × IsInquired key now rider wish old new inquired × IsGiven inquired given
GivesFacts key now (request.Read asked) old new given = ⊥
GivesFacts key now (request.Write asked) old new given = ⊥

-- Suppose that no vehicle of the facts has a place for the trip. Then anyone who asks with that key in that sound state
-- whether the wish could be booked gets the answer `no vehicle`, and no other.
abbrev pub RefusalsAreTold : Type 0
RefusalsAreTold = (key : List ℕ) (now : Moment) (number rider : ℕ) (wish : Wish) (s : State) (found : Refusal)
    (left after : Option State) (minutes : ℕ → ℕ → Option ℕ) (told : Answer) → IsSound s →
    IsFacts key now rider wish s (inquiry.Facts found) left → AreTimes found.rows minutes →
    ¬ SomeVehicleCan minutes found.vehicles found.asked →
    IsOutcome key now number (request.Explain rider wish) s told after → told ≡ answer.Denied rule.NoVehicle
