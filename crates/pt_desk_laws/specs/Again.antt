-- The answer to a request that comes again with nothing between.
use Rattle.std.specs.Prelude.{◌≡◌, ◌≢◌, ◌⊎◌, ℕ, List, Option, Some, None}
use Rattle.std.specs.List.{AllZip}
use Rattle.std.specs.Option.{option_map}
use Rattle.pt_desk_rules.specs.Sha256.{sha256}
use Rattle.pt_desk_rules.specs.Rule.TheVariants as rule
use Rattle.pt_desk_rules.specs.Moment.{Moment}
use Rattle.pt_desk_rules.specs.DaySheet.{DaySheet}
use Rattle.pt_desk_rules.specs.Tour.{Tour}
use Rattle.pt_desk_rules.specs.VehicleSheet.{VehicleSheet}
use Rattle.pt_desk_rules.specs.Sound.{IsSound}
use Rattle.pt_desk_rules.specs.State.{State, caller_with}
use Rattle.pt_desk_rules.specs.Step.{sender, state_after, IsOutcome}
use Rattle.pt_desk_rules.specs.Caller.{Caller}
use Rattle.pt_desk_rules.specs.Answer.{Answer}
use Rattle.pt_desk_rules.specs.Answer.TheVariants as answer
use Rattle.pt_desk_rules.specs.Read.{Read}
use Rattle.pt_desk_rules.specs.Request.{Request}
use Rattle.pt_desk_rules.specs.Request.TheVariants as request
use Rattle.pt_desk_rules.specs.Write.TheVariants as write

-- the same tour: from the same depot and back at the same minutes, over the same stops
pub record IsSameTour (a b : Tour) : Type 0 where
  pub depot : a.depot ≡ b.depot
  pub chairs : a.chairs ≡ b.chairs
  pub leaves : a.leaves ≡ b.leaves
  pub stops : a.stops.items ≡ b.stops.items
  pub returns : a.returns ≡ b.returns

-- both have the same tour, or none
abbrev pub IsSameTourOrNone : Option Tour → Option Tour → Type 0
IsSameTourOrNone None None = Unit {0}
IsSameTourOrNone (Some a) (Some b) = IsSameTour a b
IsSameTourOrNone _ _ = ⊥

-- the same vehicle with the same tour
pub record IsSameSheet (a b : VehicleSheet) : Type 0 where
  pub vehicle : a.vehicle ≡ b.vehicle
  pub tour : IsSameTourOrNone a.tour b.tour

-- the same day, and the same sheets of the same vehicles
pub record IsSameDaySheet (a b : DaySheet) : Type 0 where
  pub day : a.day ≡ b.day
  pub vehicles : AllZip IsSameSheet a.vehicles.items b.vehicles.items
  pub trips : a.trips ≡ b.trips

-- the same answer; two lists are the same if their items are
abbrev pub IsSameAnswer : Answer → Answer → Type 0
IsSameAnswer (answer.Manifest day sheet) (answer.Manifest on other) = (day ≡ on) × IsSameSheet sheet other
IsSameAnswer (answer.DaySheet sheet) (answer.DaySheet other) = IsSameDaySheet sheet other
IsSameAnswer a b = a ≡ b

-- A read that comes again at the same moment with nothing between gets the same answer, whatever its number, and
-- commits nothing.
abbrev pub ReadsAreTheSameAgain : Type 0
ReadsAreTheSameAgain = (key : List ℕ) (now : Moment) (number other : ℕ) (asked : Read) (s : State) (told again : Answer)
    (left after : Option State) → IsOutcome key now number (request.Read asked) s told left →
    IsOutcome key now other (request.Read asked) (state_after left s) again after →
    IsSameAnswer told again × (after ≡ None)

-- the number of the caller who has the key
abbrev pub holder_of : List ℕ → State → Option ℕ
holder_of key s = option_map (λ caller. caller.id) (sender key s)

-- The request gave its own caller another key. Nobody has the old key any longer. The caller has the new one, and an
-- accepted write may be sent again with it.
pub record GivesAnotherKey (key : List ℕ) (asked : Request) (s new : State) : Type 0 where
  pub holder : Caller
  pub is_put : asked ≡ request.Write (write.PutCaller holder)
  pub own : holder_of key s ≡ Some holder.id
  pub another : holder.digest ≢ sha256 key
  pub lost : holder_of key new ≡ None
  pub given : caller_with holder.digest new ≡ Some holder

-- it gets the same answer, or nobody has its key any longer
abbrev pub IsToldAgain : List ℕ → Request → State → State → Answer → Answer → Type 0
IsToldAgain key asked s new told again =
    IsSameAnswer told again ⊎ (GivesAnotherKey key asked s new × (again ≡ answer.Denied rule.Key))

-- A request comes again in a sound state, at the same moment, with its key and number and with nothing between. It gets
-- the same reply and changes nothing, whether it was accepted, denied or a read. If it gave its caller another key, it
-- must be sent with that key.
abbrev pub RequestsAreTheSameAgain : Type 0
RequestsAreTheSameAgain = (key : List ℕ) (now : Moment) (number : ℕ) (asked : Request) (s : State)
    (told again : Answer) (left after : Option State) → IsSound s → IsOutcome key now number asked s told left →
    IsOutcome key now number asked (state_after left s) again after →
    IsToldAgain key asked s (state_after left s) told again × (after ≡ None)
