-- The decision on a trip that is asked for, from the facts alone.
use Rattle.std.specs.Prelude.{◌≡◌, ℕ, List, [], Option, Some, None}
use Rattle.pt_base_values.specs.declared.trip.Trip.{Trip}
use Rattle.pt_base_values.specs.declared.trip.Wish.{Wish}
use Rattle.pt_desk_booking.specs.Planning.{OnDuty}
use Rattle.pt_desk_booking.specs.Request.{Request}
use Rattle.pt_base_records.specs.Records.{record_at}
use Rattle.pt_desk_scheduling.specs.Plan.{Plan}
use Rattle.pt_desk_scheduling.specs.Routes.{routes_without}
use Rattle.pt_desk_scheduling.specs.Scheduling.{AreRoutes, IsScheduled}
use Rattle.pt_desk_scheduling.specs.Uses.{AreUses}
use Rattle.pt_desk_scheduling.specs.declared.scheduling.Scheduled.{Scheduled}
use Rattle.pt_desk_scheduling.specs.declared.scheduling.Scheduled.TheVariants as scheduled
use Rattle.pt_travel.specs.Chain.{Row, IsTime}
use Rattle.pt_desk_rules.specs.Fleet.{on_duty}
use Rattle.pt_desk_rules.specs.Planned.{planned_on, trips_on}
use Rattle.pt_desk_rules.specs.State.{State, place_key}
use Rattle.pt_desk_rules.specs.Travel.{TravelTable}
use Rattle.pt_desk_rules.specs.Trips.{IsConfirmation}
use Rattle.pt_desk_rules.specs.declared.booking.Asking.{Asking}
use Rattle.pt_desk_rules.specs.declared.change.Change.{Change}
use Rattle.pt_desk_rules.specs.declared.deciding.Decision.{Decision}
use Rattle.pt_desk_rules.specs.declared.deciding.Decision.TheVariants.{Denied, Accepted}
use Rattle.pt_desk_rules.specs.declared.facts.WishFacts.{WishFacts}
use Rattle.pt_desk_requests.specs.declared.request.Answer.TheVariants as answer
use Rattle.pt_desk_requests.specs.declared.request.Confirmation.{Confirmation}

-- The request that the facts make of a wish, for a trip of this number. If it changes an old trip, that trip is left
-- out of a visitor's days of use.
pub record IsRequestBy (facts : WishFacts) (number : ℕ) (left_out : Option ℕ) (today : ℕ) (wish : Wish)
    (request : Request) : Type 0 where
  pub trip : request.trip ≡ number
  pub rider : facts.rider ≡ Some request.rider
  pub file : request.file ≡ facts.file
  pub uses : AreUses left_out facts.booking.trips request.uses
  pub policy : request.policy ≡ facts.policy
  pub routes : request.routes ≡ facts.booking.routes
  pub from : record_at place_key wish.from facts.places ≡ Some request.from
  pub to : record_at place_key wish.to facts.places ≡ Some request.to
  pub day : request.today ≡ today
  pub wished : request.wish ≡ wish

-- the rider and both places of a wish
pub record IsAsking (wish : Wish) (facts : WishFacts) (asking : Asking) : Type 0 where
  pub rider : facts.rider ≡ Some asking.rider
  pub from : record_at place_key wish.from facts.places ≡ Some asking.from
  pub to : record_at place_key wish.to facts.places ≡ Some asking.to

-- before the first travel table there are no rows
abbrev pub rows_of : Option TravelTable → List Row
rows_of None = []
rows_of (Some table) = table.rows

-- the driving times by the rows
abbrev pub AreTimes : List Row → (ℕ → ℕ → Option ℕ) → Type 0
AreTimes rows minutes = (from to : ℕ) → IsTime rows from to (minutes from to)

-- the vehicles on duty on the wish's day, with their stops except those of this trip
abbrev pub routes_for : ℕ → Wish → WishFacts → List OnDuty
routes_for number wish facts =
    routes_without number wish.day facts.booking.day.trips facts.booking.day.plans (on_duty wish.day facts.vehicles)

-- the same for a state
abbrev pub routes_on : ℕ → ℕ → State → List OnDuty
routes_on number day s =
    routes_without number day (trips_on day s.trips) (planned_on day s.planned) (on_duty day s.vehicles)

-- The vehicles of every day have routes. Only then do the contracts say which rule of a denied trip fails first.
abbrev pub HasRoutes : State → Type 0
HasRoutes s = (number day : ℕ) → AreRoutes number (routes_on number day s)

-- the decision of a scheduled trip: a denial, or a confirmation and this change of the tables
abbrev pub IsToldOf : (Trip → Plan → Change) → Scheduled → Decision → Type 0
IsToldOf change (scheduled.Denied rule) decided = decided ≡ Denied rule
IsToldOf change (scheduled.Booked trip plan) decided =
    (told : Confirmation) × IsConfirmation trip told × (decided ≡ Accepted (answer.Booked told) (change trip plan))

-- the result of a request, by the driving times of these rows
abbrev pub IsScheduledBy : List Row → List OnDuty → Request → Scheduled → Type 0
IsScheduledBy rows vehicles request scheduled =
    (minutes : ℕ → ℕ → Option ℕ) × AreTimes rows minutes × IsScheduled minutes vehicles request scheduled

-- the result of a wish for a trip of this number
abbrev pub IsAnswered : ℕ → Option ℕ → ℕ → Wish → WishFacts → Scheduled → Type 0
IsAnswered number left_out today wish facts scheduled =
    (request : Request) × IsRequestBy facts number left_out today wish request
    × IsScheduledBy (rows_of facts.booking.day.travel) (routes_for number wish facts) request scheduled

-- the decision on such a wish
abbrev pub IsBooking : (Trip → Plan → Change) → ℕ → Option ℕ → ℕ → Wish → WishFacts → Decision → Type 0
IsBooking change number left_out today wish facts decided =
    (scheduled : Scheduled) × IsAnswered number left_out today wish facts scheduled × IsToldOf change scheduled decided
