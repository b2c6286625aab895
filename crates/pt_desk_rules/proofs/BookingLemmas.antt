-- The result of a wish.
use Rattle.std.proofs.Common.{◌≡◌, ℕ, List, Option, Some, Result, Ok, Err, IfOk, subst, sym, refl, ap, ◌∙◌}
use Rattle.pt_base_records.specs.Records.{Edit}
use Rattle.pt_base_values.specs.declared.rule.Rule.{Rule}
use Rattle.pt_base_values.specs.declared.trip.Trip.{Trip}
use Rattle.pt_base_values.specs.declared.trip.Wish.{Wish}
use Rattle.pt_base_values.specs.declared.vehicle.Vehicle.{Vehicle}
use Rattle.pt_desk_booking.specs.Planning.{OnDuty}
use Rattle.pt_desk_booking.specs.Request.{Request}
use Rattle.pt_desk_scheduling.specs.Plan.{Plan}
use Rattle.pt_desk_scheduling.specs.Routes.{routes_without}
use Rattle.pt_desk_scheduling.specs.Scheduling.{IsScheduled}
use Rattle.pt_desk_scheduling.specs.declared.scheduling.Scheduled.{Scheduled}
use Rattle.pt_desk_scheduling.specs.declared.scheduling.Scheduled.TheVariants as scheduled
use Rattle.pt_travel.specs.Chain.{Row}
use Rattle.pt_desk_rules.specs.Booking.{AreTimes, IsAnswered, IsBooking, IsRequestBy, IsScheduledBy, routes_for, rows_of}
use Rattle.pt_desk_rules.specs.Fleet.{on_duty}
use Rattle.pt_desk_rules.specs.Deciding.{booked, changed, no_change, IsChangeDecided}
use Rattle.pt_desk_rules.specs.State.{puts_one}
use Rattle.pt_desk_rules.specs.Trips.{moves_to, IsConfirmation}
use Rattle.pt_desk_rules.specs.declared.change.Change.{Change}
use Rattle.pt_desk_rules.specs.declared.deciding.Decision.{Decision}
use Rattle.pt_desk_rules.specs.declared.deciding.Decision.TheVariants.{Denied, Accepted}
use Rattle.pt_desk_rules.specs.declared.facts.WishFacts.{WishFacts}
use Rattle.pt_desk_requests.specs.declared.request.Answer.TheVariants as answer
use Rattle.pt_desk_requests.specs.declared.request.Confirmation.{Confirmation}

pub if_ok : {X E : Type 0} (P Q : X → Type 0) → ((x : X) → P x → Q x) → (r : Result X E) → IfOk r P → IfOk r Q
if_ok P Q gives (Ok x) holds = gives x holds
if_ok P Q gives (Err e) holds = tt

-- by the driving times of the rows
pub scheduled_by : {E : Type 0} (minutes : ℕ → ℕ → Option ℕ) (rows : List Row) (vehicles : List OnDuty) (request : Request) (r : Result Scheduled E) → AreTimes rows minutes
    → IfOk r (λ s. IsScheduled minutes vehicles request s) → IfOk r (λ s. IsScheduledBy rows vehicles request s)
scheduled_by minutes rows vehicles request r times holds =
    if_ok (λ s. IsScheduled minutes vehicles request s) (λ s. IsScheduledBy rows vehicles request s) (λ s planned. (minutes, times, planned)) r holds

-- of the request that the facts make
pub answered : {E : Type 0} (number : ℕ) (left_out : Option ℕ) (today : ℕ) (wish : Wish) (facts : WishFacts) (request : Request) (r : Result Scheduled E)
    → IsRequestBy facts number left_out today wish request
    → IfOk r (λ s. IsScheduledBy (rows_of facts.booking.day.travel) (routes_for number wish facts) request s) → IfOk r (λ s. IsAnswered number left_out today wish facts s)
answered number left_out today wish facts request r asked holds =
    if_ok (λ s. IsScheduledBy (rows_of facts.booking.day.travel) (routes_for number wish facts) request s) (λ s. IsAnswered number left_out today wish facts s) (λ s by. (request, asked, by)) r holds

-- and of vehicles on duty
pub answered_of : {E : Type 0} (number : ℕ) (left_out : Option ℕ) (today : ℕ) (wish : Wish) (facts : WishFacts)
    (request : Request) (vehicles : List Vehicle) (r : Result Scheduled E)
    → vehicles ≡ on_duty wish.day facts.vehicles → IsRequestBy facts number left_out today wish request
    → IfOk r (λ s. IsScheduledBy (rows_of facts.booking.day.travel) (routes_without request.trip request.wish.day
    facts.booking.day.trips facts.booking.day.plans vehicles) request s)
    → IfOk r (λ s. IsAnswered number left_out today wish facts s)
answered_of number left_out today wish facts request vehicles r same by holds =
    let day = facts.booking.day in
    let rows = rows_of day.travel in
    answered number left_out today wish facts request r by
    (subst (λ (v : List Vehicle). IfOk r (λ s. IsScheduledBy rows (routes_without number wish.day day.trips day.plans v)
    request s)) same
    (subst (λ (w : Wish). IfOk r (λ s. IsScheduledBy rows (routes_without number w.day day.trips day.plans vehicles)
    request s)) by.wished
    (subst (λ (n : ℕ). IfOk r (λ s. IsScheduledBy rows (routes_without n request.wish.day day.trips day.plans vehicles)
    request s)) by.trip holds)))

-- a wish that is denied is decided by the denial
pub denied : (change : Trip → Plan → Change) (number given : ℕ) (left_out : Option ℕ) (today : ℕ) (wish : Wish) (facts : WishFacts) (found : Scheduled) (rule : Rule)
    → given ≡ number → found ≡ scheduled.Denied rule → IsAnswered given left_out today wish facts found → IsBooking change number left_out today wish facts (Denied rule)
denied change number given left_out today wish facts found rule same is by =
    (scheduled.Denied rule, subst (λ (n : ℕ). IsAnswered n left_out today wish facts (scheduled.Denied rule)) same (subst (λ s. IsAnswered given left_out today wish facts s) is by), refl)

-- a wish that is booked is decided by the confirmation
pub confirmed : (change : Trip → Plan → Change) (number given : ℕ) (left_out : Option ℕ) (today : ℕ) (wish : Wish)
    (facts : WishFacts) (found : Scheduled) (trip : Trip) (plan : Plan) (made : Change) (decided : Decision)
    → given ≡ number → found ≡ scheduled.Booked trip plan → IsAnswered given left_out today wish facts found
    → (told : Confirmation) × IsConfirmation trip told × (decided ≡ Accepted (answer.Booked told) made)
    → made ≡ change trip plan → IsBooking change number left_out today wish facts decided
confirmed change number given left_out today wish facts found trip plan made decided same is by (told, confirms, is_told) changes = (
  scheduled.Booked trip plan,
  subst (λ (n : ℕ). IsAnswered n left_out today wish facts (scheduled.Booked trip plan)) same (subst (λ s. IsAnswered given left_out today wish facts s) is by),
  (told, confirms, is_told ∙ ap (λ (c : Change). Accepted (answer.Booked told) c) changes),
)

-- the change of a trip that exists
pub of_trip : (found : Option Trip) (old : Trip) (today : ℕ) (wish : Wish) (facts : WishFacts) (decided : Decision) → found ≡ Some old
    → IsBooking (changed old facts.booking.plan) old.id (Some old.id) today wish facts decided → IsChangeDecided found wish today facts decided
of_trip found old today wish facts decided is booking = subst (λ f. IsChangeDecided f wish today facts decided) (sym is) booking

-- the change of a trip that is booked
pub booked_made : (none : Change) (trips : Edit Trip) (planned : Edit Plan) (trip : Trip) (plan : Plan) → none ≡ no_change
    → trips ≡ puts_one trip → planned ≡ puts_one plan
    → record none { trips = trips; planned = planned; last_trip = Some trip.id } ≡ booked trip plan
booked_made none trips planned trip plan is trips_are planned_are = rw (planned_are, trips_are, is) refl

-- the change of a trip that is changed
pub changed_made : (none : Change) (trips : Edit Trip) (planned : Edit Plan) (old : Trip) (left : Option Plan) (trip : Trip)
    (plan : Plan) → none ≡ no_change → trips ≡ puts_one trip → planned ≡ moves_to old left plan
    → record none { trips = trips; planned = planned } ≡ changed old left trip plan
changed_made none trips planned old left trip plan is trips_are planned_are = rw (planned_are, trips_are, is) refl
