-- What is scheduled where the routes are those of a day.
use Rattle.std.proofs.Common.{◌≡◌, ℕ, ◌<◌, List, Option, None, Result, Ok, map, Any, All, AllPairs, ap, subst, ◌∙◌}
use Rattle.std.specs.Prelude.{◌↔◌}
use Rattle.pt_base_values.specs.declared.trip.Trip.{Trip}
use Rattle.pt_feasible.specs.Route.{stops_of}
use Rattle.pt_feasible.specs.declared.stop.Stop.{Stop}
use Rattle.pt_insertion_search.specs.Insertion.{IsWithout}
use Rattle.pt_insertion_search.specs.declared.chosen.Chosen.{Chosen}
use Rattle.pt_insertion_search.specs.declared.duty.Duty.{Duty}
use Rattle.pt_desk_booking.specs.Booking as booking
use Rattle.pt_desk_booking.specs.Booking.{IsNewRoute, IsTripOf}
use Rattle.pt_desk_booking.specs.declared.booking.Booking.{Booking}
use Rattle.pt_desk_booking.specs.declared.booking.BookingDecision.{BookingDecision}
use Rattle.pt_desk_booking.specs.declared.booking.BookingDecision.TheVariants as decision
use Rattle.pt_desk_booking.specs.Rules.{IsFirstFailing}
use Rattle.pt_desk_booking.specs.Planning.{OnDuty, on_duty, asked_for, booking_rules, IsBestPlace}
use Rattle.pt_desk_booking.specs.Request.{Request}
use Rattle.pt_desk_scheduling.specs.Plan.{Plan, planned_stop}
use Rattle.pt_desk_scheduling.specs.Scheduling.{AreRoutes, IsPlanWith, IsScheduled}
use Rattle.pt_desk_scheduling.specs.declared.scheduling.Scheduled.TheVariants.{Booked}
use Rattle.pt_desk_scheduling.proofs.ListLemmas.{All-unmap, AllPairs-unmap, Any-weaker}

-- the routes of a day may be booked in
pub are_without : (trip : ℕ) (duties : List Duty) → AreRoutes trip (on_duty duties) → AllPairs (λ first second. first.vehicle.now.id < second.vehicle.now.id) duties
    × All (λ duty. IsWithout trip (stops_of duty.route.now)) duties
are_without trip duties are = (
  AllPairs-unmap (λ (first second : OnDuty). first.vehicle.id < second.vehicle.id) (λ (duty : Duty). record { vehicle = duty.vehicle.now; stops = stops_of duty.route.now }) duties are.rising,
  All-unmap (λ (duty : OnDuty). IsWithout trip duty.stops) (λ (duty : Duty). record { vehicle = duty.vehicle.now; stops = stops_of duty.route.now }) duties are.new_trip,
)

-- the plan of a booked trip's vehicle is its new route
plan_with : (minutes : ℕ → ℕ → Option ℕ) (vehicles : List OnDuty) (trip : Trip) (chosen : Chosen) (stops : List Stop) (plan : Plan) → trip.vehicle ≡ chosen.vehicle
    → Any (λ duty. IsNewRoute minutes duty trip chosen stops) vehicles → plan ≡ record { vehicle = trip.vehicle; day = trip.wish.day; stops = map planned_stop stops }
    → Any (λ duty. IsPlanWith minutes duty trip chosen plan) vehicles
plan_with minutes vehicles trip chosen stops plan same some is =
    Any-weaker (λ (duty : OnDuty). IsNewRoute minutes duty trip chosen stops) (λ (duty : OnDuty). IsPlanWith minutes duty trip chosen plan)
    (λ duty new. (stops, new, is ∙ ap (λ (v : ℕ). record { vehicle = v; day = trip.wish.day; stops = map planned_stop stops }) same)) vehicles some

-- what is booked is scheduled
pub booked : {E : Type 0} (minutes : ℕ → ℕ → Option ℕ) (vehicles : List OnDuty) (request : Request) (result : Result BookingDecision E) (decided : BookingDecision) (there : Booking) (plan : Plan)
    → result ≡ Ok decided → decided ≡ decision.Booked there
    → (booking.IsAllowed result ↔ IsFirstFailing (booking_rules minutes vehicles request) None)
    → booking.IfBooked result (λ b. IsBestPlace minutes vehicles (asked_for minutes request) b.chosen)
    → booking.IfBooked result (λ b. IsTripOf minutes request b.chosen b.trip)
    → booking.IfBooked result (λ b. Any (λ duty. IsNewRoute minutes duty b.trip b.chosen (stops_of b.route)) vehicles)
    → plan ≡ record { vehicle = there.trip.vehicle; day = there.trip.wish.day; stops = map planned_stop (stops_of there.route) }
    → IsScheduled minutes vehicles request (Booked there.trip plan)
booked {E} minutes vehicles request result decided there plan is which allowed best trip route plan_is =
    let whole : result ≡ Ok (decision.Booked there) = is ∙ ap (λ (d : BookingDecision). Ok d) which in
    let allowed' = subst (λ (r : Result BookingDecision E). booking.IsAllowed r ↔ IsFirstFailing (booking_rules minutes vehicles request) None) whole allowed in
    let best' = subst (λ (r : Result BookingDecision E). booking.IfBooked r (λ b. IsBestPlace minutes vehicles (asked_for minutes request) b.chosen)) whole best in
    let trip' = subst (λ (r : Result BookingDecision E). booking.IfBooked r (λ b. IsTripOf minutes request b.chosen b.trip)) whole trip in
    let route' = subst (λ (r : Result BookingDecision E). booking.IfBooked r (λ b. Any (λ duty. IsNewRoute minutes duty b.trip b.chosen (stops_of b.route)) vehicles)) whole route in (
      allowed'.0 tt,
      (
        there.chosen,
        record {
          best = best';
          trip_of = trip';
          plan_of = plan_with minutes vehicles there.trip there.chosen (stops_of there.route) plan trip'.vehicle_number route' plan_is;
        },
      ),
    )
