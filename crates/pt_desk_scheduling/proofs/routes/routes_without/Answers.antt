use Rattle.std.proofs.Common.{arith, subst, sym}
use Rattle.pt_base_values.specs.declared.vehicle.Vehicle.{Vehicle}
use Rattle.pt_desk_booking.specs.Planning.{OnDuty}
use Rattle.pt_desk_scheduling.specs.Routes.{IsRoute, stops_without}
use Rattle.pt_desk_scheduling.proofs.ListLemmas.{All-unmap}
use Rattle.pt_desk_scheduling.proofs.routes.routes_without.Goals as goal

pub returns-in-None-clause-none : goal.returns-in-None-clause-none
returns-in-None-clause-none c =
    let stops = λ (vehicle : Vehicle). stops_without c.args.trip c.args.day c.args.plans.now.trips.now c.args.plans.now.plans.now vehicle.id in
    let i = c.loop-vehicle.vehicle-index in
    λ all. (rw c.in-None.is at c.in_ok-route.ensures.none)
    (subst (λ (vehicle : Vehicle). IsRoute (stops vehicle)) (sym c.vehicle-item.is)
    (All-unmap (λ (duty : OnDuty). IsRoute duty.stops) (λ vehicle. record { vehicle = vehicle; stops = stops vehicle }) c.args.plans.now.vehicles.now all i _ (omega arith)))
