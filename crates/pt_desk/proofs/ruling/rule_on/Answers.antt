use Rattle.pt_desk_requests.specs.declared.request.Write.TheVariants as write
use Rattle.pt_desk.proofs.RulingLemmas.{ruled, ruled_enough, ruled_fault, ruled_memory, ruled_unread}
use Rattle.pt_desk.proofs.ruling.rule_on.Goals as goal

pub returns-in_err-gather_caller-in-PutCaller : goal.returns-in_err-gather_caller-in-PutCaller
returns-in_err-gather_caller-in-PutCaller g c =
    ruled_fault c.from_residual.ensures.1 c.in_err-gather_caller-in-PutCaller.ensures.reads

pub returns-in_err-put_caller-in-PutCaller : goal.returns-in_err-put_caller-in-PutCaller
returns-in_err-put_caller-in-PutCaller g c =
    ruled_memory c.from_residual-in_err-put_caller-in-PutCaller.ensures.1
    c.in_ok-gather_caller-in-PutCaller.ensures.reads

pub returns-in_ok-put_caller-in-PutCaller : goal.returns-in_ok-put_caller-in-PutCaller
returns-in_ok-put_caller-in-PutCaller g c =
    rw c.in-PutCaller.is (ruled (write.PutCaller c.in-PutCaller.new) c.args.me.now c.args.now _ _ _ _
    c.in_ok-gather_caller-in-PutCaller.ensures.reads (c.in_ok-put_caller-in-PutCaller.ensures.ruling c.args.now))

pub returns-in_err-gather_place-in-PutPlace : goal.returns-in_err-gather_place-in-PutPlace
returns-in_err-gather_place-in-PutPlace g c =
    ruled_fault c.from_residual-in_err-gather_place-in-PutPlace.ensures.1
    c.in_err-gather_place-in-PutPlace.ensures.reads

pub returns-in_err-put_place-in-PutPlace : goal.returns-in_err-put_place-in-PutPlace
returns-in_err-put_place-in-PutPlace g c =
    ruled_memory c.from_residual-in_err-put_place-in-PutPlace.ensures.1
    c.in_ok-gather_place-in-PutPlace.ensures.reads

pub returns-in_ok-put_place-in-PutPlace : goal.returns-in_ok-put_place-in-PutPlace
returns-in_ok-put_place-in-PutPlace g c =
    rw c.in-PutPlace.is (ruled (write.PutPlace c.in-PutPlace.new) c.args.me.now c.args.now _ _ _ _
    c.in_ok-gather_place-in-PutPlace.ensures.reads (c.in_ok-put_place-in-PutPlace.ensures.ruling c.args.now))

pub returns-in_err-gather_route-in-PutRoute : goal.returns-in_err-gather_route-in-PutRoute
returns-in_err-gather_route-in-PutRoute g c =
    ruled_fault c.from_residual-in_err-gather_route-in-PutRoute.ensures.1
    c.in_err-gather_route-in-PutRoute.ensures.reads

pub returns-in_err-put_route-in-PutRoute : goal.returns-in_err-put_route-in-PutRoute
returns-in_err-put_route-in-PutRoute g c =
    ruled_memory c.from_residual-in_err-put_route-in-PutRoute.ensures.1
    c.in_ok-gather_route-in-PutRoute.ensures.reads

pub returns-in_ok-put_route-in-PutRoute : goal.returns-in_ok-put_route-in-PutRoute
returns-in_ok-put_route-in-PutRoute g c =
    rw c.in-PutRoute.is (ruled (write.PutRoute c.in-PutRoute.new) c.args.me.now c.args.now _ _ _ _
    c.in_ok-gather_route-in-PutRoute.ensures.reads (c.in_ok-put_route-in-PutRoute.ensures.ruling c.args.now))

pub returns-in_err-gather_rider-in-PutRider : goal.returns-in_err-gather_rider-in-PutRider
returns-in_err-gather_rider-in-PutRider g c =
    ruled_fault c.from_residual-in_err-gather_rider-in-PutRider.ensures.1
    c.in_err-gather_rider-in-PutRider.ensures.reads

pub returns-in_err-put_rider-in-PutRider : goal.returns-in_err-put_rider-in-PutRider
returns-in_err-put_rider-in-PutRider g c =
    ruled_memory c.from_residual-in_err-put_rider-in-PutRider.ensures.1
    c.in_ok-gather_rider-in-PutRider.ensures.reads

pub returns-in_ok-put_rider-in-PutRider : goal.returns-in_ok-put_rider-in-PutRider
returns-in_ok-put_rider-in-PutRider g c =
    rw c.in-PutRider.is (ruled (write.PutRider c.in-PutRider.new) c.args.me.now c.args.now _ _ _ _
    c.in_ok-gather_rider-in-PutRider.ensures.reads (c.in_ok-put_rider-in-PutRider.ensures.ruling c.args.now))

pub returns-in_err-facts-in-Enter : goal.returns-in_err-facts-in-Enter
returns-in_err-facts-in-Enter g c =
    ruled_fault c.from_residual-in_err-facts-in-Enter.ensures.1 c.in_err-facts-in-Enter.ensures.reads

pub returns-in_err-enter-in-Enter : goal.returns-in_err-enter-in-Enter
returns-in_err-enter-in-Enter g c =
    ruled_memory c.from_residual-in_err-enter-in-Enter.ensures.1 c.in_ok-facts-in-Enter.ensures.reads

pub returns-in_ok-enter-in-Enter : goal.returns-in_ok-enter-in-Enter
returns-in_ok-enter-in-Enter g c =
    rw c.in-Enter.is (ruled (write.Enter c.in-Enter.rider c.in-Enter.entry) c.args.me.now c.args.now _ _ _ _
    c.in_ok-facts-in-Enter.ensures.reads c.in_ok-enter-in-Enter.ensures.ruling)

pub returns-in_err-facts-in-PutVehicle : goal.returns-in_err-facts-in-PutVehicle
returns-in_err-facts-in-PutVehicle g c =
    ruled_fault c.from_residual-in_err-facts-in-PutVehicle.ensures.1 c.in_err-facts-in-PutVehicle.ensures.reads

pub returns-in_err-put_vehicle-in-PutVehicle : goal.returns-in_err-put_vehicle-in-PutVehicle
returns-in_err-put_vehicle-in-PutVehicle g c =
    ruled_memory c.from_residual-in_err-put_vehicle-in-PutVehicle.ensures.1
    c.in_ok-facts-in-PutVehicle.ensures.reads

pub returns-in_ok-put_vehicle-in-PutVehicle : goal.returns-in_ok-put_vehicle-in-PutVehicle
returns-in_ok-put_vehicle-in-PutVehicle g c =
    rw c.in-PutVehicle.is (ruled (write.PutVehicle c.in-PutVehicle.new) c.args.me.now c.args.now _ _ _ _
    c.in_ok-facts-in-PutVehicle.ensures.reads (c.in_ok-put_vehicle-in-PutVehicle.ensures.ruling c.args.now))

pub returns-in_err-facts-in-Travel : goal.returns-in_err-facts-in-Travel
returns-in_err-facts-in-Travel g c =
    ruled_fault c.from_residual-in_err-facts-in-Travel.ensures.1 c.in_err-facts-in-Travel.ensures.reads

pub returns-in_err-put_travel-in-Travel : goal.returns-in_err-put_travel-in-Travel
returns-in_err-put_travel-in-Travel g c =
    ruled_memory c.from_residual-in_err-put_travel-in-Travel.ensures.1 c.in_ok-facts-in-Travel.ensures.reads

pub returns-in_ok-put_travel-in-Travel : goal.returns-in_ok-put_travel-in-Travel
returns-in_ok-put_travel-in-Travel g c =
    rw c.in-Travel.is (ruled (write.Travel c.in-Travel.day c.in-Travel.rows) c.args.me.now c.args.now _ _ _ _
    c.in_ok-facts-in-Travel.ensures.reads (c.in_ok-put_travel-in-Travel.ensures.ruling c.args.now))

pub returns-in_err-facts-in-Book : goal.returns-in_err-facts-in-Book
returns-in_err-facts-in-Book g c =
    ruled_fault c.from_residual-in_err-facts-in-Book.ensures.1 c.in_err-facts-in-Book.ensures.reads.goes.1

pub returns-in_err-decide_booking-in-Book : goal.returns-in_err-decide_booking-in-Book
returns-in_err-decide_booking-in-Book g c =
    ruled_memory c.from_residual-in_err-decide_booking-in-Book.ensures.1 c.in_ok-facts-in-Book.ensures.reads.goes.1

pub returns-in_ok-decide_booking-in-Book : goal.returns-in_ok-decide_booking-in-Book
returns-in_ok-decide_booking-in-Book g c =
    rw c.in-Book.is (ruled_enough (write.Book c.in-Book.rider c.in-Book.wish) c.args.me.now c.args.now _ _ _ _
    c.in_ok-facts-in-Book.ensures.reads c.in_ok-decide_booking-in-Book.ensures.ruling)

pub returns-in_err-facts-in-Change : goal.returns-in_err-facts-in-Change
returns-in_err-facts-in-Change g c =
    ruled_fault c.from_residual-in_err-facts-in-Change.ensures.1 c.in_err-facts-in-Change.ensures.reads.goes.1

pub returns-in_err-decide_change-in-Change : goal.returns-in_err-decide_change-in-Change
returns-in_err-decide_change-in-Change g c =
    ruled_memory c.from_residual-in_err-decide_change-in-Change.ensures.1
    c.in_ok-facts-in-Change.ensures.reads.goes.1

pub returns-in_ok-decide_change-in-Change : goal.returns-in_ok-decide_change-in-Change
returns-in_ok-decide_change-in-Change g c =
    rw c.in-Change.is (ruled_enough (write.Change c.in-Change.trip c.in-Change.wish) c.args.me.now c.args.now
    _ _ _ _ c.in_ok-facts-in-Change.ensures.reads (c.in_ok-decide_change-in-Change.ensures.ruling c.in-Change.trip))

pub returns-in_err-facts-in-Cancel : goal.returns-in_err-facts-in-Cancel
returns-in_err-facts-in-Cancel g c =
    ruled_fault c.from_residual-in_err-facts-in-Cancel.ensures.1 c.in_err-facts-in-Cancel.ensures.reads

pub returns-in_err-decide_cancel-in-Cancel : goal.returns-in_err-decide_cancel-in-Cancel
returns-in_err-decide_cancel-in-Cancel g c =
    ruled_memory c.from_residual-in_err-decide_cancel-in-Cancel.ensures.1 c.in_ok-facts-in-Cancel.ensures.reads

pub returns-in_ok-decide_cancel-in-Cancel : goal.returns-in_ok-decide_cancel-in-Cancel
returns-in_ok-decide_cancel-in-Cancel g c =
    rw c.in-Cancel.is (ruled (write.Cancel c.in-Cancel.trip) c.args.me.now c.args.now _ _ _ _
    c.in_ok-facts-in-Cancel.ensures.reads (c.in_ok-decide_cancel-in-Cancel.ensures.ruling c.in-Cancel.trip))

pub returns-in_err-found-in-Outcome : goal.returns-in_err-found-in-Outcome
returns-in_err-found-in-Outcome g c =
    ruled_fault c.from_residual-in_err-found-in-Outcome.ensures.1 c.in_err-found-in-Outcome.ensures.reads

pub returns-in_err-decide_outcome-in-Outcome : goal.returns-in_err-decide_outcome-in-Outcome
returns-in_err-decide_outcome-in-Outcome g c =
    ruled_memory c.from_residual-in_err-decide_outcome-in-Outcome.ensures.1 c.in_ok-found-in-Outcome.ensures.reads

pub returns-in_ok-decide_outcome-in-Outcome : goal.returns-in_ok-decide_outcome-in-Outcome
returns-in_ok-decide_outcome-in-Outcome g c =
    rw c.in-Outcome.is (ruled (write.Outcome c.in-Outcome.trip c.in-Outcome.outcome) c.args.me.now c.args.now
    _ _ _ _ c.in_ok-found-in-Outcome.ensures.reads
    (c.in_ok-decide_outcome-in-Outcome.ensures.ruling c.in-Outcome.trip))

pub returns-in-PutPolicy : goal.returns-in-PutPolicy
returns-in-PutPolicy g c =
    rw c.in-PutPolicy.is (ruled_unread (write.PutPolicy c.in-PutPolicy.new) c.args.me.now c.args.now _ _
    (c.put_policy.ensures.ruling c.args.now))
