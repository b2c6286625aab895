use Rattle.pt_feasible.specs.Route.{stops_of}
use Rattle.pt_desk_rules.proofs.TourLemmas.{within_first, within_last}
use Rattle.pt_desk_reads.proofs.tours.tour_at.Goals as goal

pub minute_of-requires : goal.minute_of-requires
minute_of-requires c =
    rw c.as_slice.ensures.value
    (within_first c.args.vehicle.now (stops_of c.args.route.now) c.args.times.now.items c.requires.windows)

pub minute_of-requires-2 : goal.minute_of-requires-2
minute_of-requires-2 c =
    rw c.as_slice-2.ensures.value
    (within_last c.args.vehicle.now (stops_of c.args.route.now) c.args.times.now.items c.len.result c.len.ensures.value
    c.requires.windows)
