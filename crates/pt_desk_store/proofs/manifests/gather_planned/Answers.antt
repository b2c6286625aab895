use Rattle.std.proofs.Common.{◌≡◌, true, arith}
use Rattle.std.proofs.lemmas.Bool.Decides.{nat_tests}
use Rattle.pt_desk_store.specs.Enough.{are_met}
use Rattle.pt_desk_store.proofs.SomeLemmas.{planned_told}
use Rattle.pt_desk_store.proofs.manifests.gather_planned.Goals as goal

pub returns : goal.returns
returns g c =
    let differs = c.ne.ensures in
    let alike = c.if-ne.false in
    let on : c.args.plan.day ≡ c.args.day = grind (arith, nat_tests) in
    let asked = c.are_met.ensures in
    let kept = c.if-not-are_met.false in
    let met : are_met c.args.day c.in_ok-trips.trips c.args.plan.stops ≡ true = grind (arith, nat_tests) in
    record {
      reads =
          planned_told _ _ _ c.args.day c.args.plan c.in_ok-found.found c.in_ok-trips.trips c.in_ok-plans.plans c.in_ok-gather_tour.field-0
          c.in_ok-found.ensures.reads c.in_ok-trips.ensures on met c.in_ok-plans.ensures c.in_ok-gather_tour.ensures.reads;
    }
