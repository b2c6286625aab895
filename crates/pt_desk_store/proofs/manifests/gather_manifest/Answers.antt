use Rattle.pt_desk_store.proofs.SomeLemmas.{run_planned, run_unplanned}
use Rattle.pt_desk_store.proofs.manifests.gather_manifest.Goals as goal

pub returns-in-Some : goal.returns-in-Some
returns-in-Some g c = record {
  reads = run_planned _ _ _ c.args.vehicle c.args.day c.in_ok-plan.field-0 c.in-Some.plan c.gather_planned.result c.in_ok-plan.ensures.reads c.in-Some.is c.gather_planned.ensures.reads;
}

pub returns-in_ok-gather_tour-in-None : goal.returns-in_ok-gather_tour-in-None
returns-in_ok-gather_tour-in-None g c = record {
  reads =
      run_unplanned _ _ _ c.args.vehicle c.args.day c.in_ok-plan.field-0 _ _ c.in_ok-gather_tour-in-None.field-0 c.in_ok-plan.ensures.reads c.in-None.is
      c.none.ensures.value c.none-in-None.ensures.value c.in_ok-gather_tour-in-None.ensures.reads;
}
