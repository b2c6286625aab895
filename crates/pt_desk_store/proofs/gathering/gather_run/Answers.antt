use Rattle.pt_desk_rules.specs.Facts.{no_read_facts}
use Rattle.pt_desk_store.specs.Enough.{IsEnough}
use Rattle.pt_desk_requests.specs.declared.request.Read.TheVariants.{Manifest}
use Rattle.pt_desk_store.proofs.SomeLemmas.{run_whole, some_fault_as, some_there}
use Rattle.pt_desk_store.proofs.gathering.gather_run.Goals as goal

pub returns-in_err-facts : goal.returns-in_err-facts
returns-in_err-facts g c = record {
  reads =
      some_fault_as _ _ _ no_read_facts _ c.in_err-facts.field-0.0 c.from_residual.result c.from_residual.ensures.1
      c.in_err-facts.ensures.reads.goes.1;
}

pub returns-in-Some : goal.returns-in-Some
returns-in-Some g c = record {
  reads = some_there _ _ (IsEnough (Manifest c.args.vehicle c.args.day)) c.in_ok-facts.field-0 c.in-Some.facts c.in_ok-facts.ensures.reads c.in-Some.is;
}

pub returns-in-None : goal.returns-in-None
returns-in-None g c = record {
  reads = run_whole _ _ _ c.in_ok-facts.field-0 _ c.args.vehicle c.args.day c.gather_tours.result c.in_ok-facts.ensures.reads.goes.1 c.gather_tours.ensures.reads;
}
