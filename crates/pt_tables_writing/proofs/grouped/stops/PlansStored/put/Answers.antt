use Rattle.pt_desk_scheduling.specs.Plan.{plan_key}
use Rattle.pt_tables_rows.specs.Rows.{stop_rows}
use Rattle.pt_tables_rows.specs.Schema.{stops_table}
use Rattle.pt_tables_rows.specs.Tables.{IsStoredPlan}
use Rattle.pt_tables_writing.proofs.ChangeLemmas.{did_put}
use Rattle.pt_tables_writing.proofs.grouped.stops.PlansStored.put.Goals as goal

pub returns : goal.returns
returns g c =
    record {
      step = did_put stops_table plan_key IsStoredPlan stop_rows c.args.plan.now
          c.in_ok-take.ensures.step c.insert_stops.ensures.step;
    }
