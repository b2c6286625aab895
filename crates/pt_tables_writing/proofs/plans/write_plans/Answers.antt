use Rattle.sqlite.specs.Held.{state}
use Rattle.pt_desk_scheduling.specs.Plan.{plan_key}
use Rattle.pt_tables_rows.specs.Rows.{stop_rows}
use Rattle.pt_tables_rows.specs.Schema.{stops_table}
use Rattle.pt_tables_rows.specs.Tables.{IsStoredPlan}
use Rattle.pt_tables_writing.proofs.ChangeLemmas.{did_as}
use Rattle.pt_tables_writing.proofs.StoredLemmas.{replaced_made}
use Rattle.pt_tables_writing.proofs.plans.write_plans.Goals as goal

pub returns-in-Some : goal.returns-in-Some
returns-in-Some g c =
    let old = state g.S.Store c.args.tx.now.conn.now in
    let new = state g.S.Store c.replace_plan.new.tx.conn.now in
    record {
      step = did_as c.replace_plan.ensures.step
          (replaced_made stops_table plan_key IsStoredPlan stop_rows c.args.edits.now c.in-Some.before.now c.in-Some.plan.now
          c.args.records.now.items c.in-Some.ensures.alone c.in-Some.ensures.there old.now new.now);
    }

pub returns-in-None : goal.returns-in-None
returns-in-None g c =
    record { step = did_as c.write_edits.ensures.step (λ made there agrees. made there agrees.taken) }
