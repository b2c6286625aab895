use Rattle.pt_tables_opening.proofs.GroupOrders.{few_told}
use Rattle.pt_tables_opening.proofs.PlanReading.{travel-once}
use Rattle.pt_tables_opening.proofs.travel.TravelTablesGathered.of_rows.Goals as goal

pub returns-clause-told : goal.returns-clause-told
returns-clause-told c = few_told c.args.rows.now c.table_of.result c.table_of.ensures.told

pub returns-clause-once : goal.returns-clause-once
returns-clause-once c = travel-once
