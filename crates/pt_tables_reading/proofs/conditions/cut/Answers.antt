use Rattle.pt_tables_reading.proofs.ConditionReading.{cut-parts}
use Rattle.pt_tables_reading.proofs.conditions.cut.Goals as goal

pub returns : goal.returns
returns c = cut-parts c.args.text.now c.split_once.result c.split_once.ensures.cases
