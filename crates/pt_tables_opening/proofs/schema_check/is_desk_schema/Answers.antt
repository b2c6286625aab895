use Rattle.pt_tables_opening.proofs.SchemaLemmas.{desk_so}
use Rattle.pt_tables_opening.proofs.schema_check.is_desk_schema.Goals as goal

pub returns-clause-value : goal.returns-clause-value
returns-clause-value c = desk_so c.args.schema.now c.is_schema_of.result c.is_schema_of.ensures.value
