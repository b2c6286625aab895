use Rattle.std.proofs.Common.{◌∙◌}
use Rattle.sqlite.proofs.Callers.{memory_is_clean}
use Rattle.pt_tables_rows.specs.Schema.{schema_of}
use Rattle.pt_tables_opening.proofs.SchemaLemmas.{made_plain, same_as, schema_plain}
use Rattle.pt_tables_opening.proofs.schema_check.is_schema_of.Goals as goal

pub is_same_schema-requires : goal.is_same_schema-requires
is_same_schema-requires c =
    let is = c.schema.ensures.value ∙ c.in-Ok-make_tables.ensures.made (memory_is_clean c.make_tables.new.conn) in
    record { plain = made_plain c.schema.result.now (schema_of c.args.version) is (schema_plain c.args.version) }

pub returns-in-Ok-make_tables-clause-value : goal.returns-in-Ok-make_tables-clause-value
returns-in-Ok-make_tables-clause-value c =
    let is = c.schema.ensures.value ∙ c.in-Ok-make_tables.ensures.made (memory_is_clean c.make_tables.new.conn) in
    same_as c.schema.result.now (schema_of c.args.version) is c.args.schema.now c.is_same_schema.result c.is_same_schema.ensures.value
