-- Plain schemas, such as the desk's, which can be compared field by field.
use Rattle.std.specs.Prelude.{◌≡◌, []}
use Rattle.std.specs.List.{AllByRecursion}
use Rattle.sqlite.specs.Table.{Table}
use Rattle.sqlite.specs.Schema.{Schema}
use Rattle.sqlite.specs.declared.types.Value.TheVariants.{Null}
use Rattle.sqlite_schema.specs.declared.schema.Column.{Column}
use Rattle.sqlite_schema.specs.declared.schema.Stamps.{Stamps}

-- the column has no default
abbrev pub IsPlainColumn : Column → Type 0
IsPlainColumn column = column.default ≡ Null

-- no default reads the time
abbrev pub no_stamps : Stamps
no_stamps = record { places = []; terms = []; formats = [] }

-- the table has no default and no CHECK
pub record IsPlainTable (table : Table) : Type 0 where
  pub columns : AllByRecursion IsPlainColumn table.columns
  pub checks : table.checks ≡ []
  pub stamps : table.stamps ≡ no_stamps

-- the schema has such tables, and no view
pub record IsPlainSchema (schema : Schema) : Type 0 where
  pub tables : AllByRecursion IsPlainTable schema.tables
  pub views : schema.views ≡ []
