-- Why an opening refuses a database that it has read.
use Rattle.std.specs.Prelude.{◌≡◌, ◌≢◌, ◌⊎◌}
use Rattle.sqlite.specs.Effect.{Database}
use Rattle.sqlite.specs.Tree.{Trees}
use Rattle.sqlite_catalog.specs.Listing.{Lists}
use Rattle.sqlite_schema.specs.declared.schema.Schema.{Schema}
use Rattle.pt_tables_asking.specs.Objects.{catalog_tree}
use Rattle.pt_desk_rules.specs.Sound.{IsSound}
use Rattle.pt_desk_rules.specs.State.{State}
use Rattle.pt_base_values.specs.Fault.{code_of}
use Rattle.pt_base_values.specs.declared.fault.Cause.TheVariants as cause
use Rattle.pt_tables_rows.specs.Schema.{desk_schema}
use Rattle.pt_tables_rows.specs.Tables.{HasRows}
use Rattle.pt_tables_opening.specs.Standing.{IsFirstAtFault}
use Rattle.pt_tables_opening.specs.Agency.{HasOtherVersion}
use Rattle.pt_tables_opening.specs.declared.open_fault.OpenFault.{OpenFault}

-- no sound state has these rows
abbrev pub AreUnsound : Trees → Type 0
AreUnsound trees = (s : State) → IsSound s → HasRows s trees → ⊥

-- the database's own list of its tables is not the desk's
abbrev pub ListsOthers : Trees → Type 0
ListsOthers trees = (schema : Schema) × Lists (trees catalog_tree) schema × (schema ≢ desk_schema)

-- the database has other tables than the desk's, or those of another version
abbrev pub HasOtherTables : Trees → Type 0
HasOtherTables trees = ListsOthers trees ⊎ HasOtherVersion trees

-- if the tables are of another version, the refusal is not about their rows
abbrev pub SparesOtherVersion : Trees → OpenFault → Type 0
SparesOtherVersion trees refused = HasOtherVersion trees → refused.code ≢ code_of cause.UnsoundRows

-- what a refusal says of the rows of the desk's tables
pub record TellsWhy (trees : Trees) (refused : OpenFault) : Type 0 where
  pub version : refused.code ≡ code_of cause.OtherTables → HasOtherVersion trees
  pub rows : refused.code ≡ code_of cause.UnsoundRows → AreUnsound trees
  pub first : refused.code ≡ code_of cause.UnsoundRows → IsFirstAtFault trees refused.table

-- what a refusal says of a database that may have other tables
pub record TellsOf (db : Database) (refused : OpenFault) : Type 0 where
  pub tables : refused.code ≡ code_of cause.OtherTables → (db.schema ≢ desk_schema) ⊎ HasOtherVersion db.trees
  pub rows : refused.code ≡ code_of cause.UnsoundRows → AreUnsound db.trees
  pub first : refused.code ≡ code_of cause.UnsoundRows → IsFirstAtFault db.trees refused.table
