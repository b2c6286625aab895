-- Which content the first tables of a database have, and which table is the first at fault.
use Rattle.std.specs.Prelude.{ℕ, ◌-◌, ◌<◌, take}
use Rattle.sqlite.specs.Tree.{Trees}
use Rattle.pt_desk_rules.specs.State.{State}
use Rattle.pt_base_records.specs.Records.{Each}
use Rattle.pt_desk_rules.specs.TableNames.{all_tables}
use Rattle.pt_tables_soundness.specs.Tables.{IsSoundIn}
use Rattle.pt_desk_rules.specs.declared.table_name.TableName.{TableName}
use Rattle.pt_tables_rows.specs.Tables.{HasRowsIn}

-- the content has the rows of this table, and is sound there
pub record StandsIn (s : State) (trees : Trees) (table : TableName) : Type 0 where
  pub rows : HasRowsIn s trees table
  pub sound : IsSoundIn s table

-- the same in each of the first `number` tables
abbrev pub StandsTo : ℕ → State → Trees → Type 0
StandsTo number s trees = Each (StandsIn s trees) (take number all_tables)

-- no content has the rows of the first `number` tables and is sound there
abbrev pub NoneStandsTo : ℕ → Trees → Type 0
NoneStandsTo number trees = (s : State) → StandsTo number s trees → ⊥

-- no content has the rows of the tables up to this one and is sound there, but some content does up to the one before
pub record IsFirstAtFault (trees : Trees) (number : ℕ) : Type 0 where
  pub none : NoneStandsTo number trees
  pub before : 1 < number → (s : State) × StandsTo (number - 1) s trees
