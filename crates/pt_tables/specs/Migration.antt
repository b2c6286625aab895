-- What a migration makes of the tables of an earlier version.
use Rattle.std.specs.Prelude.{◌≡◌, ℕ, IsTrue}
use Rattle.sqlite.specs.State.{State as Connected}
use Rattle.sqlite.specs.Tree.{Trees}
use Rattle.pt_tables_keeper.specs.State.{State}
use Rattle.pt_tables_opening.specs.Opening.{IsEarlierVersion}
use Rattle.pt_tables_rows.specs.Schema.{desk_schema, schema_of}
use Rattle.pt_tables_rows.specs.Tables.{HasRows, HasRowsOf}
use Rattle.pt_tables_writing.specs.Least.{IsDeskDatabase}

-- each content that had the rows of the version's tables has the rows of these trees
abbrev pub HasMigratedRows : ℕ → Connected → Trees → Type 0
HasMigratedRows version old trees = (content : State) → HasRowsOf version content old.now.trees → HasRows content trees

-- a desk's database with such rows
pub record IsMigratedDesk (version : ℕ) (old : Connected) (trees : Trees) : Type 0 where
  pub tables : IsDeskDatabase trees
  pub rows : HasMigratedRows version old trees

-- a transaction has changed the tables of the version into those of the current one, and all is committed
pub record IsRaised (version : ℕ) (old new : Connected) : Type 0 where
  pub is_open : IsTrue new.is_open
  pub committed : new.committed ≡ new.now
  pub schema : old.now.schema ≡ schema_of version → new.now.schema ≡ desk_schema
  pub desk : old.now.schema ≡ schema_of version → IsMigratedDesk version old new.now.trees

-- the database was of an earlier version, and now has the tables of the current one
pub record IsMigrated (old new : Connected) : Type 0 where
  pub version : ℕ
  pub was : IsEarlierVersion version old.now
  pub raised : IsRaised version old new

-- the database was of an earlier version, and these trees are those of the migrated desk
abbrev pub IsMigratedFrom : Connected → Trees → Type 0
IsMigratedFrom old trees = (version : ℕ) × IsEarlierVersion version old.now × IsMigratedDesk version old trees
