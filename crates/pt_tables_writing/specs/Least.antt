-- What a new database has.
use Rattle.std.specs.Prelude.{◌≡◌, ◌≢◌, ◌⊎◌, ℕ, List, [], ◌∷◌, IsTrue}
use Rattle.sqlite.specs.Effect.{IsDatabase}
use Rattle.sqlite.specs.State.{State as Connected}
use Rattle.sqlite.specs.Tree.{Trees}
use Rattle.pt_base_values.specs.declared.policy.Policy.{Policy}
use Rattle.pt_desk_store.specs.LeastState.{IsLeastState}
use Rattle.pt_desk_rules.specs.State.{State, new_state}
use Rattle.pt_desk_requests.specs.declared.caller.Caller.{Caller}
use Rattle.pt_desk_requests.specs.declared.caller.Role.TheVariants.{Admin}
use Rattle.pt_tables_rows.specs.Rows.{desk_row}
use Rattle.pt_tables_rows.specs.Schema.{desk_schema, no_schema}
use Rattle.pt_tables_rows.specs.Tables.{HasRows}

-- caller 1, the admin whose key has this digest
abbrev pub first_admin : List ℕ → Caller
first_admin digest = record { id = 1; role = Admin; digest = digest }

-- the admin with this digest and a policy that has the same row as this one, and nothing else
pub record IsNew (policy : Policy) (digest : List ℕ) (content : State) : Type 0 where
  pub desk : desk_row content.policy 0 ≡ desk_row policy 0
  pub whole : content ≡ new_state (first_admin digest ∷ []) content.policy

-- the database lists the desk's tables and nothing else, each with the SQL text that defines it, and its rows obey them
abbrev pub IsDeskDatabase : Trees → Type 0
IsDeskDatabase trees = IsDatabase (record { schema = desk_schema; trees = trees })

-- the rows of a new content
abbrev pub HasNewRows : Policy → List ℕ → Trees → Type 0
HasNewRows policy digest trees = (content : State) → IsNew policy digest content → HasRows content trees

-- a desk's database with such rows
pub record IsNewDesk (policy : Policy) (digest : List ℕ) (trees : Trees) : Type 0 where
  pub tables : IsDeskDatabase trees
  pub rows : HasNewRows policy digest trees

-- the rows of the least state whose admin has this key
abbrev pub HasLeastRows : List ℕ → Trees → Type 0
HasLeastRows admin_key trees = (content : State) → IsLeastState admin_key content → HasRows content trees

-- a desk's database with such rows
pub record IsLeastDesk (admin_key : List ℕ) (trees : Trees) : Type 0 where
  pub tables : IsDeskDatabase trees
  pub rows : HasLeastRows admin_key trees

-- the connection, if it is open, shows what was committed, which has not changed
pub record IsUndone (old new : Connected) : Type 0 where
  pub was_open : IsTrue new.is_open → IsTrue old.is_open
  pub now : IsTrue new.is_open → new.now ≡ old.committed
  pub committed : IsTrue new.is_open → new.committed ≡ old.committed

-- a transaction is open, or the database has a table, an index or a view
abbrev pub IsInUse : Connected → Type 0
IsInUse s = IsTrue s.in_transaction ⊎ (s.now.schema ≢ no_schema)

-- the connection, if it is open, shows what it showed before, and what was committed stays
pub record IsAsBefore (old new : Connected) : Type 0 where
  pub now : IsTrue new.is_open → new.now ≡ old.now
  pub committed : IsTrue new.is_open → new.committed ≡ old.committed
