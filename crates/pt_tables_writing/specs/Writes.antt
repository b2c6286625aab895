-- What statements in a transaction do to one table.
use Rattle.std.specs.Prelude.{◌≡◌, IsTrue, ℕ, ◌==◌, not, List, [], ◌∷◌, flat_map, filter, Some}
use Rattle.std.specs.List.{AllByRecursion}
use Rattle.sqlite.specs.Effect.{Database}
use Rattle.sqlite.specs.Order.{Row}
use Rattle.sqlite.specs.Table.{Table}
use Rattle.sqlite.specs.Tree.{Trees, IsTable, rowid}
use Rattle.sqlite.specs.View.{is_int}
use Rattle.pt_base_records.specs.Records.{Each, IsInOrder, put, record_at}
use Rattle.pt_base_values.specs.declared.policy.Policy.{Policy}
use Rattle.pt_tables_rows.specs.Rows.{desk_row, versioned_row}
use Rattle.pt_tables_rows.specs.Schema.{desk_schema, desk_table}
use Rattle.pt_tables_rows.specs.Tables.{AreRows, Others}

-- the rows of the table are these, and their rowids are integers in ascending order
pub record Holds (table : Table) (shown : List Row) (trees : Trees) : Type 0 where
  pub rows : AreRows table trees shown
  pub rising : IsTable (trees table.tree)
  pub whole : AllByRecursion (λ r. IsTrue (is_int (rowid r))) (trees table.tree)

-- if the table had the rows `before`, it has the rows `after`; the other tables keep their rows
pub record Rewrites (table : Table) (before after : List Row) (old new : Database) : Type 0 where
  pub schema : new.schema ≡ desk_schema
  pub rows : Holds table before old.trees → Holds table after new.trees
  pub others : Others table old.trees new.trees

-- The record is put, whatever other records its table has. Each record has rows of its own.
abbrev pub Puts : {A : Type 0} → Table → (A → ℕ) → (A → Type 0) → (A → List Row) → A → Database → Database → Type 0
Puts {A} table key Fits rows new old_db new_db =
    (xs : List A) → IsInOrder key xs → Each Fits xs
    → Rewrites table (flat_map rows xs) (flat_map rows (put key new xs)) old_db new_db

-- The record with this one's key is removed, and the others of its table stay.
abbrev pub Takes : {A : Type 0} → Table → (A → ℕ) → (A → Type 0) → (A → List Row) → A → Database → Database → Type 0
Takes {A} table key Fits rows gone old_db new_db =
    (xs : List A) → IsInOrder key xs → Each Fits xs
    → Rewrites table (flat_map rows xs) (flat_map rows (filter (λ x. not (key x == key gone)) xs)) old_db new_db

-- The record replaces `before`, which has the same key.
abbrev pub Replaces : {A : Type 0} → Table → (A → ℕ) → (A → Type 0) → (A → List Row) → A → A → Database → Database
    → Type 0
Replaces {A} table key Fits rows before new old_db new_db =
    Fits new → (xs : List A) → IsInOrder key xs → Each Fits xs → record_at key (key new) xs ≡ Some before
    → Rewrites table (flat_map rows xs) (flat_map rows (put key new xs)) old_db new_db

-- if the agency's row had any version, it has the current one; the other tables keep their rows
pub record RaisesVersion (old new : Database) : Type 0 where
  pub schema : new.schema ≡ desk_schema
  pub rows : (version : ℕ) (policy : Policy) (last_trip : ℕ)
      → Rewrites desk_table (versioned_row version policy last_trip ∷ []) (desk_row policy last_trip ∷ []) old new
