-- What rows of a second table say of records that have one row each in their own.
use Rattle.std.specs.Prelude.{◌≡◌, ◌⊎◌, ℕ, List, [], ◌∷◌, map, flat_map, Option, None, Some}
use Rattle.std.specs.List.{AllByRecursion}
use Rattle.sqlite.specs.Order.{Row}
use Rattle.sqlite.specs.Table.{Table}
use Rattle.sqlite.specs.Tree.{Trees}
use Rattle.pt_base_records.specs.Records.{Each, Edit, IsInOrder}
use Rattle.pt_tables_opening.specs.Gathered.{PutsInOrder}
use Rattle.pt_tables_rows.specs.Tables.{AreRows}

-- this record, with no row in the second table
pub record IsAlone {A : Type 0} (row_of : A → Row) (beside_of : A → List Row) (Fits : A → Type 0) (known alone : A) :
    Type 0 where
  pub same : row_of alone ≡ row_of known
  pub none : beside_of alone ≡ []
  pub fits : Fits alone

-- a record has at most one row in the second table, and both of its rows have its key
pub record AreBeside {A : Type 0} (key : A → ℕ) (row_of : A → Row) (beside_of : A → List Row) : Type 0 where
  pub key_in : Row → ℕ
  pub one : (x : A) → (beside_of x ≡ []) ⊎ (row : Row) × (beside_of x ≡ row ∷ [])
  pub keyed : (x : A) → AllByRecursion (λ row. key_in row ≡ key x) (beside_of x)
  pub row_keyed : (x : A) → key_in (row_of x) ≡ key x

-- the records with the own rows of `known` and these rows in the second table, or None if no records in order have both
abbrev pub TellsBeside : {A : Type 0} → (A → ℕ) → (A → Row) → (A → List Row) → (A → Type 0) → List A → List Row
    → Option (Edit A) → Type 0
TellsBeside key row_of beside_of Fits known rows (Some edit) =
    PutsInOrder key edit × (map row_of edit.puts ≡ map row_of known) × (flat_map beside_of edit.puts ≡ rows)
    × Each Fits edit.puts
TellsBeside key row_of beside_of Fits known rows None =
    (xs : List _) → Each Fits xs → IsInOrder key xs → map row_of xs ≡ map row_of known
    → flat_map beside_of xs ≡ rows → ⊥

-- no records in the order of their keys have the rows of both tables
abbrev pub NoneBeside : {A : Type 0} → (A → ℕ) → Table → Table → (A → Row) → (A → List Row) → (A → Type 0) → Trees
    → Type 0
NoneBeside {A} key home second row_of beside_of Fits trees =
    (xs : List A) → Each Fits xs → IsInOrder key xs → AreRows home trees (map row_of xs)
    → AreRows second trees (flat_map beside_of xs) → ⊥
