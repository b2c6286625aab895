-- What holds of all tables holds of each, and the other way round. Also the rows of records that have one.
use Rattle.std.proofs.Common.{◌≡◌, ◌-◌, ◌≢◌, ℕ, zero, suc, List, [], ◌∷◌, drop, map, flat_map, refl, subst}
use Rattle.std.specs.List.{AllByRecursion}
use Rattle.std.proofs.lemmas.List.Concat.{flat_map_single}
use Rattle.sqlite.specs.Order.{Row}
use Rattle.sqlite.specs.Table.{Table}
use Rattle.sqlite.specs.Tree.{Trees}
use Rattle.pt_desk_rules.specs.TableNames.{all_tables, number_of}
use Rattle.pt_desk_rules.specs.declared.table_name.TableName.{TableName}
use Rattle.pt_desk_rules.specs.declared.table_name.TableName.TheVariants as name
use Rattle.pt_tables_rows.specs.Schema.{table_in}
use Rattle.pt_tables_rows.specs.Rows.{one_row}
use Rattle.pt_tables_rows.specs.Tables.{AreRows, Others}

pub all_from : {A : Type 0} (P : A → Type 0) → ((x : A) → P x) → (xs : List A) → AllByRecursion P xs
all_from P holds [] = tt
all_from P holds (x ∷ xs) = (holds x, all_from P holds xs)

-- what holds of values holds of what they are made from
pub all_mapped : {A B : Type 0} (P : B → Type 0) (f : A → B) (xs : List A) → AllByRecursion P (map f xs) → AllByRecursion (λ x. P (f x)) xs
all_mapped P f [] all = tt
all_mapped P f (x ∷ xs) all = (all.0, all_mapped P f xs all.1)

dropped : {A : Type 0} (P : A → Type 0) (n : ℕ) (xs : List A) → AllByRecursion P xs → AllByRecursion P (drop n xs)
dropped P zero [] all = tt
dropped P zero (x ∷ xs) all = all
dropped P (suc n) [] all = tt
dropped P (suc n) (x ∷ xs) all = dropped P n xs all.1

from_table : (t : TableName) → drop (number_of t - 1) all_tables ≡ t ∷ drop (number_of t) all_tables
from_table name.Desk = refl
from_table _ = refl

-- what holds of all tables holds of this one
pub at_table : (P : TableName → Type 0) → AllByRecursion P all_tables → (t : TableName) → P t
at_table P all t = (subst (AllByRecursion P) (from_table t) (dropped P (number_of t - 1) all_tables all)).0

-- a table of another tree keeps its rows
pub other_at : (table : Table) (old new : Trees) → Others table old new → (t : TableName) → (table_in t).tree ≢ table.tree → new (table_in t).tree ≡ old (table_in t).tree
other_at table old new others = at_table (λ t. (table_in t).tree ≢ table.tree → new (table_in t).tree ≡ old (table_in t).tree) others

-- ---- records of one row each

pub as_map : {A : Type 0} (table : Table) (row : A → Row) (xs : List A) (trees : Trees) → AreRows table trees (flat_map (one_row row) xs) → AreRows table trees (map row xs)
as_map table row xs trees are = subst (AreRows table trees) (flat_map_single row xs) are
