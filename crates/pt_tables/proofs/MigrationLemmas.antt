-- The tables of an earlier version as a transaction changes them into the current ones, and what a crash leaves.
use Rattle.std.proofs.Common.{◌≡◌, ◌≢◌, ◌≤◌, ℕ, List, [], ◌∷◌, map, IsPermutation, IsTrue, true, false, refl, sym, ap, subst, ◌∙◌, arith}
use Rattle.std.specs.List.{AllByRecursion}
use Rattle.sqlite.specs.Store.{Ghosts}
use Rattle.sqlite.specs.Held.{Held, state}
use Rattle.sqlite.specs.Order.{Row}
use Rattle.sqlite.specs.Schema.{Schema}
use Rattle.sqlite.specs.Effect.{Database, IsDatabase}
use Rattle.sqlite.specs.State.{State as Connected, KeepsCommit, HasCleanDisk, Survives, Shows}
use Rattle.sqlite.specs.Table.{Table}
use Rattle.sqlite.specs.Tree.{Trees}
use Rattle.sqlite.proofs.Callers.{survives_begin}
use Rattle.sqlite.proofs.StateLemmas.{survives_then}
use Rattle.sqlite_trees.proofs.ListLemmas.{all_both}
use Rattle.pt_tables_keeper.specs.State.{State}
use Rattle.pt_tables_keeper.specs.TableName.{TableName}
use Rattle.pt_tables_keeper.specs.TableName.TheVariants as name
use Rattle.pt_tables.specs.Migration.{IsMigrated, IsMigratedDesk, IsMigratedFrom, IsRaised}
use Rattle.pt_tables_opening.specs.Opening.{IsEarlierVersion}
use Rattle.pt_tables_rows.specs.Rows.{desk_row, versioned_row, versioned_rows, rows_in}
use Rattle.pt_tables_rows.specs.Schema.{IsEarlier, table_version, table_in, names_of, names_between, schema_of, desk_schema, desk_table}
use Rattle.pt_tables_rows.proofs.CreateLemmas.{names_split, none_there, of_all}
use Rattle.pt_tables_rows.proofs.NameLemmas.{all_mapped, other_at}
use Rattle.pt_tables_rows.proofs.SameRowsLists.{all_front}
use Rattle.pt_tables_rows.specs.Tables.{AddsVersions, AreRows, HasRows, HasRowsOf, columns_of}
use Rattle.pt_tables_writing.specs.Writes.{Rewrites, RaisesVersion}
use Rattle.pt_tables_writing.proofs.RaiseWrites.{row_holds}

-- a table that keeps its rows has the rows of the same records
still : (t : Table) (old new : Trees) (rows : List Row) → new t.tree ≡ old t.tree → AreRows t old rows → AreRows t new rows
still t old new rows same are = subst (λ rs. IsPermutation (map (columns_of t) rs) rows) (sym same) are

module _ (version : ℕ) (early : IsEarlier version) (old mid new : Database) (adds : AddsVersions version table_version old mid) (raises : RaisesVersion mid new)
    (content : State) (was : HasRowsOf version content old.trees) where
  raised : Rewrites desk_table (versioned_row version content.policy content.last_trip ∷ []) (desk_row content.policy content.last_trip ∷ []) mid new
  raised = raises.rows version content.policy content.last_trip

  -- what a table had, and that it keeps it
  abbrev Had : TableName → Type 0
  Had t = AreRows (table_in t) old.trees (versioned_rows version t content)

  abbrev Keeps : TableName → Type 0
  Keeps t = mid.trees (table_in t).tree ≡ old.trees (table_in t).tree

  kept : AllByRecursion Keeps (names_of version)
  kept = all_mapped (λ t. mid.trees t.tree ≡ old.trees t.tree) table_in (names_of version) adds.kept

  -- the agency's table is the first of each version
  at_first : (P : TableName → Type 0) → AllByRecursion P (names_of version) → P name.Desk
  at_first P all = (all_front P (names_of 1) (names_between 1 version) (subst (AllByRecursion P) (names_split 1 version early.0) all)).0

  agency_there : AreRows desk_table mid.trees (versioned_row version content.policy content.last_trip ∷ [])
  agency_there = still desk_table old.trees mid.trees _ (at_first Keeps kept) (at_first Had was.rows)

  -- only the agency's row has a version
  same_row : (t : TableName) → t ≢ name.Desk → versioned_rows version t content ≡ rows_in t content
  same_row name.Desk other = absurd (other refl)
  same_row _ other = refl

  -- before the version is raised, the other tables have the rows of the content
  abbrev Has : TableName → Type 0
  Has t = t ≢ name.Desk → AreRows (table_in t) mid.trees (rows_in t content)

  others_kept : AllByRecursion Has (names_of version)
  others_kept =
      all_both Had Keeps Has (λ t are same other. subst (AreRows (table_in t) mid.trees) (same_row t other) (still (table_in t) old.trees mid.trees _ same are))
      (names_of version) was.rows kept

  others_added : AllByRecursion Has (names_between version table_version)
  others_added =
      all_both (λ t. rows_in t content ≡ []) (λ t. mid.trees (table_in t).tree ≡ []) Has
      (λ t none empty other. none_there (table_in t) mid.trees (rows_in t content) empty none) (names_between version table_version) was.none
      (all_mapped (λ t. mid.trees t.tree ≡ []) table_in (names_between version table_version) adds.added)

  pub rows_raised : HasRows content new.trees
  rows_raised name.Desk = (raised.rows (row_holds version content.policy content.last_trip mid.trees agency_there)).rows
  rows_raised t =
      still (table_in t) mid.trees new.trees (rows_in t content) (other_at desk_table mid.trees new.trees raised.others t (λ e. cc))
      (of_all Has version (omega (arith, early.1)) others_kept others_added t (λ e. cc))

version_is : schema_of table_version ≡ desk_schema
unfolding desk_schema
version_is = refl

module _ {S : Type 0} (g : Ghosts S) (version : ℕ) (early : IsEarlier version) (old begun one two : Held S) (is : begun ≡ record old { in_transaction = true })
    (added_survives : Survives (state g begun) (state g one) (λ _. ⊥)) (raised_survives : Survives (state g one) (state g two) (λ _. ⊥))
    (added : HasCleanDisk (state g one) → IsTrue begun.in_transaction
    → KeepsCommit (state g begun) (state g one) × IsTrue one.in_transaction
    × (version ≤ table_version → table_version ≤ table_version → (state g begun).now.schema ≡ schema_of version → AddsVersions version table_version (state g begun).now (state g one).now))
    (raised : HasCleanDisk (state g two) → IsTrue one.in_transaction
    → KeepsCommit (state g one) (state g two) × IsTrue two.in_transaction × ((state g one).now.schema ≡ desk_schema → RaisesVersion (state g one).now (state g two).now))
    (sound : HasCleanDisk (state g two) → IsTrue one.in_transaction → (state g one).now.schema ≡ desk_schema → IsDatabase (state g two).now) where
  record Turned : Type 0 where
    adds : AddsVersions version table_version (state g begun).now (state g one).now
    raises : RaisesVersion (state g one).now (state g two).now
    is_database : IsDatabase (state g two).now

  now_same : (state g begun).now ≡ (state g old).now
  now_same = ap (λ (h : Held S). (state g h).now) is

  turned : HasCleanDisk (state g two) → (state g old).now.schema ≡ schema_of version → Turned
  turned clean has =
      let clean_one : HasCleanDisk (state g one) = omega (arith, raised_survives.clean) in
      let inside : IsTrue begun.in_transaction = subst (λ (h : Held S). IsTrue h.in_transaction) (sym is) refl in
      let first = added clean_one inside in
      let second = raised clean first.1 in
      let adds = first.2 (omega (arith, early.1)) (omega arith) (ap (λ (d : Database). d.schema) now_same ∙ has) in
      let current = adds.schema ∙ version_is in
      record { adds = adds; raises = second.2 current; is_database = sound clean first.1 current }

  schema_is : HasCleanDisk (state g two) → (state g old).now.schema ≡ schema_of version → (state g two).now.schema ≡ desk_schema
  schema_is clean has =
      (turned clean has).raises.schema

  desk_there : HasCleanDisk (state g two) → (state g old).now.schema ≡ schema_of version → IsMigratedDesk version (state g old) (state g two).now.trees
  desk_there clean has =
      let it = turned clean has in
      record {
        tables = subst (λ (s : Schema). IsDatabase (record { schema = s; trees = (state g two).now.trees })) (schema_is clean has) it.is_database;
        rows = λ content was.
            rows_raised version early (state g begun).now (state g one).now (state g two).now it.adds it.raises content
            (subst (λ (d : Database). HasRowsOf version content d.trees) (sym now_same) was);
      }

  -- once it is committed
  pub is_raised : (end : Connected) → HasCleanDisk (state g two) → Shows (state g two) end (state g two).now (state g two).now false → IsRaised version (state g old) end
  is_raised end clean shows = record {
    is_open = shows.is_open;
    committed = shows.committed_is ∙ sym shows.now_is;
    schema = λ has. ap (λ (d : Database). d.schema) shows.now_is ∙ schema_is clean has;
    desk = λ has. subst (λ (d : Database). IsMigratedDesk version (state g old) d.trees) (sym shows.now_is) (desk_there clean has);
  }

  -- a crash leaves what was there before, or these rows
  pub survive : (end : Connected) → Survives (state g two) end (λ db. db ≡ (state g two).now.trees)
      → Survives (state g old) end (λ db. (state g old).now.schema ≡ schema_of version → IsMigratedDesk version (state g old) db)
  survive end last =
      let inside = survives_then (state g begun) (state g one) (state g two) (λ _. ⊥) (λ _. ⊥) (λ _. ⊥) (λ _ db nothing. nothing) (λ _ db nothing. nothing) added_survives raised_survives in
      let from = survives_begin g old (state g two) (λ _. ⊥) (subst (λ h. Survives (state g h) (state g two) (λ _. ⊥)) is inside) in
      survives_then (state g old) (state g two) end (λ _. ⊥) (λ db. db ≡ (state g two).now.trees)
      (λ db. (state g old).now.schema ≡ schema_of version → IsMigratedDesk version (state g old) db) (λ _ db nothing. absurd nothing)
      (λ clean db same has. subst (IsMigratedDesk version (state g old)) (sym same) (desk_there (omega (arith, clean, last.clean)) has)) from last

-- ---- after a read of the version

module _ (version : ℕ) (old mid new : Connected) (same : mid.now ≡ old.now) where
  schema_same : old.now.schema ≡ schema_of version → mid.now.schema ≡ schema_of version
  schema_same has = ap (λ (d : Database). d.schema) same ∙ has

  migrated_desk : (trees : Trees) → IsMigratedDesk version mid trees → IsMigratedDesk version old trees
  migrated_desk trees desk = record {
    tables = desk.tables;
    rows = λ content was. desk.rows content (subst (λ (d : Database). HasRowsOf version content d.trees) (sym same) was);
  }

  pub is_migrated : IsEarlierVersion version old.now → IsRaised version mid new → IsMigrated old new
  is_migrated was raised = record {
    version = version;
    was = was;
    raised = record {
      is_open = raised.is_open;
      committed = raised.committed;
      schema = λ has. raised.schema (schema_same has);
      desk = λ has. migrated_desk new.now.trees (raised.desk (schema_same has));
    };
  }

pub survive_read : (version : ℕ) (old mid new : Connected) → (HasCleanDisk mid → mid.now ≡ old.now) → (HasCleanDisk mid → IsEarlierVersion version old.now) → Survives old mid (λ _. ⊥)
    → Survives mid new (λ db. mid.now.schema ≡ schema_of version → IsMigratedDesk version mid db) → Survives old new (IsMigratedFrom old)
survive_read version old mid new same earlier read raised =
    survives_then old mid new (λ _. ⊥) (λ db. mid.now.schema ≡ schema_of version → IsMigratedDesk version mid db) (IsMigratedFrom old) (λ _ db nothing. absurd nothing)
    (λ clean db desk.
    let early : HasCleanDisk mid = omega (arith, clean, raised.clean) in
    let was = earlier early in
    (version, was, migrated_desk version old mid new (same early) db (desk (schema_same version old mid new (same early) was.schema)))) read raised
