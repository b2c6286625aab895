-- The schemas of all versions are plain, so they can be compared field by field.
use Rattle.std.proofs.Common.{◌≡◌, ◌∙◌, ◌↔◌, ℕ, List, [], ◌∷◌, map, drop, get_or, Bool, IsTrue, refl, sym, ap, subst}
use Rattle.std.proofs.Common.{Result, Ok, Err, IfOk, ◌≤◌, false, true, arith}
use Rattle.std.specs.List.{AllByRecursion}
use Rattle.sqlite.specs.Effect.{Database}
use Rattle.sqlite.specs.Held.{Held, state}
use Rattle.sqlite.specs.Schema.{Schema}
use Rattle.sqlite.specs.State.{State as Connected, HasCleanDisk, KeepsCommit, Shows}
use Rattle.sqlite.specs.Store.{Ghosts}
use Rattle.sqlite.specs.Table.{Table}
use Rattle.sqlite.specs.declared.types.Value.TheVariants.{Null}
use Rattle.sqlite_schema.specs.declared.schema.Column.{Column}
use Rattle.pt_desk_rules.specs.declared.table_name.TableName.{TableName}
use Rattle.pt_desk_rules.specs.declared.table_name.TableName.TheVariants as name
use Rattle.pt_tables_opening.specs.Plain.{IsPlainColumn, IsPlainTable, IsPlainSchema, no_stamps}
use Rattle.pt_tables_rows.specs.Schema.{table_version, table_in, names_of, schema_of, desk_schema, no_schema}
use Rattle.pt_tables_rows.specs.Tables.{AddsVersions}

-- with no default
abbrev bare_column : Column → Column
bare_column column = record column { default = Null }

-- with no default and no CHECK
abbrev bare_table : Table → Table
bare_table table = record table { columns = map bare_column table.columns; checks = []; stamps = no_stamps }

plain_columns : (columns : List Column) → map bare_column columns ≡ columns → AllByRecursion IsPlainColumn columns
plain_columns [] same = tt
plain_columns (column ∷ columns) same = (sym (ap (λ (l : List Column). (get_or l 0 column).default) same), plain_columns columns (ap (drop 1) same))

plain_table : (table : Table) → bare_table table ≡ table → IsPlainTable table
plain_table table same = record {
  columns = plain_columns table.columns (ap (λ (t : Table). t.columns) same);
  checks = sym (ap (λ (t : Table). t.checks) same);
  stamps = sym (ap (λ (t : Table). t.stamps) same);
}

bare_in : (t : TableName) → bare_table (table_in t) ≡ table_in t
bare_in name.Desk = refl
bare_in _ = refl

plain_named : (ts : List TableName) → AllByRecursion IsPlainTable (map table_in ts)
plain_named [] = tt
plain_named (t ∷ ts) = (plain_table (table_in t) (bare_in t), plain_named ts)

pub schema_plain : (version : ℕ) → IsPlainSchema (schema_of version)
unfolding schema_of
schema_plain version = record { tables = plain_named (names_of version); views = refl }

desk_schema_is : schema_of table_version ≡ desk_schema
unfolding desk_schema
desk_schema_is = refl

-- a schema that was made as a plain one
module _ (made plain : Schema) (is : made ≡ plain) where
  pub made_plain : IsPlainSchema plain → IsPlainSchema made
  made_plain h = subst IsPlainSchema (sym is) h

  pub same_as : (schema : Schema) (same : Bool) → (IsTrue same ↔ (schema ≡ made)) → (IsTrue same ↔ (schema ≡ plain))
  same_as schema same h = subst (λ s. IsTrue same ↔ (schema ≡ s)) is h

-- what is said of the last version is said of the desk's schema
pub desk_so : {E : Type 0} (schema : Schema) (result : Result Bool E) → IfOk result (λ is. IsTrue is ↔ (schema ≡ schema_of table_version)) → IfOk result (λ is. IsTrue is ↔ (schema ≡ desk_schema))
desk_so schema (Ok is) h = subst (λ s. IsTrue is ↔ (schema ≡ s)) desk_schema_is h
desk_so schema (Err e) h = tt

-- ---- a schema that was made in memory

nothing_is : no_schema ≡ schema_of 0
unfolding schema_of
nothing_is = refl

module _ {S : Type 0} (g : Ghosts S) (version : ℕ) (old begun one : Held S) (is : begun ≡ record old { in_transaction = true }) (blank : old.schema ≡ no_schema) (known : version ≤ table_version)
    (added : HasCleanDisk (state g one) → IsTrue begun.in_transaction
    → KeepsCommit (state g begun) (state g one) × IsTrue one.in_transaction
    × (0 ≤ version → version ≤ table_version → (state g begun).now.schema ≡ schema_of 0 → AddsVersions 0 version (state g begun).now (state g one).now)) where
  -- once it is committed
  pub made_schema : HasCleanDisk (state g one) → (end : Connected) → Shows (state g one) end (state g one).now (state g one).now false → end.now.schema ≡ schema_of version
  made_schema clean end shows =
      let inside : IsTrue begun.in_transaction = subst (λ (h : Held S). IsTrue h.in_transaction) (sym is) refl in
      let none : begun.schema ≡ schema_of 0 = ap (λ (h : Held S). h.schema) is ∙ blank ∙ nothing_is in
      let adds = (added clean inside).2 (omega arith) known none in
      ap (λ (d : Database). d.schema) shows.now_is ∙ adds.schema
