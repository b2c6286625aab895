-- What an INSERT of some rows makes of its table.
use Rattle.std.proofs.Common.{◌≡◌, ◌≢◌, ℕ, ◌/◌, ℤ, List, [], length, map, false, Option, Some, Ok, refl, sym, ap, subst, ◌∙◌}
use Rattle.std.specs.Prelude.{slice_get}
use Rattle.std.specs.List.{AllByRecursion}
use Rattle.sqlite.specs.Order.{Row}
use Rattle.sqlite.specs.Source.TheVariants.{Values}
use Rattle.sqlite.specs.Command.TheVariants.{Insert}
use Rattle.sqlite.specs.Cast.{cast_row}
use Rattle.sqlite.specs.Table.{Table}
use Rattle.sqlite.specs.Term.{Term}
use Rattle.sqlite.specs.Tree.{Trees}
use Rattle.sqlite.specs.Listing.{understood}
use Rattle.sqlite.specs.Effect.{Database, value_rows}
use Rattle.sqlite.specs.Rows.{Task, Written, stamped, rowids_for, Counts, Edited}
use Rattle.sqlite.specs.Edit.{numbered, edit_of, put_all}
use Rattle.sqlite.specs.Rowids.{Rowids}
use Rattle.sqlite.specs.Rowids.TheVariants.{Chosen}
use Rattle.sqlite.specs.State.{State, Executes}
use Rattle.sqlite.proofs.Callers.{IsPlain, command_of, one_step}
use Rattle.pt_tables_rows.specs.Keys.TheVariants.{Enforced}
use Rattle.sqlite_rules.specs.Action.{works}
use Rattle.pt_tables_rows.specs.Schema.{desk_schema, tables}
use Rattle.pt_tables_rows.specs.Tables.{Others}
use Rattle.pt_tables_rows.proofs.PartLemmas.{went, same_value}
use Rattle.pt_tables_writing.proofs.WriteLemmas.{Leaves, Wrote, task_on, inserted}

-- the text inserts these rows into this table, whose rows decide about their rowids
pub record IsInsert (text : List ℕ) (params : Row) (table : Table) (rows : List Row → List Row) : Type 0 where
  pub at : ℕ
  pub terms : List Term
  pub width : ℕ
  pub source : List Row
  pub there : slice_get tables at ≡ Some table
  pub is : command_of (understood desk_schema text) ≡ Insert at (Values terms width)
  pub plain : IsPlain (understood desk_schema text)
  pub uncounted : table.is_counted ≡ false
  pub values : value_rows (stamped table params) width (length terms / width) terms ≡ source
  pub news : (before : List Row) → numbered Chosen before (map (cast_row table) source) ≡ rows before
  pub quiet : (before : List Row) → works desk_schema Enforced 0 table.tree [] (rows before) ≡ []

pub others_are : (table : Table) (old new : Trees) → AllByRecursion (λ t. t.tree ≢ table.tree → new t.tree ≡ old t.tree) (desk_schema).tables → Others table old new
unfolding desk_schema
others_are table old new h = h

rowids_are : (table : Table) (top : ℤ) → table.is_counted ≡ false → rowids_for table top ≡ Chosen
rowids_are table top uncounted = rw uncounted refl

-- a step that puts rows
pub puts : (table : Table) (db next : Trees) (rows : List Row) (rowids : Rowids) (sources : List Row) → (edit_of db table [] rowids 0 sources).news ≡ rows
    → works desk_schema Enforced 0 table.tree [] rows ≡ []
    → Edited desk_schema Enforced db (edit_of db table [] rowids 0 sources) (Ok next)
    → (next table.tree ≡ put_all (db table.tree) rows) × Others table db next
puts table db next rows rowids sources news quiet h =
    let edit = edit_of db table [] rowids 0 sources in
    let all = one_step desk_schema Enforced db next edit (subst (λ ns. works desk_schema Enforced 0 table.tree [] ns ≡ []) (sym news) quiet) h in
    (all.rows ∙ ap (λ (ns : List Row). put_all (db table.tree) ns) news, others_are table db next all.tables)

-- nothing counts the rowids of the table
pub counts_none : (task : Task) (db last : Trees) (counter : Option Row) (top : ℤ) → task.table.is_counted ≡ false → Counts task db counter top (Ok last) → last ≡ db
counts_none task db last counter top uncounted h = same_value (rw uncounted at h)

module _ (text : List ℕ) (params : Row) (table : Table) (rows : List Row → List Row) (it : IsInsert text params table rows) (old new : State) where
  wrote : Wrote old new params table (Insert it.at (Values it.terms it.width)) → Leaves table (put_all (old.now.trees table.tree) (rows (old.now.trees table.tree))) old.now new.now
  wrote w =
      let db = old.now.trees in
      let given = went w.writes in
      let rows_are : given.0 ≡ it.source = given.1.1 ∙ it.values in
      let counted = went given.2 in
      let written = went counted.2 in
      let ended = went written.2 in
      let edited = subst (λ ids. Edited desk_schema Enforced db (edit_of db table [] ids 0 given.0) (Ok written.0)) (rowids_are table _ it.uncounted) written.1 in
      let edited_so = subst (λ sources. Edited desk_schema Enforced db (edit_of db table [] Chosen 0 sources) (Ok written.0)) rows_are edited in
      let made = puts table db written.0 (rows (db table.tree)) Chosen it.source (it.news (db table.tree)) (it.quiet (db table.tree)) edited_so in
      let uncounted : ended.0 ≡ written.0 = counts_none (task_on old params table) written.0 ended.0 counted.0 _ it.uncounted ended.1 in
      let trees : new.now.trees ≡ written.0 = ap (λ (d : Database). d.trees) w.now ∙ ap (λ (x : Written). x.trees) (same_value ended.2) ∙ uncounted in
      record {
        schema = ap (λ (d : Database). d.schema) w.now;
        rows = ap (λ (ts : Trees). ts table.tree) trees ∙ made.0;
        others = subst (λ ts. Others table db ts) (sym trees) made.1;
      }

  pub inserts : (count : ℕ) → old.now.schema ≡ desk_schema → Executes text params old new (Ok count)
      → Leaves table (put_all (old.now.trees table.tree) (rows (old.now.trees table.tree))) old.now new.now
  inserts count has h = wrote (inserted text params table it.at it.there it.plain old new count has h (Values it.terms it.width) it.is)
