-- What the parts of a statement do to its table: this schema has no actions of foreign keys.
use Rattle.std.proofs.Common.{◌≡◌, ◌⊎◌, inl, inr, ℕ, ◌==◌, Bool, true, false, List, [], ◌∷◌, ◌++◌, length, flat_map, Option, Some, None, Ok, Err, refl, sym, ap, subst}
use Rattle.std.specs.List.{filter_map}
use Rattle.sqlite.specs.Cast.{cast_row}
use Rattle.sqlite.specs.Edit.{Edit, edit_of, taken_by, put_all, without_all, edited}
use Rattle.sqlite.specs.Effect.{Answers, edit_error}
use Rattle.sqlite.specs.Order.{Row}
use Rattle.sqlite.specs.Rowids.TheVariants.{Given}
use Rattle.sqlite.specs.Rows.{Written, Task, Tries, Clears, Puts, Judged, Updates, Deletes, Edited, Meets, Upserts, shown}
use Rattle.sqlite.specs.Table.{Table}
use Rattle.sqlite.specs.Tree.{Trees, put_row, rowid}
use Rattle.sqlite.proofs.Callers.{one_step}
use Rattle.sqlite_rules.specs.Action.{Work, works, work_by, deed_for, pairs}
use Rattle.sqlite_rules.specs.Calls.{ids_of}
use Rattle.sqlite_rules.specs.Keys.{AreConflicts}
use Rattle.sqlite_rules.specs.declared.error.Refusal.{Refusal}
use Rattle.pt_tables_rows.specs.Conflict.TheVariants.{Abort}
use Rattle.pt_tables_rows.specs.Rules.{parent_key}
use Rattle.pt_tables_rows.specs.Program.{Program}
use Rattle.pt_tables_rows.specs.Keys.TheVariants.{Enforced}
use Rattle.pt_tables_rows.specs.Schema.{desk_schema}
use Rattle.pt_tables_rows.specs.Tables.{Others}
use Rattle.pt_tables_writing.proofs.InsertLemmas.{others_are}
use Rattle.pt_tables_rows.proofs.PartLemmas.{went, same_value}

-- what a step sets off that takes rows away, or that puts some too
abbrev set_off : ℕ → List (Row × Row) → Bool → List Work
set_off tree moves deletes =
    flat_map (λ child. filter_map (λ ref. work_by 0 tree moves child ref (deed_for Enforced deletes ref) (parent_key (desk_schema).tables ref)) child.references) (desk_schema).tables

none_set_off : (tree : ℕ) (moves : List (Row × Row)) (deletes : Bool) → set_off tree moves deletes ≡ []
unfolding desk_schema
none_set_off tree moves true = refl
none_set_off tree moves false = refl

-- no action of a foreign key is set off
quiet : (tree : ℕ) (olds news : List Row) → works desk_schema Enforced 0 tree olds news ≡ []
quiet tree olds news = none_set_off tree (pairs olds news) (length news == 0)

-- a step of a statement
pub stepped : (db next : Trees) (edit : Edit) → Edited desk_schema Enforced db edit (Ok next) → (next edit.table.tree ≡ edited db edit) × Others edit.table db next
stepped db next edit h =
    let all = one_step desk_schema Enforced db next edit (quiet edit.table.tree (taken_by db edit) edit.news) h in
    (all.rows, others_are edit.table db next all.tables)

-- a task on a table of this database
abbrev pub task_for : Option ℕ → Row → Table → Task
task_for limit params table = record { limit = limit; keys = Enforced; schema = desk_schema; table = table; params = params }

-- the tree of the table is this, and each other table is as it was
abbrev pub Makes : Table → List Row → Trees → Trees → Type 0
Makes table rows old new = (new table.tree ≡ rows) × Others table old new

module _ (limit : Option ℕ) (params : Row) (table : Table) where
  abbrev task : Task
  task = task_for limit params table

  -- one row is put
  pub puts_one : (new : Row) (db : Trees) (w : Written) → Puts task new db (Ok w) → Makes table (put_row (cast_row table new) (db table.tree)) db w.trees
  puts_one new db w h =
      let it = went h in
      let all = stepped db it.0 (edit_of db table [] Given 0 (new ∷ [])) it.1 in
      subst (Makes table (put_row (cast_row table new) (db table.tree)) db) (sym (ap (λ (x : Written). x.trees) (same_value it.2))) all

  -- an UPDATE replaces the rows with the rowids that its query returns
  pub updates_rows : (q : Program) (given : Row) (db : Trees) (w : Written) → Updates task q given db (Ok w)
      → (rows : List Row) × Answers (record { schema = desk_schema; trees = db }) q given rows
      × Makes table (put_all (without_all (db table.tree) (ids_of rows)) (edit_of db table (ids_of rows) Given 1 rows).news) db w.trees
  updates_rows q given db w h =
      let it = went h in
      let rest = went it.2 in
      let edit = edit_of db table (ids_of it.0) Given 1 it.0 in (
        it.0,
        it.1,
        subst (Makes table (put_all (without_all (db table.tree) (ids_of it.0)) edit.news) db) (sym (ap (λ (x : Written). x.trees) (same_value rest.2))) (stepped db rest.0 edit rest.1),
      )

  -- a DELETE removes the rows with the rowids that its query returns
  pub deletes_rows : (q : Program) (db : Trees) (w : Written) → Deletes task q db (Ok w)
      → (rows : List Row) × Answers (record { schema = desk_schema; trees = db }) q params rows × Makes table (without_all (db table.tree) (ids_of rows)) db w.trees
  deletes_rows q db w h =
      let it = went h in
      let rest = went it.2 in
      let edit = edit_of db table (ids_of it.0) Given 0 [] in (
        it.0,
        it.1,
        subst (Makes table (without_all (db table.tree) (ids_of it.0)) db) (sym (ap (λ (x : Written). x.trees) (same_value rest.2))) (stepped db rest.0 edit rest.1),
      )

  -- one row with ON CONFLICT .. DO UPDATE: it is put, or the row in conflict is updated
  abbrev pub PutsOrUpdates : Row → Trees → Written → Option (List ℕ) → Program → Type 0
  PutsOrUpdates new db w target q =
      Puts task new db (Ok w)
      ⊎ ((there : Row) × (more : List Row) × AreConflicts target (desk_schema).indexes table (db table.tree) new (there ∷ more) × Updates task q (params ++ rowid there ∷ shown table new) db (Ok w))

  pub upserts : (new : Row) (db : Trees) (w : Written) (target : Option (List ℕ)) (q : Program)
      → Tries task Abort (record { target = target; update = Some q } ∷ []) new db (Ok w)
      → PutsOrUpdates new db w target q
  upserts new db w target q (inl big) = absurd (let e = big.1 in cc)
  upserts new db w target q (inr tried) = judged tried.0 tried.2
    where
      cleared : (found : List Row) → Clears task Abort new db found (Ok w) → Puts task new db (Ok w)
      cleared [] h = h
      cleared (x ∷ more) h = h

      met : (found : List Row) → AreConflicts target (desk_schema).indexes table (db table.tree) new found
          → Meets task (Upserts task Abort new db []) new db (record { target = target; update = Some q }) found (Ok w) → PutsOrUpdates new db w target q
      met [] are h = inl (cleared h.0 h.2)
      met (there ∷ more) are h = inr (there, more, are, h)

      judged : (verdict : Option Refusal) → Judged task Abort (record { target = target; update = Some q } ∷ []) new db verdict (Ok w) → PutsOrUpdates new db w target q
      judged None h = met h.0 h.1 h.2
      judged (Some why) h = absurd (let e : Ok w ≡ Err (Some (edit_error why)) = h in cc)
