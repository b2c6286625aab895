-- What an INSERT of one row does to its table when it replaces the row with the same number.
use Rattle.std.proofs.Common.{◌≡◌, ◌⊎◌, inl, inr, ℕ, ◌/◌, ℤ, List, [], ◌∷◌, ◌++◌, length, filter, drop, cond, Bool, true, false, ◌&&◌, ◌||◌, Option, None, Some, Ok, refl, sym, ap, subst, ◌∙◌}
use Rattle.std.specs.List.{AllByRecursion}
use Rattle.std.specs.Ordering.{is_eq}
use Rattle.std.specs.Prelude.{slice_get}
use Rattle.sqlite.specs.Cast.{cast_row}
use Rattle.sqlite.specs.Collation.TheVariants.{Binary}
use Rattle.sqlite.specs.Command.{Command}
use Rattle.sqlite.specs.Command.TheVariants.{InsertOr}
use Rattle.sqlite.specs.Does.{Does}
use Rattle.sqlite.specs.Edit.{edit_of, put_all, without_all, with_rowid, next_rowid, id_in}
use Rattle.sqlite.specs.Effect.{IsDatabase, Database, value_rows}
use Rattle.sqlite.specs.Listing.{understood}
use Rattle.sqlite.specs.Order.{Row, column, value_cmp}
use Rattle.sqlite.specs.Rowids.TheVariants.{Given}
use Rattle.sqlite.specs.Rows.{Written, Tries, TriesEach, Updates, stamped, rowids_for, nothing, count_of, shown}
use Rattle.sqlite.specs.Source.TheVariants.{Values}
use Rattle.sqlite.specs.State.{State, Writes, mode_of, Executes}
use Rattle.sqlite.specs.Table.{Table}
use Rattle.sqlite.specs.Term.{Term, eval_all}
use Rattle.sqlite.specs.Tree.{Trees, rowid, has_rowid, put_row, without_rowid, IsTable}
use Rattle.sqlite.specs.declared.types.Value.{Value}
use Rattle.sqlite.specs.declared.types.Value.TheVariants.{Null, Int, Real, Text, Blob}
use Rattle.sqlite.proofs.Callers.{IsPlain, command_of, statement_of, runs_as}
use Rattle.sqlite_keyed.proofs.KeyedLemmas.{same_int}
use Rattle.sqlite_keyed.proofs.ListLemmas.{all-filter}
use Rattle.sqlite_rules.specs.Calls.{ids_of}
use Rattle.sqlite_rules.specs.Keys.{conflicts, AreConflicts}
use Rattle.sqlite_rules.specs.Lists.{Has}
use Rattle.pt_tables_rows.specs.Rules.{equal}
use Rattle.pt_tables_rows.specs.Conflict.TheVariants.{Abort}
use Rattle.pt_tables_rows.specs.Upsert.{Upsert}
use Rattle.sqlite.specs.Ops.{is_null}
use Rattle.sqlite_trees.specs.View.{is_int}
use Rattle.sqlite_value.proofs.OrderLemmas.{value_cmp-Int}
use Rattle.pt_tables_rows.specs.Schema.{desk_schema, tables}
use Rattle.pt_tables_rows.specs.Tables.{Others}
use Rattle.pt_tables_writing.proofs.EditLemmas.{task_for, PutsOrUpdates, puts_one, updates_rows, upserts}
use Rattle.pt_tables_writing.proofs.InsertLemmas.{counts_none}
use Rattle.pt_tables_writing.proofs.NumberedLemmas.{one_or_none, found_there}
use Rattle.pt_tables_rows.proofs.NumberQueries.{number_program, number_test, answers_one}
use Rattle.pt_tables_rows.proofs.PartLemmas.{went, same_value}
use Rattle.pt_tables_writing.proofs.WriteLemmas.{Wrote, task_on, placed}

-- ON CONFLICT (the number) DO UPDATE, to these fields of the row whose number is at a place of what is given
abbrev pub by_number : ℕ → ℕ → List Term → Upsert
by_number tree place fields = record { target = Some (0 ∷ []); update = Some (number_program tree place fields) }

-- the text inserts this row with this number into the table, or updates to it the row that has the number
pub record IsUpsert (text : List ℕ) (params : Row) (table : Table) (id : ℤ) (stored : Row) : Type 0 where
  pub at : ℕ
  pub terms : List Term
  pub width : ℕ
  pub place : ℕ
  pub fields : List Term
  pub there : slice_get tables at ≡ Some table
  pub is : command_of (understood desk_schema text) ≡ InsertOr at Abort (Values terms width) (by_number table.tree place fields ∷ [])
  pub plain : IsPlain (understood desk_schema text)
  pub uncounted : table.is_counted ≡ false
  pub values : value_rows (stamped table params) width (length terms / width) terms ≡ stored ∷ []
  pub cast : cast_row table stored ≡ stored
  pub keyed : rowid stored ≡ Int id
  pub alone : (r : Row) → conflicts (Some (0 ∷ [])) (desk_schema).indexes table stored r ≡ true → equal Binary (rowid r) (rowid stored) ≡ true
  pub asks : column (params ++ Int id ∷ shown table stored) place ≡ Int id
  pub shows : (r : Row) → rowid r ≡ Int id → rowid (eval_all fields ((params ++ Int id ∷ shown table stored) ∷ r ∷ [])) ≡ Int id
  pub changes : (r : Row) → rowid r ≡ Int id → drop 1 (eval_all fields ((params ++ Int id ∷ shown table stored) ∷ r ∷ [])) ≡ stored

-- each rowid is an integer
abbrev pub HasNumbers : List Row → Type 0
HasNumbers = AllByRecursion (λ r. is_int (rowid r) ≡ true)

-- the row is put, and the row that had its number is gone
abbrev pub PutsIn : ℤ → Row → List Row → List Row → Type 0
PutsIn id stored before after =
    IsTable before → HasNumbers before → (after ≡ put_row stored before) ⊎ (after ≡ put_row stored (without_rowid id before))

-- an integer that compares as a rowid is the rowid
pub int_is : (v : Value) (id : ℤ) → is_int v ≡ true → is_eq (value_cmp v (Int id)) ≡ true → v ≡ Int id
int_is Null id is same = cc
int_is (Int n) id is same = ap (λ k. Int k) (same_int n id (sym (ap is_eq (value_cmp-Int n id)) ∙ same))
int_is (Real x) id is same = cc
int_is (Text t) id is same = cc
int_is (Blob b) id is same = cc

pub number_there : (rows : List Row) (r : Row) → Has rows r → HasNumbers rows → is_int (rowid r) ≡ true
number_there [] r none numbers = elim none [ ]
number_there (x ∷ rows) r (inl same) numbers = ap (λ y. is_int (rowid y)) same ∙ numbers.0
number_there (x ∷ rows) r (inr later) numbers = number_there rows r later numbers.1

-- the one row with a number has it
pub number_found : (id : ℤ) (rows : List Row) (r : Row) → filter (has_rowid id) rows ≡ r ∷ [] → has_rowid id r ≡ true → HasNumbers rows → rowid r ≡ Int id
number_found id rows r one has numbers =
    let all = subst HasNumbers one (all-filter (λ x. is_int (rowid x) ≡ true) (has_rowid id) rows numbers) in
    int_is (rowid r) id all.0 has

rowids_are : (table : Table) (top : ℤ) (rows : List Row) (stored : Row) (id : ℤ) → rowid stored ≡ Int id → table.is_counted ≡ false → with_rowid (rowids_for table top) rows stored ≡ stored
rowids_are table top rows stored id keyed uncounted = rw uncounted (ap (λ v. cond (is_null v) (Int (next_rowid rows) ∷ drop 1 stored) stored) keyed)

module _ (text : List ℕ) (params : Row) (table : Table) (id : ℤ) (stored : Row) (it : IsUpsert text params table id stored) (limit : Option ℕ) (db : Trees) where
  -- the row in conflict has its number
  conflict_is : (there : Row) (more : List Row) → AreConflicts (Some (0 ∷ [])) (desk_schema).indexes table (db table.tree) stored (there ∷ more) → HasNumbers (db table.tree)
      → (rowid there ≡ Int id) × (filter (has_rowid id) (db table.tree) ≡ [] → ⊥)
  conflict_is there more are numbers =
      let found = are.sound there (inl refl) in
      let same : equal Binary (rowid found.0) (Int id) ≡ true = ap (equal Binary (rowid found.0)) (sym it.keyed) ∙ it.alone found.0 found.2 in
      let has : has_rowid id found.0 ≡ true = sym (number_test (rowid found.0) id) ∙ same in
      let is : rowid found.0 ≡ Int id = int_is (rowid found.0) id (number_there (db table.tree) found.0 found.1 numbers) has in
      (ap rowid found.3 ∙ is, found_there id (db table.tree) found.0 found.1 has)

  abbrev updated_row : Row → Row
  updated_row r = eval_all it.fields ((params ++ Int id ∷ shown table stored) ∷ r ∷ [])

  -- a row with this number is updated to the stored one
  changed : (r : Row) → rowid r ≡ Int id
      → put_all (without_all (db table.tree) (ids_of (updated_row r ∷ [])))
      (edit_of db table (ids_of (updated_row r ∷ [])) Given 1 (updated_row r ∷ [])).news ≡ put_row stored
      (without_rowid id (db table.tree))
  changed r is =
      ap (λ v. put_row (cast_row table (drop 1 (updated_row r))) (without_rowid (id_in v) (db table.tree))) (it.shows r is)
      ∙ ap (λ new. put_row new (without_rowid id (db table.tree))) (ap (cast_row table) (it.changes r is) ∙ it.cast)

  updated : (w : Written) (there : Row) (more : List Row) → AreConflicts (Some (0 ∷ [])) (desk_schema).indexes table (db table.tree) stored (there ∷ more)
      → Updates (task_for limit params table) (number_program table.tree it.place it.fields) (params ++ rowid there ∷ shown table stored) db (Ok w)
      → PutsIn id stored (db table.tree) (w.trees table.tree) × Others table db w.trees
  updated w there more are h =
      let q = number_program table.tree it.place it.fields in (
        λ up numbers.
            let met = conflict_is there more are numbers in
            let given : Row = params ++ Int id ∷ shown table stored in
            let u = updates_rows limit params table q given db w (subst (λ v. Updates (task_for limit params table) q (params ++ v ∷ shown table stored) db (Ok w)) met.0 h) in
            elim (one_or_none id (db table.tree) up) [
              | inl none ↦ absurd (met.1 none.0)
              | inr one ↦
                  let is : rowid one.0 ≡ Int id = number_found id (db table.tree) one.0 one.1 one.2 numbers in
                  let rows : u.0 ≡ updated_row one.0 ∷ [] = answers_one table.tree it.place it.fields db given id it.asks u.0 (u.1.answer Null) one.0 one.1 in
                  inr (u.2.0 ∙ ap (λ rs. put_all (without_all (db table.tree) (ids_of rs)) (edit_of db table (ids_of rs) Given 1 rs).news) rows ∙ changed one.0 is)
            ],
        (updates_rows limit params table q (params ++ rowid there ∷ shown table stored) db w h).2.1,
      )

  put_or_updated : (w : Written) → PutsOrUpdates limit params table stored db w (Some (0 ∷ [])) (number_program table.tree it.place it.fields)
      → PutsIn id stored (db table.tree) (w.trees table.tree) × Others table db w.trees
  put_or_updated w (inl puts) =
      let all = puts_one limit params table stored db w puts in
      (λ up numbers. inl (all.0 ∙ ap (λ r. put_row r (db table.tree)) it.cast), all.1)
  put_or_updated w (inr meets) = updated w meets.0 meets.1 meets.2 meets.3

-- the row replaces the one with its number in the table, and each other table is as it was
pub record PutsNumbered (table : Table) (id : ℤ) (stored : Row) (old new : Database) : Type 0 where
  pub schema : new.schema ≡ desk_schema
  pub rows : PutsIn id stored (old.trees table.tree) (new.trees table.tree)
  pub others : Others table old.trees new.trees

module _ (text : List ℕ) (params : Row) (table : Table) (id : ℤ) (stored : Row) (it : IsUpsert text params table id stored) (old new : State) where
  abbrev clauses : List Upsert
  clauses = by_number table.tree it.place it.fields ∷ []

  abbrev command : Command
  command = InsertOr it.at Abort (Values it.terms it.width) clauses

  wrote_one : Wrote old new params table command → PutsNumbered table id stored old.now new.now
  wrote_one w =
      let db = old.now.trees in
      let task = task_on old params table in
      let given = went w.writes in
      let rows_are : given.0 ≡ stored ∷ [] = given.1.1 ∙ it.values in
      let counted = went given.2 in
      let tried = went counted.2 in
      let ended = went tried.2 in
      let top = count_of counted.0 in
      let each = went (subst (λ rows. TriesEach task Abort clauses rows top (nothing db) (Ok tried.0)) rows_are tried.1) in
      let new_is : with_rowid (rowids_for table top) (db table.tree) (cast_row table stored) ≡ stored = ap
      (with_rowid (rowids_for table top) (db table.tree)) it.cast
      ∙ rowids_are table top (db table.tree) stored id it.keyed it.uncounted in
      let one = upserts old.step_limit params table stored db each.0 (Some (0 ∷ []))
      (number_program table.tree it.place it.fields) (subst (λ r. Tries task Abort clauses r db (Ok each.0))
      new_is each.1) in
      let made = put_or_updated text params table id stored it old.step_limit db each.0 one in
      let after : tried.0.0.trees ≡ each.0.trees = ap (λ (p : Written × ℤ). p.0.trees) (same_value each.2) in
      let uncounted : ended.0 ≡ tried.0.0.trees = counts_none task tried.0.0.trees ended.0 counted.0 _ it.uncounted ended.1 in
      let trees : new.now.trees ≡ each.0.trees = ap (λ (d : Database). d.trees) w.now ∙ ap (λ (x : Written). x.trees) (same_value ended.2) ∙ uncounted ∙ after in
      record {
        schema = ap (λ (d : Database). d.schema) w.now;
        rows = subst (λ (ts : Trees). PutsIn id stored (db table.tree) (ts table.tree)) (sym trees) made.0;
        others = subst (λ (ts : Trees). Others table db ts) (sym trees) made.1;
      }

  pub upserted : (count : ℕ) → old.now.schema ≡ desk_schema → Executes text params old new (Ok count) → PutsNumbered table id stored old.now new.now
  upserted count has h =
      let w : Writes old new None command (statement_of text (understood desk_schema text)) params count = runs_as text params old new desk_schema has command it.is it.plain count h in
      wrote_one (placed old new params table it.at command w.tally it.there
      (subst (λ s. Does old.step_limit (mode_of old) params (record old.now { schema = s }) (statement_of text (understood desk_schema text)) None command (Ok (w.tally, new.now))) has w.changed))

  -- it leaves a database
  pub upserted_sound : (count : ℕ) → old.now.schema ≡ desk_schema → Executes text params old new (Ok count) → IsDatabase new.now
  upserted_sound count has h =
      let w : Writes old new None command (statement_of text (understood desk_schema text)) params count = runs_as text params old new desk_schema has command it.is it.plain count h in
      w.sound

-- among these tables the number alone is met
pub only_first : (b : Bool) → ((b && true) || false) ≡ true → b ≡ true
only_first true h = refl
only_first false h = h
