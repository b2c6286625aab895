-- What a DELETE by number makes of its table.
use Rattle.std.proofs.Common.{◌≡◌, inl, inr, ℕ, ℤ, List, [], ◌∷◌, None, Some, Ok, refl, sym, ap, subst, ◌∙◌}
use Rattle.std.specs.Prelude.{slice_get}
use Rattle.sqlite.specs.Command.{Command}
use Rattle.sqlite.specs.Command.TheVariants.{Delete}
use Rattle.sqlite.specs.Does.{Does}
use Rattle.sqlite.specs.Edit.{id_in, without_all}
use Rattle.sqlite.specs.Effect.{Database}
use Rattle.sqlite.specs.Listing.{understood}
use Rattle.sqlite.specs.Order.{Row}
use Rattle.sqlite.specs.State.{State, Writes, mode_of, Executes}
use Rattle.sqlite.specs.Table.{Table}
use Rattle.sqlite.specs.Term.{Term, eval_all}
use Rattle.sqlite.specs.Tree.{Trees, rowid, without_rowid, IsTable}
use Rattle.sqlite.specs.declared.types.Value.TheVariants.{Null, Int}
use Rattle.sqlite.proofs.Callers.{IsPlain, command_of, statement_of, runs_as}
use Rattle.sqlite_rules.specs.Calls.{ids_of}
use Rattle.pt_tables_rows.specs.Schema.{desk_schema, tables}
use Rattle.pt_tables_rows.specs.Tables.{Others}
use Rattle.pt_tables_writing.proofs.EditLemmas.{deletes_rows}
use Rattle.pt_tables_writing.proofs.NumberedLemmas.{one_or_none}
use Rattle.pt_tables_rows.proofs.NumberQueries.{number_program, answers_none, answers_one}
use Rattle.pt_tables_writing.proofs.UpsertLemmas.{HasNumbers, number_found}
use Rattle.pt_tables_writing.proofs.WriteLemmas.{Wrote, placed}

-- the text deletes the row of the table whose number is its one parameter
pub record IsRemoval (text : List ℕ) (table : Table) : Type 0 where
  pub at : ℕ
  pub fields : List Term
  pub there : slice_get tables at ≡ Some table
  pub is : command_of (understood desk_schema text) ≡ Delete at (number_program table.tree 0 fields)
  pub plain : IsPlain (understood desk_schema text)
  pub shows : (given r : Row) → rowid (eval_all fields (given ∷ r ∷ [])) ≡ rowid r

-- the row with this number is gone
abbrev pub TakesOut : ℤ → List Row → List Row → Type 0
TakesOut id before after = IsTable before → HasNumbers before → after ≡ without_rowid id before

-- the row with this number is gone from the table, and each other table is as it was
pub record TakesNumbered (table : Table) (id : ℤ) (old new : Database) : Type 0 where
  pub schema : new.schema ≡ desk_schema
  pub rows : TakesOut id (old.trees table.tree) (new.trees table.tree)
  pub others : Others table old.trees new.trees

module _ (text : List ℕ) (table : Table) (it : IsRemoval text table) (id : ℤ) (old new : State) where
  abbrev given : Row
  given = Int id ∷ []

  abbrev command : Command
  command = Delete it.at (number_program table.tree 0 it.fields)

  wrote_out : Wrote old new given table command → TakesNumbered table id old.now new.now
  wrote_out w =
      let db = old.now.trees in
      let made = deletes_rows old.step_limit given table (number_program table.tree 0 it.fields) db w.done w.writes in
      let trees : new.now.trees ≡ w.done.trees = ap (λ (d : Database). d.trees) w.now in
      record {
        schema = ap (λ (d : Database). d.schema) w.now;
        rows = λ up numbers.
            ap (λ (ts : Trees). ts table.tree) trees ∙ made.2.0 ∙ elim (one_or_none id (db table.tree) up) [
              | inl none ↦ ap (λ rs. without_all (db table.tree) (ids_of rs)) (answers_none table.tree 0 it.fields db given id refl made.0 (made.1.answer Null) none.0) ∙ sym none.1
              | inr one ↦
                  let is : rowid one.0 ≡ Int id = number_found id (db table.tree) one.0 one.1 one.2 numbers in
                  ap (λ rs. without_all (db table.tree) (ids_of rs)) (answers_one table.tree 0 it.fields db given id refl made.0 (made.1.answer Null) one.0 one.1)
                  ∙ ap (λ v. without_rowid (id_in v) (db table.tree)) (it.shows given one.0 ∙ is)
            ];
        others = subst (λ (ts : Trees). Others table db ts) (sym trees) made.2.1;
      }

  pub removed : (count : ℕ) → old.now.schema ≡ desk_schema → Executes text given old new (Ok count) → TakesNumbered table id old.now new.now
  removed count has h =
      let w : Writes old new None command (statement_of text (understood desk_schema text)) given count = runs_as text given old new desk_schema has command it.is it.plain count h in
      wrote_out (placed old new given table it.at command w.tally it.there
      (subst (λ s. Does old.step_limit (mode_of old) given (record old.now { schema = s }) (statement_of text (understood desk_schema text)) None command (Ok (w.tally, new.now))) has w.changed))
