-- What the statement means that raises the version of the agency's row.
use Rattle.std.proofs.Common.{◌≡◌, ℕ, pos, List, [], ◌∷◌, map, filter, length, not, cond, true, IsTrue, Ok, None, refl, sym, ap, subst, ◌∙◌, arith}
use Rattle.std.specs.List.{AllByRecursion}
use Rattle.std.specs.Ordering.{is_eq}
use Rattle.std.proofs.lemmas.List.Sorted.{IsPermutation-sym}
use Rattle.sqlite.specs.Command.TheVariants.{Update}
use Rattle.sqlite.specs.Does.{Does}
use Rattle.sqlite.specs.Edit.{edit_of, put_all, without_all}
use Rattle.sqlite.specs.Effect.{Database, IsDatabase}
use Rattle.sqlite.specs.Listing.{understood}
use Rattle.sqlite.specs.Order.{Row, column, value_cmp}
use Rattle.sqlite.specs.Rowids.TheVariants.{Given}
use Rattle.sqlite.specs.State.{State, Writes, mode_of, Executes}
use Rattle.sqlite.specs.Term.{Term, lit, col, eval_all}
use Rattle.sqlite.specs.Tree.{Trees, rowid, has_rowid, put_row, without_rowid, IsTable}
use Rattle.sqlite.specs.View.{is_int}
use Rattle.sqlite.specs.declared.types.Value.TheVariants.{Null, Int}
use Rattle.sqlite.proofs.Callers.{IsPlain, command_of, statement_of, runs_as, one_permutation}
use Rattle.sqlite_keyed.proofs.ListLemmas.{IsPermutation-same}
use Rattle.sqlite_rules.specs.Calls.{ids_of}
use Rattle.pt_tables_rows.specs.Program.{Program}
use Rattle.pt_tables_rows.specs.Compute.{everything}
use Rattle.sqlite_value.specs.Keys.{first_key}
use Rattle.sqlite_value.proofs.OrderLemmas.{value_cmp-Int}
use Rattle.pt_base_values.specs.declared.policy.Policy.{Policy}
use Rattle.pt_tables_rows.specs.Rows.{number_value, versioned_row, desk_row}
use Rattle.pt_tables_rows.specs.Schema.{table_version, desk_schema, desk_table}
use Rattle.pt_tables_rows.specs.Tables.{columns_of, AreRows, Others}
use Rattle.pt_tables_rows.proofs.NumberQueries.{number_program, answers_one}
use Rattle.pt_tables_writing.specs.Writes.{Holds, Rewrites}
use Rattle.pt_tables_writing.specs.declared.numbered.desk.TheConstants.{RAISE_VERSION}
use Rattle.pt_tables_writing.proofs.DeskWrites.{stored, stored_cast}
use Rattle.pt_tables_writing.proofs.EditLemmas.{updates_rows}
use Rattle.pt_tables_writing.proofs.WriteLemmas.{Wrote, placed}

-- the number of the row, and the version
abbrev given : Row
given = number_value 1 ∷ number_value table_version ∷ []

-- the rowid, and the row with that version
abbrev fields : List Term
fields =
    col 1 0 ∷ col 1 0 ∷ lit Null ∷ col 0 1 ∷ col 1 3 ∷ col 1 4 ∷ col 1 5 ∷ col 1 6 ∷ col 1 7 ∷ col 1 8 ∷ col 1 9 ∷ col 1 10 ∷ col 1 11 ∷ []

abbrev program : Program
program = number_program desk_table.tree 0 fields

text_is : command_of (understood desk_schema RAISE_VERSION.now) ≡ Update 0 program
unfolding understood everything desk_schema first_key
text_is = refl

text_plain : IsPlain (understood desk_schema RAISE_VERSION.now)
unfolding understood everything desk_schema first_key
text_plain = (refl, refl)

-- the row that the statement makes of the stored one
updated_is : (r : Row) (version : ℕ) (policy : Policy) (last_trip : ℕ) → columns_of desk_table r ≡ versioned_row version policy last_trip
    → eval_all fields (given ∷ r ∷ []) ≡ number_value 1 ∷ stored policy last_trip
unfolding everything
updated_is r version policy last_trip is =
    ap (λ cs. column cs 0 ∷ column cs 0 ∷ Null ∷ number_value table_version ∷ column cs 2 ∷ column cs 3 ∷ column cs 4
    ∷ column cs 5 ∷ column cs 6 ∷ column cs 7 ∷ column cs 8 ∷ column cs 9 ∷ column cs 10 ∷ []) is

-- the statement as it was made
module _ (old new : State) (count : ℕ) (has : old.now.schema ≡ desk_schema) (h : Executes RAISE_VERSION.now given old new (Ok count)) where
  ran : Writes old new None (Update 0 program) (statement_of RAISE_VERSION.now (understood desk_schema RAISE_VERSION.now)) given count
  ran = runs_as RAISE_VERSION.now given old new desk_schema has (Update 0 program) text_is text_plain count h

  wrote : Wrote old new given desk_table (Update 0 program)
  wrote =
      placed old new given desk_table 0 (Update 0 program) ran.tally refl
      (subst (λ s. Does old.step_limit (mode_of old) given (record old.now { schema = s })
      (statement_of RAISE_VERSION.now (understood desk_schema RAISE_VERSION.now)) None (Update 0 program)
      (Ok (ran.tally, new.now))) has ran.changed)

  pub raised_sound : IsDatabase new.now
  raised_sound = ran.sound

  pub schema_stays : new.now.schema ≡ desk_schema
  schema_stays = ap (λ (d : Database). d.schema) wrote.now

module _ (version : ℕ) (policy : Policy) (last_trip : ℕ) where
  abbrev before : Row
  before = versioned_row version policy last_trip

  -- the one row of the table
  record TheRow (tree : List Row) : Type 0 where
    row : Row
    alone : tree ≡ row ∷ []
    shows : columns_of desk_table row ≡ before

  the_row : (tree : List Row) → map (columns_of desk_table) tree ≡ before ∷ [] → TheRow tree
  the_row [] same = absurd (let size = ap length same in omega arith)
  the_row (r ∷ []) same = record { row = r; alone = refl; shows = ap (λ rows. column_or rows) same }
    where
      column_or : List Row → Row
      column_or [] = []
      column_or (r ∷ rows) = r
  the_row (r ∷ s ∷ tree) same = absurd (let size = ap length same in omega arith)

  -- its rowid is the number of the agency
  number_is : (r : Row) → columns_of desk_table r ≡ before → rowid r ≡ Int (pos 1)
  number_is r shows = ap (λ cs. column cs 0) shows

  has_number : (r : Row) → columns_of desk_table r ≡ before → has_rowid (pos 1) r ≡ true
  has_number r shows = ap (λ v. is_eq (value_cmp v (Int (pos 1)))) (number_is r shows) ∙ ap is_eq (value_cmp-Int (pos 1) (pos 1))

  -- the table holds that row, if its rows are that one alone
  pub row_holds : (trees : Trees) → AreRows desk_table trees (before ∷ []) → Holds desk_table (before ∷ []) trees
  row_holds trees are =
      let tree = trees desk_table.tree in
      let one = the_row tree (one_permutation before (map (columns_of desk_table) tree) (IsPermutation-sym (map (columns_of desk_table) tree) (before ∷ []) are)) in
      record {
        rows = are;
        rising = subst IsTable (sym one.alone) (tt, tt);
        whole = subst (AllByRecursion (λ r. IsTrue (is_int (rowid r)))) (sym one.alone) (ap is_int (number_is one.row one.shows), tt);
      }

  module _ (old new : State) (count : ℕ) (has : old.now.schema ≡ desk_schema) (h : Executes RAISE_VERSION.now given old new (Ok count)) where
    -- a table of that one row has the new row
    written : (w : Wrote old new given desk_table (Update 0 program)) → TheRow (old.now.trees desk_table.tree) → new.now.trees desk_table.tree ≡ stored policy last_trip ∷ []
    written w one =
        let db = old.now.trees in
        let u = updates_rows old.step_limit given desk_table program given db w.done w.writes in
        let r = one.row in
        let here = has_number r one.shows in
        let found : filter (has_rowid (pos 1)) (db desk_table.tree) ≡ r ∷ [] = ap (filter (has_rowid (pos 1))) one.alone ∙ ap (λ b. cond b (r ∷ []) []) here in
        let rest : without_rowid (pos 1) (db desk_table.tree) ≡ [] = ap (without_rowid (pos 1)) one.alone ∙ ap (λ b. cond (not b) (r ∷ []) []) here in
        let rows : u.0 ≡ (number_value 1 ∷ stored policy last_trip) ∷ [] =
        answers_one desk_table.tree 0 fields db given (pos 1) refl u.0 (u.1.answer Null) r found ∙ ap (λ x. x ∷ []) (updated_is r version policy last_trip one.shows) in
        ap (λ (d : Database). d.trees desk_table.tree) w.now ∙ u.2.0
        ∙ ap (λ rs. put_all (without_all (db desk_table.tree) (ids_of rs)) (edit_of db desk_table (ids_of rs) Given 1 rs).news) rows
        ∙ ap (λ new. put_row new (without_rowid (pos 1) (db desk_table.tree))) (stored_cast policy last_trip)
        ∙ ap (put_row (stored policy last_trip)) rest

    pub raises : Rewrites desk_table (before ∷ []) (desk_row policy last_trip ∷ []) old.now new.now
    raises =
        let w = wrote old new count has h in
        let u = updates_rows old.step_limit given desk_table program given old.now.trees w.done w.writes in
        record {
          schema = ap (λ (d : Database). d.schema) w.now;
          rows = λ holds.
              let tree = old.now.trees desk_table.tree in
              let one = the_row tree (one_permutation before (map (columns_of desk_table) tree) (IsPermutation-sym (map (columns_of desk_table) tree) (before ∷ []) holds.rows)) in
              let is = written w one in
              record {
                rows = IsPermutation-same _ _ (ap (map (columns_of desk_table)) is);
                rising = subst IsTable (sym is) (tt, tt);
                whole = subst (AllByRecursion (λ r. IsTrue (is_int (rowid r)))) (sym is) (refl, tt);
              };
          others = subst (λ (ts : Trees). Others desk_table old.now.trees ts) (sym (ap (λ (d : Database). d.trees) w.now)) u.2.1;
        }
