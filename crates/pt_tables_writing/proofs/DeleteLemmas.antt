-- What a DELETE by the first columns of its rows makes of a table.
use Rattle.std.proofs.Common.{◌≡◌, ℕ, ◌-◌, ◌^◌, pos, negsuc, List, [], ◌∷◌, map, filter, drop, not, Bool, true, false, ◌&&◌, cond, Some, None, Ok, refl, sym, ap, subst, ◌∙◌}
use Rattle.std.specs.Prelude.{slice_get, unwrap_or, nat_le, IsPermutation}
use Rattle.std.specs.List.{list_all}
use Rattle.std.proofs.lemmas.List.Sorted.{IsPermutation-map}
use Rattle.sqlite.specs.declared.types.Value.{Value}
use Rattle.sqlite.specs.declared.types.Value.TheVariants.{Null, Int}
use Rattle.sqlite.specs.Collation.TheVariants.{Binary}
use Rattle.sqlite.specs.Command.TheVariants.{Delete}
use Rattle.sqlite.specs.Does.{Does}
use Rattle.sqlite.specs.Edit.{edit_of, taken_by, without_all, id_in}
use Rattle.sqlite.specs.Effect.{Database, Answers}
use Rattle.sqlite.specs.Listing.{understood}
use Rattle.sqlite.specs.Order.{Row, column}
use Rattle.sqlite.specs.Program.{overlay}
use Rattle.sqlite.specs.Query.{Query, Output, IsAnswer, inner, end, matches_as, output}
use Rattle.sqlite.specs.Rows.{Written}
use Rattle.sqlite.specs.Rowids.TheVariants.{Given}
use Rattle.sqlite.specs.State.{State, Writes, mode_of, Executes}
use Rattle.sqlite.specs.Table.{Table}
use Rattle.sqlite.specs.Term.{Term, lit, col, holds}
use Rattle.sqlite.specs.Tree.{Trees, rowid, IsTable}
use Rattle.sqlite.proofs.Callers.{IsPlain, command_of, statement_of, runs_as, one_step}
use Rattle.pt_tables_rows.specs.Program.{Program}
use Rattle.pt_tables_rows.specs.Keys.TheVariants.{Enforced}
use Rattle.pt_tables_rows.specs.Rules.{equal}
use Rattle.pt_tables_rows.specs.BinaryOp.TheVariants.{Compare}
use Rattle.pt_tables_rows.specs.CompareOp.TheVariants.{Ge}
use Rattle.sqlite.specs.Ops.{binary, is_true}
use Rattle.sqlite_rules.specs.Action.{works}
use Rattle.sqlite_rules.specs.Calls.{ids_of}
use Rattle.sqlite_keyed.proofs.ListLemmas.{map-map, map-flat_map, filter-map, filter_same, filter_as_flat_map, flat_map_same_on, IsPermutation-filter}
use Rattle.pt_tables_rows.specs.Schema.{desk_schema, tables}
use Rattle.pt_tables_rows.specs.Tables.{columns_of, Others}
use Rattle.pt_tables_writing.specs.Writes.{Holds, Rewrites}
use Rattle.pt_tables_writing.proofs.InsertLemmas.{others_are}
use Rattle.pt_tables_rows.proofs.PartLemmas.{went, same_value}
use Rattle.pt_tables_writing.proofs.TreeLemmas.{AreWhole, without_all-permuted, without-passing, whole-filter, rising-filter}
use Rattle.pt_tables_writing.proofs.WriteLemmas.{Wrote, placed}

-- the rowids of the rows of a table that pass a test
abbrev pub rowids_where : ℕ → List Term → Query
rowids_where tree test = record {
  from = inner tree end;
  filter = test;
  group = None;
  project = col 1 0 ∷ [];
  distinct = false;
  collations = [];
  order = [];
  limit = lit (Int (negsuc 0));
  offset = lit (Int (pos 0));
}

abbrev pub program_where : ℕ → List Term → Program
program_where tree test = record { lets = []; body = rowids_where tree test }

-- the first columns of a row equal these, as SQL's = has it
abbrev pub has_columns : List Value → Row → Bool
has_columns [] row = true
has_columns (v ∷ values) row = equal Binary (column row 0) v && has_columns values (drop 1 row)

-- the first columns of a row equal these, and the next is at least this one, as SQL's >= has it
abbrev pub has_columns_from : List Value → Value → Row → Bool
has_columns_from [] least row = is_true (binary (Compare Ge Binary) (column row 0) least) && true
has_columns_from (v ∷ values) least row = equal Binary (column row 0) v && has_columns_from values least (drop 1 row)

-- the text deletes the rows of this table that pass
pub record IsDelete (text : List ℕ) (params : Row) (table : Table) (passing : Row → Bool) : Type 0 where
  pub at : ℕ
  pub test : List Term
  pub there : slice_get tables at ≡ Some table
  pub is : command_of (understood desk_schema text) ≡ Delete at (program_where table.tree test)
  pub plain : IsPlain (understood desk_schema text)
  pub says : (r : Row) → list_all (holds (params ∷ r ∷ [])) test ≡ passing (columns_of table r)

-- the table loses the rows that pass, and each other has what it had
abbrev pub Removes : Table → (Row → Bool) → Database → Database → Type 0
Removes table passes old new = (before : List Row) → Rewrites table before (filter (λ r. not (passes r)) before) old new

-- ---- what the query finds

no_tables : (db : Trees) (t : ℕ) → overlay db [] t ≡ db t
no_tables db t = elim (nat_le (2 ^ 31) t) as (λ b. unwrap_or (cond b (slice_get [] (t - 2 ^ 31)) None) (db t) ≡ db t) [ true ↦ refl | false ↦ refl ]

module _ (test : List Term) (tree : ℕ) (db : Trees) (params : Row) where
  abbrev passes : Row → Bool
  passes r = list_all (holds (params ∷ r ∷ [])) test

  matched : matches_as Null db test (inner tree end) (params ∷ []) ≡ map (λ r. params ∷ r ∷ []) (filter passes (db tree))
  matched =
      flat_map_same_on (λ r. cond (passes r) ((params ∷ r ∷ []) ∷ []) []) (λ r. map (λ x. params ∷ x ∷ []) (cond (passes r) (r ∷ []) [])) (λ r. either (passes r) r) (db tree)
      ∙ sym (map-flat_map (λ r. params ∷ r ∷ []) (λ r. cond (passes r) (r ∷ []) []) (db tree))
      ∙ ap (map (λ r. params ∷ r ∷ [])) (sym (filter_as_flat_map passes (db tree)))
    where
      either : (b : Bool) (r : Row) → cond b ((params ∷ r ∷ []) ∷ []) [] ≡ map (λ x. params ∷ x ∷ []) (cond b (r ∷ []) [])
      either true r = refl
      either false r = refl

  -- the answer has the rowids, in some order
  answered : (rows : List Row) → IsAnswer (rowids_where tree test) db params rows → IsPermutation (map (λ r. rowid r ∷ []) (filter passes (db tree))) rows
  answered rows a =
      let q = rowids_where tree test in
      let second : Output → Row = λ o. o.1 in
      let kept : map second a.kept ≡ map (λ r. rowid r ∷ []) (filter passes (db tree)) =
      ap (map second) (a.distinct ∙ ap (map (output q)) (a.grouped ∙ matched)) ∙ map-map second (output q) (map (λ r. params ∷ r ∷ []) (filter passes (db tree)))
      ∙ map-map (λ env. second (output q env)) (λ r. params ∷ r ∷ []) (filter passes (db tree)) in
      let same : IsPermutation (map second a.kept) (map second a.ordered) = IsPermutation-map second a.kept a.ordered a.same in
      subst (λ l. IsPermutation l rows) kept (subst (IsPermutation (map second a.kept)) (sym a.shown) same)

found : (test : List Term) (tree : ℕ) (db : Trees) (params : Row) (schema : _) (rows : List Row) → Answers (record { schema = schema; trees = db }) (program_where tree test) params rows
    → IsPermutation (map (λ r. rowid r ∷ []) (filter (passes test tree db params) (db tree))) rows
found test tree db params schema rows h =
    subst (λ l. IsPermutation (map (λ r. rowid r ∷ []) (filter (passes test tree db params) l)) rows) (no_tables db tree) (answered test tree (overlay db []) params rows (h.answer Null))

-- ---- what is left

quiet : (tree : ℕ) (olds : List Row) → works desk_schema Enforced 0 tree olds [] ≡ []
unfolding desk_schema
quiet tree olds = refl

module _ (text : List ℕ) (params : Row) (table : Table) (passing : Row → Bool) (it : IsDelete text params table passing) (old new : State) where
  abbrev command : Program
  command = program_where table.tree it.test

  wrote : (count : ℕ) → old.now.schema ≡ desk_schema → Executes text params old new (Ok count) → Wrote old new params table (Delete it.at command)
  wrote count has h =
      let w : Writes old new None (Delete it.at command) (statement_of text (understood desk_schema text)) params count =
      runs_as text params old new desk_schema has (Delete it.at command) it.is it.plain count h in
      placed old new params table it.at (Delete it.at command) w.tally it.there
      (subst (λ s. Does old.step_limit (mode_of old) params (record old.now { schema = s })
      (statement_of text (understood desk_schema text)) None (Delete it.at command) (Ok (w.tally, new.now))) has
      w.changed)

  -- the ids go out of the table
  abbrev Loses : List Row → Type 0
  Loses rows = (new.now.trees table.tree ≡ without_all (old.now.trees table.tree) (ids_of rows)) × Others table old.now.trees new.now.trees

  lost : Wrote old new params table (Delete it.at command) → (rows : List Row) × Answers (record { schema = desk_schema; trees = old.now.trees }) command params rows × Loses rows
  lost w =
      let db = old.now.trees in
      let given = went w.writes in
      let rows = given.0 in
      let edit = edit_of db table (ids_of rows) Given 0 [] in
      let written = went given.2 in
      let all = one_step desk_schema Enforced db written.0 edit (quiet table.tree (taken_by db edit)) written.1 in
      let trees : new.now.trees ≡ written.0 = ap (λ (d : Database). d.trees) w.now ∙ ap (λ (x : Written). x.trees) (same_value written.2) in
      (rows, given.1, subst (λ (ts : Trees). (ts table.tree ≡ without_all (db table.tree) (ids_of rows)) × Others table db ts) (sym trees) (all.rows, others_are table db written.0 all.tables))

  -- the rows that are left
  left : (rows : List Row) → Answers (record { schema = desk_schema; trees = old.now.trees }) command params rows → Loses rows → (before : List Row) → Holds table before old.now.trees
      → new.now.trees table.tree ≡ filter (λ r. not (passing (columns_of table r))) (old.now.trees table.tree)
  left rows answer loses before holds =
      let tree = old.now.trees table.tree in
      let chosen : Row → Bool = passes it.test table.tree old.now.trees params in
      let same = IsPermutation-map (λ r. id_in (rowid r)) (map (λ r. rowid r ∷ []) (filter chosen tree)) rows (found it.test table.tree old.now.trees params desk_schema rows answer) in
      let ids : ids_of (map (λ r. rowid r ∷ []) (filter chosen tree)) ≡ ids_of (filter chosen tree) = map-map (λ r. id_in (rowid r)) (λ r. rowid r ∷ []) (filter chosen tree) in
      loses.0 ∙ sym (without_all-permuted _ _ (subst (λ l. IsPermutation l (ids_of rows)) ids same) tree) ∙ without-passing chosen tree holds.whole holds.rising
      ∙ filter_same (λ r. not (chosen r)) (λ r. not (passing (columns_of table r))) (λ r. ap not (it.says r)) tree

  holds_left : (before : List Row) → Holds table before old.now.trees → new.now.trees table.tree ≡ filter (λ r. not (passing (columns_of table r))) (old.now.trees table.tree)
      → Holds table (filter (λ r. not (passing r)) before) new.now.trees
  holds_left before holds is =
      let tree = old.now.trees table.tree in
      let kept : Row → Bool = λ r. not (passing (columns_of table r)) in
      let shown : map (columns_of table) (filter kept tree) ≡ filter (λ r. not (passing r)) (map (columns_of table) tree) = sym (filter-map (λ r. not (passing r)) (columns_of table) tree) in
      record {
        rows = subst (λ l. IsPermutation (map (columns_of table) l) (filter (λ r. not (passing r)) before)) (sym is)
            (subst (λ l. IsPermutation l (filter (λ r. not (passing r)) before)) (sym shown) (IsPermutation-filter (λ r. not (passing r)) (map (columns_of table) tree) before holds.rows));
        rising = subst IsTable (sym is) (rising-filter kept tree holds.rising);
        whole = subst AreWhole (sym is) (whole-filter kept tree holds.whole);
      }

  pub removes : (count : ℕ) → old.now.schema ≡ desk_schema → Executes text params old new (Ok count) → Removes table passing old.now new.now
  removes count has h before =
      let w = wrote count has h in
      let out = lost w in
      record {
        schema = ap (λ (d : Database). d.schema) w.now;
        rows = λ holds. holds_left before holds (left out.0 out.1 out.2 before holds);
        others = out.2.1;
      }
