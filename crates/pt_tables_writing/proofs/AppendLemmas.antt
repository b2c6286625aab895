-- What an INSERT of some rows makes of a table whose rowids are hidden.
use Rattle.std.proofs.Common.{◌≡◌, ℕ, ℤ, List, [], ◌∷◌, ◌++◌, map, Ok, refl, sym, ap, subst, ◌∙◌}
use Rattle.std.specs.Prelude.{IsPermutation, IsTrue}
use Rattle.std.specs.List.{AllByRecursion}
use Rattle.std.proofs.lemmas.List.{map-append}
use Rattle.std.proofs.lemmas.List.Sorted.{IsPermutation-refl, IsPermutation-push_more, IsPermutation-trans}
use Rattle.sqlite.specs.declared.types.Value.TheVariants.{Int}
use Rattle.sqlite.specs.Edit.{next_rowid, put_all}
use Rattle.sqlite.specs.Order.{Row}
use Rattle.sqlite.specs.State.{State, Executes}
use Rattle.sqlite.specs.Table.{Table}
use Rattle.sqlite.specs.Tree.{rowid, put_row, IsTable}
use Rattle.sqlite.specs.View.{is_int}
use Rattle.sqlite_trees.proofs.TreeLemmas.{all-put_row, IsTable-put_row}
use Rattle.pt_tables_writing.specs.Grouped.{Adds}
use Rattle.pt_tables_rows.specs.Schema.{desk_schema}
use Rattle.pt_tables_rows.specs.Tables.{columns_of}
use Rattle.pt_tables_writing.proofs.InsertLemmas.{IsInsert, inserts}
use Rattle.pt_tables_writing.proofs.TreeLemmas.{AreWhole, put-last, turned}

-- these values after a rowid that is one above the last
abbrev pub behind : Row → List Row → Row
behind values rows = Int (next_rowid rows) ∷ values

-- and so each of these, one after the other
abbrev pub behind_all : List Row → List Row → List Row
behind_all [] rows = []
behind_all (values ∷ more) rows = behind values rows ∷ behind_all more (put_row (behind values rows) rows)

-- a query shows these values as they are
abbrev pub IsShownSo : Table → Row → Type 0
IsShownSo table values = (id : ℤ) → columns_of table (Int id ∷ values) ≡ values

-- what a query shows of the tree, whose rowids are integers in ascending order
record Shows (table : Table) (tree rows : List Row) : Type 0 where
  pub rows_are : IsPermutation (map (columns_of table) tree) rows
  pub rising : IsTable tree
  pub whole : AreWhole tree

module _ (table : Table) where
  appended : (values : Row) → IsShownSo table values → (tree before : List Row) → Shows table tree before → Shows table (put_row (behind values tree) tree) (values ∷ before)
  appended values so tree before there =
      let new = behind values tree in
      let shown : map (columns_of table) (put_row new tree) ≡ map (columns_of table) tree ++ values ∷ [] =
      ap (map (columns_of table)) (put-last values tree there.whole there.rising) ∙ map-append (columns_of table) tree (new ∷ [])
      ∙ ap (λ r. map (columns_of table) tree ++ r ∷ []) (so (next_rowid tree)) in
      record {
        rows_are = subst (λ l. IsPermutation l (values ∷ before)) (sym shown)
            (IsPermutation-push_more (map (columns_of table) tree) before (values ∷ before) values there.rows_are (IsPermutation-refl (values ∷ before)));
        rising = IsTable-put_row new tree there.rising;
        whole = all-put_row (λ r. IsTrue (is_int (rowid r))) new tree refl there.whole;
      }

  appended_all : (rows : List Row) → AllByRecursion (IsShownSo table) rows → (tree before : List Row) → Shows table tree before → Shows table (put_all tree (behind_all rows tree)) (rows ++ before)
  appended_all [] so tree before there = there
  appended_all (values ∷ more) so tree before there =
      let later = appended_all more so.1 (put_row (behind values tree) tree) (values ∷ before) (appended values so.0 tree before there) in
      record {
        rows_are = IsPermutation-trans _ (more ++ (values ∷ before)) ((values ∷ more) ++ before) later.rows_are (turned (values ∷ []) more before);
        rising = later.rising;
        whole = later.whole;
      }

  pub adds : (rows : List Row) → AllByRecursion (IsShownSo table) rows → (text : List ℕ) (params : Row) → IsInsert text params table (behind_all rows) → (old new : State) (count : ℕ)
      → old.now.schema ≡ desk_schema → Executes text params old new (Ok count) → Adds table rows old.now new.now
  adds rows so text params insert old new count has h before =
      let left = inserts text params table (behind_all rows) insert old new count has h in
      let tree = old.now.trees table.tree in
      record {
        schema = left.schema;
        rows = λ holds.
            let all = appended_all rows so tree before (record { rows_are = holds.rows; rising = holds.rising; whole = holds.whole }) in
            record {
              rows = subst (λ l. IsPermutation (map (columns_of table) l) (rows ++ before)) (sym left.rows) all.rows_are;
              rising = subst IsTable (sym left.rows) all.rising;
              whole = subst AreWhole (sym left.rows) all.whole;
            };
        others = left.others;
      }
