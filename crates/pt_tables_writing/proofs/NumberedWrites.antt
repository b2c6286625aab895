-- What happens to the records of a table when a numbered row is put or deleted.
use Rattle.std.proofs.Common.{◌≡◌, inl, inr, ℕ, ◌==◌, ℤ, pos, Bool, true, false, not, cond, List, [], ◌∷◌, ◌++◌, map, filter, flat_map, IsTrue, refl, sym, ap, ap₂, subst, ◌∙◌}
use Rattle.std.specs.Prelude.{IsPermutation}
use Rattle.std.proofs.lemmas.List.Elements.{filter-append}
use Rattle.std.proofs.lemmas.List.Sorted.{IsPermutation-trans}
use Rattle.sqlite.specs.Effect.{Database}
use Rattle.sqlite.specs.Order.{Row}
use Rattle.sqlite.specs.Table.{Table}
use Rattle.sqlite.specs.Tree.{Trees, rowid, has_rowid, put_row, without_rowid, IsTable}
use Rattle.sqlite.specs.View.{is_int}
use Rattle.sqlite.specs.declared.types.Value.TheVariants.{Int}
use Rattle.sqlite_keyed.proofs.ListLemmas.{all-filter, ascending-filter}
use Rattle.sqlite_trees.proofs.TreeLemmas.{IsTable-put_row, all-put_row}
use Rattle.pt_base_records.specs.Records.{put}
use Rattle.pt_tables_rows.specs.Rows.{row_if}
use Rattle.pt_tables_rows.specs.Tables.{columns_of}
use Rattle.pt_tables_writing.specs.Writes.{Holds, Rewrites, Puts, Takes}
use Rattle.pt_tables_writing.proofs.NumberedLemmas.{others, put_shown, row_test, without-again, without_shown}
use Rattle.pt_tables_writing.proofs.RecordRows.{rows-put}
use Rattle.pt_tables_writing.proofs.RemovalLemmas.{TakesNumbered}
use Rattle.pt_tables_writing.proofs.UpsertLemmas.{HasNumbers, PutsIn, PutsNumbered}

-- the first column is the rowid
abbrev pub IsNumbered : Table → Type 0
IsNumbered table = (r : Row) → rowid (columns_of table r) ≡ rowid r

pub rising-without : (id : ℤ) (tree : List Row) → IsTable tree → IsTable (without_rowid id tree)
rising-without id tree = ascending-filter _ (λ r. not (has_rowid id r)) tree

pub numbers-without : (id : ℤ) (tree : List Row) → HasNumbers tree → HasNumbers (without_rowid id tree)
numbers-without id tree = all-filter (λ r. is_int (rowid r) ≡ true) (λ r. not (has_rowid id r)) tree

module _ (table : Table) (numbered : IsNumbered table) where
  -- after the put, the table holds the row and those with other numbers
  put_holds : (id : ℤ) (stored row : Row) (before after : List Row) (old new : Trees) → rowid stored ≡ Int id → columns_of table stored ≡ row
      → IsPermutation (row ∷ without_rowid id before) after → PutsIn id stored (old table.tree) (new table.tree) → Holds table before old → Holds table after new
  put_holds id stored row before after old new keyed shows same puts holds =
      elim (puts holds.rising holds.whole) [
        | inl put ↦ held (old table.tree) put holds.rising holds.whole (put_shown table numbered id stored row keyed shows (old table.tree) before holds.rising holds.rows)
        | inr over ↦
            let rest = without_rowid id (old table.tree) in
            let up = rising-without id (old table.tree) holds.rising in
            held rest over up (numbers-without id (old table.tree) holds.whole)
            (subst (λ rs. IsPermutation (map (columns_of table) (put_row stored rest)) (row ∷ rs)) (without-again id before)
            (put_shown table numbered id stored row keyed shows rest (without_rowid id before) up (without_shown table numbered id (old table.tree) before holds.rows)))
      ]
    where
      held : (tree : List Row) → new table.tree ≡ put_row stored tree → IsTable tree → HasNumbers tree → IsPermutation (map (columns_of table) (put_row stored tree)) (row ∷ without_rowid id before)
          → Holds table after new
      held tree is up whole rows = record {
        rows = subst (λ rs. IsPermutation (map (columns_of table) rs) after) (sym is) (IsPermutation-trans _ _ _ rows same);
        rising = subst IsTable (sym is) (IsTable-put_row stored tree up);
        whole = subst HasNumbers (sym is) (all-put_row (λ r. is_int (rowid r) ≡ true) stored tree (ap is_int keyed) whole);
      }

  pub put_rewrites : (id : ℤ) (stored row : Row) (before after : List Row) (old new : Database) → rowid stored ≡ Int id → columns_of table stored ≡ row
      → IsPermutation (row ∷ without_rowid id before) after → PutsNumbered table id stored old new → Rewrites table before after old new
  put_rewrites id stored row before after old new keyed shows same puts = record {
    schema = puts.schema;
    rows = put_holds id stored row before after old.trees new.trees keyed shows same puts.rows;
    others = puts.others;
  }

nothing : {A : Type 0} (b : Bool) → ◌≡◌ {A = List A} (cond b [] []) []
nothing true = refl
nothing false = refl

-- ---- records whose number is the key of their row, if they have one

module _ {A : Type 0} (table : Table) (numbered : IsNumbered table) (key : A → ℕ) (Fits : A → Type 0) (so : A → Bool) (row : A → Row) (keyed : (x : A) → rowid (row x) ≡ Int (pos (key x))) where
  abbrev rows_of : A → List Row
  rows_of x = row_if (so x) (row x)

  one_without : (k : ℕ) (s : Bool) (r : Row) → without_rowid (pos k) (row_if s r) ≡ cond (not (has_rowid (pos k) r)) (row_if s r) []
  one_without k true r = refl
  one_without k false r = sym (nothing (not (has_rowid (pos k) r)))

  kept : (x : A) (xs : List A) (b : Bool) → cond (not b) (rows_of x) [] ++ flat_map rows_of xs ≡ flat_map rows_of (cond (not b) (x ∷ xs) xs)
  kept x xs true = refl
  kept x xs false = refl

  -- the rows without the number are those of the records without it
  without_so : (gone : A) (xs : List A) → without_rowid (pos (key gone)) (flat_map rows_of xs) ≡ flat_map rows_of (others key gone xs)
  without_so gone [] = refl
  without_so gone (x ∷ xs) =
      let k = key gone in
      filter-append (λ r. not (has_rowid (pos k) r)) (rows_of x) (flat_map rows_of xs)
      ∙ ap₂ ◌++◌ (one_without k (so x) (row x)) (without_so gone xs)
      ∙ ap (λ b. cond (not b) (rows_of x) [] ++ flat_map rows_of (others key gone xs)) (row_test key row keyed k x)
      ∙ kept x (others key gone xs) (key x == k)

  -- its row is put
  pub puts_so : (new : A) (stored : Row) → IsTrue (so new) → columns_of table stored ≡ row new → (old_db new_db : Database) → PutsNumbered table (pos (key new)) stored old_db new_db
      → Puts table key Fits rows_of new old_db new_db
  puts_so new stored marked shows old_db new_db puts xs order fits =
      let id_is : rowid stored ≡ Int (pos (key new)) = sym (numbered stored) ∙ ap rowid shows ∙ keyed new in
      let own : rows_of new ≡ row new ∷ [] = ap (λ s. row_if s (row new)) marked in
      put_rewrites table numbered (pos (key new)) stored (row new) (flat_map rows_of xs) (flat_map rows_of (put key new xs)) old_db new_db id_is shows
      (subst (λ rs. IsPermutation (row new ∷ rs) (flat_map rows_of (put key new xs))) (sym (without_so new xs))
      (subst (λ rs. IsPermutation (rs ++ flat_map rows_of (others key new xs)) (flat_map rows_of (put key new xs))) own (rows-put key rows_of new xs order))) puts

  -- the row of a record with its key is deleted
  pub takes_so : (gone : A) (old_db new_db : Database) → TakesNumbered table (pos (key gone)) old_db new_db → Takes table key Fits rows_of gone old_db new_db
  takes_so gone old_db new_db took xs order fits = record {
    schema = took.schema;
    rows = λ holds.
        let id = pos (key gone) in
        let tree = old_db.trees table.tree in
        let is : new_db.trees table.tree ≡ without_rowid id tree = took.rows holds.rising holds.whole in
        let left = subst (IsPermutation (map (columns_of table) (without_rowid id tree))) (without_so gone xs) (without_shown table numbered id tree (flat_map rows_of xs) holds.rows) in
        record {
          rows = subst (λ rs. IsPermutation (map (columns_of table) rs) (flat_map rows_of (filter (λ x. not (key x == key gone)) xs))) (sym is) left;
          rising = subst IsTable (sym is) (rising-without id tree holds.rising);
          whole = subst HasNumbers (sym is) (numbers-without id tree holds.whole);
        };
    others = took.others;
  }

-- ---- and where each has one

module _ {A : Type 0} (table : Table) (numbered : IsNumbered table) (key : A → ℕ) (Fits : A → Type 0) (row : A → Row) (keyed : (x : A) → rowid (row x) ≡ Int (pos (key x))) where
  pub puts_record : (new : A) (stored : Row) → columns_of table stored ≡ row new → (old_db new_db : Database) → PutsNumbered table (pos (key new)) stored old_db new_db
      → Puts table key Fits (λ x. row x ∷ []) new old_db new_db
  puts_record new stored = puts_so table numbered key Fits (λ _. true) row keyed new stored refl

  pub takes_record : (gone : A) (old_db new_db : Database) → TakesNumbered table (pos (key gone)) old_db new_db → Takes table key Fits (λ x. row x ∷ []) gone old_db new_db
  takes_record = takes_so table numbered key Fits (λ _. true) row keyed
