-- The records that have the answer to a text.
use Rattle.std.proofs.Common.{◌≡◌, ℕ, List, [], ◌∷◌, map, filter, Bool, cond, refl, ap, ap₂, subst, ◌∙◌}
use Rattle.std.specs.Prelude.{IsPermutation}
use Rattle.std.proofs.lemmas.List.Sorted.{IsPermutation-sym, IsPermutation-trans}
use Rattle.sqlite.specs.Effect.{Database}
use Rattle.sqlite.specs.Order.{Row}
use Rattle.sqlite.specs.Table.{Table}
use Rattle.sqlite_keyed.proofs.ListLemmas.{filter-map, IsPermutation-filter}
use Rattle.pt_base_records.specs.Records.{Each, IsInOrder}
use Rattle.pt_base_records.proofs.TableLemmas.{Each-filter, IsInOrder-filter}
use Rattle.pt_tables_rows.specs.Schema.{desk_schema}
use Rattle.pt_tables_rows.specs.Tables.{AreRows, columns_of}
use Rattle.pt_tables_rows.proofs.ColumnLemmas.{number_in}
use Rattle.pt_tables_asking.specs.Asking.{AreInOrder, HasAnswer}
use Rattle.pt_tables_asking.proofs.AskedQueries.{AsksFor, answers_passing, is_served}
use Rattle.pt_tables_asking.proofs.OrderedLemmas.{IsCounted, IsPaired, count_le, double_key, keeps_order, pair_le}

-- ---- orders

-- rows in the order of this many columns are those of the records in the order of their keys
abbrev pub Keeps : {A : Type 0} → ℕ → (A → ℕ) → (A → Row) → (A → Type 0) → Type 0
Keeps {A} columns key row_of Fits = (rows : List Row) → AreInOrder columns rows → (xs : List A) → Each Fits xs → IsInOrder key xs → IsPermutation (map row_of xs) rows → map row_of xs ≡ rows

module _ {A : Type 0} (key : A → ℕ) (row_of : A → Row) (Fits : A → Type 0) where
  pub by_one : ((x : A) → IsCounted (row_of x)) → ((x : A) → number_in 0 (row_of x) ≡ key x) → Keeps 1 key row_of Fits
  by_one is keyed = keeps_order 1 (number_in 0) IsCounted count_le key row_of Fits (λ x fits. is x) keyed

  pub by_two : ((x : A) → Fits x → IsPaired (row_of x)) → ((x : A) → double_key (row_of x) ≡ key x) → Keeps 2 key row_of Fits
  by_two is keyed = keeps_order 2 double_key IsPaired pair_le key row_of Fits is keyed

-- ---- answers

module _ {A : Type 0} (key : A → ℕ) (row_of : A → Row) (Fits : A → Type 0) (columns : ℕ) (keeps : Keeps columns key row_of Fits) (home : Table) (text : List ℕ) (params : Row) (passes_row : Row → Bool)
    (asks : AsksFor columns home text params passes_row) (db : Database) (has : db.schema ≡ desk_schema) where
  -- the records in order whose rows are, in some order, those of the table that pass
  pub has_answer : (xs : List A) → Each Fits xs → IsInOrder key xs
      → IsPermutation (filter passes_row (map (columns_of home) (db.trees home.tree))) (map row_of xs)
      → HasAnswer text params db (map row_of xs)
  has_answer xs each order are = record {
    schema = has;
    served = is_served desk_schema columns home text params passes_row asks;
    shown = λ rows h.
        let both = answers_passing desk_schema columns home text params passes_row asks db rows h in
        let there = filter passes_row (map (columns_of home) (db.trees home.tree)) in
        keeps rows both.1 xs each order (IsPermutation-trans (map row_of xs) there rows (IsPermutation-sym there (map row_of xs) are) both.0);
  }

  -- those of the table's records that pass
  module _ (passes : A → Bool) (passing : (x : A) → Fits x → passes_row (row_of x) ≡ passes x) (xs : List A)
      (each : Each Fits xs) (order : IsInOrder key xs) (are : AreRows home db.trees (map row_of xs)) where
    filter_each : (ys : List A) → Each Fits ys → filter (λ y. passes_row (row_of y)) ys ≡ filter passes ys
    filter_each [] each = refl
    filter_each (y ∷ ys) each = ap₂ (λ b l. cond b (y ∷ l) l) (passing y each.0) (filter_each ys each.1)

    pub has_passing : HasAnswer text params db (map row_of (filter passes xs))
    has_passing =
        let there = map (columns_of home) (db.trees home.tree) in
        has_answer (filter passes xs) (Each-filter Fits passes xs each) (IsInOrder-filter key passes xs order)
        (subst (IsPermutation (filter passes_row there)) (filter-map passes_row row_of xs ∙ ap (map row_of) (filter_each xs each))
        (IsPermutation-filter passes_row there (map row_of xs) are))
