-- The answer to a query for the rows of a table that pass a test, in the order of its first columns.
use Rattle.std.proofs.Common.{◌≡◌, ◌+◌, ◌<◌, zero, suc, ℕ, pos, negsuc, List, [], ◌∷◌, map, filter, flat_map, get_or, length, Bool, true, false, cond, None, inl, inr, refl, sym, ap, ap₂, subst, ◌∙◌, arith}
use Rattle.std.specs.Prelude.{Any, IsPermutation, IsSorted, replicate}
use Rattle.std.specs.List.{AllByRecursion, list_all}
use Rattle.std.specs.Ordering.{is_lt, ordering_then}
use Rattle.std.proofs.lemmas.List.Sorted.{IsPermutation-map}
use Rattle.sqlite.specs.Collation.TheVariants.{Binary}
use Rattle.sqlite.specs.Command.TheVariants.{Select}
use Rattle.sqlite.specs.Given.{IsPlain}
use Rattle.sqlite.specs.Effect.{Database, IsShown, Reads, RefusesToRead}
use Rattle.sqlite.specs.Listing.{understood, reads_listing}
use Rattle.sqlite.specs.Order.{Row, column}
use Rattle.sqlite.specs.Program.{overlay}
use Rattle.sqlite.specs.Query.{Query, Output, IsAnswer as Answers, key_cmp, inner, end, matches_as, output}
use Rattle.sqlite.specs.Schema.{Schema}
use Rattle.sqlite.specs.Table.{Table}
use Rattle.sqlite.specs.Term.{Term, lit, eval_all, holds}
use Rattle.sqlite.specs.Tree.{Trees}
use Rattle.sqlite.specs.declared.types.Value.TheVariants.{Null, Int}
use Rattle.sqlite_keyed.proofs.ListLemmas.{map-map, map-flat_map, filter-map, filter_same, filter_as_flat_map, flat_map_same_on, map_same}
use Rattle.sqlite_trees.proofs.ListLemmas.{all-permutation}
use Rattle.sqlite_value.specs.Keys.{ascending, by_key}
use Rattle.sqlite_value.specs.declared.keys.Key.{Key}
use Rattle.pt_tables_rows.specs.Schema.{desk_schema}
use Rattle.pt_tables_rows.specs.Tables.{columns_of}
use Rattle.pt_tables_rows.proofs.NumberQueries.{bare}
use Rattle.pt_tables_asking.specs.Asking.{AreInOrder, IsServedIn, Takes, command_in}

-- these fields of the rows of a table that pass these tests, in an order
abbrev pub where_query : ℕ → List Term → List Term → List (Term × Key) → Query
where_query tree tests fields order = record {
  from = inner tree end;
  filter = tests;
  group = None;
  project = fields;
  distinct = false;
  collations = [];
  order = order;
  limit = lit (Int (negsuc 0));
  offset = lit (Int (pos 0));
}

-- this many columns, each ascending
abbrev pub keys_of : ℕ → List Key
keys_of columns = replicate columns (ascending Binary)

-- the same in this many columns, from one on
abbrev pub AreAlike : ℕ → ℕ → Row → Row → Type 0
AreAlike at zero one other = Unit {0}
AreAlike at (suc n) one other = (column one at ≡ column other at) × AreAlike (suc at) n one other

-- the types of its terms do not fit
abbrev pub IsMistyped : Schema → Trees → Query → Row → Type 0
IsMistyped schema trees query params = IsShown (λ (r : Row). r) (record { schema = schema; trees = trees }) (record { lets = []; body = query }) params None

-- what is computed to be true is not false
pub untrue : true ≡ false → ⊥
untrue lie = absurd (cc)

-- The query with these parameters asks for the rows of the table that pass, with all their columns, in the order of
-- this many first columns. The tables have this schema.
pub record AsksForIn (schema : Schema) (columns : ℕ) (table : Table) (text : List ℕ) (params : Row) (passes : Row → Bool) : Type 0 where
  pub tests : List Term
  pub fields : List Term
  pub order : List (Term × Key)
  pub names : List (List ℕ)
  pub is : command_in (understood schema text) ≡ Select (record { lets = []; body = where_query table.tree tests fields order }) names
  pub plain : IsPlain (understood schema text)
  pub unlisted : reads_listing schema text ≡ false
  pub takes : Takes text params (understood schema text)
  pub typed : (trees : Trees) → IsMistyped schema trees (where_query table.tree tests fields order) params → ⊥
  pub shows : (r : Row) → eval_all fields (params ∷ r ∷ []) ≡ columns_of table r
  pub says : (r : Row) → list_all (holds (params ∷ r ∷ [])) tests ≡ passes (columns_of table r)
  pub keys : map (λ k. k.1) order ≡ keys_of columns
  pub heads : (r : Row) → AreAlike 0 columns (eval_all (map (λ k. k.0) order) (params ∷ r ∷ [])) (eval_all fields (params ∷ r ∷ []))

-- and where they are the desk's
abbrev pub AsksFor : ℕ → Table → List ℕ → Row → (Row → Bool) → Type 0
AsksFor columns table text params passes = AsksForIn desk_schema columns table text params passes

-- ---- refusals

none_overflows : (P : Row → Type 0) → ((r : Row) → P r → ⊥) → (rows : List Row) → Any P rows → ⊥
none_overflows P never rows h = never h.1 h.4

-- such a query is refused only where its steps are limited
pub is_served : (schema : Schema) (columns : ℕ) (table : Table) (text : List ℕ) (params : Row) (passes : Row → Bool) → AsksForIn schema columns table text params passes
    → IsServedIn schema text params
is_served schema columns table text params passes it = record {
  takes = it.takes;
  refused = λ limit db e has h.
      let query = where_query table.tree it.tests it.fields it.order in
      let read : RefusesToRead limit (Select (record { lets = []; body = query }) it.names) db params e = subst (λ k. RefusesToRead limit k db params e) it.is h in
      elim read [
        | inl mismatch ↦ absurd (it.typed db.trees (subst (λ s. IsMistyped s db.trees query params) has mismatch.1))
        | inr other ↦ elim other [
          | inl overflows ↦ elim overflows.1 [
            | inl groups ↦ absurd groups
            | inr folds ↦ absurd (none_overflows (λ r. ⊥) (λ r no. no) (overlay db.trees [] table.tree) folds)
          ]
          | inr limited ↦ limited.1
        ]
      ];
}

-- ---- orders

same_cmp : (columns at : ℕ) (a b c d : Row) → AreAlike at columns a c → AreAlike at columns b d → key_cmp at (keys_of columns) a b ≡ key_cmp at (keys_of columns) c d
same_cmp zero at a b c d one other = refl
same_cmp (suc columns) at a b c d one other = ap₂ ordering_then (ap₂ (by_key (ascending Binary)) one.0 other.0) (same_cmp columns (suc at) a b c d one.1 other.1)

all_at : {X : Type 0} (P : X → Type 0) (xs : List X) (k : ℕ) (d : X) → AllByRecursion P xs → k < length xs → P (get_or xs k d)
all_at P [] k d all low = absurd (omega arith)
all_at P (x ∷ xs) zero d all low = all.0
all_at P (x ∷ xs) (suc k) d all low = all_at P xs k d all.1 (omega arith)

at_map : {X Y : Type 0} (f : X → Y) (xs : List X) (k : ℕ) (d : X) (e : Y) → k < length xs → get_or (map f xs) k e ≡ f (get_or xs k d)
at_map f [] k d e low = absurd (omega arith)
at_map f (x ∷ xs) zero d e low = refl
at_map f (x ∷ xs) (suc k) d e low = at_map f xs k d e (omega arith)

map_length : {X Y : Type 0} (f : X → Y) (xs : List X) → length (map f xs) ≡ length xs
map_length f [] = refl
map_length f (x ∷ xs) = ap suc (map_length f xs)

all_made : {X Y : Type 0} (P : Y → Type 0) (f : X → Y) → ((x : X) → P (f x)) → (xs : List X) → AllByRecursion P (map f xs)
all_made P f each [] = tt
all_made P f each (x ∷ xs) = (each x, all_made P f each xs)

abbrev HasHeads : ℕ → Output → Type 0
HasHeads columns o = AreAlike 0 columns o.0 o.1

-- what is in order by its keys is so by its first columns
in_order : (columns : ℕ) (outputs : List Output) (keys : List Key) → keys ≡ keys_of columns → AllByRecursion (HasHeads columns) outputs → IsSorted (λ a b. key_cmp 0 keys a.0 b.0) outputs
    → AreInOrder columns (map (λ (o : Output). o.1) outputs)
in_order columns outputs keys are all sorted k d low high =
    let long = map_length (λ (o : Output). o.1) outputs in
    let after : k + 1 < length outputs = omega arith in
    let before : k < length outputs = omega arith in
    let one = get_or outputs (k + 1) (d, d) in
    let other = get_or outputs k (d, d) in
    let heads = same_cmp columns 0 one.0 other.0 one.1 other.1 (all_at (HasHeads columns) outputs (k + 1) (d, d) all after) (all_at (HasHeads columns) outputs k (d, d) all before) in
    ap₂ (λ a b. is_lt (key_cmp 0 (keys_of columns) a b)) (at_map (λ (o : Output). o.1) outputs (k + 1) (d, d) d after) (at_map (λ (o : Output). o.1) outputs k (d, d) d before)
    ∙ ap is_lt (sym heads) ∙ ap (λ l. is_lt (key_cmp 0 l one.0 other.0)) (sym are) ∙ sorted k (d, d) low after

-- ---- the answer

module _ (schema : Schema) (columns : ℕ) (table : Table) (text : List ℕ) (params : Row) (passes : Row → Bool) (it : AsksForIn schema columns table text params passes) (db : Trees) where
  abbrev query : Query
  query = where_query table.tree it.tests it.fields it.order

  abbrev tested : Row → Bool
  tested r = list_all (holds (params ∷ r ∷ [])) it.tests

  matched : matches_as Null (overlay db []) query.filter query.from (params ∷ []) ≡ map (λ r. params ∷ r ∷ []) (filter tested (db table.tree))
  matched =
      ap (flat_map (λ r. cond (tested r) ((params ∷ r ∷ []) ∷ []) [])) (bare db table.tree)
      ∙ flat_map_same_on _ _ (λ r. either (tested r) r) (db table.tree)
      ∙ sym (map-flat_map (λ r. params ∷ r ∷ []) (λ r. cond (tested r) (r ∷ []) []) (db table.tree))
      ∙ ap (map (λ r. params ∷ r ∷ [])) (sym (filter_as_flat_map tested (db table.tree)))
    where
      either : (b : Bool) (r : Row) → cond b ((params ∷ r ∷ []) ∷ []) [] ≡ map (λ y. params ∷ y ∷ []) (cond b (r ∷ []) [])
      either true r = refl
      either false r = refl

  -- the rows that pass, as a query shows them
  passing : map (λ r. eval_all it.fields (params ∷ r ∷ [])) (filter tested (db table.tree)) ≡ filter passes (map (columns_of table) (db table.tree))
  passing =
      map_same _ (columns_of table) it.shows (filter tested (db table.tree))
      ∙ ap (map (columns_of table)) (filter_same tested (λ r. passes (columns_of table r)) it.says (db table.tree))
      ∙ sym (filter-map passes (columns_of table) (db table.tree))

  module _ (rows : List Row) (a : Answers query (overlay db []) params rows) where
    abbrev second : Output → Row
    second o = o.1

    kept_are : a.kept ≡ map (λ r. output query (params ∷ r ∷ [])) (filter tested (db table.tree))
    kept_are = a.distinct ∙ ap (map (output query)) (a.grouped ∙ matched) ∙ map-map (output query) (λ r. params ∷ r ∷ []) (filter tested (db table.tree))

    pub answers_rows : IsPermutation (filter passes (map (columns_of table) (db table.tree))) rows
    answers_rows =
        let shown : map second a.kept ≡ map (λ r. eval_all it.fields (params ∷ r ∷ [])) (filter tested (db table.tree)) =
        ap (map second) kept_are ∙ map-map second (λ r. output query (params ∷ r ∷ [])) (filter tested (db table.tree)) in
        subst (IsPermutation (filter passes (map (columns_of table) (db table.tree)))) (sym a.shown)
        (subst (λ l. IsPermutation l (map second a.ordered)) (shown ∙ passing) (IsPermutation-map second a.kept a.ordered a.same))

    pub answers_order : AreInOrder columns rows
    answers_order =
        let all = subst (AllByRecursion (HasHeads columns)) (sym kept_are) (all_made (HasHeads columns) (λ (r : Row). output query (params ∷ r ∷ [])) it.heads (filter tested (db table.tree))) in
        subst (AreInOrder columns) (sym a.shown)
        (in_order columns a.ordered (map (λ (k : Term × Key). k.1) it.order) it.keys (all-permutation (HasHeads columns) a.kept a.ordered a.same all) a.sorted)

-- the rows of an answer are those of the table that pass, in order
pub answers_passing : (schema : Schema) (columns : ℕ) (table : Table) (text : List ℕ) (params : Row) (passes : Row → Bool) → AsksForIn schema columns table text params passes
    → (db : Database) (rows : List Row) → Reads (command_in (understood schema text)) db params rows
    → IsPermutation (filter passes (map (columns_of table) (db.trees table.tree))) rows × AreInOrder columns rows
answers_passing schema columns table text params passes it db rows h =
    let read : Reads (Select (record { lets = []; body = where_query table.tree it.tests it.fields it.order }) it.names) db params rows = subst (λ k. Reads k db params rows) it.is h in
    let a : Answers (where_query table.tree it.tests it.fields it.order) (overlay db.trees []) params rows = read.answer Null in
    (answers_rows schema columns table text params passes it db.trees rows a, answers_order schema columns table text params passes it db.trees rows a)
