-- The answer to a query for the row of a table with a number.
use Rattle.std.proofs.Common.{◌≡◌, ℕ, ℤ, pos, negsuc, List, [], ◌∷◌, map, filter, flat_map, Bool, true, false, cond, Some, None, refl, sym, ap, subst, ◌∙◌, arith}
use Rattle.std.specs.Prelude.{IsPermutation, unwrap_or, nat_le, ◌^◌}
use Rattle.std.specs.List.{list_all}
use Rattle.std.specs.Ordering.{is_eq}
use Rattle.std.proofs.lemmas.List.Sorted.{length_permutation}
use Rattle.sqlite.specs.Collation.TheVariants.{Binary}
use Rattle.sqlite.specs.Ops.{binary}
use Rattle.sqlite.specs.Order.{Row, column, value_cmp}
use Rattle.sqlite.specs.Program.{overlay}
use Rattle.sqlite.specs.Query.{Query, Output, IsAnswer, inner, end, matches_as, output, page}
use Rattle.sqlite.specs.Term.{Term, lit, col, op2, eval_all, holds}
use Rattle.sqlite.specs.Tree.{Trees, rowid, has_rowid}
use Rattle.sqlite.specs.declared.types.Value.{Value}
use Rattle.sqlite.specs.declared.types.Value.TheVariants.{Null, Int, Real, Text, Blob}
use Rattle.sqlite.proofs.Callers.{one_permutation}
use Rattle.sqlite_keyed.proofs.ListLemmas.{filter_as_flat_map, map-flat_map, flat_map_same_on}
use Rattle.sqlite_schema.specs.declared.program.Program.{Program}
use Rattle.sqlite_sql.specs.declared.ops.BinaryOp.TheVariants.{Compare}
use Rattle.sqlite_sql.specs.declared.ops.CompareOp.TheVariants.{Eq}
use Rattle.sqlite_sql.specs.Ops.{from_truth}
use Rattle.sqlite_typed.proofs.TestLemmas.{truth_or, last_term}

-- a query for these fields of the row of a table whose number is the parameter at this place
abbrev pub number_query : ℕ → ℕ → List Term → Query
number_query tree place fields = record {
  from = inner tree end;
  filter = op2 (Compare Eq Binary) (col 1 0) (col 0 place) ∷ [];
  group = None;
  project = fields;
  distinct = false;
  collations = [];
  order = [];
  limit = lit (Int (negsuc 0));
  offset = lit (Int (pos 0));
}

abbrev pub number_program : ℕ → ℕ → List Term → Program
number_program tree place fields = record { lets = []; body = number_query tree place fields }

told : (b : Bool) → truth_or false (from_truth (Some b)) ≡ b
told true = refl
told false = refl

-- to test a value by SQL is to compare it
pub number_test : (v : Value) (id : ℤ) → truth_or false (binary (Compare Eq Binary) v (Int id)) ≡ is_eq (value_cmp v (Int id))
unfolding binary value_cmp
number_test Null id = refl
number_test (Int n) id = told (is_eq (value_cmp (Int n) (Int id)))
number_test (Real x) id = told (is_eq (value_cmp (Real x) (Int id)))
number_test (Text t) id = told (is_eq (value_cmp (Text t) (Int id)))
number_test (Blob b) id = told (is_eq (value_cmp (Blob b) (Int id)))

none_given : (b : Bool) (rows : List Row) → unwrap_or (cond b None None) rows ≡ rows
none_given true rows = refl
none_given false rows = refl

-- an empty overlay leaves the tables of the database as they are
pub bare : (db : Trees) (tree : ℕ) → overlay db [] tree ≡ db tree
bare db tree = none_given (nat_le (2 ^ 31) tree) (db tree)

none_permuted : {X : Type 0} (ys : List X) → IsPermutation [] ys → ys ≡ []
none_permuted [] h = refl
none_permuted (y ∷ ys) h = absurd (omega (arith, length_permutation [] (y ∷ ys) h))

module _ (tree place : ℕ) (fields : List Term) (db : Trees) (params : Row) (id : ℤ) (is : column params place ≡ Int id) where
  abbrev query : Query
  query = number_query tree place fields

  passes : (r : Row) → list_all (holds (params ∷ r ∷ [])) query.filter ≡ has_rowid id r
  passes r = last_term (ap (λ v. truth_or false (binary (Compare Eq Binary) (rowid r) v)) is ∙ number_test (rowid r) id)

  matched : matches_as Null (overlay db []) query.filter query.from (params ∷ []) ≡ map (λ r. params ∷ r ∷ []) (filter (has_rowid id) (db tree))
  matched =
      ap (flat_map (λ r. cond (list_all (holds (params ∷ r ∷ [])) query.filter) ((params ∷ r ∷ []) ∷ []) [])) (bare db tree)
      ∙ flat_map_same_on _ _ (λ r. ap (λ b. cond b ((params ∷ r ∷ []) ∷ []) []) (passes r) ∙ either (has_rowid id r) r) (db tree)
      ∙ sym (map-flat_map (λ r. params ∷ r ∷ []) (λ r. cond (has_rowid id r) (r ∷ []) []) (db tree))
      ∙ ap (map (λ r. params ∷ r ∷ [])) (sym (filter_as_flat_map (has_rowid id) (db tree)))
    where
      either : (b : Bool) (r : Row) → cond b ((params ∷ r ∷ []) ∷ []) [] ≡ map (λ y. params ∷ y ∷ []) (cond b (r ∷ []) [])
      either true r = refl
      either false r = refl

  module _ (rows : List Row) (a : IsAnswer query (overlay db []) params rows) where
    kept_are : (found : List Row) → filter (has_rowid id) (db tree) ≡ found → a.kept ≡ map (output query) (map (λ r. params ∷ r ∷ []) found)
    kept_are found h = a.distinct ∙ ap (map (output query)) (a.grouped ∙ matched ∙ ap (map (λ r. params ∷ r ∷ [])) h)

    shown_are : (found : List Output) → a.ordered ≡ found → rows ≡ page query params (map (λ (o : Output). o.1) found)
    shown_are found h = a.shown ∙ ap (λ os. page query params (map (λ (o : Output). o.1) os)) h

    none_answered : filter (has_rowid id) (db tree) ≡ [] → rows ≡ []
    none_answered h = shown_are [] (none_permuted a.ordered (subst (λ k. IsPermutation k a.ordered) (kept_are [] h) a.same))

    one_answered : (r : Row) → filter (has_rowid id) (db tree) ≡ r ∷ [] → rows ≡ eval_all fields (params ∷ r ∷ []) ∷ []
    one_answered r h =
        let o : Output = output query (params ∷ r ∷ []) in
        shown_are (o ∷ []) (one_permutation o a.ordered (subst (λ k. IsPermutation k a.ordered) (kept_are (r ∷ []) h) a.same))

  -- if no row has the number, the answer is empty; if one row has it, the answer is that row
  pub answers_none : (rows : List Row) → IsAnswer query (overlay db []) params rows → filter (has_rowid id) (db tree) ≡ [] → rows ≡ []
  answers_none rows a = none_answered rows a

  pub answers_one : (rows : List Row) → IsAnswer query (overlay db []) params rows → (r : Row) → filter (has_rowid id) (db tree) ≡ r ∷ [] → rows ≡ eval_all fields (params ∷ r ∷ []) ∷ []
  answers_one rows a = one_answered rows a
