-- The rows of a table whose rowids are the numbers of its records, with one put or removed, in any order.
use Rattle.std.proofs.Common.{◌≡◌, ◌⊎◌, inl, inr, ℕ, ℤ, pos, ◌<◌, ◌==◌, List, [], ◌∷◌, map, filter, not, Bool, true}
use Rattle.std.proofs.Common.{false, cond, refl, sym, ap, subst, ◌∙◌, Less, Equal, Greater, int_cmp, arith}
use Rattle.std.proofs.Common.{true≢false}
use Rattle.std.specs.Prelude.{IsPermutation}
use Rattle.std.specs.Ordering.{match_ordering, nat_cmp, is_eq, is_lt}
use Rattle.std.specs.declared.cmp.Ordering.{Ordering}
use Rattle.std.specs.List.{AllByRecursion}
use Rattle.std.proofs.lemmas.Bool.Decides.{nat_tests}
use Rattle.std.proofs.lemmas.List.Sorted.{IsPermutation-refl, IsPermutation-trans, IsPermutation-cons, IsPermutation-middle, IsPermutation-map}
use Rattle.sqlite.specs.declared.types.Value.TheVariants.{Int}
use Rattle.sqlite.specs.Order.{Row, value_cmp}
use Rattle.sqlite.specs.Table.{Table}
use Rattle.sqlite.specs.Tree.{rowid, has_rowid, put_row, without_rowid, IsTable}
use Rattle.sqlite_rules.specs.Lists.{Has}
use Rattle.sqlite_trees.proofs.TreeLemmas.{later_rowids}
use Rattle.sqlite_value.proofs.OrderLemmas.{value_cmp-Int}
use Rattle.sqlite_keyed.proofs.ListLemmas.{all_weaker, filter_all, filter_none, filter-map, filter-filter, filter_same, IsPermutation-filter}
use Rattle.pt_base_records.specs.Records.{Each, IsInOrder, put}
use Rattle.pt_base_records.proofs.OrderLemmas.{Each-weaker, compared}
use Rattle.pt_base_records.proofs.RecordLemmas.{put_past, put_over, put_before}
use Rattle.pt_tables_rows.specs.Tables.{columns_of}

-- ---- rows of a tree

-- rows after one that is not below a rowid do not have it
none_later : (id : ℤ) (r : Row) (rows : List Row) → is_lt (value_cmp (rowid r) (Int id)) ≡ false → IsTable (r ∷ rows) → AllByRecursion (λ x. has_rowid id x ≡ false) rows
none_later id r rows h table = later_rowids (Int id) r rows h table.0

none_dropped : (id : ℤ) (rows : List Row) → AllByRecursion (λ x. has_rowid id x ≡ false) rows → without_rowid id rows ≡ rows
none_dropped id rows none = filter_all _ rows (all_weaker _ (λ x. not (has_rowid id x) ≡ true) (λ x k. ap not k) rows none)

-- after a put, a table has the new row and those with other rowids
pub put_row-permutation : (id : ℤ) (new : Row) → rowid new ≡ Int id → (rows : List Row) → IsTable rows → IsPermutation (put_row new rows) (new ∷ without_rowid id rows)
put_row-permutation id new keyed [] table = IsPermutation-refl _
put_row-permutation id new keyed (r ∷ rows) table = rw keyed (go (value_cmp (rowid r) (Int id)) refl (put_row-permutation id new keyed rows table.1))
  where
    kept : is_lt (value_cmp (rowid r) (Int id)) ≡ false → without_rowid id rows ≡ rows
    kept h = none_dropped id rows (none_later id r rows h table)

    go : (o : Ordering) → value_cmp (rowid r) (Int id) ≡ o → IsPermutation (put_row new rows) (new ∷ without_rowid id rows)
        → IsPermutation (match_ordering o (r ∷ put_row new rows) (new ∷ rows) (new ∷ r ∷ rows)) (new ∷ cond (not (is_eq o)) (r ∷ without_rowid id rows) (without_rowid id rows))
    go Less e more = IsPermutation-trans _ _ _ (IsPermutation-cons r _ _ more) (IsPermutation-middle (r ∷ []) new _)
    go Equal e more = rw (kept (ap is_lt e)) (IsPermutation-refl _)
    go Greater e more = rw (kept (ap is_lt e)) (IsPermutation-refl _)

pub without-again : (id : ℤ) (rows : List Row) → without_rowid id (without_rowid id rows) ≡ without_rowid id rows
without-again id rows = filter-filter (λ r. not (has_rowid id r)) (λ r. not (has_rowid id r)) (λ r other. other) rows

-- one row has a rowid, or none
abbrev pub OneOrNone : ℤ → List Row → Type 0
OneOrNone id rows = ((filter (has_rowid id) rows ≡ []) × (without_rowid id rows ≡ rows)) ⊎ ((r : Row) × (filter (has_rowid id) rows ≡ r ∷ []) × (has_rowid id r ≡ true))

pub one_or_none : (id : ℤ) (rows : List Row) → IsTable rows → OneOrNone id rows
one_or_none id [] table = inl (refl, refl)
one_or_none id (r ∷ rows) table = go (value_cmp (rowid r) (Int id)) refl (one_or_none id rows table.1)
  where
    none : is_lt (value_cmp (rowid r) (Int id)) ≡ false → AllByRecursion (λ x. has_rowid id x ≡ false) rows
    none h = none_later id r rows h table

    later : (b : Bool) → has_rowid id r ≡ b → b ≡ false → OneOrNone id rows → OneOrNone id (r ∷ rows)
    later true is other more = absurd (true≢false other)
    later false is other (inl more) = inl (rw is more.0, rw is (ap (λ rs. r ∷ rs) more.1))
    later false is other (inr more) = inr (more.0, rw is more.1, more.2)

    go : (o : Ordering) → value_cmp (rowid r) (Int id) ≡ o → OneOrNone id rows → OneOrNone id (r ∷ rows)
    go Less e more = later (has_rowid id r) refl (ap is_eq e) more
    go Equal e more = inr (r, rw e (ap (λ rs. r ∷ rs) (filter_none (has_rowid id) rows (none (ap is_lt e)))), ap is_eq e)
    go Greater e more = later (has_rowid id r) refl (ap is_eq e) more

-- a row that is there is found
pub found_there : (id : ℤ) (rows : List Row) (r : Row) → Has rows r → has_rowid id r ≡ true → filter (has_rowid id) rows ≡ [] → ⊥
found_there id [] r has is none = has
found_there id (x ∷ rows) r has is none = go (has_rowid id x) refl none has (λ there. found_there id rows r there is)
  where
    go : (b : Bool) → has_rowid id x ≡ b → cond b (x ∷ filter (has_rowid id) rows) (filter (has_rowid id) rows) ≡ [] → (r ≡ x) ⊎ Has rows r
        → (Has rows r → filter (has_rowid id) rows ≡ [] → ⊥) → ⊥
    go true e gone there later = absurd (cc)
    go false e gone (inl same) later = true≢false (sym is ∙ ap (has_rowid id) same ∙ e)
    go false e gone (inr there) later = later there gone

-- ---- rows as a query shows them

module _ (table : Table) (numbered : (r : Row) → rowid (columns_of table r) ≡ rowid r) where
  shown_test : (id : ℤ) (r : Row) → has_rowid id (columns_of table r) ≡ has_rowid id r
  shown_test id r = ap (λ v. is_eq (value_cmp v (Int id))) (numbered r)

  shown_without : (id : ℤ) (tree : List Row) → map (columns_of table) (without_rowid id tree) ≡ without_rowid id (map (columns_of table) tree)
  shown_without id tree =
      sym (filter-map (λ r. not (has_rowid id r)) (columns_of table) tree ∙ ap (map (columns_of table)) (filter_same _ _ (λ r. ap not (shown_test id r)) tree))

  pub without_shown : (id : ℤ) (tree rows : List Row) → IsPermutation (map (columns_of table) tree) rows → IsPermutation (map (columns_of table) (without_rowid id tree)) (without_rowid id rows)
  without_shown id tree rows same = subst (λ l. IsPermutation l (without_rowid id rows)) (sym (shown_without id tree)) (IsPermutation-filter (λ r. not (has_rowid id r)) _ _ same)

  pub put_shown : (id : ℤ) (new row : Row) → rowid new ≡ Int id → columns_of table new ≡ row → (tree rows : List Row) → IsTable tree → IsPermutation (map (columns_of table) tree) rows
      → IsPermutation (map (columns_of table) (put_row new tree)) (row ∷ without_rowid id rows)
  put_shown id new row keyed shows tree rows up same =
      let first = IsPermutation-map (columns_of table) _ _ (put_row-permutation id new keyed tree up) in
      let whole = IsPermutation-trans _ _ _ first (IsPermutation-cons (columns_of table new) _ _ (without_shown id tree rows same)) in
      subst (λ r. IsPermutation (map (columns_of table) (put_row new tree)) (r ∷ without_rowid id rows)) shows whole

-- ---- rows of records

module _ {A : Type 0} (key : A → ℕ) where
  -- the records with another key
  abbrev pub others : A → List A → List A
  others new xs = filter (λ x. not (key x == key new)) xs

  none_same : (new : A) (xs : List A) → Each (λ x. key new < key x) xs → others new xs ≡ xs
  none_same new [] above = refl
  none_same new (x ∷ xs) above = let other : not (key x == key new) ≡ true = grind (arith, nat_tests, above.0) in ap
      (λ b. cond b (x ∷ others new xs) (others new xs)) other ∙ ap (λ l. x ∷ l) (none_same new xs above.1)

  -- after a put, a list has the new record and those with other keys
  pub put-permutation : (new : A) (xs : List A) → IsInOrder key xs → IsPermutation (put key new xs) (new ∷ others new xs)
  put-permutation new [] order = IsPermutation-refl _
  put-permutation new (x ∷ xs) order = elim (compared (key x) (key new)) [
    | inl less ↦
        let other : not (key x == key new) ≡ true = grind (arith, nat_tests) in
        rw (put_past key new x xs less, other) (IsPermutation-trans _ _ _ (IsPermutation-cons x _ _ (put-permutation new xs order.1)) (IsPermutation-middle (x ∷ []) new (others new xs)))
    | inr (inl same) ↦
        let equal : not (key x == key new) ≡ false = grind (arith, nat_tests) in
        let above : Each (λ y. key new < key y) xs = Each-weaker (λ y. key x < key y) (λ y. key new < key y) (λ y above. omega arith) xs order.0 in
        rw (put_over key new x xs same, equal, none_same new xs above) (IsPermutation-refl _)
    | inr (inr more) ↦
        let other : not (key x == key new) ≡ true = grind (arith, nat_tests) in
        let above : Each (λ y. key new < key y) xs = Each-weaker (λ y. key x < key y) (λ y. key new < key y) (λ y above. omega arith) xs order.0 in
        rw (put_before key new x xs more, other, none_same new xs above) (IsPermutation-refl _)
  ]

int_cmp-pos : (a b : ℕ) → int_cmp (pos a) (pos b) ≡ nat_cmp a b
int_cmp-pos a b = grind (arith, nat_tests)

is_eq_cmp : (a b : ℕ) → is_eq (nat_cmp a b) ≡ (a == b)
is_eq_cmp a b = grind (arith, nat_tests)

module _ {A : Type 0} (key : A → ℕ) (row : A → Row) (keyed : (x : A) → rowid (row x) ≡ Int (pos (key x))) where
  pub row_test : (k : ℕ) (x : A) → has_rowid (pos k) (row x) ≡ (key x == k)
  row_test k x = ap (λ v. is_eq (value_cmp v (Int (pos k)))) (keyed x) ∙ ap is_eq (value_cmp-Int (pos (key x)) (pos k) ∙ int_cmp-pos (key x) k) ∙ is_eq_cmp (key x) k
