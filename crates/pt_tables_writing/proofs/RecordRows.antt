-- From the rows of a table to the records that have them.
use Rattle.std.proofs.Common.{◌≡◌, ◌≢◌, inl, inr, ℕ, ◌<◌, ◌≤◌, ◌==◌, List, [], ◌∷◌, ◌++◌, filter, flat_map, not, Bool, true, false, cond, Some, refl, sym, ap, ap₂, subst, subst₂, ◌∙◌, arith}
use Rattle.std.specs.Prelude.{IsPermutation}
use Rattle.std.specs.List.{AllByRecursion}
use Rattle.std.proofs.lemmas.Bool.Decides.{nat_tests}
use Rattle.std.proofs.lemmas.List.Elements.{filter-append}
use Rattle.std.proofs.lemmas.List.Sorted.{IsPermutation-sym, IsPermutation-trans}
use Rattle.sqlite.specs.Effect.{Database}
use Rattle.sqlite.specs.Order.{Row}
use Rattle.sqlite.specs.Table.{Table}
use Rattle.sqlite.specs.Tree.{Trees}
use Rattle.sqlite_keyed.proofs.ListLemmas.{all_weaker, filter_all, filter_none, IsPermutation-flat_map}
use Rattle.pt_base_records.specs.Records.{Each, IsInOrder, put, record_at}
use Rattle.pt_base_records.proofs.OrderLemmas.{compared, record_at-past, record_at-here, record_at-above}
use Rattle.pt_base_records.proofs.RecordLemmas.{put_past, put_over}
use Rattle.pt_base_records.proofs.TableLemmas.{Each-filter}
use Rattle.pt_tables_writing.specs.Grouped.{Adds}
use Rattle.pt_tables_writing.specs.Writes.{Holds, Rewrites, Puts, Takes}
use Rattle.pt_tables_writing.proofs.DeleteLemmas.{Removes}
use Rattle.pt_tables_writing.proofs.NumberedLemmas.{put-permutation}
use Rattle.pt_tables_writing.proofs.TreeLemmas.{turned}
use Rattle.pt_tables_writing.proofs.TurnLemmas.{rewrites_then}

-- ---- rewriting

pub holds-permuted : (table : Table) (shown others : List Row) (trees : Trees) → IsPermutation shown others → Holds table shown trees → Holds table others trees
holds-permuted table shown others trees same holds = record {
  rows = IsPermutation-trans _ shown others holds.rows same;
  rising = holds.rising;
  whole = holds.whole;
}

pub rewrites-permuted : (table : Table) (before shown others : List Row) (old new : Database) → IsPermutation shown others → Rewrites table before shown old new → Rewrites table before others old new
rewrites-permuted table before shown others old new same it = record {
  schema = it.schema;
  rows = λ holds. holds-permuted table shown others new.trees same (it.rows holds);
  others = it.others;
}

rewrites-from : (table : Table) (others before shown : List Row) (old new : Database) → IsPermutation others before → Rewrites table before shown old new → Rewrites table others shown old new
rewrites-from table others before shown old new same it = record {
  schema = it.schema;
  rows = λ holds. it.rows (holds-permuted table others before old.trees same holds);
  others = it.others;
}

-- ---- records

same_test : (a b : ℕ) → a ≡ b → not (a == b) ≡ false
same_test a b same = grind (arith, nat_tests)

module _ {A : Type 0} (key : A → ℕ) where
  -- the records without those of this key
  abbrev pub without : ℕ → List A → List A
  without k xs = filter (λ x. not (key x == k)) xs

  far_above : (k l : ℕ) (xs : List A) → k ≤ l → Each (λ x. l < key x) xs → Each (λ x. k < key x) xs
  far_above k l [] le above = tt
  far_above k l (x ∷ xs) le above = (omega (arith, above.0), far_above k l xs le above.1)

  -- a record that is there, put again, changes nothing
  put_there : (k : ℕ) (x : A) (ys : List A) → IsInOrder key ys → key x ≡ k → record_at key k ys ≡ Some x → put key x ys ≡ ys
  put_there k x [] order is there = absurd (let none = there in cc)
  put_there k x (y ∷ ys) order is there = elim (compared (key y) k) [
    | inl less ↦
        let apart : (key y ≡ k → ⊥) = λ same. omega (arith, less, same) in
        put_past key x y ys (omega (arith, less, is)) ∙ ap (λ l. y ∷ l) (put_there k x ys order.1 is (sym (record_at-past key k y ys apart) ∙ there))
    | inr (inl same) ↦
        let found : Some y ≡ Some x = sym (record_at-here key k y ys same) ∙ there in
        put_over key x y ys (same ∙ sym is) ∙ ap (λ z. z ∷ ys) (cc)
    | inr (inr more) ↦
        absurd (let none = sym (record_at-above key k (y ∷ ys) (more, far_above k (key y) ys (omega (arith, more)) order.0)) ∙ there in cc)
  ]

  others_apart : (k : ℕ) (xs : List A) → Each (λ x. key x ≢ k) (without k xs)
  others_apart k [] = tt
  others_apart k (x ∷ xs) = go (key x == k) refl (others_apart k xs)
    where
      go : (b : Bool) → (key x == k) ≡ b → Each (λ y. key y ≢ k) (without k xs) → Each (λ y. key y ≢ k) (cond (not b) (x ∷ without k xs) (without k xs))
      go true is rest = rest
      go false is rest = ((λ same. absurd (let both = sym (same_test (key x) k same) ∙ ap not is in cc)), rest)

  module _ (rows : A → List Row) where
    -- the rows of a record that is put, and of the others
    pub rows-put : (new : A) (xs : List A) → IsInOrder key xs → IsPermutation (rows new ++ flat_map rows (without (key new) xs)) (flat_map rows (put key new xs))
    rows-put new xs order = IsPermutation-sym _ _ (IsPermutation-flat_map rows _ _ (put-permutation key new xs order))

    -- the rows of the others are those that do not pass
    pub rows-without : (Fits : A → Type 0) (k : ℕ) (passes : Row → Bool) → ((x : A) → Fits x → AllByRecursion (λ r. passes r ≡ (key x == k)) (rows x)) → (xs : List A) → Each Fits xs
        → filter (λ r. not (passes r)) (flat_map rows xs) ≡ flat_map rows (without k xs)
    rows-without Fits k passes tells [] fits = refl
    rows-without Fits k passes tells (x ∷ xs) fits =
        filter-append (λ r. not (passes r)) (rows x) (flat_map rows xs) ∙ ap₂ ◌++◌ (refl) (rows-without Fits k passes tells xs fits.1)
        ∙ go (key x == k) refl
      where
        go : (b : Bool) → (key x == k) ≡ b → filter (λ r. not (passes r)) (rows x) ++ flat_map rows (without k xs) ≡ flat_map rows (cond (not b) (x ∷ without k xs) (without k xs))
        go true is = ap (λ l. l ++ flat_map rows (without k xs))
            (filter_none (λ r. not (passes r)) (rows x) (all_weaker (λ r. passes r ≡ (key x == k))
            (λ r. not (passes r) ≡ false) (λ r h. ap not (h ∙ is)) (rows x) (tells x fits.0)))
        go false is = ap (λ l. l ++ flat_map rows (without k xs))
            (filter_all (λ r. not (passes r)) (rows x) (all_weaker (λ r. passes r ≡ (key x == k))
            (λ r. not (passes r) ≡ true) (λ r h. ap not (h ∙ is)) (rows x) (tells x fits.0)))

    pub takes : (table : Table) (Fits : A → Type 0) (gone : A) (passes : Row → Bool) → ((x : A) → Fits x → AllByRecursion (λ r. passes r ≡ (key x == key gone)) (rows x)) → (old new : Database)
        → Removes table passes old new → Takes table key Fits rows gone old new
    takes table Fits gone passes tells old new removes xs order fits =
        subst (λ l. Rewrites table (flat_map rows xs) l old new) (rows-without Fits (key gone) passes tells xs fits) (removes (flat_map rows xs))

    pub puts-after : (table : Table) (Fits : A → Type 0) (new : A) (a b c : Database) → Takes table key Fits rows new a b → Adds table (rows new) b c → Puts table key Fits rows new a c
    puts-after table Fits new a b c taken added xs order fits =
        rewrites-permuted table _ _ _ a c (rows-put new xs order)
        (rewrites_then table (flat_map rows xs) (flat_map rows (without (key new) xs)) _ a b c (taken xs order fits) (added (flat_map rows (without (key new) xs))))

    -- a record replaces one whose first rows stay
    pub replaces : (table : Table) (Fits : A → Type 0) (before new : A) (front tail : List Row) (a b c : Database) → rows new ≡ front ++ tail
        → ((others : List A) → Each (λ x. key x ≢ key new) others → Each Fits others → Rewrites table (rows before ++ flat_map rows others) (front ++ flat_map rows others) a b)
        → Adds table tail b c → (xs : List A) → IsInOrder key xs → Each Fits xs → key before ≡ key new → record_at key (key new) xs ≡ Some before
        → Rewrites table (flat_map rows xs) (flat_map rows (put key new xs)) a c
    replaces table Fits before new front tail a b c is left added xs order fits same there =
        let others = without (key new) xs in
        let rest = flat_map rows others in
        let old : IsPermutation (rows before ++ rest) (flat_map rows xs) =
        subst₂ (λ k l. IsPermutation (rows before ++ flat_map rows (without k xs)) (flat_map rows l)) same (put_there (key new) before xs order same there) (rows-put before xs order) in
        let first = left others (others_apart (key new) xs) (Each-filter Fits (λ x. not (key x == key new)) xs fits) in
        let both = rewrites_then table (rows before ++ rest) (front ++ rest) (tail ++ (front ++ rest)) a b c first (added (front ++ rest)) in
        let alike : IsPermutation (tail ++ (front ++ rest)) (rows new ++ rest) = subst (λ l. IsPermutation (tail ++ (front ++ rest)) (l ++ rest)) (sym is) (turned front tail rest) in
        rewrites-from table (flat_map rows xs) (rows before ++ rest) (flat_map rows (put key new xs)) a c (IsPermutation-sym _ _ old)
        (rewrites-permuted table _ (rows new ++ rest) (flat_map rows (put key new xs)) a c (rows-put new xs order) (rewrites-permuted table _ _ (rows new ++ rest) a c alike both))

-- rows are added in turn
pub adds-then : (table : Table) (first second : List Row) (a b c : Database) → Adds table first a b → Adds table second b c → Adds table (first ++ second) a c
adds-then table first second a b c one other before =
    rewrites-permuted table before (second ++ (first ++ before)) ((first ++ second) ++ before) a c (turned first second before)
    (rewrites_then table before (first ++ before) (second ++ (first ++ before)) a b c (one before) (other (first ++ before)))
