-- Rows, in any order, determine the records in the order of their keys.
use Rattle.std.proofs.Common.{◌≡◌, ℕ, suc, ◌+◌, ◌<◌, ◌≤◌, Bool, true, false, not, cond, List, [], ◌∷◌, ◌++◌, length}
use Rattle.std.proofs.Common.{filter, flat_map, get_or, length-append, append-nil, refl, sym, ap, ap₂, ◌∙◌, subst}
use Rattle.std.proofs.Common.{arith}
use Rattle.std.specs.Prelude.{◌==◌, IsPermutation}
use Rattle.std.specs.List.{AllByRecursion}
use Rattle.std.proofs.lemmas.Bool.Decides.{nat_tests}
use Rattle.std.proofs.lemmas.List.Elements.{filter-append}
use Rattle.std.proofs.lemmas.List.Sorted.{length_permutation, IsPermutation-cons, IsPermutation-middle}
use Rattle.std.proofs.lemmas.List.Sorted.{IsPermutation-refl, IsPermutation-sym, IsPermutation-trans}
use Rattle.sqlite.proofs.Callers.{one_permutation}
use Rattle.sqlite_keyed.proofs.ListLemmas.{all_weaker, all-append, along_permutation, filter_all, filter_none}
use Rattle.sqlite_keyed.proofs.ListLemmas.{IsPermutation-filter, IsPermutation-same}
use Rattle.sqlite_trees.proofs.ListLemmas.{all-permutation}
use Rattle.pt_base_records.specs.Records.{Each, IsInOrder}
use Rattle.pt_base_records.proofs.OrderLemmas.{Each-weaker}

same_test : (a b : ℕ) → a ≡ b → (a == b) ≡ true
same_test a b same = grind (arith, nat_tests)

other_test : (a b : ℕ) → b < a → (a == b) ≡ false
other_test a b above = grind (arith, nat_tests)

same_not : (a b : ℕ) → a ≡ b → not (a == b) ≡ false
same_not a b same = ap not (same_test a b same)

other_not : (a b : ℕ) → b < a → not (a == b) ≡ true
other_not a b above = ap not (other_test a b above)

-- what holds of all rows of a record holds of one, if there are rows
one_of : {R : Type 0} (P : Type 0) (Q : R → Type 0) (rows : List R) → 0 < length rows → AllByRecursion Q rows
    → ((r : R) → Q r → P) → P
one_of P Q [] some all give = absurd (omega arith)
one_of P Q (r ∷ rows) some all give = give r all.0

pub all_front : {R : Type 0} (P : R → Type 0) (xs ys : List R) → AllByRecursion P (xs ++ ys) → AllByRecursion P xs
all_front P [] ys all = tt
all_front P (x ∷ xs) ys all = (all.0, all_front P xs ys all.1)

pub all_back : {R : Type 0} (P : R → Type 0) (xs ys : List R) → AllByRecursion P (xs ++ ys) → AllByRecursion P ys
all_back P [] ys all = all
all_back P (x ∷ xs) ys all = all_back P xs ys all.1

module _ {A R : Type 0} (key : A → ℕ) (key_in : R → ℕ) (rows : A → List R)
    (keyed : (x : A) → AllByRecursion (λ r. key_in r ≡ key x) (rows x)) where
  -- the rows of records above a key are above it
  pub rows_above : (k : ℕ) (xs : List A) → Each (λ x. k < key x) xs → AllByRecursion (λ r. k < key_in r) (flat_map rows xs)
  rows_above k [] above = tt
  rows_above k (x ∷ xs) above =
      let here = all_weaker (λ r. key_in r ≡ key x) (λ r. k < key_in r)
      (λ r same. subst (λ n. k < n) (sym same) above.0) (rows x) (keyed x) in
      all-append (λ r. k < key_in r) (rows x) (flat_map rows xs) here (rows_above k xs above.1)

  -- no row is below the first record's key
  least : (x : A) (xs : List A) → IsInOrder key (x ∷ xs)
      → AllByRecursion (λ r. key x ≤ key_in r) (flat_map rows (x ∷ xs))
  least x xs order =
      let here = all_weaker (λ r. key_in r ≡ key x) (λ r. key x ≤ key_in r) (λ r same. omega arith)
      (rows x) (keyed x) in
      let later = all_weaker (λ r. key x < key_in r) (λ r. key x ≤ key_in r) (λ r above. omega arith) (flat_map rows xs)
      (rows_above (key x) xs order.0) in
      all-append (λ r. key x ≤ key_in r) (rows x) (flat_map rows xs) here later

  -- the first record's rows are found by its key
  first_rows : (x : A) (xs : List A) → IsInOrder key (x ∷ xs)
      → filter (λ r. key_in r == key x) (flat_map rows (x ∷ xs)) ≡ rows x
  first_rows x xs order =
      let is_of : R → Bool = λ r. key_in r == key x in
      let here = all_weaker (λ r. key_in r ≡ key x) (λ r. is_of r ≡ true) (λ r. same_test (key_in r) (key x)) (rows x)
      (keyed x) in
      let later = all_weaker (λ r. key x < key_in r) (λ r. is_of r ≡ false) (λ r. other_test (key_in r) (key x))
      (flat_map rows xs) (rows_above (key x) xs order.0) in
      filter-append is_of (rows x) (flat_map rows xs)
      ∙ ap₂ ◌++◌ (filter_all is_of (rows x) here) (filter_none is_of (flat_map rows xs) later)
      ∙ append-nil (rows x)

  -- and the others' rows
  other_rows : (x : A) (xs : List A) → IsInOrder key (x ∷ xs)
      → filter (λ r. not (key_in r == key x)) (flat_map rows (x ∷ xs)) ≡ flat_map rows xs
  other_rows x xs order =
      let is_other : R → Bool = λ r. not (key_in r == key x) in
      let here = all_weaker (λ r. key_in r ≡ key x) (λ r. is_other r ≡ false) (λ r. same_not (key_in r) (key x))
      (rows x) (keyed x) in
      let later = all_weaker (λ r. key x < key_in r) (λ r. is_other r ≡ true) (λ r. other_not (key_in r) (key x))
      (flat_map rows xs) (rows_above (key x) xs order.0) in
      filter-append is_other (rows x) (flat_map rows xs)
      ∙ ap₂ ◌++◌ (filter_none is_other (rows x) here) (filter_all is_other (flat_map rows xs) later)

  -- a list whose rows are among these begins no lower
  no_lower : (x y : A) (xs ys : List A) → 0 < length (rows x) → IsInOrder key (y ∷ ys)
      → IsPermutation (flat_map rows (y ∷ ys)) (flat_map rows (x ∷ xs)) → key y ≤ key x
  no_lower x y xs ys some order same =
      let all = all-permutation (λ r. key y ≤ key_in r) (flat_map rows (y ∷ ys)) (flat_map rows (x ∷ xs)) same
      (least y ys order) in
      let front = all_front (λ r. key y ≤ key_in r) (rows x) (flat_map rows xs) all in
      one_of (key y ≤ key x) (λ r. (key y ≤ key_in r) × (key_in r ≡ key x)) (rows x) some
      (both (rows x) front (keyed x)) (λ r facts. subst (λ n. key y ≤ n) facts.1 facts.0)
    where
      both : (rs : List R) → AllByRecursion (λ r. key y ≤ key_in r) rs → AllByRecursion (λ r. key_in r ≡ key x) rs
          → AllByRecursion (λ r. (key y ≤ key_in r) × (key_in r ≡ key x)) rs
      both [] one other = tt
      both (r ∷ rs) one other = ((one.0, other.0), both rs one.1 other.1)

-- the first's rows among the rows of records with the same first key
first_among : {A R : Type 0} (key : A → ℕ) (key_in : R → ℕ) (rows : A → List R)
    (keyed : (x : A) → AllByRecursion (λ r. key_in r ≡ key x) (rows x)) (x y : A) (xs ys : List A) → key x ≡ key y
    → IsInOrder key (x ∷ xs) → IsInOrder key (y ∷ ys)
    → IsPermutation (flat_map rows (x ∷ xs)) (flat_map rows (y ∷ ys)) → IsPermutation (rows x) (rows y)
first_among {A} {R} key key_in rows keyed x y xs ys same one other all =
    let is_of : R → Bool = λ r. key_in r == key x in
    let first : filter is_of (flat_map rows (y ∷ ys)) ≡ rows y =
    subst (λ k. filter (λ r. key_in r == k) (flat_map rows (y ∷ ys)) ≡ rows y) (sym same)
    (first_rows key key_in rows keyed y ys other) in
    let both = IsPermutation-filter is_of (flat_map rows (x ∷ xs)) (flat_map rows (y ∷ ys)) all in
    subst (λ l. IsPermutation l (rows y)) (first_rows key key_in rows keyed x xs one)
    (subst (IsPermutation (filter is_of (flat_map rows (x ∷ xs)))) first both)

-- and the others' rows among theirs
others_among : {A R : Type 0} (key : A → ℕ) (key_in : R → ℕ) (rows : A → List R)
    (keyed : (x : A) → AllByRecursion (λ r. key_in r ≡ key x) (rows x)) (x y : A) (xs ys : List A) → key x ≡ key y
    → IsInOrder key (x ∷ xs) → IsInOrder key (y ∷ ys)
    → IsPermutation (flat_map rows (x ∷ xs)) (flat_map rows (y ∷ ys))
    → IsPermutation (flat_map rows xs) (flat_map rows ys)
others_among {A} {R} key key_in rows keyed x y xs ys same one other all =
    let is_other : R → Bool = λ r. not (key_in r == key x) in
    let later : filter is_other (flat_map rows (y ∷ ys)) ≡ flat_map rows ys =
    subst (λ k. filter (λ r. not (key_in r == k)) (flat_map rows (y ∷ ys)) ≡ flat_map rows ys) (sym same)
    (other_rows key key_in rows keyed y ys other) in
    let both = IsPermutation-filter is_other (flat_map rows (x ∷ xs)) (flat_map rows (y ∷ ys)) all in
    subst (λ l. IsPermutation l (flat_map rows ys)) (other_rows key key_in rows keyed x xs one)
    (subst (IsPermutation (filter is_other (flat_map rows (x ∷ xs)))) later both)

-- records with a row at least have no rows only if there are none
no_rows : {A R : Type 0} (rows : A → List R) (y : A) (ys : List A) → 0 < length (rows y)
    → length (flat_map rows (y ∷ ys)) ≡ 0 → ⊥
no_rows rows y ys some none = absurd (omega (arith, length-append (rows y) (flat_map rows ys)))

-- Records have rows in their own table, one at least, and may have others in a second table. All rows of a record have
-- its key, and two records of one key have different rows.
pub record Tells {A R : Type 0} (key : A → ℕ) (rows beside : A → List R) (Fits : A → Type 0) : Type 0 where
  pub key_in : R → ℕ
  pub key_beside : R → ℕ
  pub keyed : (x : A) → AllByRecursion (λ r. key_in r ≡ key x) (rows x)
  pub also_keyed : (x : A) → AllByRecursion (λ r. key_beside r ≡ key x) (beside x)
  pub some : (x : A) → Fits x → 0 < length (rows x)
  pub told : (x y : A) → Fits x → Fits y → IsPermutation (rows x) (rows y) → IsPermutation (beside x) (beside y) → x ≡ y

-- such rows determine records in the order of their keys
pub told_by_rows : {A R : Type 0} (key : A → ℕ) (rows beside : A → List R) (Fits : A → Type 0) → Tells key rows beside Fits
    → (xs ys : List A) → IsInOrder key xs → IsInOrder key ys → Each Fits xs → Each Fits ys
    → IsPermutation (flat_map rows xs) (flat_map rows ys) → IsPermutation (flat_map beside xs) (flat_map beside ys) → xs ≡ ys
told_by_rows key rows beside Fits by [] [] one other ones others same also = refl
told_by_rows key rows beside Fits by [] (y ∷ ys) one other ones others same also =
    absurd (no_rows rows y ys (by.some y others.0) (length_permutation _ _ same))
told_by_rows key rows beside Fits by (x ∷ xs) [] one other ones others same also =
    absurd (no_rows rows x xs (by.some x ones.0) (sym (length_permutation _ _ same)))
told_by_rows key rows beside Fits by (x ∷ xs) (y ∷ ys) one other ones others same also =
    let low = no_lower key by.key_in rows by.keyed x y xs ys (by.some x ones.0) other (IsPermutation-sym _ _ same) in
    let high = no_lower key by.key_in rows by.keyed y x ys xs (by.some y others.0) one same in
    let level : key x ≡ key y = omega (arith, low, high) in
    let first = first_among key by.key_in rows by.keyed x y xs ys level one other same in
    let later = others_among key by.key_in rows by.keyed x y xs ys level one other same in
    let first_also = first_among key by.key_beside beside by.also_keyed x y xs ys level one other also in
    let later_also = others_among key by.key_beside beside by.also_keyed x y xs ys level one other also in
    ap₂ ◌∷◌ (by.told x y ones.0 others.0 first first_also)
    (told_by_rows key rows beside Fits by xs ys one.1 other.1 ones.1 others.1 later later_also)

-- a list of one element has one order
pub one_same : {R : Type 0} (r s : R) → IsPermutation (r ∷ []) (s ∷ []) → r ≡ s
one_same r s same = ap (λ rs. get_or rs 0 r) (sym (one_permutation r (s ∷ []) same))

abbrev nothing : (R : Type 0) → List R
nothing R = []

-- records that have no rows have none together
pub none_beside : {A R : Type 0} (xs : List A) → IsPermutation (nothing R) (flat_map (λ x. nothing R) xs)
none_beside [] = IsPermutation-refl []
none_beside (x ∷ xs) = none_beside xs

-- the empty condition holds of each element
each_any : {A : Type 0} (xs : List A) → Each (λ x. Unit {0}) xs
each_any [] = tt
each_any (x ∷ xs) = (tt, each_any xs)

-- rows in the order of a number have only one order
pub in_one_order : {R : Type 0} (key : R → ℕ) (xs ys : List R) → IsInOrder key xs → IsInOrder key ys
    → IsPermutation xs ys → xs ≡ ys
in_one_order {R} key xs ys one other same =
    told_by_rows key (λ r. r ∷ []) (λ r. []) (λ r. Unit {0}) by xs ys one other (each_any xs) (each_any ys)
    (subst (λ rs. IsPermutation rs (flat_map (λ r. r ∷ []) ys)) (sym (each-same xs))
    (subst (IsPermutation xs) (sym (each-same ys)) same))
    (IsPermutation-trans _ [] _ (IsPermutation-sym [] _ (none_beside xs)) (none_beside ys))
  where
    each-same : (rs : List R) → flat_map (λ r. r ∷ []) rs ≡ rs
    each-same [] = refl
    each-same (r ∷ rs) = ap (λ l. r ∷ l) (each-same rs)

    by : Tells key (λ r. r ∷ []) (λ r. []) (λ r. Unit {0})
    by = record {
      key_in = key;
      key_beside = key;
      keyed = λ r. (refl, tt);
      also_keyed = λ r. tt;
      some = λ r fits. omega arith;
      told = λ r s fits also alike none. one_same r s alike;
    }

-- ---- one element less

-- the list without the first element that passes
abbrev less_one : {A : Type 0} → (A → Bool) → List A → List A
less_one test [] = []
less_one test (x ∷ xs) = cond (test x) xs (x ∷ less_one test xs)

turned : {A : Type 0} (x y : A) (xs : List A) → IsPermutation (x ∷ y ∷ xs) (y ∷ x ∷ xs)
turned x y xs = IsPermutation-middle (x ∷ []) y xs

-- lists with the same elements still have the same ones without the first that passes, if only one value passes
less_one-permutation : {A : Type 0} (test : A → Bool) (a : A) → ((x : A) → test x ≡ true → x ≡ a) → (xs ys : List A)
    → IsPermutation xs ys → IsPermutation (less_one test xs) (less_one test ys)
less_one-permutation {A} test a only xs ys same = (along_permutation Both
    (λ l. (IsPermutation-refl l, IsPermutation-refl (less_one test l))) skip turn
    (λ us vs ws one other. (IsPermutation-trans us vs ws one.0 other.0, IsPermutation-trans _ _ _ one.1 other.1))
    xs ys same).1
  where
    Both : List A → List A → Type 0
    Both us vs = IsPermutation us vs × IsPermutation (less_one test us) (less_one test vs)

    skip : (x : A) (us vs : List A) → Both us vs → Both (x ∷ us) (x ∷ vs)
    skip x us vs both = (
      IsPermutation-cons x us vs both.0,
      elim (test x) as (λ b. IsPermutation (cond b us (x ∷ less_one test us)) (cond b vs (x ∷ less_one test vs)))
          [ true ↦ both.0 | false ↦ IsPermutation-cons x _ _ both.1 ],
    )

    by_tests : (x y : A) (us : List A) (p q : Bool) → test x ≡ p → test y ≡ q
        → IsPermutation (cond p (y ∷ us) (x ∷ cond q us (y ∷ less_one test us)))
        (cond q (x ∷ us) (y ∷ cond p us (x ∷ less_one test us)))
    by_tests x y us true true is_x is_y =
        IsPermutation-same (y ∷ us) (x ∷ us) (ap (λ (z : A). z ∷ us) (only y is_y ∙ sym (only x is_x)))
    by_tests x y us true false is_x is_y = IsPermutation-refl (y ∷ us)
    by_tests x y us false true is_x is_y = IsPermutation-refl (x ∷ us)
    by_tests x y us false false is_x is_y = turned x y (less_one test us)

    turn : (x y : A) (us : List A) → Both (x ∷ y ∷ us) (y ∷ x ∷ us)
    turn x y us = (turned x y us, by_tests x y us (test x) (test y) refl refl)

-- the rest of two such lists that begin with it
pub same_rest : {A : Type 0} (test : A → Bool) (a : A) → test a ≡ true → ((x : A) → test x ≡ true → x ≡ a)
    → (xs ys : List A) → IsPermutation (a ∷ xs) (a ∷ ys) → IsPermutation xs ys
same_rest {A} test a is_one only xs ys same =
    subst (λ l. IsPermutation l ys) (first xs)
    (subst (IsPermutation (less_one test (a ∷ xs))) (first ys)
    (less_one-permutation test a only (a ∷ xs) (a ∷ ys) same))
  where
    first : (zs : List A) → less_one test (a ∷ zs) ≡ zs
    first zs = ap (λ (b : Bool). cond b zs (a ∷ less_one test zs)) is_one

-- each before the next
pub steps-in_order : {A : Type 0} (key : A → ℕ) (d : A) (xs : List A)
    → ((k : ℕ) → k + 1 < length xs → key (get_or xs k d) < key (get_or xs (k + 1) d)) → IsInOrder key xs
steps-in_order key d [] rises = tt
steps-in_order key d (x ∷ []) rises = (tt, tt)
steps-in_order {A} key d (x ∷ y ∷ xs) rises =
    let rest = steps-in_order key d (y ∷ xs) later in
    let first : key x < key y = rises 0 (omega arith) in (
      (first, Each-weaker (λ z. key y < key z) (λ z. key x < key z) (λ z above. omega arith) xs rest.0),
      rest,
    )
  where
    later : (k : ℕ) → k + 1 < length (y ∷ xs) → key (get_or (y ∷ xs) k d) < key (get_or (y ∷ xs) (k + 1) d)
    later k inside =
        let next : suc k + 1 ≡ suc (k + 1) = omega arith in
        subst (λ j. key (get_or (y ∷ xs) k d) < key (get_or (x ∷ y ∷ xs) j d)) next (rises (suc k) (omega arith))
