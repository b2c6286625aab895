-- The order of the rows of records that are in the order of their keys.
use Rattle.std.proofs.Common.{◌≡◌, ◌*◌, ◌++◌, ◌<◌, ◌≤◌, suc, ℕ, List, [], ◌∷◌, map, flat_map, false, sym, subst, ◌∙◌, arith, mul-le-mul_right}
use Rattle.std.specs.Prelude.{IsPermutation}
use Rattle.std.specs.Ordering.{is_lt}
use Rattle.std.proofs.lemmas.List.Concat.{flat_map_single}
use Rattle.sqlite.specs.Order.{Row}
use Rattle.sqlite.specs.Query.{key_cmp}
use Rattle.pt_base_records.specs.Records.{Each, IsInOrder}
use Rattle.pt_base_records.proofs.OrderLemmas.{Each-weaker}
use Rattle.pt_tables_asking.specs.Asking.{AreInOrder}
use Rattle.pt_tables_asking.proofs.AskedQueries.{keys_of}
use Rattle.pt_tables_asking.proofs.OrderedLemmas.{IsNumbered, keeps_order, row_le, same_order, told_order, triple_key}
use Rattle.pt_tables_opening.specs.Gathered.{KeepsOrder}
use Rattle.pt_tables_rows.specs.Rows.{one_row}
use Rattle.pt_tables_rows.proofs.SameRowsLists.{in_one_order}

-- ---- records of one row each, whose rows have their keys

module _ (columns : ℕ) (row_key : Row → ℕ) (Is : Row → Type 0) (le : (a b : Row) → Is a → Is b → is_lt (key_cmp 0 (keys_of columns) b a) ≡ false → row_key a ≤ row_key b)
    {A : Type 0} (key : A → ℕ) (row_of : A → Row) (Fits : A → Type 0) (is : (x : A) → Fits x → Is (row_of x)) (keyed : (x : A) → row_key (row_of x) ≡ key x) where
  above_back : (x : A) (xs : List A) → Each (λ row. row_key (row_of x) < row_key row) (map row_of xs) → Each (λ y. key x < key y) xs
  above_back x [] each = tt
  above_back x (y ∷ ys) each = (let low = each.0 in omega (arith, keyed x, keyed y), above_back x ys each.1)

  order_back : (xs : List A) → IsInOrder row_key (map row_of xs) → IsInOrder key xs
  order_back [] order = tt
  order_back (x ∷ xs) order = (above_back x xs order.0, order_back xs order.1)

  pub keeps_all_order : (rows : List Row) → AreInOrder columns rows → KeepsOrder key (one_row row_of) Fits rows
  keeps_all_order rows ordered =
      let all = flat_map_single row_of in
      record {
        same = λ xs each order alike. all xs ∙ keeps_order columns row_key Is le key row_of Fits is keyed rows ordered xs each order (subst (λ l. IsPermutation l rows) (all xs) alike);
        rising = λ xs ys each also same order.
            order_back ys (subst (IsInOrder row_key) (sym (all xs) ∙ same ∙ all ys) (told_order columns row_key Is le key row_of Fits is keyed xs order));
      }

-- records in order have their rows in one order
module _ {A : Type 0} (key : A → ℕ) (key_in : Row → ℕ) (row_of : A → Row) (keyed : (x : A) → key_in (row_of x) ≡ key x) where
  rows_above : (k : ℕ) (xs : List A) → Each (λ x. k < key x) xs → Each (λ row. k < key_in row) (map row_of xs)
  rows_above k [] above = tt
  rows_above k (x ∷ xs) above = (subst (λ n. k < n) (sym (keyed x)) above.0, rows_above k xs above.1)

  rows_in_order : (xs : List A) → IsInOrder key xs → IsInOrder key_in (map row_of xs)
  rows_in_order [] order = tt
  rows_in_order (x ∷ xs) order = (subst (λ k. Each (λ row. k < key_in row) (map row_of xs)) (sym (keyed x)) (rows_above (key x) xs order.0), rows_in_order xs order.1)

  pub same_rows : (xs ys : List A) → IsInOrder key xs → IsInOrder key ys → IsPermutation (map row_of xs) (map row_of ys) → map row_of xs ≡ map row_of ys
  same_rows xs ys one other same = in_one_order key_in (map row_of xs) (map row_of ys) (rows_in_order xs one) (rows_in_order ys other) same

-- ---- the rows of records in order

each_append : {A : Type 0} (P : A → Type 0) (xs ys : List A) → Each P xs → Each P ys → Each P (xs ++ ys)
each_append P [] ys one other = other
each_append P (x ∷ xs) ys one other = (one.0, each_append P xs ys one.1 other)

order_append : {R : Type 0} (key : R → ℕ) (bound : ℕ) (xs ys : List R) → IsInOrder key xs → IsInOrder key ys → Each (λ x. key x < bound) xs → Each (λ y. bound ≤ key y) ys
    → IsInOrder key (xs ++ ys)
order_append key bound [] ys one other below above = other
order_append key bound (x ∷ xs) ys one other below above = (
  each_append (λ y. key x < key y) xs ys one.0 (Each-weaker (λ y. bound ≤ key y) (λ y. key x < key y) (λ y high. let low = below.0 in omega arith) ys above),
  order_append key bound xs ys one.1 other below.1 above,
)

-- the rows of a record are numbered and in order, and lie between the record's key and the next
pub record IsSpan (number width : ℕ) (rows : List Row) : Type 0 where
  pub numbered : Each IsNumbered rows
  pub in_order : IsInOrder triple_key rows
  pub from : Each (λ row. number * width ≤ triple_key row) rows
  pub below : Each (λ row. triple_key row < suc number * width) rows

module _ {A : Type 0} (key : A → ℕ) (width : ℕ) (rows_of : A → List Row) (Fits : A → Type 0) (spans : (x : A) → Fits x → IsSpan (key x) width (rows_of x)) where
  above_all : (k : ℕ) (xs : List A) → Each Fits xs → Each (λ x. k < key x) xs → Each (λ row. suc k * width ≤ triple_key row) (flat_map rows_of xs)
  above_all k [] each above = tt
  above_all k (x ∷ xs) each above =
      let more : suc k * width ≤ key x * width = mul-le-mul_right width above.0 in
      each_append (λ row. suc k * width ≤ triple_key row) (rows_of x) (flat_map rows_of xs)
      (Each-weaker (λ row. key x * width ≤ triple_key row) (λ row. suc k * width ≤ triple_key row) (λ row high. omega arith) (rows_of x) (spans x each.0).from)
      (above_all k xs each.1 above.1)

  all_in_order : (xs : List A) → Each Fits xs → IsInOrder key xs → IsInOrder triple_key (flat_map rows_of xs)
  all_in_order [] each order = tt
  all_in_order (x ∷ xs) each order =
      order_append triple_key (suc (key x) * width) (rows_of x) (flat_map rows_of xs) (spans x each.0).in_order (all_in_order xs each.1 order.1) (spans x each.0).below
      (above_all (key x) xs each.1 order.0)

  all_numbered : (xs : List A) → Each Fits xs → Each IsNumbered (flat_map rows_of xs)
  all_numbered [] each = tt
  all_numbered (x ∷ xs) each = each_append IsNumbered (rows_of x) (flat_map rows_of xs) (spans x each.0).numbered (all_numbered xs each.1)

  -- rows in order are those of the records, if they have them in some order
  pub rows_told : (xs : List A) (rows : List Row) → Each Fits xs → IsInOrder key xs → IsPermutation (flat_map rows_of xs) rows → AreInOrder 3 rows → flat_map rows_of xs ≡ rows
  rows_told xs rows each order same ordered = same_order 3 triple_key IsNumbered row_le (flat_map rows_of xs) rows (all_in_order xs each order) (all_numbered xs each) same ordered
