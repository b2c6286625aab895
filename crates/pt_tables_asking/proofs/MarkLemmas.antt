-- The marks of records in the order of their keys, by number.
use Rattle.std.proofs.Common.{◌≡◌, ◌++◌, ◌<◌, ◌≤◌, ◌-◌, ◌&&◌, ◌^◌, zero, suc, ℕ, Bool, IsTrue, true, false, List, []}
use Rattle.std.proofs.Common.{◌∷◌, length, filter, flat_map, map, drop, slice_get, slice_index_or, slice_set, cond}
use Rattle.std.proofs.Common.{Some, ◌⊎◌, inl, inr, refl, sym, ap, ap₂, subst, ◌∙◌, arith}
use Rattle.std.specs.Prelude.{nat_le, is_some}
use Rattle.std.proofs.lemmas.Bool.Decides.{nat_tests}
use Rattle.sqlite.specs.Effect.{Database}
use Rattle.sqlite.specs.Order.{Row}
use Rattle.sqlite.specs.State.{State as Connected, HasCleanDisk}
use Rattle.pt_base_records.specs.Records.{Each, IsInOrder, is_within, record_at, within}
use Rattle.pt_base_records.specs.declared.span.Span.{Span}
use Rattle.pt_base_records.proofs.OrderLemmas.{Each-both, Each-weaker, compared, record_at-above, record_at-here, record_at-past}
use Rattle.pt_base_records.proofs.TableLemmas.{Each-filter, IsInOrder-filter}
use Rattle.pt_tables_rows.specs.Rows.{number_value, row_if}
use Rattle.pt_tables_rows.proofs.ColumnLemmas.{number_in}
use Rattle.pt_tables_asking.specs.Asking.{HasAnswer, Rests, ShowsCommit}
use Rattle.pt_tables_asking.specs.Marks.{FitsMark, HasMarks, IsMark, has_mark, has_row, is_marked, mark_key, mark_row, marked_in}
use Rattle.pt_tables_asking.specs.declared.marks.Mark.{Mark}
use Rattle.pt_tables_asking.proofs.InsideLemmas.{still_shown}
use Rattle.pt_tables_asking.proofs.RecordLemmas.{first_row, same_by_both, told_by_rows}

-- ---- marks of all

-- the mark of a record that has one
abbrev pub mark_if : Bool → ℕ → List Mark
mark_if true number = record { number = number } ∷ []
mark_if false number = []

-- a number that is there has a row
pub has_row-if : (n : ℕ) (b : Bool) → has_row (row_if b (number_value n ∷ [])) ≡ b
has_row-if n true = refl
has_row-if n false = refl

module _ {A : Type 0} (key : A → ℕ) (rows_of : A → List Row) (are : (x : A) → IsMark (key x) (rows_of x)) where
  -- the marks of the records that have one
  abbrev pub marks_of : List A → List Mark
  marks_of xs = flat_map (λ x. mark_if (are x).0 (key x)) xs

  above_if : (k n : ℕ) (b : Bool) (ms : List Mark) → k < n → Each (λ m. k < mark_key m) ms → Each (λ m. k < mark_key m) (mark_if b n ++ ms)
  above_if k n true ms low above = (low, above)
  above_if k n false ms low above = above

  marks_above : (k : ℕ) (xs : List A) → Each (λ x. k < key x) xs → Each (λ m. k < mark_key m) (marks_of xs)
  marks_above k [] above = tt
  marks_above k (x ∷ xs) above = above_if k (key x) (are x).0 (marks_of xs) above.0 (marks_above k xs above.1)

  order_if : (n : ℕ) (b : Bool) (ms : List Mark) → Each (λ m. n < mark_key m) ms → IsInOrder mark_key ms → IsInOrder mark_key (mark_if b n ++ ms)
  order_if n true ms above order = (above, order)
  order_if n false ms above order = order

  pub marks_in_order : (xs : List A) → IsInOrder key xs → IsInOrder mark_key (marks_of xs)
  marks_in_order [] order = tt
  marks_in_order (x ∷ xs) order = order_if (key x) (are x).0 (marks_of xs) (marks_above (key x) xs order.0) (marks_in_order xs order.1)

  fit_if : (n : ℕ) (b : Bool) (ms : List Mark) → n < 2 ^ 32 → Each FitsMark ms → Each FitsMark (mark_if b n ++ ms)
  fit_if n true ms low each = (low, each)
  fit_if n false ms low each = each

  pub marks_fit : (xs : List A) → Each (λ x. key x < 2 ^ 32) xs → Each FitsMark (marks_of xs)
  marks_fit [] each = tt
  marks_fit (x ∷ xs) each = fit_if (key x) (are x).0 (marks_of xs) each.0 (marks_fit xs each.1)

  rows_if : (n : ℕ) (b : Bool) (rows : List Row) (ms : List Mark) → rows ≡ map mark_row ms → row_if b (number_value n ∷ []) ++ rows ≡ map mark_row (mark_if b n ++ ms)
  rows_if n true rows ms same = ap (λ l. (number_value n ∷ []) ∷ l) same
  rows_if n false rows ms same = same

  -- their rows are those that the records have in the table
  pub mark_rows : (xs : List A) → flat_map rows_of xs ≡ map mark_row (marks_of xs)
  mark_rows [] = refl
  mark_rows (x ∷ xs) = ap (λ l. l ++ flat_map rows_of xs) (are x).1 ∙ rows_if (key x) (are x).0 (flat_map rows_of xs) (marks_of xs) (mark_rows xs)

  own_mark : (n : ℕ) (b : Bool) (ms : List Mark) → Each (λ m. n < mark_key m) ms → has_mark (mark_if b n ++ ms) n ≡ b
  own_mark n true ms above = ap is_some (record_at-here mark_key n (record { number = n }) ms refl)
  own_mark n false ms above = ap is_some (record_at-above mark_key n ms above)

  other_mark : (k n : ℕ) (b : Bool) (ms : List Mark) → (n ≡ k → ⊥) → has_mark (mark_if b n ++ ms) k ≡ has_mark ms k
  other_mark k n true ms other = ap is_some (record_at-past mark_key k (record { number = n }) ms other)
  other_mark k n false ms other = refl

  -- a number is there where the record with this key is marked
  pub marked_at : (n : ℕ) (xs : List A) → IsInOrder key xs → has_mark (marks_of xs) n ≡ is_marked rows_of (record_at key n xs)
  marked_at n [] order = refl
  marked_at n (x ∷ xs) order = by_key (compared (key x) n) (marked_at n xs order.1)
    where
      IsTold : List A → Type 0
      IsTold ys = has_mark (marks_of ys) n ≡ is_marked rows_of (record_at key n ys)

      past : (key x ≡ n → ⊥) → IsTold xs → IsTold (x ∷ xs)
      past other rest = other_mark n (key x) (are x).0 (marks_of xs) other ∙ rest ∙ sym (ap (is_marked rows_of) (record_at-past key n x xs other))

      here : key x ≡ n → IsTold (x ∷ xs)
      here same =
          ap (has_mark (marks_of (x ∷ xs))) (sym same)
          ∙ own_mark (key x) (are x).0 (marks_of xs) (marks_above (key x) xs order.0)
          ∙ sym (ap has_row (are x).1 ∙ has_row-if (key x) (are x).0)
          ∙ sym (ap (is_marked rows_of) (record_at-here key n x xs same))

      by_key : (key x < n) ⊎ ((key x ≡ n) ⊎ (n < key x)) → IsTold xs → IsTold (x ∷ xs)
      by_key (inl low) rest = past (λ same. omega arith) rest
      by_key (inr (inl same)) rest = here same
      by_key (inr (inr high)) rest = past (λ same. omega arith) rest

  within_if : (span : Span) (n : ℕ) (b : Bool) (ms : List Mark)
      → within mark_key span (mark_if b n ++ ms) ≡ cond (is_within n span) (mark_if b n ++ within mark_key span ms) (within mark_key span ms)
  within_if span n true ms = refl
  within_if span n false ms = either (is_within n span) (within mark_key span ms)
    where
      either : (b : Bool) (l : List Mark) → l ≡ cond b l l
      either true l = refl
      either false l = refl

  -- the marks in a span are those of the records in it
  pub marks_within : (span : Span) (xs : List A) → within mark_key span (marks_of xs) ≡ marks_of (within key span xs)
  marks_within span [] = refl
  marks_within span (x ∷ xs) = within_if span (key x) (are x).0 (marks_of xs) ∙ either (is_within (key x) span) (marks_within span xs)
    where
      either : (b : Bool) → within mark_key span (marks_of xs) ≡ marks_of (within key span xs)
          → cond b (mark_if (are x).0 (key x) ++ within mark_key span (marks_of xs)) (within mark_key span (marks_of xs)) ≡ marks_of (cond b (x ∷ within key span xs) (within key span xs))
      either true rest = ap (λ l. mark_if (are x).0 (key x) ++ l) rest
      either false rest = rest

-- ---- a record in a span

module _ {A : Type 0} (key : A → ℕ) (span : Span) (k : ℕ) (is : is_within k span ≡ true) where
  step : (x : A) (xs : List A) → record_at key k (within key span xs) ≡ record_at key k xs → record_at key k (within key span (x ∷ xs)) ≡ record_at key k (x ∷ xs)
  step x xs rest = by_key (compared (key x) k)
    where
      inside : List A
      inside = within key span xs

      kept : (b : Bool) → (key x ≡ k → ⊥) → record_at key k (cond b (x ∷ inside) inside) ≡ record_at key k inside
      kept true other = record_at-past key k x inside other
      kept false other = refl

      past : (key x ≡ k → ⊥) → record_at key k (within key span (x ∷ xs)) ≡ record_at key k (x ∷ xs)
      past other = kept (is_within (key x) span) other ∙ rest ∙ sym (record_at-past key k x xs other)

      here : key x ≡ k → record_at key k (within key span (x ∷ xs)) ≡ record_at key k (x ∷ xs)
      here same =
          ap (λ b. record_at key k (cond b (x ∷ inside) inside)) (ap (λ n. is_within n span) same ∙ is)
          ∙ record_at-here key k x inside same
          ∙ sym (record_at-here key k x xs same)

      by_key : (key x < k) ⊎ ((key x ≡ k) ⊎ (k < key x)) → record_at key k (within key span (x ∷ xs)) ≡ record_at key k (x ∷ xs)
      by_key (inl low) = past (λ same. omega arith)
      by_key (inr (inl same)) = here same
      by_key (inr (inr high)) = past (λ same. omega arith)

  -- the record with this key in the span is the record with it among all
  pub record_at-within : (xs : List A) → record_at key k (within key span xs) ≡ record_at key k xs
  record_at-within [] = refl
  record_at-within (x ∷ xs) = step x xs (record_at-within xs)

-- ---- from the first key to the last

up_to : (k : ℕ) (ks : List ℕ) (last : ℕ) → IsInOrder (λ n. n) (k ∷ ks) → slice_get (k ∷ ks) (length ks) ≡ Some last → Each (λ n. n ≤ last) (k ∷ ks)
up_to k [] last order is = (let same : k ≡ last = cc in omega arith, tt)
up_to k (j ∷ ks) last order is =
    let rest = up_to j ks last order.1 is in
    let low = order.0.0 in
    let high = rest.0 in
    (omega arith, rest)

both : (a b n : ℕ) → a ≤ n → n ≤ b → (nat_le a n && nat_le n b) ≡ true
both a b n low high = grind (arith, nat_tests)

-- keys in order lie between the first and the last
pub ends_hold : (ks : List ℕ) (first last : ℕ) → IsInOrder (λ n. n) ks → slice_get ks 0 ≡ Some first → slice_get ks (length ks - 1) ≡ Some last
    → Each (λ n. is_within n (record { from = first; to = last }) ≡ true) ks
ends_hold [] first last order is ends = tt
ends_hold (k ∷ ks) first last order is ends =
    let one : length (k ∷ ks) - 1 ≡ length ks = omega arith in
    let up = up_to k ks last order (subst (λ n. slice_get (k ∷ ks) n ≡ Some last) one ends) in
    let same : k ≡ first = cc in
    let down : Each (λ n. first ≤ n) (k ∷ ks) = (omega arith, Each-weaker (λ n. k < n) (λ n. first ≤ n) (λ n above. omega arith) ks order.0) in
    Each-both (λ n. first ≤ n) (λ n. n ≤ last) (λ n. is_within n (record { from = first; to = last }) ≡ true) (λ n low high. both first last n low high) (k ∷ ks) down up

-- ---- records with their marks

map_length : {A B : Type 0} (f : A → B) (xs : List A) → length (map f xs) ≡ length xs
map_length f [] = refl
map_length f (x ∷ xs) = ap suc (map_length f xs)

module _ {A : Type 0} (key : A → ℕ) where
  above_keys : (k : ℕ) (xs : List A) → Each (λ x. k < key x) xs → Each (λ n. k < n) (map key xs)
  above_keys k [] above = tt
  above_keys k (x ∷ xs) above = (above.0, above_keys k xs above.1)

  keys_in_order : (xs : List A) → IsInOrder key xs → IsInOrder (λ n. n) (map key xs)
  keys_in_order [] order = tt
  keys_in_order (x ∷ xs) order = (above_keys (key x) xs order.0, keys_in_order xs order.1)

  above_same : (k : ℕ) (xs : List A) → Each (λ n. k < n) (map key xs) → Each (λ x. k < key x) xs
  above_same k [] above = tt
  above_same k (x ∷ xs) above = (above.0, above_same k xs above.1)

  in_order_by_keys : (xs : List A) → IsInOrder (λ n. n) (map key xs) → IsInOrder key xs
  in_order_by_keys [] order = tt
  in_order_by_keys (x ∷ xs) order = (above_same (key x) xs order.0, in_order_by_keys xs order.1)

  each_key : (P : ℕ → Type 0) (xs : List A) → Each P (map key xs) → Each (λ x. P (key x)) xs
  each_key P [] each = tt
  each_key P (x ∷ xs) each = (each.0, each_key P xs each.1)

  each_same : {B : Type 0} (f g : A → B) (xs : List A) → Each (λ x. f x ≡ g x) xs → map f xs ≡ map g xs
  each_same f g [] each = refl
  each_same f g (x ∷ xs) each = ap₂ ◌∷◌ each.0 (each_same f g xs each.1)

  -- each record is found by its own key
  pub found_each : (xs : List A) → IsInOrder key xs → Each (λ x. record_at key (key x) xs ≡ Some x) xs
  found_each [] order = tt
  found_each (x ∷ xs) order = (
    record_at-here key (key x) x xs refl,
    Each-both (λ y. key x < key y) (λ y. record_at key (key y) xs ≡ Some y) (λ y. record_at key (key y) (x ∷ xs) ≡ Some y)
        (λ y above is. record_at-past key (key y) x xs (λ same. omega arith) ∙ is) xs order.0 (found_each xs order.1),
  )

module _ {A : Type 0} (key : A → ℕ) (rows_of : A → List Row) (are : (x : A) → IsMark (key x) (rows_of x)) (marked : A → Bool → A) (all : List A) (order : IsInOrder key all) where
  -- the marks between the first record and the last have the mark of each
  pub marks_tell : (known : List A) → IsInOrder key known → (first last : ℕ) → slice_get (map key known) 0 ≡ Some first → slice_get (map key known) (length known - 1) ≡ Some last → (ms : List Mark)
      → ms ≡ marks_of key rows_of are (within key (record { from = first; to = last }) all)
      → map (λ x. marked x (has_mark ms (key x))) known ≡ map (marked_in key rows_of marked all) known
  marks_tell known rises first last is ends ms these =
      let span : Span = record { from = first; to = last } in
      let long : length (map key known) - 1 ≡ length known - 1 = ap (λ n. n - 1) (map_length key known) in
      let held : Each (λ n. is_within n span ≡ true) (map key known) =
      ends_hold (map key known) first last (keys_in_order key known rises) is (subst (λ n. slice_get (map key known) n ≡ Some last) (sym long) ends) in
      each_same key (λ x. marked x (has_mark ms (key x))) (marked_in key rows_of marked all) known
      (Each-weaker (λ x. is_within (key x) span ≡ true) (λ x. marked x (has_mark ms (key x)) ≡ marked_in key rows_of marked all x)
      (λ x inside. ap (marked x)
      (ap (λ l. has_mark l (key x)) these ∙ marked_at key rows_of are (key x) (within key span all) (IsInOrder-filter key (λ y. is_within (key y) span) all order)
      ∙ ap (is_marked rows_of) (record_at-within key span (key x) inside all)))
      known (each_key key (λ n. is_within n span ≡ true) known held))

  -- the marks with one number have the mark of the record with that number
  pub own_marks_tell : (n : ℕ) (ms : List Mark) → ms ≡ marks_of key rows_of are (within key (record { from = n; to = n }) all) → has_mark ms n ≡ is_marked rows_of (record_at key n all)
  own_marks_tell n ms these =
      let span : Span = record { from = n; to = n } in
      let here : n ≤ n = omega arith in
      ap (λ l. has_mark l n) these
      ∙ marked_at key rows_of are n (within key span all) (IsInOrder-filter key (λ y. is_within (key y) span) all order)
      ∙ ap (is_marked rows_of) (record_at-within key span n (both n n n here here) all)

  -- the marks of the records in a span have the answer that their rows have
  pub answer_by_marks : (text : List ℕ) (db : Database) → HasMarks text key rows_of db all → (span : Span)
      → HasAnswer text (number_value span.from ∷ number_value span.to ∷ []) db (map mark_row (marks_of key rows_of are (within key span all)))
  answer_by_marks text db has span =
      subst (HasAnswer text (number_value span.from ∷ number_value span.to ∷ []) db) (mark_rows key rows_of are (within key span all)) (has span)

-- ---- marks after a read

-- the tables have the marks that they had
pub marks_still : {A : Type 0} (key : A → ℕ) (rows_of : A → List Row) (text : List ℕ) (all : List A) (old mid : Connected) → ShowsCommit old → Rests old mid → HasCleanDisk mid
    → (IsTrue old.is_open → HasMarks text key rows_of old.now all) → IsTrue mid.is_open → HasMarks text key rows_of mid.now all
marks_still key rows_of text all old mid committed rests clean has here =
    let was = (rests.keeps clean).was_open here in
    let before : HasCleanDisk old = omega (arith, clean, rests.survives.clean) in
    subst (λ db. HasMarks text key rows_of db all) (sym (still_shown old mid rests clean (λ opened. sym (committed before opened)) here)) (has was)

-- ---- records by their rows and their marks

module _ {A : Type 0} (key : A → ℕ) (row_of : A → Row) (keyed : (x y : A) → row_of x ≡ row_of y → key x ≡ key y) where
  -- records with the rows of others that are in order are in order too
  pub in_order_by_rows : (xs ys : List A) → map row_of xs ≡ map row_of ys → IsInOrder key ys → IsInOrder key xs
  in_order_by_rows xs ys same order = in_order_by_keys key xs (subst (IsInOrder (λ n. n)) (sym (told_by_rows row_of key keyed xs ys same)) (keys_in_order key ys order))

  module _ (rows_of : A → List Row) (marked : A → Bool → A) (tells : (x y : A) → row_of x ≡ row_of y → marked x (has_row (rows_of y)) ≡ y) (all : List A) where
    same_marked : (xs ys : List A) → Each (λ y. record_at key (key y) all ≡ Some y) ys → map row_of xs ≡ map row_of ys → map (marked_in key rows_of marked all) xs ≡ ys
    same_marked [] [] found same = refl
    same_marked [] (y ∷ ys) found same = absurd (cc)
    same_marked (x ∷ xs) [] found same = absurd (cc)
    same_marked (x ∷ xs) (y ∷ ys) found same =
        let row = first_row row_of x xs y ys same in
        ap₂ ◌∷◌
        (ap (λ n. marked x (is_marked rows_of (record_at key n all))) (keyed x y row) ∙ ap (λ o. marked x (is_marked rows_of o)) found.0 ∙ tells x y row)
        (same_marked xs ys found.1 (ap (drop 1) same))

    -- with their marks they are the others, which are among all
    pub marked_are : (passes : A → Bool) → IsInOrder key all → (xs : List A) → map row_of xs ≡ map row_of (filter passes all) → map (marked_in key rows_of marked all) xs ≡ filter passes all
    marked_are passes order xs same = same_marked xs (filter passes all) (Each-filter (λ y. record_at key (key y) all ≡ Some y) passes all (found_each key all order)) same

-- ---- marks by their rows

mark-told : (x y : Mark) → mark_row x ≡ mark_row y → x ≡ y
mark-told x y same = λ i. record { number = number_in 0 (same i) }

pub same_marks : (xs ys : List Mark) → map mark_row xs ≡ map mark_row ys → xs ≡ ys
same_marks xs ys same = same_by_both mark_row mark_row (λ x y one other. mark-told x y one) xs ys same same

-- ---- records marked in turn

-- this many first records changed
abbrev pub first_changed : {A : Type 0} → (A → A) → ℕ → List A → List A
first_changed f zero xs = xs
first_changed f (suc n) [] = []
first_changed f (suc n) (x ∷ xs) = f x ∷ first_changed f n xs

module _ {A : Type 0} (f : A → A) where
  pub one_more : (n : ℕ) (xs : List A) (default : A) → n < length xs
      → slice_set (first_changed f n xs) n (f (slice_index_or (first_changed f n xs) n default)) ≡ first_changed f (suc n) xs
  one_more n [] default low = absurd (omega arith)
  one_more zero (x ∷ xs) default low = refl
  one_more (suc n) (x ∷ xs) default low = ap (λ l. f x ∷ l) (one_more n xs default (omega arith))

  pub all_changed : (n : ℕ) (xs : List A) → length xs ≤ n → first_changed f n xs ≡ map f xs
  all_changed zero [] enough = refl
  all_changed (suc n) [] enough = refl
  all_changed zero (x ∷ xs) enough = absurd (omega arith)
  all_changed (suc n) (x ∷ xs) enough = ap (λ l. f x ∷ l) (all_changed n xs (omega arith))
