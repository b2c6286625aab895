-- Rows in the order of their first columns, and the records that have them.
use Rattle.std.proofs.Common.{◌≡◌, ◌+◌, ◌<◌, ◌≤◌, zero, suc, ℕ, pos, Bool, true, false, List, [], ◌∷◌, length, filter, map, get_or, ◌⊎◌, inl, inr, int_cmp, refl, sym, ap, ap₂, subst, ◌∙◌, arith}
use Rattle.std.specs.Prelude.{◌==◌, IsPermutation}
use Rattle.std.specs.List.{AllByRecursion}
use Rattle.std.specs.Ordering.{is_lt, nat_cmp, ordering_then}
use Rattle.std.specs.declared.cmp.Ordering.{Ordering}
use Rattle.std.specs.declared.cmp.Ordering.TheVariants.{Less, Equal}
use Rattle.std.proofs.lemmas.Bool.Decides.{nat_tests}
use Rattle.std.proofs.lemmas.List.Sorted.{length_permutation}
use Rattle.sqlite.specs.Order.{Row, column}
use Rattle.sqlite.specs.Query.{key_cmp}
use Rattle.sqlite_keyed.proofs.ListLemmas.{IsPermutation-filter, filter_none}
use Rattle.sqlite_trees.proofs.ListLemmas.{all-permutation}
use Rattle.sqlite_typed.proofs.TestLemmas.{then_key, last_key}
use Rattle.sqlite_value.specs.Order.{value_cmp}
use Rattle.sqlite_value.proofs.OrderLemmas.{value_cmp-Int}
use Rattle.pt_base_records.specs.Keys.{pair_key}
use Rattle.pt_base_records.specs.Records.{Each, IsInOrder}
use Rattle.pt_base_records.proofs.OrderLemmas.{Each-weaker, compared}
use Rattle.pt_tables_rows.specs.Rows.{number_value}
use Rattle.pt_tables_asking.specs.Asking.{AreInOrder}
use Rattle.pt_tables_asking.proofs.AskedQueries.{keys_of}
use Rattle.pt_tables_rows.proofs.SameRowsLists.{in_one_order}
use Rattle.pt_tables_rows.proofs.ColumnLemmas.{number_in}

-- the first three columns as one number
abbrev pub triple_key : Row → ℕ
triple_key row = pair_key (pair_key (number_in 0 row) (number_in 1 row)) (number_in 2 row)

-- the first three columns are numbers, and the second and third have 32 bits
pub record IsNumbered (row : Row) : Type 0 where
  pub first : column row 0 ≡ number_value (number_in 0 row)
  pub second : column row 1 ≡ number_value (number_in 1 row)
  pub third : column row 2 ≡ number_value (number_in 2 row)
  pub second_low : number_in 1 row < 4_294_967_296
  pub third_low : number_in 2 row < 4_294_967_296

-- ---- one comparison

cmp-pos : (a b : ℕ) → int_cmp (pos a) (pos b) ≡ nat_cmp a b
cmp-pos a b = grind (arith, nat_tests)

cmp-less : (a b : ℕ) → a < b → nat_cmp a b ≡ Less
cmp-less a b low = grind (arith, nat_tests)

cmp-same : (a b : ℕ) → a ≡ b → nat_cmp a b ≡ Equal
cmp-same a b same = grind (arith, nat_tests)

not-true : {A : Type 0} → true ≡ false → A
not-true same = absurd (cc)

not_below : (a b : ℕ) (rest : Ordering) → is_lt (ordering_then (nat_cmp a b) rest) ≡ false → (b < a) ⊎ ((a ≡ b) × (is_lt rest ≡ false))
not_below a b rest h = elim (compared a b) [
  | inl low ↦ not-true (subst (λ c. is_lt (ordering_then c rest) ≡ false) (cmp-less a b low) h)
  | inr (inl same) ↦ inr (same, subst (λ c. is_lt (ordering_then c rest) ≡ false) (cmp-same a b same) h)
  | inr (inr high) ↦ inl high
]

not_last : (a b : ℕ) → is_lt (nat_cmp a b) ≡ false → b ≤ a
not_last a b h = grind (arith, nat_tests)

triple_le : (a0 a1 a2 b0 b1 b2 : ℕ) → a1 < 4_294_967_296 → a2 < 4_294_967_296 → b1 < 4_294_967_296 → b2 < 4_294_967_296
    → is_lt (ordering_then (nat_cmp b0 a0) (ordering_then (nat_cmp b1 a1) (nat_cmp b2 a2))) ≡ false → pair_key (pair_key a0 a1) a2 ≤ pair_key (pair_key b0 b1) b2
triple_le a0 a1 a2 b0 b1 b2 a1_low a2_low b1_low b2_low h = elim (not_below b0 a0 (ordering_then (nat_cmp b1 a1) (nat_cmp b2 a2)) h) [
  | inl above ↦ omega arith
  | inr tied ↦ elim (not_below b1 a1 (nat_cmp b2 a2) tied.1) [
    | inl above ↦ let same = tied.0 in omega arith
    | inr both ↦ let same = tied.0 in let also = both.0 in let last = not_last b2 a2 both.1 in omega arith
  ]
]

one_cmp : (v w : _) (m n : ℕ) → v ≡ number_value m → w ≡ number_value n → value_cmp v w ≡ nat_cmp m n
one_cmp v w m n one other = ap₂ value_cmp one other ∙ value_cmp-Int (pos m) (pos n) ∙ cmp-pos m n

pub row_le : (a b : Row) → IsNumbered a → IsNumbered b → is_lt (key_cmp 0 (keys_of 3) b a) ≡ false → triple_key a ≤ triple_key b
row_le a b one other h =
    let same : key_cmp 0 (keys_of 3) b a ≡ ordering_then (nat_cmp (number_in 0 b) (number_in 0 a)) (ordering_then (nat_cmp (number_in 1 b) (number_in 1 a)) (nat_cmp (number_in 2 b) (number_in 2 a))) =
    then_key (one_cmp (column b 0) (column a 0) (number_in 0 b) (number_in 0 a) other.first one.first)
    (then_key (one_cmp (column b 1) (column a 1) (number_in 1 b) (number_in 1 a) other.second one.second)
    (last_key (one_cmp (column b 2) (column a 2) (number_in 2 b) (number_in 2 a) other.third one.third))) in
    triple_le (number_in 0 a) (number_in 1 a) (number_in 2 a) (number_in 0 b) (number_in 1 b) (number_in 2 b) one.second_low one.third_low other.second_low other.third_low
    (ap is_lt (sym same) ∙ h)

-- the first column is a number
abbrev pub IsCounted : Row → Type 0
IsCounted row = column row 0 ≡ number_value (number_in 0 row)

pub count_le : (a b : Row) → IsCounted a → IsCounted b → is_lt (key_cmp 0 (keys_of 1) b a) ≡ false → number_in 0 a ≤ number_in 0 b
count_le a b one other h =
    let same : key_cmp 0 (keys_of 1) b a ≡ nat_cmp (number_in 0 b) (number_in 0 a) = last_key (one_cmp (column b 0) (column a 0) (number_in 0 b) (number_in 0 a) other one) in
    not_last (number_in 0 b) (number_in 0 a) (ap is_lt (sym same) ∙ h)

-- the first two columns as one number
abbrev pub double_key : Row → ℕ
double_key row = pair_key (number_in 0 row) (number_in 1 row)

-- the first two columns are numbers, the second of 32 bits
pub record IsPaired (row : Row) : Type 0 where
  pub first : column row 0 ≡ number_value (number_in 0 row)
  pub second : column row 1 ≡ number_value (number_in 1 row)
  pub second_low : number_in 1 row < 4_294_967_296

double_le : (a0 a1 b0 b1 : ℕ) → a1 < 4_294_967_296 → b1 < 4_294_967_296 → is_lt (ordering_then (nat_cmp b0 a0) (nat_cmp b1 a1)) ≡ false → pair_key a0 a1 ≤ pair_key b0 b1
double_le a0 a1 b0 b1 a1_low b1_low h = elim (not_below b0 a0 (nat_cmp b1 a1) h) [
  | inl above ↦ omega arith
  | inr tied ↦ let same = tied.0 in let last = not_last b1 a1 tied.1 in omega arith
]

pub pair_le : (a b : Row) → IsPaired a → IsPaired b → is_lt (key_cmp 0 (keys_of 2) b a) ≡ false → double_key a ≤ double_key b
pair_le a b one other h =
    let same : key_cmp 0 (keys_of 2) b a ≡ ordering_then (nat_cmp (number_in 0 b) (number_in 0 a)) (nat_cmp (number_in 1 b) (number_in 1 a)) =
    then_key (one_cmp (column b 0) (column a 0) (number_in 0 b) (number_in 0 a) other.first one.first)
    (last_key (one_cmp (column b 1) (column a 1) (number_in 1 b) (number_in 1 a) other.second one.second)) in
    double_le (number_in 0 a) (number_in 1 a) (number_in 0 b) (number_in 1 b) one.second_low other.second_low (ap is_lt (sym same) ∙ h)

-- the first two columns are these numbers, and the third is one
pub record IsAt (first second : ℕ) (row : Row) : Type 0 where
  pub first_is : column row 0 ≡ number_value first
  pub second_is : column row 1 ≡ number_value second
  pub third : column row 2 ≡ number_value (number_in 2 row)

pub place_le : (m n : ℕ) (a b : Row) → IsAt m n a → IsAt m n b → is_lt (key_cmp 0 (keys_of 3) b a) ≡ false → number_in 2 a ≤ number_in 2 b
place_le m n a b one other h =
    let last = nat_cmp (number_in 2 b) (number_in 2 a) in
    let same : key_cmp 0 (keys_of 3) b a ≡ ordering_then (nat_cmp m m) (ordering_then (nat_cmp n n) last) =
    then_key (one_cmp (column b 0) (column a 0) m m other.first_is one.first_is)
    (then_key (one_cmp (column b 1) (column a 1) n n other.second_is one.second_is)
    (last_key (one_cmp (column b 2) (column a 2) (number_in 2 b) (number_in 2 a) other.third one.third))) in
    let tied : ordering_then (nat_cmp m m) (ordering_then (nat_cmp n n) last) ≡ last = ap₂ (λ c d. ordering_then c (ordering_then d last)) (cmp-same m m refl) (cmp-same n n refl) in
    not_last (number_in 2 b) (number_in 2 a) (sym (ap is_lt (same ∙ tied)) ∙ h)

-- ---- keys that ascend, or stay equal

module _ {R : Type 0} (key : R → ℕ) where
  abbrev AreRising : List R → Type 0
  AreRising [] = Unit {0}
  AreRising (x ∷ xs) = Each (λ y. key x ≤ key y) xs × AreRising xs

  steps_rising : (d : R) (xs : List R) → ((k : ℕ) → k + 1 < length xs → key (get_or xs k d) ≤ key (get_or xs (k + 1) d)) → AreRising xs
  steps_rising d [] rises = tt
  steps_rising d (x ∷ []) rises = (tt, tt)
  steps_rising d (x ∷ y ∷ xs) rises =
      let rest = steps_rising d (y ∷ xs) later in
      let first : key x ≤ key y = rises 0 (omega arith) in
      ((first, Each-weaker (λ z. key y ≤ key z) (λ z. key x ≤ key z) (λ z above. omega arith) xs rest.0), rest)
    where
      later : (k : ℕ) → k + 1 < length (y ∷ xs) → key (get_or (y ∷ xs) k d) ≤ key (get_or (y ∷ xs) (k + 1) d)
      later k inside =
          let next : suc k + 1 ≡ suc (k + 1) = omega arith in
          subst (λ j. key (get_or (y ∷ xs) k d) ≤ key (get_or (x ∷ y ∷ xs) j d)) next (rises (suc k) (omega arith))

  abbrev has : ℕ → R → Bool
  has k x = key x == k

  others : (k : ℕ) (xs : List R) → Each (λ y. k < key y) xs → AllByRecursion (λ y. has k y ≡ false) xs
  others k [] above = tt
  others k (y ∷ xs) above = (let high = above.0 in grind (arith, nat_tests), others k xs above.1)

  filter_here : (k : ℕ) (x : R) (xs : List R) → key x ≡ k → filter (has k) (x ∷ xs) ≡ x ∷ filter (has k) xs
  filter_here k x xs same = let is : has k x ≡ true = grind (arith, nat_tests) in rw is

  filter_past : (k : ℕ) (x : R) (xs : List R) → (key x ≡ k → ⊥) → filter (has k) (x ∷ xs) ≡ filter (has k) xs
  filter_past k x xs other = let is : has k x ≡ false = grind (arith, nat_tests) in rw is

  pub one_at_most : (xs : List R) → IsInOrder key xs → (k : ℕ) → length (filter (has k) xs) ≤ 1
  one_at_most [] order k = omega arith
  one_at_most (x ∷ xs) order k = elim (compared (key x) k) [
    | inl low ↦ rw (filter_past k x xs (λ same. omega arith)) (one_at_most xs order.1 k)
    | inr (inl same) ↦ rw (filter_here k x xs same, filter_none (has k) xs (subst (λ n. AllByRecursion (λ y. has n y ≡ false) xs) same (others (key x) xs order.0))) (omega arith)
    | inr (inr high) ↦ rw (filter_past k x xs (λ same. omega arith)) (one_at_most xs order.1 k)
  ]

  none_there : (k : ℕ) (xs : List R) → length (filter (has k) xs) ≡ 0 → Each (λ y. key y ≡ k → ⊥) xs
  none_there k [] none = tt
  none_there k (y ∷ xs) none = (
    λ same. let long : length (filter (has k) (y ∷ xs)) ≡ suc (length (filter (has k) xs)) = ap length (filter_here k y xs same) in omega arith,
    none_there k xs (rest (compared (key y) k)),
  )
    where
      rest : (key y < k) ⊎ ((key y ≡ k) ⊎ (k < key y)) → length (filter (has k) xs) ≡ 0
      rest (inl low) = sym (ap length (filter_past k y xs (λ same. omega arith))) ∙ none
      rest (inr (inl same)) = let long : length (filter (has k) (y ∷ xs)) ≡ suc (length (filter (has k) xs)) = ap length (filter_here k y xs same) in absurd (omega arith)
      rest (inr (inr high)) = sym (ap length (filter_past k y xs (λ same. omega arith))) ∙ none

  fewer : (k : ℕ) (x : R) (xs : List R) → length (filter (has k) xs) ≤ length (filter (has k) (x ∷ xs))
  fewer k x xs = go (compared (key x) k)
    where
      go : (key x < k) ⊎ ((key x ≡ k) ⊎ (k < key x)) → length (filter (has k) xs) ≤ length (filter (has k) (x ∷ xs))
      go (inl low) = rw (filter_past k x xs (λ same. omega arith)) (omega arith)
      go (inr (inl same)) = rw (filter_here k x xs same) (omega arith)
      go (inr (inr high)) = rw (filter_past k x xs (λ same. omega arith)) (omega arith)

  each_apart : (x : R) (xs : List R) → Each (λ y. key x ≤ key y) xs → Each (λ y. key y ≡ key x → ⊥) xs → Each (λ y. key x < key y) xs
  each_apart x [] above other = tt
  each_apart x (y ∷ xs) above other = (let a = above.0 in let o = other.0 in omega arith, each_apart x xs above.1 other.1)

  apart : (xs : List R) → AreRising xs → ((k : ℕ) → length (filter (has k) xs) ≤ 1) → IsInOrder key xs
  apart [] rising one = tt
  apart (x ∷ xs) rising one =
      let here : length (filter (has (key x)) (x ∷ xs)) ≡ suc (length (filter (has (key x)) xs)) = ap length (filter_here (key x) x xs refl) in
      let most = one (key x) in
      (each_apart x xs rising.0 (none_there (key x) xs (omega arith)), apart xs rising.1 (λ k. let few = fewer k x xs in let all = one k in omega arith))

  -- a list that ascends and has the elements of an ordered list is that list
  pub in_that_order : (xs ys : List R) → IsInOrder key xs → AreRising ys → IsPermutation xs ys → xs ≡ ys
  in_that_order xs ys order rising same =
      in_one_order key xs ys order
      (apart ys rising (λ k. let long = length_permutation (filter (has k) xs) (filter (has k) ys) (IsPermutation-filter (has k) xs ys same) in let most = one_at_most xs order k in omega arith))
      same

all_of : (P : Row → Type 0) (rows : List Row) → Each P rows → AllByRecursion P rows
all_of P [] each = tt
all_of P (row ∷ rows) each = (each.0, all_of P rows each.1)

module _ (columns : ℕ) (row_key : Row → ℕ) (Is : Row → Type 0) (le : (a b : Row) → Is a → Is b → is_lt (key_cmp 0 (keys_of columns) b a) ≡ false → row_key a ≤ row_key b) where
  -- rows in order have ascending keys
  rows_rise : (rows : List Row) → AllByRecursion Is rows → AreInOrder columns rows → AreRising row_key rows
  rows_rise rows all ordered =
      steps_rising row_key [] rows
      (λ k inside. le (get_or rows k []) (get_or rows (k + 1) []) (at rows k all (omega arith)) (at rows (k + 1) all inside) (ordered k [] (omega arith) inside))
    where
      at : (rows : List Row) (k : ℕ) → AllByRecursion Is rows → k < length rows → Is (get_or rows k [])
      at [] k all low = absurd (omega arith)
      at (row ∷ rows) zero all low = all.0
      at (row ∷ rows) (suc k) all low = at rows k all.1 (omega arith)

  pub same_order : (known rows : List Row) → IsInOrder row_key known → Each Is known → IsPermutation known rows → AreInOrder columns rows → known ≡ rows
  same_order known rows order each same ordered =
      in_that_order row_key known rows order (rows_rise rows (all-permutation Is known rows same (all_of Is known each)) ordered) same

  -- records of one row each, whose rows have their keys
  module _ {A : Type 0} (key : A → ℕ) (row_of : A → Row) (Fits : A → Type 0) (is : (x : A) → Fits x → Is (row_of x)) (keyed : (x : A) → row_key (row_of x) ≡ key x) where
    above : (x : A) (xs : List A) → Each (λ y. key x < key y) xs → Each (λ row. row_key (row_of x) < row_key row) (map row_of xs)
    above x [] each = tt
    above x (y ∷ ys) each = (let low = each.0 in omega (arith, keyed x, keyed y), above x ys each.1)

    pub told_order : (xs : List A) → IsInOrder key xs → IsInOrder row_key (map row_of xs)
    told_order [] order = tt
    told_order (x ∷ xs) order = (above x xs order.0, told_order xs order.1)

    each_is : (xs : List A) → Each Fits xs → Each Is (map row_of xs)
    each_is [] each = tt
    each_is (x ∷ xs) each = (is x each.0, each_is xs each.1)

    -- if records in the order of their keys have these rows in some order, they have them in this order
    pub keeps_order : (rows : List Row) → AreInOrder columns rows → (xs : List A) → Each Fits xs → IsInOrder key xs → IsPermutation (map row_of xs) rows → map row_of xs ≡ rows
    keeps_order rows ordered xs each order same = same_order (map row_of xs) rows (told_order xs order) (each_is xs each) same ordered
