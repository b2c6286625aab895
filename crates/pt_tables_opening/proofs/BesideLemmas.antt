-- Records of one row each, and of at most one in a second table, read back from the rows of both.
use Rattle.std.proofs.Common.{◌≡◌, ◌++◌, ◌<◌, ◌≤◌, zero, suc, ℕ, List, [], ◌∷◌, length, map, flat_map, take, drop}
use Rattle.std.proofs.Common.{get_or, drop-cons, add-one, ◌⊎◌, inl, inr, None, Some, Result, Ok, Err, IfOk, IfErr}
use Rattle.std.proofs.Common.{◌+◌, refl, sym, ap, ap₂, subst, ◌∙◌, arith}
use Rattle.std.proofs.lemmas.List.{map-append, take_more}
use Rattle.std.specs.Prelude.{IsPermutation}
use Rattle.std.specs.List.{AllByRecursion}
use Rattle.std.proofs.lemmas.List.Sorted.{IsPermutation-sym, IsPermutation-trans}
use Rattle.sqlite.specs.Order.{Row}
use Rattle.sqlite.specs.Table.{Table}
use Rattle.sqlite.specs.Tree.{Trees}
use Rattle.pt_base_records.specs.Records.{Each, Edit, IsInOrder}
use Rattle.pt_tables_opening.specs.Beside.{AreBeside, NoneBeside, TellsBeside}
use Rattle.pt_tables_opening.specs.Gathered.{KeepsRows}
use Rattle.pt_tables_rows.specs.Tables.{AreRows, columns_of}
use Rattle.pt_tables_opening.proofs.OrderedLemmas.{same_rows}
use Rattle.pt_tables_rows.proofs.SameRowsLists.{rows_above}

-- the records from here on are the next one and those after it
pub next_from : {A : Type 0} (x : A) (xs : List A) (i : ℕ) → i < length xs → x ≡ get_or xs i x → drop i xs ≡ x ∷ drop (i + 1) xs
next_from x xs i lt at =
    drop-cons xs i x lt ∙ ap (λ y. y ∷ drop (suc i) xs) (sym at) ∙ ap (λ n. x ∷ drop n xs) (sym (add-one i))

-- some records in order have the rows of these, and these rows in the second table
pub record Goes {A : Type 0} (key : A → ℕ) (row_of : A → Row) (beside_of : A → List Row) (Fits : A → Type 0) (known : List A) (left : List Row) : Type 0 where
  pub records : List A
  pub each : Each Fits records
  pub order : IsInOrder key records
  pub rows : map row_of records ≡ map row_of known
  pub beside : flat_map beside_of records ≡ left

-- the records that are put have the rows of those that were gone over
pub rows_next : {A R : Type 0} (row_of : A → R) (puts new : List A) (next : A) (known : List A) (i : ℕ) (x : A) → i < length known → x ≡ get_or known i x → new ≡ puts ++ next ∷ []
    → row_of next ≡ row_of x → map row_of puts ≡ map row_of (take i known) → map row_of new ≡ map row_of (take (i + 1) known)
rows_next row_of puts new next known i x low at is same done =
    let more : take (i + 1) known ≡ take i known ++ x ∷ [] = take_more known i x low ∙ ap (λ y. take i known ++ y ∷ []) (sym at) in
    ap (map row_of) is ∙ map-append row_of puts (next ∷ []) ∙ ap₂ (λ rs r. rs ++ r ∷ []) done same
    ∙ sym (ap (map row_of) more ∙ map-append row_of (take i known) (x ∷ []))

pub no_rows : {A : Type 0} (xs : List A) → length xs ≡ 0 → xs ≡ []
no_rows [] none = refl
no_rows (x ∷ xs) none = absurd (omega arith)

pub whole_take : {A : Type 0} (n : ℕ) (xs : List A) → length xs ≡ n → take n xs ≡ xs
whole_take zero [] same = refl
whole_take zero (x ∷ xs) same = absurd (omega arith)
whole_take (suc n) [] same = absurd (omega arith)
whole_take (suc n) (x ∷ xs) same = ap (λ ys. x ∷ ys) (whole_take n xs (omega arith))

module _ {A : Type 0} (key : A → ℕ) (row_of : A → Row) (beside_of : A → List Row) (Fits : A → Type 0) (laws : AreBeside key row_of beside_of) where
  abbrev key_in : Row → ℕ
  key_in = laws.key_in

  same_key : (x y : A) → row_of x ≡ row_of y → key x ≡ key y
  same_key x y same = sym (laws.row_keyed x) ∙ ap key_in same ∙ laws.row_keyed y

  -- the first row of those that are left is that of the next record
  module _ (known_one : A) (known : List A) (left : List Row) (next_one : A) (same : row_of next_one ≡ row_of known_one) where
    first_same : (y : A) (ys : List A) → map row_of (y ∷ ys) ≡ map row_of (known_one ∷ known) → row_of y ≡ row_of known_one
    first_same y ys rows = ap (λ l. get_or l 0 (row_of y)) rows

    -- none is its own
    goes_none : ((x : A) (row : Row) (more : List Row) → Fits x → row_of x ≡ row_of known_one → left ≡ row ∷ more → beside_of x ≡ row ∷ [] → ⊥)
        → Goes key row_of beside_of Fits (known_one ∷ known) left → Goes key row_of beside_of Fits known left
    goes_none other g = go g.records g.each g.order g.rows g.beside
      where
        go : (xs : List A) → Each Fits xs → IsInOrder key xs → map row_of xs ≡ map row_of (known_one ∷ known) → flat_map beside_of xs ≡ left → Goes key row_of beside_of Fits known left
        go [] each order rows beside = absurd (let size = ap length rows in omega arith)
        go (y ∷ ys) each order rows beside = elim (laws.one y) [
          | inl none ↦ record {
            records = ys;
            each = each.1;
            order = order.1;
            rows = ap (drop 1) rows;
            beside = sym (ap (λ l. l ++ flat_map beside_of ys) none) ∙ beside;
          }
          | inr one ↦
              absurd (other y one.0 (flat_map beside_of ys) each.0 (first_same y ys rows) (sym beside ∙ ap (λ l. l ++ flat_map beside_of ys) one.1) one.1)
        ]

    -- one is its own
    goes_one : 1 ≤ length left → beside_of next_one ≡ take 1 left → Goes key row_of beside_of Fits (known_one ∷ known) left → Goes key row_of beside_of Fits known (drop 1 left)
    goes_one some its g = go g.records g.each g.order g.rows g.beside
      where
        high : (y : A) (ys : List A) (rows : List Row) → row_of y ≡ row_of known_one → Each (λ x. key y < key x) ys
            → flat_map beside_of ys ≡ rows → 1 ≤ length rows → beside_of next_one ≡ take 1 rows → ⊥
        high y ys [] is above beside long its = absurd (omega arith)
        high y ys (r ∷ rows) is above beside long its =
            let far : AllByRecursion (λ row. key y < key_in row) (r ∷ rows) = subst (AllByRecursion (λ row. key y < key_in row)) beside (rows_above key key_in beside_of laws.keyed (key y) ys above) in
            let near : AllByRecursion (λ row. key_in row ≡ key next_one) (r ∷ []) = subst (AllByRecursion (λ row. key_in row ≡ key next_one)) its (laws.keyed next_one) in
            let level : key next_one ≡ key y = same_key next_one y (same ∙ sym is) in
            omega (arith, far.0, near.0, level)

        go : (xs : List A) → Each Fits xs → IsInOrder key xs → map row_of xs ≡ map row_of (known_one ∷ known) → flat_map beside_of xs ≡ left → Goes key row_of beside_of Fits known (drop 1 left)
        go [] each order rows beside = absurd (let size = ap length rows in omega arith)
        go (y ∷ ys) each order rows beside = elim (laws.one y) [
          | inl none ↦
              absurd (high y ys left (first_same y ys rows) order.0 (sym (ap (λ l. l ++ flat_map beside_of ys) none) ∙ beside) some its)
          | inr one ↦ record {
            records = ys;
            each = each.1;
            order = order.1;
            rows = ap (drop 1) rows;
            beside = ap (drop 1) (sym (ap (λ l. l ++ flat_map beside_of ys) one.1) ∙ beside);
          }
        ]

    pub goes_on : (own : ℕ) → own ≤ length left → own ≤ 1 → beside_of next_one ≡ take own left
        → (own ≡ 0 → (x : A) (row : Row) (more : List Row) → Fits x → row_of x ≡ row_of known_one → left ≡ row ∷ more → beside_of x ≡ row ∷ [] → ⊥)
        → Goes key row_of beside_of Fits (known_one ∷ known) left → Goes key row_of beside_of Fits known (drop own left)
    goes_on zero within few its other g = goes_none (other refl) g
    goes_on (suc zero) within few its other g = goes_one within its g
    goes_on (suc (suc n)) within few its other g = absurd (omega arith)

  -- if no record is left, no row is left
  pub goes_out : (left : List Row) → Goes key row_of beside_of Fits [] left → left ≡ []
  goes_out left g = go g.records g.rows g.beside
    where
      go : (xs : List A) → map row_of xs ≡ [] → flat_map beside_of xs ≡ left → left ≡ []
      go [] rows beside = sym beside
      go (x ∷ xs) rows beside = absurd (let size = ap length rows in omega arith)

  -- records with the rows of records in order are in order
  each_same : (k : ℕ) (xs ys : List A) → map row_of xs ≡ map row_of ys → Each (λ y. k < key y) ys → Each (λ x. k < key x) xs
  each_same k [] ys same above = tt
  each_same k (x ∷ xs) [] same above = absurd (let size = ap length same in omega arith)
  each_same k (x ∷ xs) (y ∷ ys) same above =
      let level : key x ≡ key y = same_key x y (ap (λ l. get_or l 0 (row_of x)) same) in
      (let high = above.0 in omega arith, each_same k xs ys (ap (drop 1) same) above.1)

  pub order_same : (xs ys : List A) → map row_of xs ≡ map row_of ys → IsInOrder key ys → IsInOrder key xs
  order_same [] ys same order = tt
  order_same (x ∷ xs) [] same order = absurd (let size = ap length same in omega arith)
  order_same (x ∷ xs) (y ∷ ys) same order =
      let level : key x ≡ key y = same_key x y (ap (λ l. get_or l 0 (row_of x)) same) in (
        each_same (key x) xs ys (ap (drop 1) same) (subst (λ k. Each (λ z. k < key z) ys) (sym level) order.0),
        order_same xs ys (ap (drop 1) same) order.1,
      )

  -- records in order that have the rows of a table have them in one order
  same_table : (home : Table) (trees : Trees) (xs ys : List A) → IsInOrder key xs → IsInOrder key ys
      → AreRows home trees (map row_of xs) → AreRows home trees (map row_of ys) → map row_of xs ≡ map row_of ys
  same_table home trees xs ys one other ones others =
      let there = map (columns_of home) (trees home.tree) in
      same_rows key key_in row_of laws.row_keyed xs ys one other (IsPermutation-trans (map row_of xs) there (map row_of ys) (IsPermutation-sym there (map row_of xs) ones) others)

  -- the rows of records in order are in order in the second table too
  beside_above : (k : ℕ) (xs : List A) → Each (λ x. k < key x) xs → Each (λ row. k < key_in row) (flat_map beside_of xs)
  beside_above k [] above = tt
  beside_above k (x ∷ xs) above = elim (laws.one x) [
    | inl none ↦ subst (λ rs. Each (λ row. k < key_in row) (rs ++ flat_map beside_of xs)) (sym none) (beside_above k xs above.1)
    | inr one ↦
        let near : AllByRecursion (λ row. key_in row ≡ key x) (one.0 ∷ []) = subst (AllByRecursion (λ row. key_in row ≡ key x)) one.1 (laws.keyed x) in
        subst (λ rs. Each (λ row. k < key_in row) (rs ++ flat_map beside_of xs)) (sym one.1)
        (let high = above.0 in omega (arith, near.0), beside_above k xs above.1)
  ]

  pub beside_in_order : (xs : List A) → IsInOrder key xs → IsInOrder key_in (flat_map beside_of xs)
  beside_in_order [] order = tt
  beside_in_order (x ∷ xs) order = elim (laws.one x) [
    | inl none ↦ subst (λ rs. IsInOrder key_in (rs ++ flat_map beside_of xs)) (sym none) (beside_in_order xs order.1)
    | inr one ↦
        let near : AllByRecursion (λ row. key_in row ≡ key x) (one.0 ∷ []) = subst (AllByRecursion (λ row. key_in row ≡ key x)) one.1 (laws.keyed x) in
        subst (λ rs. IsInOrder key_in (rs ++ flat_map beside_of xs)) (sym one.1)
        (subst (λ k. Each (λ row. k < key_in row) (flat_map beside_of xs)) (sym near.0) (beside_above (key x) xs order.0), beside_in_order xs order.1)
  ]

  pub beside_each : (P : Row → Type 0) → ((x : A) → Fits x → AllByRecursion P (beside_of x)) → (xs : List A) → Each Fits xs → Each P (flat_map beside_of xs)
  beside_each P all [] each = tt
  beside_each P all (x ∷ xs) each = elim (laws.one x) [
    | inl none ↦ subst (λ rs. Each P (rs ++ flat_map beside_of xs)) (sym none) (beside_each P all xs each.1)
    | inr one ↦
        let here : AllByRecursion P (one.0 ∷ []) = subst (AllByRecursion P) one.1 (all x each.0) in
        subst (λ rs. Each P (rs ++ flat_map beside_of xs)) (sym one.1) (here.0, beside_each P all xs each.1)
  ]

  -- if ordered rows fit none of these records, no records have the rows of both tables
  unmarked : (home second : Table) (trees : Trees) (known : List A) → IsInOrder key known → (rows : List Row) → AreRows home trees (map row_of known) → AreRows second trees rows
      → KeepsRows key beside_of Fits rows → TellsBeside key row_of beside_of Fits known rows None → NoneBeside key home second row_of beside_of Fits trees
  unmarked home second trees known order rows are beside keeps none xs each also have marked =
      let there = map (columns_of second) (trees second.tree) in
      let theirs = flat_map beside_of xs in
      let alike : IsPermutation theirs rows = IsPermutation-trans theirs there rows (IsPermutation-sym there theirs marked) beside in
      none xs each also (same_table home trees xs known also order have are) (keeps xs each also alike)

-- what holds of records that are put
module _ {A F : Type 0} (key : A → ℕ) (second : Table) (row_of : A → Row) (beside_of : A → List Row) (Fits : A → Type 0) (trees : Trees) (known : List A) (rows : List Row) where
  pub same_told : (r : Result (Edit A) F) → IfOk r (λ edit. TellsBeside key row_of beside_of Fits known rows (Some edit)) → IfOk r (λ edit. map row_of edit.puts ≡ map row_of known)
  same_told (Ok edit) told = told.1
  same_told (Err f) told = tt

  pub beside_told : (r : Result (Edit A) F) → IfOk r (λ edit. TellsBeside key row_of beside_of Fits known rows (Some edit)) → AreRows second trees rows
      → IfOk r (λ edit. AreRows second trees (flat_map beside_of edit.puts))
  beside_told (Ok edit) told are = subst (AreRows second trees) (sym told.2) are
  beside_told (Err f) told are = tt

-- and in a refusal
pub refuses_beside : {A F : Type 0} (key : A → ℕ) (home second : Table) (row_of : A → Row) (beside_of : A → List Row) (Fits : A → Type 0) → AreBeside key row_of beside_of
    → (trees : Trees) (known : List A) → IsInOrder key known → (rows : List Row) (Clean Has : Type 0) → (Clean → Has → AreRows second trees rows)
    → (Clean → Has → KeepsRows key beside_of Fits rows) → (memory store unsound : F) (r : Result (Edit A) F)
    → IfErr r (λ refused. (refused ≡ memory) ⊎ ((refused ≡ unsound) × TellsBeside key row_of beside_of Fits known rows None))
    → IfErr r (λ refused. (refused ≡ memory) ⊎ ((refused ≡ store)
    ⊎ ((refused ≡ unsound) × (Clean → Has → AreRows home trees (map row_of known) → NoneBeside key home second row_of beside_of Fits trees))))
refuses_beside key home second row_of beside_of Fits laws trees known order rows Clean Has are keeps memory store unsound (Ok edit) h = tt
refuses_beside key home second row_of beside_of Fits laws trees known order rows Clean Has are keeps memory store unsound (Err f) h = elim h [
  | inl same ↦ inl same
  | inr told ↦ inr (inr (
    told.0,
    λ clean has have. unmarked key row_of beside_of Fits laws home second trees known order rows have (are clean has) (keeps clean has) told.1,
  ))
]
