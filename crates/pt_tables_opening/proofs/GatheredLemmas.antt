-- Records of several rows each, divided at the first row of each.
use Rattle.std.proofs.Common.{◌≡◌, ◌++◌, ◌<◌, ◌≤◌, zero, suc, ℕ, List, [], ◌∷◌, length, length-append, map, flat_map}
use Rattle.std.proofs.Common.{take, drop, take-append-drop, append_assoc, append-nil, get_or, slice_index_or, refl}
use Rattle.std.proofs.Common.{sym, ap, ap₂, subst, ◌∙◌, arith, Result, Ok, Err, IfOk, IfErr, ◌⊎◌, inl, inr}
use Rattle.std.proofs.lemmas.Grind.{flat_map-append}
use Rattle.std.proofs.lemmas.List.{take_at, drop_at, get_or_append_left, get_or-append_right}
use Rattle.std.proofs.lemmas.List.Sorted.{IsPermutation-sym, IsPermutation-trans}
use Rattle.sqlite.specs.Order.{Row}
use Rattle.sqlite.specs.Table.{Table}
use Rattle.sqlite.specs.Tree.{Trees}
use Rattle.pt_base_records.specs.Records.{Each, Edit}
use Rattle.pt_tables_opening.specs.Gathered.{AreRowsOfNone, BeginsOnce, GathersNothing, KeepsOrder}
use Rattle.pt_tables_rows.specs.Tables.{AreRows, columns_of}

pub each_at : {A : Type 0} (P : A → Type 0) (xs : List A) (k : ℕ) (d : A) → Each P xs → k < length xs → P (get_or xs k d)
each_at P [] k d each low = absurd (omega arith)
each_at P (x ∷ xs) zero d each low = each.0
each_at P (x ∷ xs) (suc k) d each low = each_at P xs k d each.1 (omega arith)

pub each_push : {A : Type 0} (P : A → Type 0) (xs : List A) (x : A) → Each P xs → P x → Each P (xs ++ x ∷ [])
each_push P [] x each fits = (fits, tt)
each_push P (y ∷ xs) x each fits = (each.0, each_push P xs x each.1 fits)

-- records have the rows
pub record Remain {A : Type 0} (rows_of : A → List Row) (Fits : A → Type 0) (rows : List Row) : Type 0 where
  pub records : List A
  pub each : Each Fits records
  pub rows_are : flat_map rows_of records ≡ rows

-- up to here, only the first row begins a record
pub record Ends (Begins : Row → Type 0) (rows : List Row) (end : ℕ) : Type 0 where
  pub within : end ≤ length rows
  pub some : 0 < length rows → 0 < end
  pub later : (k : ℕ) → 0 < k → k < end → Begins (slice_index_or rows k []) → ⊥
  pub next : end < length rows → Begins (slice_index_or rows end [])

-- the first record, and those after it
pub record First {A : Type 0} (rows_of : A → List Row) (Fits : A → Type 0) (rows : List Row) (end : ℕ) : Type 0 where
  pub record_is : A
  pub fits : Fits record_is
  pub rows_are : rows_of record_is ≡ take end rows
  pub remain : Remain rows_of Fits (drop end rows)

module _ (Begins : Row → Type 0) where
  begun_some : (rows : List Row) → BeginsOnce Begins rows → 0 < length rows
  begun_some [] once = absurd once
  begun_some (row ∷ rows) once = omega arith

  begun_first : (rows later : List Row) → BeginsOnce Begins rows → Begins (get_or (rows ++ later) 0 [])
  begun_first [] later once = absurd once
  begun_first (row ∷ rows) later once = once.0

  begun_once : (rows : List Row) → BeginsOnce Begins rows → (k : ℕ) → 0 < k → k < length rows → Begins (get_or rows k []) → ⊥
  begun_once [] once k some low = absurd once
  begun_once (row ∷ rows) once zero some low = absurd (omega arith)
  begun_once (row ∷ rows) once (suc k) some low = each_at (λ r. Begins r → ⊥) rows k [] once.1 (omega arith)

  -- the first record ends where the next one begins
  record_end : (rows later : List Row) → BeginsOnce Begins rows → (0 < length later → Begins (get_or later 0 [])) → (end : ℕ) → Ends Begins (rows ++ later) end
      → length rows ≡ end
  record_end rows later once begun end ends =
      let size = length-append rows later in
      let has = begun_some rows once in
      let low : 0 < end = ends.some (omega arith) in
      let not_before : end < length rows → ⊥
      = λ before. begun_once rows once end low before (subst Begins (get_or_append_left rows later [] end before) (ends.next (omega arith))) in
      let not_past : length rows < end → ⊥
      = λ past.
      let within = ends.within in
      ends.later (length rows) has past (subst Begins (sym (get_or-append_right rows later (length rows) (length rows) [] refl (omega arith)))
      (subst (λ k. Begins (get_or later k [])) (omega arith) (begun (omega arith)))) in
      omega arith

module _ {A : Type 0} (rows_of : A → List Row) (Fits : A → Type 0) (Begins : Row → Type 0) (once : (x : A) → Fits x → BeginsOnce Begins (rows_of x)) where
  all_begun : (xs : List A) → Each Fits xs → 0 < length (flat_map rows_of xs) → Begins (get_or (flat_map rows_of xs) 0 [])
  all_begun [] each some = absurd (omega arith)
  all_begun (x ∷ xs) each some = begun_first Begins (rows_of x) (flat_map rows_of xs) (once x each.0)

  first_of_all : (xs : List A) → Each Fits xs → (end : ℕ) → 0 < length (flat_map rows_of xs) → Ends Begins (flat_map rows_of xs) end → First rows_of Fits (flat_map rows_of xs) end
  first_of_all [] each end some ends = absurd (omega arith)
  first_of_all (x ∷ xs) each end some ends =
      let later = flat_map rows_of xs in
      let long = record_end Begins (rows_of x) later (once x each.0) (all_begun xs each.1) end ends in
      record {
        record_is = x;
        fits = each.0;
        rows_are = sym (take_at (rows_of x) later end long);
        remain = record { records = xs; each = each.1; rows_are = sym (drop_at (rows_of x) later end long) };
      }

  first_told : (rows : List Row) (end : ℕ) → 0 < length rows → Ends Begins rows end → Remain rows_of Fits rows → First rows_of Fits rows end
  first_told rows end some ends remain =
      subst (λ l. First rows_of Fits l end) remain.rows_are
      (first_of_all remain.records remain.each end (subst (λ l. 0 < length l) (sym remain.rows_are) some) (subst (λ l. Ends Begins l end) (sym remain.rows_are) ends))

  -- if no record has the rows up to there, no records have all
  pub none_first : (rows group : List Row) (end : ℕ) → 0 < length rows → Ends Begins rows end → group ≡ take end rows → ((x : A) → Fits x → rows_of x ≡ group → ⊥)
      → Remain rows_of Fits rows → ⊥
  none_first rows group end some ends is none remain =
      let first = first_told rows end some ends remain in
      none first.record_is first.fits (first.rows_are ∙ sym is)

  pub remain_next : (rows later : List Row) (end : ℕ) → 0 < length rows → Ends Begins rows end → later ≡ drop end rows → Remain rows_of Fits rows → Remain rows_of Fits later
  remain_next rows later end some ends is remain =
      let first = first_told rows end some ends remain in
      subst (Remain rows_of Fits) (sym is) first.remain

  whole_ends : (x : A) (xs : List A) → Fits x → Each Fits xs → Ends Begins (flat_map rows_of (x ∷ xs)) (length (rows_of x))
  whole_ends x xs fits each =
      let rows = rows_of x in
      let later = flat_map rows_of xs in
      let size = length-append rows later in
      record {
        within = omega arith;
        some = λ some. begun_some Begins rows (once x fits);
        later = λ k some low begins. begun_once Begins rows (once x fits) k some low (subst Begins (get_or_append_left rows later [] k low) begins);
        next = λ more.
            subst Begins (sym (get_or-append_right rows later (length rows) (length rows) [] refl (omega arith)))
            (subst (λ k. Begins (get_or later k [])) (omega arith) (all_begun xs each (omega arith)));
      }

  some_rows : (x : A) (xs : List A) → Fits x → length (flat_map rows_of (x ∷ xs)) ≡ 0 → ⊥
  some_rows x xs fits none =
      let size = length-append (rows_of x) (flat_map rows_of xs) in
      let some = begun_some Begins (rows_of x) (once x fits) in
      omega arith

  -- if its rows determine each record, all rows determine all records
  pub same_records : ((x y : A) → Fits x → Fits y → rows_of x ≡ rows_of y → x ≡ y) → (xs ys : List A) → Each Fits xs → Each Fits ys → flat_map rows_of xs ≡ flat_map rows_of ys
      → xs ≡ ys
  same_records told [] [] ones others same = refl
  same_records told [] (y ∷ ys) ones others same = absurd (some_rows y ys others.0 (sym (ap length same)))
  same_records told (x ∷ xs) [] ones others same = absurd (some_rows x xs ones.0 (ap length same))
  same_records told (x ∷ xs) (y ∷ ys) ones others same =
      let end = length (rows_of x) in
      let ends : Ends Begins (flat_map rows_of (y ∷ ys)) end = subst (λ l. Ends Begins l end) same (whole_ends x xs ones.0 ones.1) in
      let long : length (rows_of y) ≡ end = record_end Begins (rows_of y) (flat_map rows_of ys) (once y others.0) (all_begun ys others.1) end ends in
      let first : rows_of x ≡ rows_of y =
      sym (take_at (rows_of x) (flat_map rows_of xs) end refl) ∙ ap (take end) same ∙ take_at (rows_of y) (flat_map rows_of ys) end long in
      let later : flat_map rows_of xs ≡ flat_map rows_of ys =
      sym (drop_at (rows_of x) (flat_map rows_of xs) end refl) ∙ ap (drop end) same ∙ drop_at (rows_of y) (flat_map rows_of ys) end long in
      ap₂ ◌∷◌ (told x y ones.0 others.0 first) (same_records told xs ys ones.1 others.1 later)

-- one record more
pub done_next : {A : Type 0} (rows_of : A → List Row) (puts news : List A) (x : A) (left rows front back : List Row) (end : ℕ) → news ≡ puts ++ x ∷ [] → front ≡ take end left → back ≡ drop end left
    → rows_of x ≡ front → flat_map rows_of puts ++ left ≡ rows → flat_map rows_of news ++ back ≡ rows
done_next rows_of puts news x left rows front back end is front_is back_is told done =
    ap₂ (λ n b. flat_map rows_of n ++ b) is back_is
    ∙ ap (λ l. l ++ drop end left) (flat_map-append rows_of puts (x ∷ []) ∙ ap (λ l. flat_map rows_of puts ++ l) (append-nil (rows_of x) ∙ told ∙ front_is))
    ∙ append_assoc (flat_map rows_of puts) (take end left) (drop end left)
    ∙ ap (λ l. flat_map rows_of puts ++ l) (take-append-drop end left) ∙ done

-- ---- a table

pub are_of_table : {A F : Type 0} (home : Table) (rows_of : A → List Row) (trees : Trees) (rows : List Row) → AreRows home trees rows → (r : Result (Edit A) F)
    → IfOk r (λ edit. flat_map rows_of edit.puts ≡ rows) → IfOk r (λ edit. AreRows home trees (flat_map rows_of edit.puts))
are_of_table home rows_of trees rows are (Ok edit) same = subst (AreRows home trees) (sym same) are
are_of_table home rows_of trees rows are (Err f) same = tt

module _ {A : Type 0} (key : A → ℕ) (home : Table) (rows_of : A → List Row) (Fits : A → Type 0) (trees : Trees) (rows : List Row) where
  -- if ordered rows have no records, no records have the rows of the table
  none_told : AreRows home trees rows → KeepsOrder key rows_of Fits rows → GathersNothing key rows_of Fits rows → AreRowsOfNone key home rows_of Fits trees
  none_told are keeps nothing xs each order have =
      let there = map (columns_of home) (trees home.tree) in
      let theirs = flat_map rows_of xs in
      let same : theirs ≡ rows = keeps.same xs each order (IsPermutation-trans theirs there rows (IsPermutation-sym there theirs have) are) in
      elim nothing [
        | inl none ↦ none xs each same
        | inr other ↦ other.2 (keeps.rising xs other.0.puts each other.1.2 (same ∙ sym other.1.1) order)
      ]

  -- and so such rows are those of no records
  pub refuses_table : {F : Type 0} (Clean Has : Type 0) → (Clean → Has → AreRows home trees rows)
      → (Clean → Has → KeepsOrder key rows_of Fits rows) → (memory store unsound : F) (r : Result (Edit A) F)
      → IfErr r (λ refused. (refused ≡ memory) ⊎ ((refused ≡ unsound) × GathersNothing key rows_of Fits rows))
      → IfErr r (λ refused. (refused ≡ memory) ⊎ ((refused ≡ store) ⊎ ((refused ≡ unsound) × (Clean → Has → AreRowsOfNone key home rows_of Fits trees))))
  refuses_table Clean Has are keeps memory store unsound (Ok edit) h = tt
  refuses_table Clean Has are keeps memory store unsound (Err f) h = elim h [
    | inl same ↦ inl same
    | inr told ↦ inr (inr (told.0, λ clean has. none_told (are clean has) (keeps clean has) told.1))
  ]
