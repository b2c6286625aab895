-- Trees whose rowids are integers in ascending order: what is left without some of them, and what follows the last.
use Rattle.std.proofs.Common.{◌≡◌, ℤ, pos, ◌+ℤ◌, ◌<ℤ◌, List, [], ◌∷◌, ◌++◌, map, filter, fold, drop, not, Bool, true, false, cond, IsTrue, Less, refl, sym, ap, ap₂, subst, ◌∙◌, append_assoc}
use Rattle.std.specs.Prelude.{IsPermutation}
use Rattle.std.proofs.lemmas.List.{map-append}
use Rattle.std.proofs.lemmas.List.Sorted.{IsPermutation-append_left, IsPermutation-append_comm}
use Rattle.std.specs.List.{AllByRecursion}
use Rattle.sqlite.specs.declared.types.Value.TheVariants.{Null, Int, Real, Text, Blob}
use Rattle.sqlite.specs.Order.{Row, value_cmp}
use Rattle.sqlite.specs.Tree.{rowid, put_row, without_rowid, IsTable}
use Rattle.sqlite.specs.View.{is_int}
use Rattle.sqlite.specs.Edit.{id_in, next_rowid, without_all}
use Rattle.sqlite_rules.specs.Calls.{ids_of}
use Rattle.sqlite_value.proofs.OrderLemmas.{value_cmp-Int}
use Rattle.sqlite_keyed.specs.Keyed.{IsKeyedBy, next_key}
use Rattle.sqlite_keyed.proofs.KeyedLemmas.{lt_from_Less}
use Rattle.sqlite_keyed.proofs.SliceLemmas.{insert_next}
use Rattle.sqlite_keyed.proofs.WriteLemmas.{removes_delete}
use Rattle.sqlite_keyed.proofs.ListLemmas.{map-map, filter-map, ascending_weaker, ascending_from_map, ascending-filter, all-filter, along_permutation}
use Rattle.sqlite_typed.proofs.RowLemmas.{puts-map, deletes-map}

-- the first may come before or after the second
pub turned : {A : Type 0} (first second before : List A) → IsPermutation (second ++ (first ++ before)) ((first ++ second) ++ before)
turned first second before =
    subst (λ l. IsPermutation l ((first ++ second) ++ before)) (append_assoc second first before)
    (IsPermutation-append_left before (second ++ first) (first ++ second) (IsPermutation-append_comm second first))

-- each rowid is an integer
abbrev pub AreWhole : List Row → Type 0
AreWhole = AllByRecursion (λ r. IsTrue (is_int (rowid r)))

-- a row as its rowid and the rest
abbrev Cut : Type 0
Cut = ℤ × Row

abbrev key_of : Cut → ℤ
key_of c = c.0

abbrev joined : Cut → Row
joined c = Int c.0 ∷ c.1

abbrev cut : Row → Cut
cut r = (id_in (rowid r), drop 1 r)

keyed : (c : Cut) → rowid (joined c) ≡ Int (key_of c)
keyed c = refl

back : (r : Row) → IsTrue (is_int (rowid r)) → joined (cut r) ≡ r
back [] h = absurd (cc)
back (Null ∷ r) h = absurd (cc)
back (Int n ∷ r) h = refl
back (Real x ∷ r) h = absurd (cc)
back (Text t ∷ r) h = absurd (cc)
back (Blob b ∷ r) h = absurd (cc)

all_back : (rows : List Row) → AreWhole rows → map joined (map cut rows) ≡ rows
all_back [] h = refl
all_back (r ∷ rows) h = ap₂ ◌∷◌ (back r h.0) (all_back rows h.1)

cuts_rise : (rows : List Row) → AreWhole rows → IsTable rows → IsKeyedBy key_of (map cut rows)
cuts_rise rows whole rising =
    ascending_weaker (λ a b. value_cmp (rowid (joined a)) (rowid (joined b)) ≡ Less) (λ a b. key_of a <ℤ key_of b)
    (λ a b h. lt_from_Less (key_of a) (key_of b) (sym (value_cmp-Int (key_of a) (key_of b)) ∙ h)) (map cut rows)
    (ascending_from_map (λ a b. value_cmp (rowid a) (rowid b) ≡ Less) joined (map cut rows)
    (subst IsTable (sym (all_back rows whole)) rising))

-- ---- what is left

filters_turn : {X : Type 0} (p q : X → Bool) (xs : List X) → filter p (filter q xs) ≡ filter q (filter p xs)
filters_turn p q [] = refl
filters_turn {X} p q (x ∷ xs) = go (p x) (q x) refl refl (filters_turn p q xs)
  where
    go : (a b : Bool) → p x ≡ a → q x ≡ b → filter p (filter q xs) ≡ filter q (filter p xs)
        → filter p (cond b (x ∷ filter q xs) (filter q xs)) ≡ filter q (cond a (x ∷ filter p xs) (filter p xs))
    go true true s t more = rw (s, t) (ap (λ l. x ∷ l) more)
    go true false s t more = rw t more
    go false true s t more = rw s more
    go false false s t more = more

-- the rowids may go in any order
pub without_all-permuted : (ids others : List ℤ) → IsPermutation ids others → (rows : List Row) → without_all rows ids ≡ without_all rows others
without_all-permuted ids others same rows =
    along_permutation (λ a b. (xs : List Row) → without_all xs a ≡ without_all xs b) (λ a xs. refl)
    (λ x a b h xs. h (without_rowid x xs))
    (λ x y a xs. ap (λ l. without_all l a) (filters_turn _ _ xs))
    (λ a b c h k xs. h xs ∙ k xs) ids others same rows

-- without the rowids of the rows that pass, the other rows are left
pub without-passing : (p : Row → Bool) (rows : List Row) → AreWhole rows → IsTable rows → without_all rows (ids_of (filter p rows)) ≡ filter (λ r. not (p r)) rows
without-passing p rows whole rising =
    let cuts = map cut rows in
    let all = all_back rows whole in
    let passes : Cut → Bool = λ c. p (joined c) in
    let ids : ids_of (filter p (map joined cuts)) ≡ map key_of (filter passes cuts) = ap ids_of (filter-map p joined cuts) ∙ map-map (λ r. id_in (rowid r)) joined (filter passes cuts) in
    let cut_all : without_all (map joined cuts) (ids_of (filter p (map joined cuts))) ≡ filter (λ r. not (p r)) (map joined cuts) =
    ap (without_all (map joined cuts)) ids ∙ deletes-map key_of joined keyed (map key_of (filter passes cuts)) cuts
    ∙ ap (map joined) (removes_delete key_of passes cuts (cuts_rise rows whole rising)) ∙ sym (filter-map (λ r. not (p r)) joined cuts) in
    subst (λ l. without_all l (ids_of (filter p l)) ≡ filter (λ r. not (p r)) l) all cut_all

pub whole-filter : (p : Row → Bool) (rows : List Row) → AreWhole rows → AreWhole (filter p rows)
whole-filter p rows = all-filter (λ r. IsTrue (is_int (rowid r))) p rows

pub rising-filter : (p : Row → Bool) (rows : List Row) → IsTable rows → IsTable (filter p rows)
rising-filter p rows = ascending-filter (λ a b. value_cmp (rowid a) (rowid b) ≡ Less) p rows

-- ---- what is put after the last

next_is : (cuts : List Cut) (top : ℤ) → fold (λ _ r. id_in (rowid r) +ℤ pos 1) top (map joined cuts) ≡ fold (λ _ c. key_of c +ℤ pos 1) top cuts
next_is [] top = refl
next_is (c ∷ cuts) top = next_is cuts (key_of c +ℤ pos 1)

pub put-last : (values : Row) (rows : List Row) → AreWhole rows → IsTable rows → put_row (Int (next_rowid rows) ∷ values) rows ≡ rows ++ (Int (next_rowid rows) ∷ values) ∷ []
put-last values rows whole rising =
    let cuts = map cut rows in
    let new : Cut = (next_key key_of cuts, values) in
    let put : put_row (joined new) (map joined cuts) ≡ map joined cuts ++ joined new ∷ [] =
    puts-map key_of joined keyed (new ∷ []) cuts ∙ ap (map joined) (insert_next key_of cuts new (cuts_rise rows whole rising) refl) ∙ map-append joined cuts (new ∷ []) in
    subst (λ l. put_row (Int (next_rowid l) ∷ values) l ≡ l ++ (Int (next_rowid l) ∷ values) ∷ []) (all_back rows whole)
    (subst (λ n. put_row (Int n ∷ values) (map joined cuts) ≡ map joined cuts ++ (Int n ∷ values) ∷ []) (sym (next_is cuts (pos 1))) put)
