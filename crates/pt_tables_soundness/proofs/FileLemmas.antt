-- The files of all riders, read entry by entry.
use Rattle.std.proofs.Common.{◌≡◌, inl, inr, ℕ, ◌+◌, ◌/◌, ◌<◌, ◌≤◌, Bool, true, false, IsTrue, List, [], ◌∷◌, length, cond, refl, sym, ap, ap₂, ◌∙◌, subst, arith, drop, get_or}
use Rattle.std.specs.Prelude.{◌==◌, ◌&&◌, nat_le, filter}
use Rattle.std.proofs.lemmas.List.{drop_all}
use Rattle.std.proofs.lemmas.Bool.Decides.{nat_tests}
use Rattle.pt_base_records.specs.Keys.{pair_key}
use Rattle.pt_base_records.specs.Records.{Each, IsInOrder, is_within}
use Rattle.pt_base_records.proofs.OrderLemmas.{Each-both, Each-weaker}
use Rattle.pt_base_records.proofs.TableLemmas.{same_or_other}
use Rattle.pt_desk_rules.specs.State.{most_entries}
use Rattle.pt_desk_rules.specs.Sound.{AreNumberedFrom, IsSoundFile}
use Rattle.pt_desk_rules.specs.State.{entry_key, entries_of, span_of}
use Rattle.pt_desk_rules.specs.declared.change.FiledEntry.{FiledEntry}
use Rattle.pt_tables_soundness.specs.Files.{next_position, IsAt}
use Rattle.pt_tables_soundness.specs.Tables.{AreSoundFiles}
use Rattle.pt_tables_soundness.proofs.EachLemmas.{next_from}

abbrev pub AreFiledFrom : ℕ → ℕ → List FiledEntry → Type 0
AreFiledFrom last next [] = Unit {0}
AreFiledFrom last next (x ∷ xs) =
    IsAt (next_position last next x.rider) x × AreFiledFrom x.rider (next_position last next x.rider + 1) xs

abbrev own : ℕ → List FiledEntry → List FiledEntry
own rider xs = filter (λ x. x.rider == rider) xs

record IsFileFrom (n : ℕ) (entries : List FiledEntry) : Type 0 where
  numbered : AreNumberedFrom n entries
  within : n + length entries ≤ most_entries

abbrev AreFilesFrom : ℕ → ℕ → List FiledEntry → Type 0
AreFilesFrom last next xs = (rider : ℕ) → IsFileFrom (next_position last next rider) (own rider xs)

is_same : (a b : ℕ) → a ≡ b → (a == b) ≡ true
is_same a b same = grind (arith, nat_tests)

is_no : (a b : ℕ) → (a ≡ b → ⊥) → (a == b) ≡ false
is_no a b other = grind (arith, nat_tests)

own_here : (x : FiledEntry) (xs : List FiledEntry) → own x.rider (x ∷ xs) ≡ x ∷ own x.rider xs
own_here x xs = ap (λ b. cond b (x ∷ own x.rider xs) (own x.rider xs)) (is_same x.rider x.rider refl)

own_past : (rider : ℕ) (x : FiledEntry) (xs : List FiledEntry) → (rider ≡ x.rider → ⊥) → own rider (x ∷ xs) ≡ own rider xs
own_past rider x xs other =
    ap (λ b. cond b (x ∷ own rider xs) (own rider xs)) (is_no x.rider rider (λ same. other (sym same)))

own_none : (rider : ℕ) (xs : List FiledEntry) → Each (λ x. rider < x.rider) xs → own rider xs ≡ []
own_none rider [] above = refl
own_none rider (x ∷ xs) above =
    own_past rider x xs (λ same. let lt = above.0 in absurd (omega arith)) ∙ own_none rider xs above.1

next_same : (last next : ℕ) → next_position last next last ≡ next
next_same last next = ap (λ b. cond b next 0) (is_same last last refl)

next_other : (last next rider : ℕ) → (rider ≡ last → ⊥) → next_position last next rider ≡ 0
next_other last next rider other = ap (λ b. cond b next 0) (is_no rider last other)

none_from : (n : ℕ) (xs : List FiledEntry) → n ≤ most_entries → xs ≡ [] → IsFileFrom n xs
none_from n xs few is = subst (IsFileFrom n) (sym is) (record { numbered = tt; within = omega arith })

file_here : (p : ℕ) (x : FiledEntry) (xs : List FiledEntry) → IsAt p x → IsFileFrom (p + 1) xs → IsFileFrom p (x ∷ xs)
file_here p x xs at file = record { numbered = (at.0, file.numbered); within = let most = file.within in omega arith }

file_back : (p : ℕ) (x : FiledEntry) (xs : List FiledEntry) → IsFileFrom p (x ∷ xs) → IsAt p x × IsFileFrom (p + 1) xs
file_back p x xs file =
    let most = file.within in
    ((file.numbered.0, omega arith), record { numbered = file.numbered.1; within = omega arith })

-- after an entry of another rider, no entry of the last rider follows
ends : (last rider : ℕ) (x : FiledEntry) (xs : List FiledEntry) → last ≤ x.rider → Each (λ y. x.rider ≤ y.rider) xs
    → (rider ≡ x.rider → ⊥) → rider ≡ last → own rider xs ≡ []
ends last rider x xs below above other same =
    own_none rider xs (Each-weaker (λ y. x.rider ≤ y.rider) (λ y. rider < y.rider)
    (λ y le. lower rider last x.rider y.rider below le other same) xs above)
  where
    lower : (a b c d : ℕ) → b ≤ c → c ≤ d → (a ≡ c → ⊥) → a ≡ b → a < d
    lower a b c d le also other same = elim (same_or_other a c) [ inl is ↦ absurd (other is) | inr differ ↦ grind arith ]

files_on : (last next : ℕ) (x : FiledEntry) (xs : List FiledEntry) → next ≤ most_entries → last ≤ x.rider
    → Each (λ y. x.rider ≤ y.rider) xs → IsAt (next_position last next x.rider) x
    → AreFilesFrom x.rider (next_position last next x.rider + 1) xs → AreFilesFrom last next (x ∷ xs)
files_on last next x xs few below above at files rider = elim (same_or_other rider x.rider) [
  | inl same ↦ subst (λ (r : ℕ). IsFileFrom (next_position last next r) (own r (x ∷ xs))) (sym same)
      (subst (IsFileFrom (next_position last next x.rider)) (sym (own_here x xs))
      (file_here (next_position last next x.rider) x (own x.rider xs) at
      (subst (λ (n : ℕ). IsFileFrom n (own x.rider xs)) (next_same x.rider (next_position last next x.rider + 1)) (files x.rider))))
  | inr other ↦ subst (IsFileFrom (next_position last next rider)) (sym (own_past rider x xs other))
      (elim (same_or_other rider last) [
        | inl same ↦ none_from (next_position last next rider) (own rider xs)
            (subst (λ (n : ℕ). n ≤ most_entries) (sym (next_same last next) ∙ ap (next_position last next) (sym same)) few)
            (ends last rider x xs below above other same)
        | inr differ ↦ subst (λ (n : ℕ). IsFileFrom n (own rider xs))
            (next_other x.rider (next_position last next x.rider + 1) rider other ∙ sym (next_other last next rider differ)) (files rider)
      ])
]

files_back : (last next : ℕ) (x : FiledEntry) (xs : List FiledEntry) → last ≤ x.rider
    → Each (λ y. x.rider ≤ y.rider) xs → AreFilesFrom last next (x ∷ xs)
    → IsAt (next_position last next x.rider) x × AreFilesFrom x.rider (next_position last next x.rider + 1) xs
files_back last next x xs below above files =
    let p = next_position last next x.rider in
    let here : IsAt p x × IsFileFrom (p + 1) (own x.rider xs)
    = file_back p x (own x.rider xs) (subst (IsFileFrom p) (own_here x xs) (files x.rider)) in (
      here.0,
      λ rider. elim (same_or_other rider x.rider) [
        | inl same ↦ subst (λ (r : ℕ). IsFileFrom (next_position x.rider (p + 1) r) (own r xs)) (sym same)
            (subst (λ (n : ℕ). IsFileFrom n (own x.rider xs)) (sym (next_same x.rider (p + 1))) here.1)
        | inr other ↦ subst (λ (n : ℕ). IsFileFrom n (own rider xs)) (sym (next_other x.rider (p + 1) rider other))
            (elim (same_or_other rider last) [
              | inl same ↦ none_from 0 (own rider xs) (omega arith) (ends last rider x xs below above other same)
              | inr differ ↦ subst (IsFileFrom 0) (own_past rider x xs other)
                  (subst (λ (n : ℕ). IsFileFrom n (own rider (x ∷ xs))) (next_other last next rider differ) (files rider))
            ])
      ],
    )

abbrev AreSmall : List FiledEntry → Type 0
AreSmall xs = Each (λ x. x.position < most_entries) xs

rider_rises : (a b p q : ℕ) → p < 200 → q < 200 → pair_key a p < pair_key b q → a ≤ b
rider_rises a b p q low high lt = omega arith

riders_rise : (x : FiledEntry) (xs : List FiledEntry) → x.position < most_entries → AreSmall xs
    → Each (λ y. entry_key x < entry_key y) xs → Each (λ y. x.rider ≤ y.rider) xs
riders_rise x xs low small order =
    Each-both (λ y. y.position < most_entries) (λ y. entry_key x < entry_key y) (λ y. x.rider ≤ y.rider)
    (λ y high lt. rider_rises x.rider y.rider x.position y.position low high lt) xs small order

filed_forth : (last next : ℕ) (xs : List FiledEntry) → next ≤ most_entries → Each (λ y. last ≤ y.rider) xs → AreSmall xs
    → IsInOrder entry_key xs → AreFiledFrom last next xs → AreFilesFrom last next xs
filed_forth last next [] few below small order filed = λ rider.
    none_from (next_position last next rider) [] (least (rider == last) next few) refl
  where
    least : (b : Bool) (n : ℕ) → n ≤ most_entries → cond b n 0 ≤ most_entries
    least true n few = few
    least false n few = omega arith
filed_forth last next (x ∷ xs) few below small order filed =
    let above = riders_rise x xs small.0 small.1 order.0 in
    let at = filed.0 in
    let room : next_position last next x.rider + 1 ≤ most_entries = let lt = at.1 in omega arith in
    files_on last next x xs few below.0 above at
    (filed_forth x.rider (next_position last next x.rider + 1) xs room above small.1 order.1 filed.1)

filed_back : (last next : ℕ) (xs : List FiledEntry) → Each (λ y. last ≤ y.rider) xs → AreSmall xs
    → IsInOrder entry_key xs → AreFilesFrom last next xs → AreFiledFrom last next xs
filed_back last next [] below small order files = tt
filed_back last next (x ∷ xs) below small order files =
    let above = riders_rise x xs small.0 small.1 order.0 in
    let parts = files_back last next x xs below.0 above files in
    (parts.0, filed_back x.rider (next_position last next x.rider + 1) xs above small.1 order.1 parts.1)

-- entries in files have small positions
filed_small : (last next : ℕ) (xs : List FiledEntry) → AreFiledFrom last next xs → AreSmall xs
filed_small last next [] filed = tt
filed_small last next (x ∷ xs) filed =
    let at = filed.0 in
    let is = at.0 in let low = at.1 in
    (omega arith, filed_small x.rider (next_position last next x.rider + 1) xs filed.1)

numbered_small : (n : ℕ) (xs : List FiledEntry) → AreNumberedFrom n xs → n + length xs ≤ most_entries → AreSmall xs
numbered_small n [] numbered few = tt
numbered_small n (x ∷ xs) numbered few =
    let at = numbered.0 in
    (omega arith, numbered_small (n + 1) xs numbered.1 (omega arith))

kept_each : {A : Type 0} (P : A → Type 0) (x : A) (ys : List A) (b : Bool) → Each P (cond b (x ∷ ys) ys) → (b ≡ true → P x) × Each P ys
kept_each P x ys true each = (λ is. each.0, each.1)
kept_each P x ys false each = (λ is. absurd (cc), each)

each_kept : {A : Type 0} (P : A → Type 0) (test : A → Bool) (xs : List A) → Each P (filter test xs) → Each (λ x. test x ≡ true → P x) xs
each_kept P test [] each = tt
each_kept P test (x ∷ xs) each =
    let parts = kept_each P x (filter test xs) (test x) each in
    (parts.0, each_kept P test xs parts.1)

-- if each record passes one of many tests, a property that follows from the tests holds for each
by_tests : {A : Type 0} (P : A → Type 0) (test : ℕ → A → Bool) (of : A → ℕ) → ((x : A) → test (of x) x ≡ true)
    → (xs : List A) → ((k : ℕ) → Each (λ x. test k x ≡ true → P x) xs) → Each P xs
by_tests P test of passes [] each = tt
by_tests P test of passes (x ∷ xs) each =
    ((each (of x)).0 (passes x), by_tests P test of passes xs (λ k. (each k).1))

at_most : (a b : ℕ) → a ≤ b → nat_le a b ≡ true
at_most a b less = grind (arith, nat_tests)

is_held : (key : ℕ) → is_within key (span_of (key / 4_294_967_296)) ≡ true
is_held key = ap₂ ◌&&◌ (at_most _ key (omega arith)) (at_most key _ (omega arith))

files_small : (xs : List FiledEntry) → AreSoundFiles xs → AreSmall xs
files_small xs files =
    by_tests (λ x. x.position < most_entries) (λ k x. is_within (entry_key x) (span_of k)) (λ x. entry_key x / 4_294_967_296)
    (λ x. is_held (entry_key x)) xs
    (λ k. each_kept (λ x. x.position < most_entries) (λ x. is_within (entry_key x) (span_of k)) xs
    (let file = files k in numbered_small 0 (entries_of k xs) file.numbered (let few = file.within in omega arith)))

same_test : (a b : Bool) → (a ≡ true → b ≡ true) → (b ≡ true → a ≡ true) → a ≡ b
same_test true b gives back = sym (gives refl)
same_test false true gives back = absurd (let no = back refl in cc)
same_test false false gives back = refl

is_own : (rider other p : ℕ) → p < 200 → is_within (pair_key other p) (span_of rider) ≡ true → (other == rider) ≡ true
is_own rider other p low inside = grind (arith, nat_tests)

is_inside : (rider other p : ℕ) → p < 200 → (other == rider) ≡ true → is_within (pair_key other p) (span_of rider) ≡ true
is_inside rider other p low is = grind (arith, nat_tests)

entries_own : (rider : ℕ) (xs : List FiledEntry) → AreSmall xs → entries_of rider xs ≡ own rider xs
entries_own rider [] small = refl
entries_own rider (x ∷ xs) small =
    let low = small.0 in
    ap (λ b. cond b (x ∷ entries_of rider xs) (entries_of rider xs))
    (same_test (is_within (entry_key x) (span_of rider)) (x.rider == rider) (is_own rider x.rider x.position low) (is_inside rider x.rider x.position low))
    ∙ ap (λ ys. cond (x.rider == rider) (x ∷ ys) ys) (entries_own rider xs small.1)

either_same : {A : Type 0} (b : Bool) (x : A) → cond b x x ≡ x
either_same true x = refl
either_same false x = refl

next_none : (rider : ℕ) → next_position 0 0 rider ≡ 0
next_none rider = either_same (rider == 0) 0

all_above : (xs : List FiledEntry) → Each (λ y. 0 ≤ y.rider) xs
all_above [] = tt
all_above (x ∷ xs) = (omega arith, all_above xs)

-- the files of all riders are sound if the entries are in files
pub filed_sound : (xs : List FiledEntry) → IsInOrder entry_key xs → AreFiledFrom 0 0 xs → AreSoundFiles xs
filed_sound xs order filed = λ rider.
    let small = filed_small 0 0 xs filed in
    let file = subst (λ (n : ℕ). IsFileFrom n (own rider xs)) (next_none rider)
    (filed_forth 0 0 xs (omega arith) (all_above xs) small order filed rider) in
    subst IsSoundFile (sym (entries_own rider xs small))
    (record { numbered = file.numbered; within = let few = file.within in omega arith })

pub sound_filed : (xs : List FiledEntry) → IsInOrder entry_key xs → AreSoundFiles xs → AreFiledFrom 0 0 xs
sound_filed xs order files =
    let small = files_small xs files in
    filed_back 0 0 xs (all_above xs) small order
    (λ rider. subst (λ (n : ℕ). IsFileFrom n (own rider xs)) (sym (next_none rider))
    (let file = subst IsSoundFile (entries_own rider xs small) (files rider) in
    record { numbered = file.numbered; within = let few = file.within in omega arith }))

pub not_filed : (last next i position : ℕ) (x : FiledEntry) (xs : List FiledEntry) (b : Bool) → i < length xs → x ≡ get_or xs i x
    → position ≡ next_position last next x.rider → (IsAt position x → IsTrue b) → b ≡ false → IsInOrder entry_key xs
    → (AreFiledFrom 0 0 xs → AreFiledFrom last next (drop i xs))
    → (IsTrue false → AreSoundFiles xs) × (AreSoundFiles xs → IsTrue false)
not_filed last next i position x xs b lt at is tells not order back = (
  λ none. absurd (cc),
  λ files.
      let rest = subst (AreFiledFrom last next) (next_from x xs i lt at) (back (sound_filed xs order files)) in
      let holds : IsTrue b = tells (subst (λ (n : ℕ). IsAt n x) (sym is) rest.0) in
      absurd (cc),
)

pub all_filed : (last next i : ℕ) (xs : List FiledEntry) → length xs ≤ i → IsInOrder entry_key xs
    → (AreFiledFrom last next (drop i xs) → AreFiledFrom 0 0 xs)
    → (IsTrue true → AreSoundFiles xs) × (AreSoundFiles xs → IsTrue true)
all_filed last next i xs end order forth = (
  λ is. filed_sound xs order (forth (subst (AreFiledFrom last next) (sym (drop_all i xs end)) tt)),
  λ files. refl,
)
