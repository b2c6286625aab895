-- What puts and removals of records make of one table, one after the other.
use Rattle.std.proofs.Common.{◌≡◌, ◌++◌, ◌<◌, ◌⊎◌, inl, inr, ℕ, zero, suc, Bool, true, false, not, cond, List, []}
use Rattle.std.proofs.Common.{◌∷◌, length, get_or, Option, None, Some, flat_map, filter, refl, sym, ap, subst, ◌∙◌}
use Rattle.std.proofs.Common.{arith}
use Rattle.std.specs.Prelude.{◌==◌, ◌||◌, ◌&&◌, nat_le}
use Rattle.std.proofs.lemmas.Bool.Decides.{nat_tests}
use Rattle.sqlite.specs.Effect.{Database}
use Rattle.sqlite.specs.Order.{Row}
use Rattle.sqlite.specs.Table.{Table}
use Rattle.pt_base_records.specs.Records.{Each, Edit, IsInOrder, edited, is_within, put, put_all, record_at, take_all, take_away, within}
use Rattle.pt_base_records.specs.declared.span.Span.{Span}
use Rattle.pt_base_records.proofs.OrderLemmas.{compared, Each-put, Each-weaker, IsInOrder-put}
use Rattle.pt_base_records.proofs.RecordLemmas.{put_over, put_past}
use Rattle.pt_base_records.proofs.SplitLemmas.{put_first}
use Rattle.pt_base_records.proofs.TableLemmas.{Each-filter, IsInOrder-filter, IsInOrder-take_all}
use Rattle.pt_tables_rows.specs.Schema.{desk_schema}
use Rattle.pt_tables_writing.specs.Groups.{KnowsEdited, KnowsReplaced, KnowsTaken, OfEach}
use Rattle.pt_tables_writing.specs.Stored.{without, without_all, PutsAll, TakesAll, TakesSpans, EditsTable, IsKey, OnlyPuts}
use Rattle.pt_tables_writing.specs.Writes.{Puts, Replaces, Takes, Rewrites}
use Rattle.pt_tables_writing.proofs.TurnLemmas.{rewrites_then}

-- ---- lists

front : {A : Type 0} (P : A → Type 0) (done : List A) (new : A) → Each P (done ++ new ∷ []) → Each P done
front P [] new each = tt
front P (x ∷ done) new each = (each.0, front P done new each.1)

pub Each-push : {A : Type 0} (P : A → Type 0) (done : List A) (new : A) → Each P done → P new → Each P (done ++ new ∷ [])
Each-push P [] new each holds = (holds, tt)
Each-push P (x ∷ done) new each holds = (each.0, Each-push P done new each.1 holds)

put_all-push : {A : Type 0} (key : A → ℕ) (done : List A) (new : A) (xs : List A)
    → put_all key (done ++ new ∷ []) xs ≡ put key new (put_all key done xs)
put_all-push key [] new xs = refl
put_all-push key (x ∷ done) new xs = put_all-push key done new (put key x xs)

IsInOrder-put_all : {A : Type 0} (key : A → ℕ) (news xs : List A) → IsInOrder key xs → IsInOrder key (put_all key news xs)
IsInOrder-put_all key [] xs order = order
IsInOrder-put_all key (new ∷ news) xs order = IsInOrder-put_all key news (put key new xs) (IsInOrder-put key new xs order)

Each-put_all : {A : Type 0} (P : A → Type 0) (key : A → ℕ) (news xs : List A) → Each P news → Each P xs
    → Each P (put_all key news xs)
Each-put_all P key [] xs new each = each
Each-put_all P key (x ∷ news) xs new each = Each-put_all P key news (put key x xs) new.1 (Each-put P key x xs each new.0)

without_all-push : {A : Type 0} (key : A → ℕ) (done : List A) (gone : A) (xs : List A)
    → without_all key (done ++ gone ∷ []) xs ≡ without key gone (without_all key done xs)
without_all-push key [] gone xs = refl
without_all-push key (x ∷ done) gone xs = without_all-push key done gone (without key x xs)

IsInOrder-without_all : {A : Type 0} (key : A → ℕ) (gone xs : List A) → IsInOrder key xs
    → IsInOrder key (without_all key gone xs)
IsInOrder-without_all key [] xs order = order
IsInOrder-without_all key (x ∷ gone) xs order =
    IsInOrder-without_all key gone (without key x xs) (IsInOrder-filter key (λ y. not (key y == key x)) xs order)

Each-without_all : {A : Type 0} (P : A → Type 0) (key : A → ℕ) (gone xs : List A) → Each P xs
    → Each P (without_all key gone xs)
Each-without_all P key [] xs each = each
Each-without_all P key (x ∷ gone) xs each =
    Each-without_all P key gone (without key x xs) (Each-filter P (λ y. not (key y == key x)) xs each)

take_all-push : {A : Type 0} (key : A → ℕ) (done : List Span) (span : Span) (xs : List A)
    → take_all key (done ++ span ∷ []) xs ≡ take_away key span (take_all key done xs)
take_all-push key [] span xs = refl
take_all-push key (s ∷ done) span xs = take_all-push key done span (take_away key s xs)

pub Each-take_all : {A : Type 0} (P : A → Type 0) (key : A → ℕ) (spans : List Span) (xs : List A) → Each P xs
    → Each P (take_all key spans xs)
Each-take_all P key [] xs each = each
Each-take_all P key (s ∷ spans) xs each =
    Each-take_all P key spans (take_away key s xs) (Each-filter P (λ y. not (is_within (key y) s)) xs each)

-- ---- the records of a span, taken one by one

-- whether one of these has the key
has_key : {A : Type 0} → (A → ℕ) → ℕ → List A → Bool
has_key key k [] = false
has_key key k (x ∷ xs) = (k == key x) || has_key key k xs

cond_same : {X : Type 0} (b c : Bool) (x y : X) → b ≡ c → cond b x y ≡ cond c x y
cond_same b c x y same = ap (λ d. cond d x y) same

-- two tests that agree on each record leave the same
same_left : {A : Type 0} (p q : A → Bool) (xs : List A) → Each (λ x. p x ≡ q x) xs → filter p xs ≡ filter q xs
same_left p q [] each = refl
same_left p q (x ∷ xs) each =
    cond_same (p x) (q x) (x ∷ filter p xs) (filter p xs) each.0
    ∙ ap (λ rest. cond (q x) (x ∷ rest) rest) (same_left p q xs each.1)

each_of : {A : Type 0} (P : A → Type 0) (xs : List A) → ((x : A) → P x) → Each P xs
each_of P [] all = tt
each_of P (x ∷ xs) all = (all x, each_of P xs all)

either_left : {A : Type 0} (a b : Bool) (x : A) (xs rest : List A)
    → cond (not a) (cond (not b) (x ∷ rest) rest) rest ≡ cond (not (a || b)) (x ∷ rest) rest
either_left true b x xs rest = refl
either_left false b x xs rest = refl

filter_cond : {A : Type 0} (p : A → Bool) (b : Bool) (x : A) (xs : List A)
    → filter p (cond b (x ∷ xs) xs) ≡ cond b (cond (p x) (x ∷ filter p xs) (filter p xs)) (filter p xs)
filter_cond p true x xs = refl
filter_cond p false x xs = refl

-- one test after another is one test
filter_both : {A : Type 0} (p q : A → Bool) (xs : List A)
    → filter (λ x. not (q x)) (filter (λ x. not (p x)) xs) ≡ filter (λ x. not (p x || q x)) xs
filter_both p q [] = refl
filter_both p q (x ∷ xs) =
    filter_cond (λ y. not (q y)) (not (p x)) x (filter (λ y. not (p y)) xs)
    ∙ ap (λ rest. cond (not (p x)) (cond (not (q x)) (x ∷ rest) rest) rest) (filter_both p q xs)
    ∙ either_left (p x) (q x) x xs (filter (λ y. not (p y || q y)) xs)

none_kept : {A : Type 0} (xs : List A) → xs ≡ filter (λ x. not false) xs
none_kept [] = refl
none_kept (x ∷ xs) = ap (λ rest. x ∷ rest) (none_kept xs)

without_all-is : {A : Type 0} (key : A → ℕ) (gone xs : List A)
    → without_all key gone xs ≡ filter (λ x. not (has_key key (key x) gone)) xs
unfolding has_key
without_all-is key [] xs = none_kept xs
without_all-is key (g ∷ gone) xs =
    without_all-is key gone (without key g xs) ∙ filter_both (λ x. key x == key g) (λ x. has_key key (key x) gone) xs

-- a record in a list has one of its keys
same_key : (k : ℕ) → (k == k) ≡ true
same_key k = grind (arith, nat_tests)

or_true : (a : Bool) → (a || true) ≡ true
or_true true = refl
or_true false = refl

has_more : {A : Type 0} (key : A → ℕ) (k : ℕ) (b : Bool) (x : A) (xs : List A) → has_key key k xs ≡ true
    → has_key key k (cond b (x ∷ xs) xs) ≡ true
unfolding has_key
has_more key k true x xs has = ap (λ b. (k == key x) || b) has ∙ or_true (k == key x)
has_more key k false x xs has = has

has_kept : {A : Type 0} (key : A → ℕ) (b : Bool) (x : A) (xs : List A) → b ≡ true
    → has_key key (key x) (cond b (x ∷ xs) xs) ≡ true
unfolding has_key
has_kept key true x xs is = ap (λ b. b || has_key key (key x) xs) (same_key (key x))
has_kept key false x xs is = absurd (cc)

-- the keys of the records within a span are, among the keys of all, those of the span
key_within : {A : Type 0} (key : A → ℕ) (span : Span) (xs : List A)
    → Each (λ x. is_within (key x) span ≡ true → has_key key (key x) (within key span xs) ≡ true) xs
key_within {A} key span xs = go xs xs (λ x has. has)
  where
    go : (all rest : List A)
        → ((x : A) → has_key key (key x) (within key span rest) ≡ true → has_key key (key x) (within key span all) ≡ true)
        → Each (λ x. is_within (key x) span ≡ true → has_key key (key x) (within key span all) ≡ true) rest
    go all [] up = tt
    go all (x ∷ rest) up = (
      λ is. up x (has_kept key (is_within (key x) span) x (within key span rest) is),
      go all rest (λ y has. up y (has_more key (key y) (is_within (key x) span) x (within key span rest) has)),
    )

outside : {A : Type 0} (key : A → ℕ) (span : Span) (k : ℕ) (b : Bool) (x : A) (ys : List A)
    → is_within k span ≡ false → is_within (key x) span ≡ b → has_key key k ys ≡ false
    → has_key key k (cond b (x ∷ ys) ys) ≡ false
unfolding has_key
outside key span k false x ys out is none = none
outside key span k true x ys out is none =
    let apart : (k ≡ key x → ⊥) = λ same. absurd (let both = sym out ∙ ap (λ n. is_within n span) same ∙ is in cc) in
    let differs : (k == key x) ≡ false = grind (arith, nat_tests) in
    ap (λ b. b || has_key key k ys) differs ∙ none

-- and no other key is among them
key_without : {A : Type 0} (key : A → ℕ) (span : Span) (k : ℕ) (xs : List A) → is_within k span ≡ false
    → has_key key k (within key span xs) ≡ false
unfolding has_key
key_without key span k [] out = refl
key_without key span k (x ∷ xs) out =
    outside key span k (is_within (key x) span) x (within key span xs) out refl (key_without key span k xs out)

agree : (a b : Bool) → (a ≡ true → b ≡ true) → (a ≡ false → b ≡ false) → b ≡ a
agree true b on off = on refl
agree false b on off = off refl

each_agrees : {A : Type 0} (key : A → ℕ) (span : Span) (all xs : List A)
    → Each (λ x. is_within (key x) span ≡ true → has_key key (key x) (within key span all) ≡ true) xs
    → Each (λ x. not (has_key key (key x) (within key span all)) ≡ not (is_within (key x) span)) xs
each_agrees key span all [] each = tt
each_agrees key span all (x ∷ xs) each = (
  ap not (agree (is_within (key x) span) (has_key key (key x) (within key span all)) each.0 (key_without key span (key x) all)),
  each_agrees key span all xs each.1,
)

-- to remove each record of a span, as it was before others were removed, is to remove the span
taken_one_by_one : {A : Type 0} (key : A → ℕ) (span : Span) (spans : List Span) (xs : List A)
    → without_all key (within key span xs) (take_all key spans xs) ≡ take_away key span (take_all key spans xs)
taken_one_by_one {A} key span spans xs =
    let P : A → Type 0 = λ x. is_within (key x) span ≡ true → has_key key (key x) (within key span xs) ≡ true in
    without_all-is key (within key span xs) (take_all key spans xs)
    ∙ same_left (λ x. not (has_key key (key x) (within key span xs))) (λ x. not (is_within (key x) span)) (take_all key spans xs)
    (each_agrees key span xs (take_all key spans xs) (Each-take_all P key spans xs (key_within key span xs)))

-- ---- lists that agree with what is there

-- what is known of one of the spans
pub known_at : {A : Type 0} (key : A → ℕ) (spans : List Span) (n : ℕ) (span : Span) (known there : List A) → n < length spans
    → span ≡ get_or spans n span → KnowsTaken key spans known there → within key span known ≡ within key span there
known_at key [] n span known there low is agrees = absurd (omega arith)
known_at key (s ∷ spans) zero span known there low is agrees = subst (λ s. within key s known ≡ within key s there) (sym is) agrees.0
known_at key (s ∷ spans) (suc n) span known there low is agrees = known_at key spans n span known there (omega arith) is agrees.1

-- the known record of a key is the stored one
pub known_stands : {A : Type 0} (known there : Option A) (before : A) → (known ≡ None) ⊎ (known ≡ there) → known ≡ Some before
    → there ≡ Some before
known_stands known there before (inl none) found = absurd (let no = sym none ∙ found in cc)
known_stands known there before (inr same) found = sym same ∙ found

-- ---- what has a record's key makes no difference where the record is put

is_it : (n k : ℕ) → (nat_le k n && nat_le n k) ≡ (n == k)
is_it n k = grind (arith, nat_tests)

same_as : (n k : ℕ) → n ≡ k → (n == k) ≡ true
same_as n k same = grind (arith, nat_tests)

is_other : (n k : ℕ) → (n ≡ k → ⊥) → (n == k) ≡ false
is_other n k apart = grind (arith, nat_tests)

within_key : (n k : ℕ) (span : Span) → IsKey k span → is_within n span ≡ (n == k)
within_key n k span (from, to) =
    ap (λ (low : ℕ). nat_le low n && nat_le n span.to) from ∙ ap (λ (high : ℕ). nat_le k n && nat_le n high) to ∙ is_it n k

-- a record with another key stays
kept_by : {A : Type 0} (key : A → ℕ) (k : ℕ) (span : Span) (x : A) (xs : List A) → IsKey k span → (key x ≡ k → ⊥)
    → take_away key span (x ∷ xs) ≡ x ∷ take_away key span xs
kept_by key k span x xs own other =
    ap (λ b. cond (not b) (x ∷ take_away key span xs) (take_away key span xs)) (within_key (key x) k span own ∙ is_other (key x) k other)

all_kept : {A : Type 0} (key : A → ℕ) (k : ℕ) (span : Span) (xs : List A) → IsKey k span → Each (λ y. k < key y) xs
    → take_away key span xs ≡ xs
all_kept key k span [] own above = refl
all_kept key k span (x ∷ xs) own above =
    kept_by key k span x xs own (λ same. absurd (omega (arith, above.0, same))) ∙ ap (λ l. x ∷ l) (all_kept key k span xs own above.1)

put_beside : {A : Type 0} (key : A → ℕ) (new : A) (span : Span) (xs : List A) → IsKey (key new) span → IsInOrder key xs
    → put key new (take_away key span xs) ≡ put key new xs
put_beside key new span [] own order = refl
put_beside key new span (x ∷ xs) own order = elim (compared (key x) (key new)) [
  | inl lt ↦
      ap (put key new) (kept_by key (key new) span x xs own (λ same. absurd (omega (arith, lt, same))))
      ∙ put_past key new x (take_away key span xs) lt ∙ ap (λ l. x ∷ l) (put_beside key new span xs own order.1)
      ∙ sym (put_past key new x xs lt)
  | inr (inl is) ↦
      let above = subst (λ (n : ℕ). Each (λ y. n < key y) xs) is order.0 in
      ap (λ b. put key new (cond (not b) (x ∷ take_away key span xs) (take_away key span xs))) (within_key (key x) (key new) span own ∙ same_as (key x) (key new) is)
      ∙ ap (put key new) (all_kept key (key new) span xs own above) ∙ put_first key new xs above ∙ sym (put_over key new x xs is)
  | inr (inr gt) ↦
      let above : Each (λ y. key new < key y) xs = Each-weaker (λ y. key x < key y) (λ y. key new < key y) (λ y more. omega (arith, gt, more)) xs order.0 in
      ap (put key new) (all_kept key (key new) span (x ∷ xs) own (gt, above))
]

-- removals of its key before a record is put
put_alone : {A : Type 0} (key : A → ℕ) (new : A) (spans : List Span) (xs : List A) → Each (IsKey (key new)) spans → IsInOrder key xs
    → put key new (take_all key spans xs) ≡ put key new xs
put_alone key new [] xs own order = refl
put_alone key new (span ∷ spans) xs own order =
    put_alone key new spans (take_away key span xs) own.1 (IsInOrder-filter key (λ x. not (is_within (key x) span)) xs order)
    ∙ put_beside key new span xs own.0 order

-- ---- tables

module _ {A : Type 0} (t : Table) (key : A → ℕ) (Fits : A → Type 0) (rows : A → List Row) where
  pub puts_next : (done : List A) (new : A) (a b c : Database) → PutsAll t key Fits rows done a b
      → (b.schema ≡ desk_schema → Puts t key Fits rows new b c) → PutsAll t key Fits rows (done ++ new ∷ []) a c
  puts_next done new a b c first next fit xs order fits =
      let before = first (front Fits done new fit) xs order fits in
      let then = next before.schema (put_all key done xs) (IsInOrder-put_all key done xs order)
      (Each-put_all Fits key done xs (front Fits done new fit) fits) in
      subst (λ ys. Rewrites t (flat_map rows xs) (flat_map rows ys) a c) (sym (put_all-push key done new xs))
      (rewrites_then t (flat_map rows xs) (flat_map rows (put_all key done xs)) (flat_map rows (put key new (put_all key done xs))) a b c before then)

  pub takes_next : (done : List A) (gone : A) (a b c : Database) → TakesAll t key Fits rows done a b
      → (b.schema ≡ desk_schema → Takes t key Fits rows gone b c) → TakesAll t key Fits rows (done ++ gone ∷ []) a c
  takes_next done gone a b c first next xs order fits =
      let before = first xs order fits in
      let then = next before.schema (without_all key done xs) (IsInOrder-without_all key done xs order)
      (Each-without_all Fits key done xs fits) in
      subst (λ ys. Rewrites t (flat_map rows xs) (flat_map rows ys) a c) (sym (without_all-push key done gone xs))
      (rewrites_then t (flat_map rows xs) (flat_map rows (without_all key done xs)) (flat_map rows (without key gone (without_all key done xs))) a b c before then)

  pub spans_next : (done : List Span) (span : Span) (xs found : List A) → found ≡ within key span xs → (a b c : Database)
      → TakesSpans t key Fits rows done xs a b → (b.schema ≡ desk_schema → TakesAll t key Fits rows found b c)
      → TakesSpans t key Fits rows (done ++ span ∷ []) xs a c
  spans_next done span xs found is a b c first next order fits =
      let before = first order fits in
      let now = take_all key done xs in
      let then = next before.schema now (IsInOrder-take_all key done xs order) (Each-take_all Fits key done xs fits) in
      let same : without_all key found now ≡ take_all key (done ++ span ∷ []) xs =
      ap (λ gone. without_all key gone now) is ∙ taken_one_by_one key span done xs ∙ sym (take_all-push key done span xs) in
      subst (λ ys. Rewrites t (flat_map rows xs) (flat_map rows ys) a c) same
      (rewrites_then t (flat_map rows xs) (flat_map rows now) (flat_map rows (without_all key found now)) a b c before then)

  pub edits_made : (edit : Edit A) (spans : List Span) (puts xs : List A) → spans ≡ edit.away → puts ≡ edit.puts
      → (a b c : Database) → TakesSpans t key Fits rows spans xs a b
      → (b.schema ≡ desk_schema → PutsAll t key Fits rows puts b c) → EditsTable t key Fits rows edit xs a c
  edits_made edit spans puts xs away put_is a b c first next fit order fits =
      let before = first order fits in
      let now = take_all key spans xs in
      let then = next before.schema (subst (Each Fits) (sym put_is) fit) now (IsInOrder-take_all key spans xs order)
      (Each-take_all Fits key spans xs fits) in
      let same : put_all key puts now ≡ edited key edit xs =
      ap (λ ps. put_all key ps now) put_is ∙ ap (λ ss. put_all key edit.puts (take_all key ss xs)) away in
      subst (λ ys. Rewrites t (flat_map rows xs) (flat_map rows ys) a c) same
      (rewrites_then t (flat_map rows xs) (flat_map rows now) (flat_map rows (put_all key puts now)) a b c before then)

  -- an edit that only replaces a record that the lists have
  pub replaced_made : (edit : Edit A) (before new : A) (known : List A) → OnlyPuts key new edit
      → record_at key (key new) known ≡ Some before → (a b : Database) → Replaces t key Fits rows before new a b
      → OfEach (KnowsEdited key edit known) (EditsTable t key Fits rows edit) a b
  replaced_made edit before new known only found a b replaces there agrees = λ fit order fits.
      let fit' = subst (Each Fits) only.puts fit in
      let here = subst (λ puts. KnowsReplaced key puts known there) only.puts agrees.replaced in
      let same : edited key edit there ≡ put key new there =
      ap (λ puts. put_all key puts (take_all key edit.away there)) only.puts ∙ put_alone key new edit.away there only.away order in
      subst (λ ys. Rewrites t (flat_map rows there) (flat_map rows ys) a b) (sym same)
      (replaces fit'.0 there order fits
      (known_stands (record_at key (key new) known) (record_at key (key new) there) before here.0 found))
