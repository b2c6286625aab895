-- Tables: what edits keep of them, and what is found in them.
use Rattle.std.proofs.Common.{◌≡◌, ◌⊎◌, inl, inr, ℕ, ◌+◌, ◌<◌, ◌≤◌, ◌||◌, nat_lt, Bool, true, false, not, IsTrue}
use Rattle.std.proofs.Common.{List, [], ◌∷◌, length, Option, Some, None, is_some, arith, cond, refl, sym, ap, ◌∙◌}
use Rattle.std.proofs.Common.{subst}
use Rattle.std.specs.Prelude.{◌==◌, find, filter}
use Rattle.std.proofs.lemmas.Bool.{cases_order}
use Rattle.std.proofs.lemmas.Bool.Decides.{nat_tests}
use Rattle.pt_base_records.specs.Records.{put, put_all, take_away, take_all, is_within, record_at, Each, IsInOrder, IsTable}
use Rattle.pt_base_records.specs.declared.span.Span.{Span}
use Rattle.pt_base_records.proofs.OrderLemmas.{IsInOrder-put, length-put, length-put_there, record_at-put_same, record_at-put_other, record_at-here, record_at-past}

pub same_or_other : (a b : ℕ) → (a ≡ b) ⊎ (a ≡ b → ⊥)
same_or_other a b = elim (cases_order a b) [
  | inl same ↦ inl same
  | inr (inl lt) ↦ inr (λ same. omega arith)
  | inr (inr gt) ↦ inr (λ same. omega arith)
]

pub found_is_some : {A : Type 0} (o : Option A) (x : A) → o ≡ Some x → IsTrue (is_some o)
found_is_some o x is = subst (λ o. IsTrue (is_some o)) (sym is) refl

-- a record that was there by its key stays there
pub stays_there : {A : Type 0} (key : A → ℕ) (k : ℕ) (new : A) (xs : List A) → IsTrue (is_some (record_at key k xs)) → IsTrue (is_some (record_at key k (put key new xs)))
stays_there key k new xs there = elim (same_or_other (key new) k) [
  | inl same ↦ found_is_some (record_at key k (put key new xs)) new (ap (λ n. record_at key n (put key new xs)) (sym same) ∙ record_at-put_same key new xs)
  | inr other ↦ subst (λ o. IsTrue (is_some o)) (sym (record_at-put_other key k new xs other)) there
]

or_cases : (p q : Bool) → IsTrue (p || q) → IsTrue p ⊎ IsTrue q
or_cases true q holds = inl refl
or_cases false q holds = inr holds

pub below_is : (a b : ℕ) → IsTrue (nat_lt a b) → a < b
below_is a b holds = grind (arith, nat_tests)

-- the limit still holds after a put if there is room
pub within_limit : {A : Type 0} (key : A → ℕ) (new : A) (xs : List A) (most : ℕ) → IsInOrder key xs → length xs ≤ most
    → IsTrue (is_some (record_at key (key new) xs) || nat_lt (length xs) most) → length (put key new xs) ≤ most
within_limit key new xs most order within room = elim (or_cases (is_some (record_at key (key new) xs)) (nat_lt (length xs) most) room) [
  | inl there ↦ omega (arith, length-put_there key new xs order there)
  | inr below ↦ omega (arith, length-put key new xs, below_is (length xs) most below)
]

-- after a put a table is still a table if there is room
pub IsTable-put : {A : Type 0} (key : A → ℕ) (new : A) (xs : List A) (most : ℕ) → IsTable key most xs
    → IsTrue (is_some (record_at key (key new) xs) || nat_lt (length xs) most) → IsTable key most (put key new xs)
IsTable-put key new xs most table room =
    record { in_order = IsInOrder-put key new xs table.in_order; within = within_limit key new xs most table.in_order table.within room }

-- the same of a record that is new
pub IsTable-add : {A : Type 0} (key : A → ℕ) (new : A) (xs : List A) (most : ℕ) → IsTable key most xs → IsTrue (nat_lt (length xs) most) → IsTable key most (put key new xs)
IsTable-add key new xs most table room =
    record { in_order = IsInOrder-put key new xs table.in_order; within = omega (arith, length-put key new xs, below_is (length xs) most room, table.within) }

found_cases : {A : Type 0} (b : Bool) (y x : A) (rest : Option A) → cond b (Some y) rest ≡ Some x → (y ≡ x) ⊎ (rest ≡ Some x)
found_cases true y x rest is = inl (cc)
found_cases false y x rest is = inr is

-- a record that passes a test is found by its key
pub found_by_key : {A : Type 0} (key : A → ℕ) (test : A → Bool) (x : A) (xs : List A) → find test xs ≡ Some x → IsTrue (is_some (record_at key (key x) xs))
found_by_key key test x [] is = absurd (cc)
found_by_key key test x (y ∷ ys) is = elim (found_cases (test y) y x (find test ys) is) [
  | inl here ↦ found_is_some (record_at key (key x) (y ∷ ys)) y (record_at-here key (key x) y ys (ap key here))
  | inr later ↦ elim (same_or_other (key y) (key x)) [
    | inl same ↦ found_is_some (record_at key (key x) (y ∷ ys)) y (record_at-here key (key x) y ys same)
    | inr other ↦ subst (λ o. IsTrue (is_some o)) (sym (record_at-past key (key x) y ys other)) (found_by_key key test x ys later)
  ]
]

-- what holds of each record holds of each that a test keeps
kept_one : {A : Type 0} (P : A → Type 0) (x : A) (xs : List A) (b : Bool) → P x → Each P xs → Each P (cond b (x ∷ xs) xs)
kept_one P x xs true holds each = (holds, each)
kept_one P x xs false holds each = each

pub Each-filter : {A : Type 0} (P : A → Type 0) (test : A → Bool) (xs : List A) → Each P xs → Each P (filter test xs)
Each-filter P test [] each = tt
Each-filter P test (x ∷ xs) each = kept_one P x (filter test xs) (test x) each.0 (Each-filter P test xs each.1)

kept_in_order : {A : Type 0} (key : A → ℕ) (x : A) (xs : List A) (b : Bool) → Each (λ y. key x < key y) xs → IsInOrder key xs → IsInOrder key (cond b (x ∷ xs) xs)
kept_in_order key x xs true each order = (each, order)
kept_in_order key x xs false each order = order

pub IsInOrder-filter : {A : Type 0} (key : A → ℕ) (test : A → Bool) (xs : List A) → IsInOrder key xs → IsInOrder key (filter test xs)
IsInOrder-filter key test [] order = tt
IsInOrder-filter key test (x ∷ xs) order =
    kept_in_order key x (filter test xs) (test x) (Each-filter (λ y. key x < key y) test xs order.0) (IsInOrder-filter key test xs order.1)

kept_length : {A : Type 0} (x : A) (xs : List A) (b : Bool) (n : ℕ) → length xs ≤ n → length (cond b (x ∷ xs) xs) ≤ n + 1
kept_length x xs true n le = omega arith
kept_length x xs false n le = omega arith

pub length-filter : {A : Type 0} (test : A → Bool) (xs : List A) → length (filter test xs) ≤ length xs
length-filter test [] = omega arith
length-filter test (x ∷ xs) = omega (arith, kept_length x (filter test xs) (test x) (length xs) (length-filter test xs))

-- a table is still a table if records are taken away and that leaves room for the one that is put
pub IsTable-replace : {A : Type 0} (key : A → ℕ) (span : Span) (new : A) (xs : List A) (most : ℕ) → IsTable key most xs → IsTrue (nat_lt (length (take_away key span xs)) most)
    → IsTable key most (put key new (take_away key span xs))
IsTable-replace key span new xs most table room =
    let left = take_away key span xs in
    record {
      in_order = IsInOrder-put key new left (IsInOrder-filter key (λ x. not (is_within (key x) span)) xs table.in_order);
      within = omega (arith, length-put key new left, below_is (length left) most room);
    }

found_kept : {A : Type 0} (key : A → ℕ) (k : ℕ) (x : A) (xs ys : List A) (b : Bool) → (key x ≡ k → b ≡ true)
    → record_at key k xs ≡ record_at key k ys → record_at key k (cond b (x ∷ xs) xs) ≡ record_at key k (x ∷ ys)
found_kept key k x xs ys true stays same = ap (λ o. cond (key x == k) (Some x) o) same
found_kept key k x xs ys false stays same = same ∙ sym (record_at-past key k x ys (λ is. absurd (let kept = stays is in cc)))

-- what is not taken away is found as before
pub record_at-take_other : {A : Type 0} (key : A → ℕ) (k : ℕ) (span : Span) (xs : List A) → is_within k span ≡ false → record_at key k (take_away key span xs) ≡ record_at key k xs
record_at-take_other key k span [] out = refl
record_at-take_other key k span (x ∷ xs) out =
    found_kept key k x (take_away key span xs) xs (not (is_within (key x) span)) (λ same. ap (λ n. not (is_within n span)) same ∙ ap not out) (record_at-take_other key k span xs out)

found_gone : {A : Type 0} (key : A → ℕ) (k : ℕ) (x : A) (xs : List A) (b : Bool) → (key x ≡ k → b ≡ false) → record_at key k xs ≡ None → record_at key k (cond b (x ∷ xs) xs) ≡ None
found_gone key k x xs true goes none = record_at-past key k x xs (λ is. absurd (let gone = goes is in cc)) ∙ none
found_gone key k x xs false goes none = none

-- what is taken away is not found
pub record_at-take_same : {A : Type 0} (key : A → ℕ) (k : ℕ) (span : Span) (xs : List A) → is_within k span ≡ true → record_at key k (take_away key span xs) ≡ None
record_at-take_same key k span [] in_it = refl
record_at-take_same key k span (x ∷ xs) in_it =
    found_gone key k x (take_away key span xs) (not (is_within (key x) span)) (λ same. ap (λ n. not (is_within n span)) same ∙ ap not in_it) (record_at-take_same key k span xs in_it)

-- an edit keeps the order, and so do its parts
pub IsInOrder-take_all : {A : Type 0} (key : A → ℕ) (spans : List Span) (xs : List A) → IsInOrder key xs → IsInOrder key (take_all key spans xs)
IsInOrder-take_all key [] xs order = order
IsInOrder-take_all key (span ∷ spans) xs order =
    IsInOrder-take_all key spans (take_away key span xs) (IsInOrder-filter key (λ x. not (is_within (key x) span)) xs order)

IsInOrder-put_all : {A : Type 0} (key : A → ℕ) (news xs : List A) → IsInOrder key xs → IsInOrder key (put_all key news xs)
IsInOrder-put_all key [] xs order = order
IsInOrder-put_all key (new ∷ news) xs order = IsInOrder-put_all key news (put key new xs) (IsInOrder-put key new xs order)

pub IsInOrder-edited : {A : Type 0} (key : A → ℕ) (spans : List Span) (news xs : List A) → IsInOrder key xs → IsInOrder key (put_all key news (take_all key spans xs))
IsInOrder-edited key spans news xs order = IsInOrder-put_all key news (take_all key spans xs) (IsInOrder-take_all key spans xs order)
