-- Records in order of key, and what putting one keeps.
use Rattle.std.proofs.Common.{rules, ◌≡◌, ◌⊎◌, inl, inr, ℕ, ◌+◌, ◌-◌, ◌<◌, ◌≤◌, IsTrue, List, [], ◌∷◌, length, suc, Option, Some, None, is_some, arith, refl, sym, ap, ◌∙◌, subst}
use Rattle.std.specs.Prelude.{◌==◌, cond}
use Rattle.std.proofs.lemmas.Bool.{cases_order}
use Rattle.std.proofs.lemmas.Bool.Decides.{nat_tests}
use Rattle.pt_base_records.specs.Records.{put, record_at, Each, IsInOrder}
use Rattle.pt_base_records.proofs.RecordLemmas.{put_past, put_over, put_before}

abbrev pub Compared : ℕ → ℕ → Type 0
Compared a b = (a < b) ⊎ ((a ≡ b) ⊎ (b < a))

pub compared : (a b : ℕ) → Compared a b
compared a b = elim (cases_order a b) [ inl same ↦ inr (inl same) | inr (inl lt) ↦ inl lt | inr (inr gt) ↦ inr (inr gt) ]

-- what holds of each record and of a new one holds of each with the new one in its place
pub Each-put : {A : Type 0} (P : A → Type 0) (key : A → ℕ) (new : A) (xs : List A) → Each P xs → P new → Each P (put key new xs)
Each-put P key new [] each holds = (holds, tt)
Each-put P key new (x ∷ xs) each holds = elim (compared (key x) (key new)) [
  | inl lt ↦ rw (put_past key new x xs lt) (each.0, Each-put P key new xs each.1 holds)
  | inr (inl same) ↦ rw (put_over key new x xs same) (holds, each.1)
  | inr (inr gt) ↦ rw (put_before key new x xs gt) (holds, (each.0, each.1))
]

pub Each-weaker : {A : Type 0} (P Q : A → Type 0) → ((x : A) → P x → Q x) → (xs : List A) → Each P xs → Each Q xs
Each-weaker P Q gives [] each = tt
Each-weaker P Q gives (x ∷ xs) each = (gives x each.0, Each-weaker P Q gives xs each.1)

pub Each-both : {A : Type 0} (P Q R : A → Type 0) → ((x : A) → P x → Q x → R x) → (xs : List A) → Each P xs → Each Q xs → Each R xs
Each-both P Q R give [] each also = tt
Each-both P Q R give (x ∷ xs) each also = (give x each.0 also.0, Each-both P Q R give xs each.1 also.1)

-- a put keeps the order
pub IsInOrder-put : {A : Type 0} (key : A → ℕ) (new : A) (xs : List A) → IsInOrder key xs → IsInOrder key (put key new xs)
IsInOrder-put key new [] order = (tt, tt)
IsInOrder-put key new (x ∷ xs) order = elim (compared (key x) (key new)) [
  | inl lt ↦ rw (put_past key new x xs lt) (Each-put (λ y. key x < key y) key new xs order.0 lt, IsInOrder-put key new xs order.1)
  | inr (inl same) ↦ rw (put_over key new x xs same) (Each-weaker (λ y. key x < key y) (λ y. key new < key y) (λ y above. omega arith) xs order.0, order.1)
  | inr (inr gt) ↦ rw (put_before key new x xs gt) ((gt, Each-weaker (λ y. key x < key y) (λ y. key new < key y) (λ y above. omega arith) xs order.0), (order.0, order.1))
]

-- there is at most one record more
pub length-put : {A : Type 0} (key : A → ℕ) (new : A) (xs : List A) → length (put key new xs) ≤ length xs + 1
length-put key new [] = omega arith
length-put key new (x ∷ xs) = let more = length-put key new xs in elim (compared (key x) (key new)) [
  | inl lt ↦ rw (put_past key new x xs lt) (omega arith)
  | inr (inl same) ↦ rw (put_over key new x xs same) (omega arith)
  | inr (inr gt) ↦ rw (put_before key new x xs gt) (omega arith)
]

pub record_at-past : {A : Type 0} (key : A → ℕ) (k : ℕ) (x : A) (xs : List A) → (key x ≡ k → ⊥) → record_at key k (x ∷ xs) ≡ record_at key k xs
record_at-past key k x xs other = grind (arith, nat_tests)

pub record_at-here : {A : Type 0} (key : A → ℕ) (k : ℕ) (x : A) (xs : List A) → key x ≡ k → record_at key k (x ∷ xs) ≡ Some x
record_at-here key k x xs same = grind (arith, nat_tests)

record_at-same_rest : {A : Type 0} (key : A → ℕ) (k : ℕ) (x : A) (xs ys : List A) → record_at key k xs ≡ record_at key k ys → record_at key k (x ∷ xs) ≡ record_at key k (x ∷ ys)
record_at-same_rest key k x xs ys same = ap (λ o. cond (key x == k) (Some x) o) same

pub record_at-above : {A : Type 0} (key : A → ℕ) (k : ℕ) (xs : List A) → Each (λ y. k < key y) xs → record_at key k xs ≡ None
record_at-above key k [] each = refl
record_at-above key k (x ∷ xs) each = record_at-past key k x xs (λ same. absurd (let above = each.0 in omega arith)) ∙ record_at-above key k xs each.1

none_is_no_some : {A : Type 0} (o : Option A) → o ≡ None → IsTrue (is_some o) → ⊥
none_is_no_some None is some = search rules
none_is_no_some (Some x) is some = absurd (cc)

-- and none more if the key is there already
pub length-put_there : {A : Type 0} (key : A → ℕ) (new : A) (xs : List A) → IsInOrder key xs → IsTrue (is_some (record_at key (key new) xs)) → length (put key new xs) ≡ length xs
length-put_there key new [] order there = absurd (none_is_no_some (record_at key (key new) []) refl there)
length-put_there key new (x ∷ xs) order there = elim (compared (key x) (key new)) [
  | inl lt ↦ let rest = length-put_there key new xs order.1 (subst (λ o. IsTrue (is_some o)) (record_at-past key (key new) x xs (λ same. absurd (omega arith))) there) in
      rw (put_past key new x xs lt) (ap suc rest)
  | inr (inl same) ↦ rw (put_over key new x xs same) refl
  | inr (inr gt) ↦ absurd (none_is_no_some (record_at key (key new) (x ∷ xs))
      (record_at-above key (key new) (x ∷ xs) (gt, Each-weaker (λ y. key x < key y) (λ y. key new < key y) (λ y above. omega arith) xs order.0)) there)
]

-- one record more if the key is not there
pub length-put_new : {A : Type 0} (key : A → ℕ) (new : A) (xs : List A) → record_at key (key new) xs ≡ None → length (put key new xs) ≡ length xs + 1
length-put_new key new [] none = refl
length-put_new key new (x ∷ xs) none = elim (compared (key x) (key new)) [
  | inl lt ↦
      let rest = length-put_new key new xs (sym (record_at-past key (key new) x xs (λ same. absurd (omega arith))) ∙ none) in
      rw (put_past key new x xs lt) (omega arith)
  | inr (inl same) ↦ absurd (let here = sym (record_at-here key (key new) x xs same) ∙ none in cc)
  | inr (inr gt) ↦ rw (put_before key new x xs gt) (omega arith)
]

-- records with keys from `low` to below `most` are at most as many as these numbers
pub length-below : {A : Type 0} (key : A → ℕ) (low most : ℕ) (xs : List A) → IsInOrder key xs → Each (λ x. low ≤ key x) xs → Each (λ x. key x < most) xs → length xs ≤ most - low
length-below key low most [] order above below = omega arith
length-below key low most (x ∷ xs) order above below =
    let rest = length-below key (key x + 1) most xs order.1 (Each-weaker (λ y. key x < key y) (λ y. key x + 1 ≤ key y) (λ y lt. omega arith) xs order.0) below.1 in
    let first : low ≤ key x = above.0 in
    let last : key x < most = below.0 in
    omega arith

-- the new record is found by its key
pub record_at-put_same : {A : Type 0} (key : A → ℕ) (new : A) (xs : List A) → record_at key (key new) (put key new xs) ≡ Some new
record_at-put_same key new [] = record_at-here key (key new) new [] refl
record_at-put_same key new (x ∷ xs) = elim (compared (key x) (key new)) [
  | inl lt ↦ rw (put_past key new x xs lt) (record_at-past key (key new) x (put key new xs) (λ same. absurd (omega arith)) ∙ record_at-put_same key new xs)
  | inr (inl same) ↦ rw (put_over key new x xs same) (record_at-here key (key new) new xs refl)
  | inr (inr gt) ↦ rw (put_before key new x xs gt) (record_at-here key (key new) new (x ∷ xs) refl)
]

-- and the others by theirs, as before
pub record_at-put_other : {A : Type 0} (key : A → ℕ) (k : ℕ) (new : A) (xs : List A) → (key new ≡ k → ⊥) → record_at key k (put key new xs) ≡ record_at key k xs
record_at-put_other key k new [] other = record_at-past key k new [] other
record_at-put_other key k new (x ∷ xs) other = elim (compared (key x) (key new)) [
  | inl lt ↦ rw (put_past key new x xs lt) (record_at-same_rest key k x (put key new xs) xs (record_at-put_other key k new xs other))
  | inr (inl same) ↦ rw (put_over key new x xs same) (record_at-past key k new xs other ∙ sym (record_at-past key k x xs (λ is. other (sym same ∙ is))))
  | inr (inr gt) ↦ rw (put_before key new x xs gt) (record_at-past key k new (x ∷ xs) other)
]
