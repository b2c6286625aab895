-- The records of a span, as one more is put.
use Rattle.std.proofs.Common.{◌≡◌, ℕ, ◌<◌, Bool, true, false, IsTrue, List, [], ◌∷◌, ◌++◌, arith, cond, refl, sym, ap, ◌∙◌, inl, inr}
use Rattle.pt_base_records.specs.Records.{put, within, is_within, Each, IsInOrder}
use Rattle.pt_base_records.specs.declared.span.Span.{Span}
use Rattle.pt_base_records.proofs.RecordLemmas.{put_past, put_over, put_before}
use Rattle.pt_base_records.proofs.OrderLemmas.{compared, Each-weaker}
use Rattle.pt_base_records.proofs.TableLemmas.{Each-filter}

-- a record outside the span
pub within-put_other : {A : Type 0} (key : A → ℕ) (span : Span) (new : A) (xs : List A) → is_within (key new) span ≡ false → within key span (put key new xs) ≡ within key span xs
within-put_other key span new [] out = ap (λ b. cond b (new ∷ []) []) out
within-put_other key span new (x ∷ xs) out = elim (compared (key x) (key new)) [
  | inl lt ↦ rw (put_past key new x xs lt) (ap (λ ys. cond (is_within (key x) span) (x ∷ ys) ys) (within-put_other key span new xs out))
  | inr (inl same) ↦ rw (put_over key new x xs same)
      (ap (λ b. cond b (new ∷ within key span xs) (within key span xs)) out
      ∙ sym (ap (λ b. cond b (x ∷ within key span xs) (within key span xs)) (ap (λ n. is_within n span) same ∙ out)))
  | inr (inr gt) ↦ rw (put_before key new x xs gt) (ap (λ b. cond b (new ∷ within key span (x ∷ xs)) (within key span (x ∷ xs))) out)
]

each_rest : {A : Type 0} (P : A → Type 0) (x : A) (ys : List A) (b : Bool) → Each P (cond b (x ∷ ys) ys) → Each P ys
each_rest P x ys true each = each.1
each_rest P x ys false each = each

each_first : {A : Type 0} (P : A → Type 0) (x : A) (ys : List A) (b : Bool) → b ≡ true → Each P (cond b (x ∷ ys) ys) → P x
each_first P x ys true is each = each.0
each_first P x ys false is each = absurd (cc)

at_end : {A : Type 0} (x new : A) (ys zs : List A) (b : Bool) → zs ≡ ys ++ new ∷ [] → cond b (x ∷ zs) zs ≡ cond b (x ∷ ys) ys ++ new ∷ []
at_end x new ys zs true is = ap (λ ts. x ∷ ts) is
at_end x new ys zs false is = is

none_between : {A : Type 0} (key : A → ℕ) (k : ℕ) (ys : List A) → Each (λ y. key y < k) ys → Each (λ y. k < key y) ys → ys ≡ []
none_between key k [] below above = refl
none_between key k (y ∷ ys) below above = absurd (let low = below.0 in let high = above.0 in omega arith)

-- a record after all others of the span
pub within-put_last : {A : Type 0} (key : A → ℕ) (span : Span) (new : A) (xs : List A) → is_within (key new) span ≡ true → IsInOrder key xs → Each (λ y. key y < key new) (within key span xs)
    → within key span (put key new xs) ≡ within key span xs ++ new ∷ []
within-put_last key span new [] is order below = ap (λ b. cond b (new ∷ []) []) is
within-put_last key span new (x ∷ xs) is order below = elim (compared (key x) (key new)) [
  | inl lt ↦ rw (put_past key new x xs lt)
      (at_end x new (within key span xs) (within key span (put key new xs)) (is_within (key x) span)
      (within-put_last key span new xs is order.1 (each_rest (λ y. key y < key new) x (within key span xs) (is_within (key x) span) below)))
  | inr (inl same) ↦ absurd (let lt = each_first (λ y. key y < key new) x (within key span xs) (is_within (key x) span) (ap (λ n. is_within n span) same ∙ is) below in omega arith)
  | inr (inr gt) ↦
      let above = Each-weaker (λ y. key x < key y) (λ y. key new < key y) (λ y lt. omega arith) xs order.0 in
      let none = none_between key (key new) (within key span (x ∷ xs)) below (Each-filter (λ y. key new < key y) (λ y. is_within (key y) span) (x ∷ xs) (gt, above)) in
      rw (put_before key new x xs gt)
      (ap (λ b. cond b (new ∷ within key span (x ∷ xs)) (within key span (x ∷ xs))) is ∙ ap (λ ys. new ∷ ys) none ∙ sym (ap (λ ys. ys ++ new ∷ []) none))
]

each_is : {A : Type 0} (key : A → ℕ) (span : Span) (x : A) (ys : List A) (b : Bool) → is_within (key x) span ≡ b
    → Each (λ y. IsTrue (is_within (key y) span)) ys → Each (λ y. IsTrue (is_within (key y) span))
    (cond b (x ∷ ys) ys)
each_is key span x ys true is each = (is, each)
each_is key span x ys false is each = each

-- they are of the span
pub Each-within : {A : Type 0} (key : A → ℕ) (span : Span) (xs : List A) → Each (λ y. IsTrue (is_within (key y) span)) (within key span xs)
Each-within key span [] = tt
Each-within key span (x ∷ xs) = each_is key span x (within key span xs) (is_within (key x) span) refl (Each-within key span xs)
