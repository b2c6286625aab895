-- Lists of records that are alike, one by one.
use Rattle.std.proofs.Common.{◌≡◌, ℕ, ◌<◌, zero, suc, Bool, true, false, IsTrue, List, [], ◌∷◌, length, map, drop}
use Rattle.std.proofs.Common.{get_or, cond, find, filter, Option, None, Some, is_some, refl, sym, ap, ap₂, subst}
use Rattle.std.proofs.Common.{arith}
use Rattle.std.specs.Prelude.{◌==◌, ◌||◌, Any, slice_get, slice_index_or}
use Rattle.std.specs.List.{list_any}
use Rattle.pt_base_records.specs.Records.{Each, IsInOrder, record_at}

abbrev pub Paired : {A : Type 0} → (A → A → Type 0) → List A → List A → Type 0
Paired R [] [] = Unit {0}
Paired R [] (y ∷ ys) = ⊥
Paired R (x ∷ xs) [] = ⊥
Paired R (x ∷ xs) (y ∷ ys) = R x y × Paired R xs ys

-- both exist and are alike, or neither exists
abbrev pub BothOrNone : {A : Type 0} → (A → A → Type 0) → Option A → Option A → Type 0
BothOrNone R None None = Unit {0}
BothOrNone R None (Some y) = ⊥
BothOrNone R (Some x) None = ⊥
BothOrNone R (Some x) (Some y) = R x y

module _ {A : Type 0} (R : A → A → Type 0) where
  pub length_paired : (xs ys : List A) → Paired R xs ys → length xs ≡ length ys
  length_paired [] [] h = refl
  length_paired [] (y ∷ ys) h = absurd h
  length_paired (x ∷ xs) [] h = absurd h
  length_paired (x ∷ xs) (y ∷ ys) h = ap suc (length_paired xs ys h.1)

  pub each_paired : (P Q : A → Type 0) → ((x y : A) → R x y → P x → Q y) → (xs ys : List A) → Paired R xs ys → Each P xs → Each Q ys
  each_paired P Q gives [] [] h each = tt
  each_paired P Q gives [] (y ∷ ys) h each = absurd h
  each_paired P Q gives (x ∷ xs) [] h each = absurd h
  each_paired P Q gives (x ∷ xs) (y ∷ ys) h each = (gives x y h.0 each.0, each_paired P Q gives xs ys h.1 each.1)

  pub order_paired : (key : A → ℕ) → ((x y : A) → R x y → key x ≡ key y) → (xs ys : List A) → Paired R xs ys → IsInOrder key xs → IsInOrder key ys
  order_paired key same [] [] h order = tt
  order_paired key same [] (y ∷ ys) h order = absurd h
  order_paired key same (x ∷ xs) [] h order = absurd h
  order_paired key same (x ∷ xs) (y ∷ ys) h order =
      let first = same x y h.0 in (
        each_paired (λ z. key x < key z) (λ z. key y < key z) (λ a b alike low. let next = same a b alike in omega arith) xs ys h.1 order.0,
        order_paired key same xs ys h.1 order.1,
      )

  pub any_paired : (p q : A → Bool) → ((x y : A) → R x y → p x ≡ q y) → (xs ys : List A) → Paired R xs ys → list_any p xs ≡ list_any q ys
  any_paired p q same [] [] h = refl
  any_paired p q same [] (y ∷ ys) h = absurd h
  any_paired p q same (x ∷ xs) [] h = absurd h
  any_paired p q same (x ∷ xs) (y ∷ ys) h = ap₂ ◌||◌ (same x y h.0) (any_paired p q same xs ys h.1)

  pub filter_paired : (p q : A → Bool) → ((x y : A) → R x y → p x ≡ q y) → (xs ys : List A) → Paired R xs ys → Paired R (filter p xs) (filter q ys)
  filter_paired p q same [] [] h = tt
  filter_paired p q same [] (y ∷ ys) h = absurd h
  filter_paired p q same (x ∷ xs) [] h = absurd h
  filter_paired p q same (x ∷ xs) (y ∷ ys) h = go (p x) (q y) (same x y h.0) (filter_paired p q same xs ys h.1)
    where
      go : (b c : Bool) → b ≡ c → Paired R (filter p xs) (filter q ys) → Paired R (cond b (x ∷ filter p xs) (filter p xs)) (cond c (y ∷ filter q ys) (filter q ys))
      go true true is later = (h.0, later)
      go false false is later = later
      go true false is later = absurd (cc)
      go false true is later = absurd (cc)

  pub find_paired : (p q : A → Bool) → ((x y : A) → R x y → p x ≡ q y) → (xs ys : List A) → Paired R xs ys → BothOrNone R (find p xs) (find q ys)
  find_paired p q same [] [] h = tt
  find_paired p q same [] (y ∷ ys) h = absurd h
  find_paired p q same (x ∷ xs) [] h = absurd h
  find_paired p q same (x ∷ xs) (y ∷ ys) h = go (p x) (q y) (same x y h.0) (find_paired p q same xs ys h.1)
    where
      go : (b c : Bool) → b ≡ c → BothOrNone R (find p xs) (find q ys) → BothOrNone R (cond b (Some x) (find p xs)) (cond c (Some y) (find q ys))
      go true true is later = h.0
      go false false is later = later
      go true false is later = absurd (cc)
      go false true is later = absurd (cc)

  pub found_paired : (key : A → ℕ) → ((x y : A) → R x y → key x ≡ key y) → (k : ℕ) (xs ys : List A) → Paired R xs ys → BothOrNone R (record_at key k xs) (record_at key k ys)
  found_paired key same k xs ys h = find_paired (λ x. key x == k) (λ y. key y == k) (λ x y alike. ap (λ n. n == k) (same x y alike)) xs ys h

  pub both_there : (o m : Option A) → BothOrNone R o m → is_some o ≡ is_some m
  both_there None None h = refl
  both_there None (Some y) h = absurd h
  both_there (Some x) None h = absurd h
  both_there (Some x) (Some y) h = refl

  pub other_there : (o m : Option A) (x : A) → BothOrNone R o m → o ≡ Some x → (y : A) × (m ≡ Some y) × R x y
  other_there None None x h is = absurd (cc)
  other_there None (Some y) x h is = absurd h
  other_there (Some z) None x h is = absurd h
  other_there (Some z) (Some y) x h is = (y, refl, let same : z ≡ x = cc in subst (λ w. R w y) same h)

  -- a key in one list is in the other
  pub there_paired : (key : A → ℕ) → ((x y : A) → R x y → key x ≡ key y) → (k : ℕ) (xs ys : List A) → Paired R xs ys
      → IsTrue (is_some (record_at key k xs)) → IsTrue (is_some (record_at key k ys))
  there_paired key same k xs ys h there = subst (λ (b : Bool). IsTrue b) (both_there (record_at key k xs) (record_at key k ys) (found_paired key same k xs ys h)) there

  pub some_paired : (P Q : A → Type 0) → ((x y : A) → R x y → P x → Q y) → (xs ys : List A) → Paired R xs ys → Any P xs → Any Q ys
  some_paired P Q gives xs ys h any = go xs ys h any.0 any.1 any.2 any.3 any.4
    where
      go : (xs ys : List A) → Paired R xs ys → (k : ℕ) (z : A) → k < length xs → slice_index_or xs k z ≡ z → P z → Any Q ys
      go [] ys h k z low at p = absurd (omega arith)
      go (x ∷ xs) [] h k z low at p = absurd h
      go (x ∷ xs) (y ∷ ys) h zero z low at p = (0, y, omega arith, refl, gives x y h.0 (subst P (sym at) p))
      go (x ∷ xs) (y ∷ ys) h (suc k) z low at p =
          let it = go xs ys h.1 k z (omega arith) at p in
          (suc it.0, it.1, (let lower = it.2 in omega arith), it.3, it.4)

  pub at_paired : (xs ys : List A) → Paired R xs ys → (k : ℕ) (y : A) → slice_get ys k ≡ Some y → (x : A) × (slice_get xs k ≡ Some x) × R x y
  at_paired [] [] h k y at = absurd (cc)
  at_paired [] (z ∷ ys) h k y at = absurd h
  at_paired (x ∷ xs) [] h k y at = absurd h
  at_paired (x ∷ xs) (z ∷ ys) h zero y at = (x, refl, let same : z ≡ y = cc in subst (R x) same h.0)
  at_paired (x ∷ xs) (z ∷ ys) h (suc k) y at = at_paired xs ys h.1 k y at

-- records are alike if they have the same rows
pub paired_by : {A B : Type 0} (R : A → A → Type 0) (Fits : A → Type 0) (row : A → B) → ((x y : A) → Fits x → Fits y → row x ≡ row y → R x y)
    → (xs ys : List A) → Each Fits xs → Each Fits ys → map row xs ≡ map row ys → Paired R xs ys
paired_by R Fits row told [] [] ones others same = tt
paired_by R Fits row told [] (y ∷ ys) ones others same = absurd (let size = ap length same in omega arith)
paired_by R Fits row told (x ∷ xs) [] ones others same = absurd (let size = ap length same in omega arith)
paired_by R Fits row told (x ∷ xs) (y ∷ ys) ones others same = (
  told x y ones.0 others.0 (ap (λ rows. get_or rows 0 (row x)) same),
  paired_by R Fits row told xs ys ones.1 others.1 (ap (drop 1) same),
)
