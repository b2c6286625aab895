-- A property of each record of a list, as a loop checks it.
use Rattle.std.proofs.Common.{◌≡◌, ℕ, ◌+◌, ◌<◌, zero, suc, Bool, true, false, IsTrue, List, [], ◌∷◌, length, drop, get_or, drop-cons, add-one, refl, sym, ap, ◌∙◌, subst, arith}
use Rattle.std.proofs.lemmas.List.{drop_all}
use Rattle.pt_base_records.specs.Records.{Each}

pub each_at : {A : Type 0} (P : A → Type 0) (x : A) (xs : List A) (i : ℕ) → i < length xs → x ≡ get_or xs i x → Each P xs → P x
each_at P x [] i lt at each = absurd (omega arith)
each_at P x (y ∷ ys) zero lt at each = subst P (sym at) each.0
each_at P x (y ∷ ys) (suc i) lt at each = each_at P x ys i (omega arith) at each.1

pub next_from : {A : Type 0} (x : A) (xs : List A) (i : ℕ) → i < length xs → x ≡ get_or xs i x → drop i xs ≡ x ∷ drop (i + 1) xs
next_from x xs i lt at =
    drop-cons xs i x lt ∙ ap (λ y. y ∷ drop (suc i) xs) (sym at) ∙ ap (λ n. x ∷ drop n xs) (sym (add-one i))

pub each_past : {A : Type 0} (P : A → Type 0) (x : A) (xs : List A) (i : ℕ) → i < length xs → x ≡ get_or xs i x → P x
    → (Each P (drop i xs) → Each P xs) → Each P (drop (i + 1) xs) → Each P xs
each_past P x xs i lt at holds whole rest =
    whole (subst (Each P) (sym (next_from x xs i lt at)) (holds, rest))

-- it fails for one record, so not all have it
pub fails_at : {A : Type 0} (P : A → Type 0) (x : A) (xs : List A) (i : ℕ) (b : Bool) → i < length xs → x ≡ get_or xs i x
    → (P x → IsTrue b) → b ≡ false → (IsTrue false → Each P xs) × (Each P xs → IsTrue false)
fails_at P x xs i b lt at tells is = (λ no. absurd (cc), λ each. let holds = tells (each_at P x xs i lt at each) in absurd (cc))

pub holds_all : {A : Type 0} (P : A → Type 0) (xs : List A) (i : ℕ) → length xs ≡ i → (Each P (drop i xs) → Each P xs)
    → (IsTrue true → Each P xs) × (Each P xs → IsTrue true)
holds_all P xs i end whole = (
  λ is. whole (subst (Each P) (sym (drop_all i xs (omega arith))) tt),
  λ each. refl,
)
