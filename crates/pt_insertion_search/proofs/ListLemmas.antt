-- Elements of lists by their places: in two lists joined, in a part of a list, and in a search.
use Rattle.std.proofs.Common.{◌≡◌, ℕ, zero, suc, ◌+◌, ◌<◌, Bool, true, List, [], ◌∷◌, ◌++◌, Some, length, take, drop, slice_get, inl, inr, refl, ap, ◌∙◌, arith, add-one}
use Rattle.std.specs.List.{list_any}
use Rattle.std.proofs.lemmas.Bool.{or_left, or_right, or_cases}

-- an element of the first of two lists joined
pub slice_get-append_left : {X : Type 0} (xs ys : List X) (k : ℕ) → k < length xs → slice_get (xs ++ ys) k ≡ slice_get xs k
slice_get-append_left [] ys k h = absurd (omega arith)
slice_get-append_left (x ∷ xs) ys zero h = refl
slice_get-append_left (x ∷ xs) ys (suc k) h = slice_get-append_left xs ys k (omega arith)

-- an element of the second of two lists joined
pub slice_get-append_right : {X : Type 0} (xs ys : List X) (k n : ℕ) → k ≡ length xs + n → slice_get (xs ++ ys) k ≡ slice_get ys n
slice_get-append_right [] ys k n e = let same : k ≡ n = omega arith in ap (slice_get ys) same
slice_get-append_right (x ∷ xs) ys zero n e = absurd (omega arith)
slice_get-append_right (x ∷ xs) ys (suc k) n e = slice_get-append_right xs ys k n (omega arith)

-- an element among the first n
pub slice_get-take : {X : Type 0} (n : ℕ) (xs : List X) (k : ℕ) → k < n → slice_get (take n xs) k ≡ slice_get xs k
slice_get-take zero xs k h = absurd (omega arith)
slice_get-take (suc n) [] k h = refl
slice_get-take (suc n) (x ∷ xs) zero h = refl
slice_get-take (suc n) (x ∷ xs) (suc k) h = slice_get-take n xs k (omega arith)

-- an element past the first n
pub slice_get-drop : {X : Type 0} (n : ℕ) (xs : List X) (k m : ℕ) → m ≡ n + k → slice_get (drop n xs) k ≡ slice_get xs m
slice_get-drop zero xs k m e = let same : k ≡ m = omega arith in ap (slice_get xs) same
slice_get-drop (suc n) [] k m e = refl
slice_get-drop (suc n) (x ∷ xs) k zero e = absurd (omega arith)
slice_get-drop (suc n) (x ∷ xs) k (suc m) e = slice_get-drop n xs k m (omega arith)

-- a search finds an element that passes
pub list_any_from : {X : Type 0} (p : X → Bool) (xs : List X) (k : ℕ) (x : X) → slice_get xs k ≡ Some x → p x ≡ true → list_any p xs ≡ true
list_any_from p [] k x e h = cc
list_any_from p (y ∷ ys) zero x e h = let same : y ≡ x = cc in or_left (p y) (list_any p ys) (ap p same ∙ h)
list_any_from p (y ∷ ys) (suc k) x e h = or_right (p y) (list_any p ys) (list_any_from p ys k x e h)

-- what a search finds is at some position
pub list_any_to : {X : Type 0} (p : X → Bool) (xs : List X) → list_any p xs ≡ true → (k : ℕ) × (x : X) × (slice_get xs k ≡ Some x) × (p x ≡ true)
list_any_to p [] h = cc
list_any_to p (y ∷ ys) h = elim (or_cases (p y) (list_any p ys) h) [
  | inl now ↦ (zero, y, refl, now)
  | inr later ↦ let (k, x, e, passes) = list_any_to p ys later in (suc k, x, e, passes)
]

-- one more element in front
pub take_more_get : {X : Type 0} (xs : List X) (k : ℕ) (x : X) → slice_get xs k ≡ Some x → take (k + 1) xs ≡ take k xs ++ x ∷ []
take_more_get xs k x e = rw add-one (go xs k x e)
  where
    go : {X : Type 0} (xs : List X) (k : ℕ) (x : X) → slice_get xs k ≡ Some x → take (suc k) xs ≡ take k xs ++ x ∷ []
    go [] k x e = cc
    go (y ∷ ys) zero x e = let same : y ≡ x = cc in ap (λ z. z ∷ []) same
    go (y ∷ ys) (suc k) x e = ap (λ rest. y ∷ rest) (go ys k x e)
