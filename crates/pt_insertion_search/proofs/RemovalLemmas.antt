-- Old positions of the stops that stay: positions in a filtered list, and those of the times there.
use Rattle.std.proofs.Common.{◌≡◌, ℕ, zero, suc, ◌+◌, ◌<◌, ◌≤◌, Bool, true, false, cond, List, [], ◌∷◌, ◌++◌, Some}
use Rattle.std.proofs.Common.{length, take, map, filter, slice_get, slice_index, inl, inr, refl, ap, sym, ◌∙◌, arith}
use Rattle.std.proofs.lemmas.Bool.{cases_Bool}
use Rattle.pt_feasible.specs.declared.stop.Stop.{Stop}
use Rattle.pt_insertion_search.specs.Removal.{is_of_another, without_trip, times_at_others}

-- the first place is kept, and each later one comes one after its place in the rest
abbrev pub one_later : (ℕ → ℕ) → ℕ → ℕ
one_later place zero = zero
one_later place (suc k) = suc (place k)

-- the old position of the k-th of the elements that pass; past them, positions after the list
abbrev pub old_place : {X : Type 0} → (X → Bool) → List X → ℕ → ℕ
old_place p [] k = k
old_place p (x ∷ xs) k = cond (p x) (one_later (old_place p xs) k) (suc (old_place p xs k))

-- elements that pass, and what follows the list
pub slice_get-kept : {X Y : Type 0} (f : X → Y) (p : X → Bool) (xs : List X) (ys : List Y) (k : ℕ) →
    slice_get (map f (filter p xs) ++ ys) k ≡ slice_get (map f xs ++ ys) (old_place p xs k)
slice_get-kept f p [] ys k = refl
slice_get-kept f p (x ∷ xs) ys zero =
    elim (p x) as (λ v. slice_get (map f (cond v (x ∷ filter p xs) (filter p xs)) ++ ys) zero
    ≡ slice_get (map f (x ∷ xs) ++ ys) (cond v (one_later (old_place p xs) zero) (suc (old_place p xs zero)))) [
      | true ↦ refl
      | false ↦ slice_get-kept f p xs ys zero
    ]
slice_get-kept f p (x ∷ xs) ys (suc k) =
    elim (p x) as (λ v. slice_get (map f (cond v (x ∷ filter p xs) (filter p xs)) ++ ys) (suc k)
    ≡ slice_get (map f (x ∷ xs) ++ ys) (cond v (one_later (old_place p xs) (suc k)) (suc (old_place p xs (suc k))))) [
      | true ↦ slice_get-kept f p xs ys k
      | false ↦ slice_get-kept f p xs ys (suc k)
    ]

-- an element that passes was at its old position
pub slice_get-filter : {X : Type 0} (p : X → Bool) (xs : List X) (k : ℕ) (x : X) →
    slice_get (filter p xs) k ≡ Some x → (slice_get xs (old_place p xs k) ≡ Some x) × (p x ≡ true)
slice_get-filter p [] k x e = cc
slice_get-filter p (y ∷ ys) zero x e =
    elim (cases_Bool (p y)) [
      | inl passes ↦ let at : slice_get (y ∷ filter p ys) zero ≡ Some x = rw passes at e in
          let same : y ≡ x = cc in (rw passes at, ap p (sym same) ∙ passes)
      | inr fails ↦ let at : slice_get (filter p ys) zero ≡ Some x = rw fails at e in
          let (there, passes) = slice_get-filter p ys zero x at in (rw fails there, passes)
    ]
slice_get-filter p (y ∷ ys) (suc k) x e =
    elim (cases_Bool (p y)) [
      | inl passes ↦ let at : slice_get (filter p ys) k ≡ Some x = rw passes at e in
          let (there, holds) = slice_get-filter p ys k x at in (rw passes there, holds)
      | inr fails ↦ let at : slice_get (filter p ys) (suc k) ≡ Some x = rw fails at e in
          let (there, holds) = slice_get-filter p ys (suc k) x at in (rw fails there, holds)
    ]

-- an element that passes stays
pub filter_keeps : {X : Type 0} (p : X → Bool) (xs : List X) (k : ℕ) (x : X) → slice_get xs k ≡ Some x → p x ≡ true →
    (l : ℕ) × (slice_get (filter p xs) l ≡ Some x)
filter_keeps p [] k x e passes = cc
filter_keeps p (y ∷ ys) zero x e passes =
    let same : y ≡ x = cc in let holds : p y ≡ true = ap p same ∙ passes in (zero, rw holds e)
filter_keeps p (y ∷ ys) (suc k) x e passes =
    let (l, there) = filter_keeps p ys k x e passes in
    elim (cases_Bool (p y)) [
      | inl holds ↦ (suc l, rw holds there)
      | inr fails ↦ (l, rw fails there)
    ]

-- old places keep their order
pub old_place-rises : {X : Type 0} (p : X → Bool) (xs : List X) (k l : ℕ) → k < l → old_place p xs k < old_place p xs l
old_place-rises p [] k l h = h
old_place-rises p (x ∷ xs) k zero h = absurd (omega arith)
old_place-rises p (x ∷ xs) zero (suc l) h =
    elim (p x) as (λ v. cond v (one_later (old_place p xs) zero) (suc (old_place p xs zero))
    < cond v (one_later (old_place p xs) (suc l)) (suc (old_place p xs (suc l)))) [
      | true ↦ omega arith
      | false ↦ omega (arith, old_place-rises p xs zero (suc l) h)
    ]
old_place-rises p (x ∷ xs) (suc k) (suc l) h =
    elim (p x) as (λ v. cond v (one_later (old_place p xs) (suc k)) (suc (old_place p xs (suc k)))
    < cond v (one_later (old_place p xs) (suc l)) (suc (old_place p xs (suc l)))) [
      | true ↦ omega (arith, old_place-rises p xs k l (omega arith))
      | false ↦ omega (arith, old_place-rises p xs (suc k) (suc l) h)
    ]

-- the old position of the end of the elements that pass is the end
pub old_place-end : {X : Type 0} (p : X → Bool) (xs : List X) → old_place p xs (length (filter p xs)) ≡ length xs
old_place-end p [] = refl
old_place-end p (x ∷ xs) =
    elim (p x) as (λ v. cond v (one_later (old_place p xs) (length (cond v (x ∷ filter p xs) (filter p xs))))
    (suc (old_place p xs (length (cond v (x ∷ filter p xs) (filter p xs))))) ≡ length (x ∷ xs)) [
      | true ↦ ap suc (old_place-end p xs)
      | false ↦ ap suc (old_place-end p xs)
    ]

-- the elements that pass in front of an old place
pub take-filter : {X : Type 0} (p : X → Bool) (xs : List X) (k : ℕ) → take k (filter p xs) ≡ filter p (take (old_place p xs k) xs)
take-filter p [] zero = refl
take-filter p [] (suc k) = refl
take-filter p (x ∷ xs) zero =
    elim (cases_Bool (p x)) [
      | inl passes ↦ rw passes refl
      | inr fails ↦ rw fails (rw fails (take-filter p xs zero))
    ]
take-filter {X = X} p (x ∷ xs) (suc k) =
    elim (cases_Bool (p x)) [
      | inl passes ↦ rw passes (rw passes (ap (λ (rest : List X). x ∷ rest) (take-filter p xs k)))
      | inr fails ↦ rw fails (rw fails (take-filter p xs (suc k)))
    ]

-- a time that stays was at the old position
pub slice_index-times_at_others : (trip : ℕ) (stops : List Stop) (b : List ℕ) (k : ℕ) →
    slice_index (times_at_others trip stops b) k ≡ slice_index b (old_place (is_of_another trip) stops k)
slice_index-times_at_others trip [] b k = refl
slice_index-times_at_others trip (stop ∷ stops) [] k = refl
slice_index-times_at_others trip (stop ∷ stops) (time ∷ b) zero =
    elim (is_of_another trip stop) as (λ v. slice_index (cond v (time ∷ times_at_others trip stops b) (times_at_others trip stops b)) zero
    ≡ slice_index (time ∷ b) (cond v (one_later (old_place (is_of_another trip) stops) zero) (suc (old_place (is_of_another trip) stops zero)))) [
      | true ↦ refl
      | false ↦ slice_index-times_at_others trip stops b zero
    ]
slice_index-times_at_others trip (stop ∷ stops) (time ∷ b) (suc k) =
    elim (is_of_another trip stop) as (λ v. slice_index (cond v (time ∷ times_at_others trip stops b) (times_at_others trip stops b)) (suc k)
    ≡ slice_index (time ∷ b) (cond v (one_later (old_place (is_of_another trip) stops) (suc k)) (suc (old_place (is_of_another trip) stops (suc k))))) [
      | true ↦ slice_index-times_at_others trip stops b k
      | false ↦ slice_index-times_at_others trip stops b (suc k)
    ]

-- one time for each stop that stays, and for what follows
pub length-times_at_others : (trip : ℕ) (stops : List Stop) (b : List ℕ) → length stops ≤ length b →
    length (times_at_others trip stops b) + length stops ≡ length b + length (without_trip trip stops)
length-times_at_others trip [] b h = refl
length-times_at_others trip (stop ∷ stops) [] h = absurd (omega arith)
length-times_at_others trip (stop ∷ stops) (time ∷ b) h =
    elim (is_of_another trip stop) as (λ v. length (cond v (time ∷ times_at_others trip stops b) (times_at_others trip stops b)) + length (stop ∷ stops)
    ≡ length (time ∷ b) + length (cond v (stop ∷ without_trip trip stops) (without_trip trip stops))) [
      | true ↦ omega (arith, length-times_at_others trip stops b (omega arith))
      | false ↦ omega (arith, length-times_at_others trip stops b (omega arith))
    ]
