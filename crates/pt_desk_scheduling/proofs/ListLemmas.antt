-- Facts of each element, and of each two, of a list that a function makes.
use Rattle.std.proofs.Common.{◌≡◌, ℕ, ◌+◌, ◌<◌, List, [], ◌∷◌, Some, drop, map, length, get_or, Any, All, AllPairs, arith}
use Rattle.std.proofs.Common.{sym, subst, ap, ◌∙◌}
use Rattle.std.specs.Prelude.{slice_get}
use Rattle.std.proofs.lemmas.List.{length-map, get_or-map, drop_more}
use Rattle.std.proofs.lemmas.Option.{slice_get_within, get_or_from_slice_get}

pub All-unmap : {X Y : Type 0} (P : Y → Type 0) (f : X → Y) (xs : List X) → All P (map f xs) → All (λ x. P (f x)) xs
All-unmap P f xs all = λ k x within. subst P (get_or-map f xs k x (f x) within) (all k (f x) (omega (arith, length-map xs f, within)))

pub AllPairs-unmap : {X Y : Type 0} (R : Y → Y → Type 0) (f : X → Y) (xs : List X) → AllPairs R (map f xs) → AllPairs (λ x y. R (f x) (f y)) xs
AllPairs-unmap {X} {Y} R f xs all = λ j k x before within.
    subst (λ (y : Y). R y (f (get_or xs k x))) (get_or-map f xs j x (f x) (omega (arith, before, within)))
    (subst (λ (y : Y). R (get_or (map f xs) j (f x)) y) (get_or-map f xs k x (f x) within)
    (all j k (f x) before (omega (arith, length-map xs f, within))))

pub AllPairs-map : {X Y : Type 0} (R : Y → Y → Type 0) (f : X → Y) (xs : List X)
    → AllPairs (λ x y. R (f x) (f y)) xs → AllPairs R (map f xs)
AllPairs-map R f [] all = λ j k d before within. absurd (omega (arith, before, within))
AllPairs-map {X} {Y} R f (z ∷ zs) all = λ j k d before within.
    let inside : k < length (z ∷ zs) = omega (arith, length-map (z ∷ zs) f, within) in
    subst (λ (y : Y). R y (get_or (map f (z ∷ zs)) k d))
    (sym (get_or-map f (z ∷ zs) j z d (omega (arith, before, inside))))
    (subst (λ (y : Y). R (f (get_or (z ∷ zs) j z)) y) (sym (get_or-map f (z ∷ zs) k z d inside))
    (all j k z before inside))

-- what holds of some element, where it gives another fact
pub Any-weaker : {X : Type 0} (P Q : X → Type 0) → ((x : X) → P x → Q x) → (xs : List X) → Any P xs → Any Q xs
Any-weaker P Q gives xs some =
    let (k, x, within, at, holds) = some in
    (k, x, within, at, gives x holds)

-- what is left of a list begins with the element there
pub drop-found : {X : Type 0} (xs : List X) (k : ℕ) (x : X) → slice_get xs k ≡ Some x → drop k xs ≡ x ∷ drop (k + 1) xs
drop-found xs k x there = drop_more xs k x (slice_get_within xs k x there) ∙ ap (λ y. y ∷ drop (k + 1) xs) (get_or_from_slice_get xs k x x there)
