-- Texts joined by a byte.
use Rattle.std.proofs.Common.{rules, ◌≡◌, ℕ, ◌+◌, ◌≤◌, ◌<◌, List, [], ◌∷◌, ◌++◌, map, length, get_or, take, refl, sym, ap, ◌∙◌, arith, append_assoc, length-take}
use Rattle.std.specs.List.{join_with_byte}
use Rattle.std.proofs.lemmas.List.{take_more, nil_from_length}

-- one more text comes after the byte
join-append : {A : Type 0} (c : ℕ) (f : A → List ℕ) (x : A) (xs : List A) (y : A)
    → join_with_byte c (map f ((x ∷ xs) ++ y ∷ [])) ≡ join_with_byte c (map f (x ∷ xs)) ++ c ∷ f y
join-append c f x [] y = refl
join-append c f x (z ∷ zs) y =
    ap (λ t. f x ++ c ∷ t) (join-append c f z zs y)
    ∙ sym (append_assoc (f x) (c ∷ join_with_byte c (map f (z ∷ zs))) (c ∷ f y))

join-push : {A : Type 0} (c : ℕ) (f : A → List ℕ) (xs : List A) (y : A) → 0 < length xs
    → join_with_byte c (map f (xs ++ y ∷ [])) ≡ join_with_byte c (map f xs) ++ c ∷ f y
join-push c f [] y some = absurd (omega arith)
join-push c f (x ∷ xs) y some = join-append c f x xs y

-- one step of writing texts behind a front: after the byte, and for the first without
pub join-take : {A : Type 0} (c : ℕ) (f : A → List ℕ) (front out parted new : List ℕ) (xs : List A) (index : ℕ) (d : A)
    → out ≡ front ++ join_with_byte c (map f (take index xs)) → 0 < index → index < length xs
    → parted ≡ out ++ c ∷ [] → new ≡ parted ++ f (get_or xs index d)
    → new ≡ front ++ join_with_byte c (map f (take (index + 1) xs))
join-take c f front out parted new xs index d so_far above inside with_byte is =
    let some : 0 < length (take index xs) = omega (arith, length-take index xs) in
    let step : join_with_byte c (map f (take (index + 1) xs)) ≡ join_with_byte c (map f (take index xs)) ++ c ∷ f (get_or xs index d)
    = ap (λ ys. join_with_byte c (map f ys)) (take_more xs index d inside) ∙ join-push c f (take index xs) (get_or xs index d) some in
    rw (is, with_byte, so_far, step) (search (rules, append_assoc))

pub join-first : {A : Type 0} (c : ℕ) (f : A → List ℕ) (front out parted new : List ℕ) (xs : List A) (index : ℕ) (d : A)
    → out ≡ front ++ join_with_byte c (map f (take index xs)) → index ≤ 0 → index < length xs
    → parted ≡ out → new ≡ parted ++ f (get_or xs index d)
    → new ≡ front ++ join_with_byte c (map f (take (index + 1) xs))
join-first c f front out parted new xs index d so_far zero inside same is =
    let none : take index xs ≡ [] = nil_from_length (take index xs) (omega (arith, length-take index xs)) in
    let step : join_with_byte c (map f (take (index + 1) xs)) ≡ f (get_or xs index d)
    = ap (λ ys. join_with_byte c (map f ys)) (take_more xs index d inside) ∙ ap (λ ys. join_with_byte c (map f (ys ++ get_or xs index d ∷ []))) none in
    rw (is, same, so_far, step, none) (search (rules, append_assoc))
