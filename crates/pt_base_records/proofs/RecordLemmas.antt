-- Putting a record in its place.
use Rattle.std.proofs.Common.{◌≡◌, ℕ, ◌+◌, ◌<◌, ◌≤◌, List, [], ◌∷◌, ◌++◌, length, take, drop, get_or, suc, arith, sym, ap, ◌∙◌, add-one, append_assoc, drop-cons}
use Rattle.std.proofs.Math.ListN.{set}
use Rattle.std.proofs.lemmas.List.Edits.{sets-eq}
use Rattle.pt_base_records.specs.Records.{put}

-- the record comes after the one at this place
pub put_past : {A : Type 0} (key : A → ℕ) (new x : A) (xs : List A) → key x < key new → put key new (x ∷ xs) ≡ x ∷ put key new xs
put_past key new x xs lt = grind arith

pub put_over : {A : Type 0} (key : A → ℕ) (new x : A) (xs : List A) → key x ≡ key new → put key new (x ∷ xs) ≡ new ∷ xs
put_over key new x xs same = grind arith

pub put_before : {A : Type 0} (key : A → ℕ) (new x : A) (xs : List A) → key new < key x → put key new (x ∷ xs) ≡ new ∷ x ∷ xs
put_before key new x xs lt = grind arith

-- the record takes the place of the one that has its key
pub put_at : {A : Type 0} (key : A → ℕ) (new x : A) (xs : List A) (at : ℕ) → at < length xs → get_or xs at x ≡ x → key x ≡ key new
    → set xs at new ≡ take at xs ++ put key new (drop at xs)
put_at key new x xs at lt is same =
    let rest : drop at xs ≡ x ∷ drop (suc at) xs = drop-cons xs at x lt ∙ ap (λ y. y ∷ drop (suc at) xs) is in
    let bound : at + 1 ≤ length xs = omega arith in
    sets-eq (new ∷ []) xs at bound ∙ ap (λ n. (take at xs ++ new ∷ []) ++ drop n xs) (add-one at) ∙ append_assoc (take at xs) (new ∷ []) (drop (suc at) xs)
    ∙ ap (λ ys. take at xs ++ ys) (sym (ap (put key new) rest ∙ put_over key new x (drop (suc at) xs) same))
