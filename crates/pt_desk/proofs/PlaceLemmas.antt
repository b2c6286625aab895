-- The numbers of places rise.
use Rattle.std.proofs.Common.{ℕ, ◌<◌, zero, suc, List, [], ◌∷◌, length, map, arith, add-one}
use Rattle.std.specs.Prelude.{slice_index}
use Rattle.std.specs.List.Sorted.{IsStrictlyIncreasing}
use Rattle.pt_desk_store.specs.Records.{IsInOrder}

keys_rise-at : {A : Type 0} (key : A → ℕ) (xs : List A) → IsInOrder key xs → (k : ℕ)
    → suc k < length (map key xs) → slice_index (map key xs) k < slice_index (map key xs) (suc k)
keys_rise-at key [] order k within = absurd (omega arith)
keys_rise-at key (x ∷ []) order k within = absurd (omega arith)
keys_rise-at key (x ∷ y ∷ ys) order zero within = order.0.0
keys_rise-at key (x ∷ y ∷ ys) order (suc k) within = keys_rise-at key (y ∷ ys) order.1 k (omega arith)

-- the keys of records in order rise
pub keys_rise : {A : Type 0} (key : A → ℕ) (xs : List A) → IsInOrder key xs → IsStrictlyIncreasing (map key xs)
keys_rise key xs order = λ k within. rw add-one (keys_rise-at key xs order k (omega (arith, within)))
