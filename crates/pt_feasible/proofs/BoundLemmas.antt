-- Lower bounds of lists of numbers under limits of the form `b at from + gap ≤ b at to + slack`.
use Rattle.std.proofs.Common.{◌≡◌, ℕ, ◌<◌, ◌≤◌, suc, List, [], ◌∷◌, length, sum, slice_index, slice_set, arith}
use Rattle.std.proofs.lemmas.Grind.{elements, common_steps}
use Rattle.std.proofs.lemmas.List.Sums.{sum_by-cons}
use Rattle.pt_feasible.specs.ServiceTimes.{IsNeverLater}

-- a bound that is raised to at most what another list has there stays at or below that list
pub below-raised : (bounds b : List ℕ) (place needed k : ℕ) → place < length bounds
    → slice_index bounds k ≤ slice_index b k → needed ≤ slice_index b place
    → slice_index (slice_set bounds place needed) k ≤ slice_index b k
below-raised bounds b place needed k inside below asked = grind (arith, elements)

-- a bound that is raised is never earlier
pub above-raised : (bounds : List ℕ) (place needed k : ℕ) → place < length bounds → slice_index bounds place ≤ needed → slice_index bounds k ≤ slice_index (slice_set bounds place needed) k
above-raised bounds place needed k inside asked = grind (arith, elements)

-- the sum grows with a bound
pub sum-raised : (bounds : List ℕ) (place needed : ℕ) → place < length bounds → slice_index bounds place < needed → sum bounds < sum (slice_set bounds place needed)
sum-raised bounds place needed inside asked = grind (arith, common_steps)

-- the sums of lists of one length of which the first is nowhere larger
pub sum-never_later : (xs ys : List ℕ) → length xs ≡ length ys → IsNeverLater xs ys → sum xs ≤ sum ys
sum-never_later [] [] same below = omega arith
sum-never_later [] (y ∷ ys) same below = omega arith
sum-never_later (x ∷ xs) [] same below = absurd (omega arith)
sum-never_later (x ∷ xs) (y ∷ ys) same below =
    omega (arith, below 0, sum_by-cons (λ n. n) x xs, sum_by-cons (λ n. n) y ys, sum-never_later xs ys (omega arith) (λ k. below (suc k)))
