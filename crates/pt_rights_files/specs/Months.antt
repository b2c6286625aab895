-- Sets of months of the civil year.
use Rattle.std.specs.Prelude.{◌≡◌, ℕ, ◌+◌, ◌≤◌, Bool, true, false, List, [], ◌∷◌, length, All}
use Rattle.std.specs.Int.{IsInRange}
use Rattle.std.specs.List.Sorted.{IsStrictlyIncreasing}

-- the numbers of the marks that are true, if the first mark has this number
abbrev pub numbers_from : ℕ → List Bool → List ℕ
numbers_from number [] = []
numbers_from number (true ∷ marks) = number ∷ numbers_from (number + 1) marks
numbers_from number (false ∷ marks) = numbers_from (number + 1) marks

-- the months of a set, rising, from the marks of January to December
abbrev pub numbers_of : List Bool → List ℕ
numbers_of marks = numbers_from 1 marks

-- twelve marks, at least one of them true
abbrev pub IsMonthSet : List Bool → Type 0
IsMonthSet marks = (length marks ≡ 12) × (1 ≤ length (numbers_of marks))

-- at least one month, from 1 for January to 12, in rising order, each once
pub record AreMonths (numbers : List ℕ) : Type 0 where
  pub some : 1 ≤ length numbers
  pub in_range : All (IsInRange 1 12) numbers
  pub rising : IsStrictlyIncreasing numbers
