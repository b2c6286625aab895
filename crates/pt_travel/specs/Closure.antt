-- The closure of a travel table by middle places: what a matrix holds after its first places were tried as middle
-- places.
use Rattle.std.specs.Prelude.{◌≡◌, ℕ, ◌<◌, ◌≤◌, List, [], ◌∷◌, length, slice_index}
use Rattle.pt_travel.specs.Chain.{Row, IsChain, total_of}
use Rattle.pt_travel.specs.Matrix.{entry, IsCapped, no_way}

-- each place between the ends of a chain is one of the places `Is`
abbrev pub Via : (ℕ → Type 0) → List Row → Type 0
Via Is [] = Unit {0}
Via Is (row ∷ []) = Unit {0}
Via Is (row ∷ next ∷ rows) = Is row.1 × Via Is (next ∷ rows)

-- no chain over these places alone takes less
abbrev pub IsBelow : List Row → (ℕ → Type 0) → ℕ → ℕ → ℕ → Type 0
IsBelow table Is from to minutes = (chain : List Row) → IsChain table from to chain → Via Is chain
    → minutes ≤ total_of chain

-- some chain takes exactly these minutes, if they are within a day
abbrev pub IsAttained : List Row → ℕ → ℕ → ℕ → Type 0
IsAttained table from to minutes = minutes < no_way
    → (chain : List Row) × IsChain table from to chain × (total_of chain ≡ minutes)

-- a place is among the first k of a list
abbrev pub IsAmong : List ℕ → ℕ → ℕ → Type 0
IsAmong places k place = (i : ℕ) × (i < k) × (slice_index places i ≡ place)

-- Each entry is at most 1440, and if it is less, it is some chain's total. No chain over the first k places alone takes
-- less.
pub record IsClosedOver (table : List Row) (places : List ℕ) (k : ℕ) (lines : List (List ℕ)) : Type 0 where
  pub size : length lines ≡ length places
  pub capped : IsCapped lines
  pub attained : (i j : ℕ) → i < length places → j < length places
      → IsAttained table (slice_index places i) (slice_index places j) (entry lines i j)
  pub below : (i j : ℕ) → i < length places → j < length places
      → IsBelow table (IsAmong places k) (slice_index places i) (slice_index places j) (entry lines i j)
