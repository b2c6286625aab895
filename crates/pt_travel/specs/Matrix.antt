-- Minutes between places by their positions in a list, with a line for each place to leave from.
use Rattle.std.specs.Prelude.{◌≡◌, ℕ, ◌+◌, ◌<◌, ◌≤◌, ◌⊎◌, List, [], length, slice_index, slice_index_or}
use Rattle.pt_travel.specs.Chain.{Row}
use Rattle.pt_travel.specs.Table.{most_places}

-- the entry that means no way within a day
abbrev pub no_way : ℕ
no_way = 1440

-- the minutes at a line and a column
abbrev pub entry : List (List ℕ) → ℕ → ℕ → ℕ
entry lines i j = slice_index (slice_index_or lines i []) j

-- no entry of the first n lines and columns is more than a way over a third place
abbrev pub HasTriangles : ℕ → List (List ℕ) → Type 0
HasTriangles n lines = (i j k : ℕ) → i < n → j < n → k < n → entry lines i j ≤ entry lines i k + entry lines k j

-- each entry is at most 1440, which means no way within a day
abbrev pub IsCapped : List (List ℕ) → Type 0
IsCapped lines = (i j : ℕ) → i < length lines → j < most_places → entry lines i j ≤ no_way

-- A row of the table is put into the matrix. No entry grows, the entry of the row's places becomes at most its minutes,
-- and no other entry changes.
pub record PutsRow (places : List ℕ) (row : Row) (old new : List (List ℕ)) : Type 0 where
  pub size : length new ≡ length old
  pub shrinks : (i j : ℕ) → i < length old → j < most_places → entry new i j ≤ entry old i j
  pub stands : (i j : ℕ) → i < length old → j < length old → slice_index places i ≡ row.0
      → slice_index places j ≡ row.1 → entry new i j ≤ row.2
  pub others : (i j : ℕ) → i < length old → j < length old
      → (entry new i j ≡ entry old i j) ⊎ ((slice_index places i ≡ row.0) × (slice_index places j ≡ row.1)
      × (entry new i j ≡ row.2))
