-- The limits on the rows of a travel table.
use Rattle.std.specs.Prelude.{◌≡◌, ℕ, ◌+◌, ◌<◌, ◌≤◌, ◌⊎◌, List, length, slice_index_or, All, Contains}
use Rattle.pt_base_values.specs.Ranges.{last_minute}
use Rattle.pt_travel.specs.Chain.{Row}

-- the most places that a table may name
abbrev pub most_places : ℕ
most_places = 100

-- rows are ordered by the place where they begin, and then by the place where they end
abbrev pub ComesBefore : Row → Row → Type 0
ComesBefore row other = (row.0 < other.0) ⊎ ((row.0 ≡ other.0) × (row.1 < other.1))

-- each row comes before the next, so no pair of places occurs twice
abbrev pub Rises : List Row → Type 0
Rises rows = (k : ℕ) → k + 1 < length rows
    → ComesBefore (slice_index_or rows k (0, 0, 0)) (slice_index_or rows (k + 1) (0, 0, 0))

-- none of these rows begins and ends where this one does
abbrev pub IsNewPair : List Row → Row → Type 0
IsNewPair rows row = (other : Row) → Contains rows other → other.0 ≡ row.0 → other.1 ≡ row.1 → ⊥

-- each row begins and ends at one of these places
abbrev pub NamesOnly : List ℕ → List Row → Type 0
NamesOnly places rows = All (λ row. Contains places row.0 × Contains places row.1) rows

-- the rows of a table rise, take at most 1439 minutes each, and name at most 100 places together
pub record IsTable (rows : List Row) : Type 0 where
  pub in_order : Rises rows
  pub within_a_day : All (λ row. row.2 ≤ last_minute) rows
  pub few_places : (places : List ℕ) × (length places ≤ most_places) × NamesOnly places rows
