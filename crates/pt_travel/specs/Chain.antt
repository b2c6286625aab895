-- Chains of rows of a travel table, and the driving times that they give.
use Rattle.std.specs.Prelude.{◌≡◌, ℕ, ◌<◌, ◌≤◌, List, [], ◌∷◌, Option, None, Some, Contains, sum_by}
use Rattle.pt_base_values.specs.Ranges.{last_minute}

-- a row of a travel table: from one place, to another, and the minutes of the drive
abbrev pub Row : Type 0
Row = ℕ × ℕ × ℕ

-- A list of rows of the table leads from one place to another: each row begins where the former ends. The empty list
-- leads from a place to itself.
abbrev pub IsChain : List Row → ℕ → ℕ → List Row → Type 0
IsChain table from to [] = from ≡ to
IsChain table from to (row ∷ rows) = Contains table row × (row.0 ≡ from) × IsChain table row.1 to rows

-- the minutes of a chain's rows together
abbrev pub total_of : List Row → ℕ
total_of chain = sum_by (λ row. row.2) chain

-- some chain between the places takes these minutes in total, and none takes less
abbrev pub IsLeastTotal : List Row → ℕ → ℕ → ℕ → Type 0
IsLeastTotal table from to minutes =
    ((chain : List Row) × IsChain table from to chain × (total_of chain ≡ minutes))
    × ((chain : List Row) → IsChain table from to chain → minutes ≤ total_of chain)

-- the driving time by a table's chains: their least total, or None if no chain takes 1439 minutes or less
abbrev pub IsTime : List Row → ℕ → ℕ → Option ℕ → Type 0
IsTime table from to None = (chain : List Row) → IsChain table from to chain → last_minute < total_of chain
IsTime table from to (Some minutes) = (minutes ≤ last_minute) × IsLeastTotal table from to minutes
