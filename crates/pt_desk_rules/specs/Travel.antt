-- Driving times from day to day: a travel table holds from its day until the next table's.
use Rattle.std.specs.Prelude.{ℕ, List, ◌&&◌, nat_le, nat_lt, Bool, not, Option, find}
use Rattle.std.specs.List.{list_any}
use Rattle.pt_travel.specs.Chain.{Row}

-- the rows of a travel table, and its first day
pub record TravelTable : Type 0 where
  pub from_day : ℕ
  pub rows : List Row

-- a later table whose day has come
abbrev pub is_newer : ℕ → TravelTable → TravelTable → Bool
is_newer day table other = nat_lt table.from_day other.from_day && nat_le other.from_day day

-- the table's day has come, and no later table's day has come
abbrev pub holds_on : ℕ → List TravelTable → TravelTable → Bool
holds_on day tables table = nat_le table.from_day day && not (list_any (is_newer day table) tables)

-- the table that holds on a day; None before the first table's day
abbrev pub table_on : ℕ → List TravelTable → Option TravelTable
table_on day tables = find (holds_on day tables) tables
