-- What the only row of the desk's table says of the agency.
use Rattle.std.specs.Prelude.{◌≡◌, ◌≢◌, ℕ, List, [], ◌∷◌}
use Rattle.sqlite.specs.Order.{Row, column}
use Rattle.sqlite.specs.Tree.{Trees}
use Rattle.pt_base_values.specs.declared.policy.Policy.{Policy}
use Rattle.pt_base_records.specs.declared.span.Span.{Span}
use Rattle.pt_tables_reading.specs.Reading.{agency_row, FitsAgency}
use Rattle.pt_tables_rows.specs.Rows.{number_value}
use Rattle.pt_tables_rows.specs.Schema.{table_version, desk_table}
use Rattle.pt_tables_rows.specs.Tables.{AreRows}

-- there is exactly one row, with another version of the tables
abbrev pub IsOtherVersion : List Row → Type 0
IsOtherVersion rows = (row : Row) × (row ∷ [] ≡ rows) × (column row 1 ≢ number_value table_version)

-- there is not exactly one row, or it has this version and is not any agency's row
pub record TellsNoAgency (rows : List Row) : Type 0 where
  pub this_version : IsOtherVersion rows → ⊥
  pub none : (agency : Policy × ℕ) → FitsAgency agency → agency_row agency ∷ [] ≡ rows → ⊥

-- the only row of the desk's table has this policy, and this number last given to a trip
pub record IsAgencyOf (trees : Trees) (agency : Policy × ℕ) : Type 0 where
  pub row_is : AreRows desk_table trees (agency_row agency ∷ [])
  pub fits : FitsAgency agency

-- the only row of the desk's table has another version of the tables
abbrev pub HasOtherVersion : Trees → Type 0
HasOtherVersion trees =
    (row : Row) × AreRows desk_table trees (row ∷ []) × (column row 1 ≢ number_value table_version)

-- the span of all 32-bit keys, which removes the only caller of the least state
abbrev pub numbers : Span
numbers = record { from = 0; to = 4_294_967_295 }
