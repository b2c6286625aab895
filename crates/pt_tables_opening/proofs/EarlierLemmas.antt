-- The earlier version that a database is of.
use Rattle.std.proofs.Common.{◌≡◌, ◌↔◌, ℕ, List, [], ◌∷◌, Bool, IsTrue, sym, subst}
use Rattle.sqlite.specs.Effect.{Database}
use Rattle.sqlite.specs.Order.{Row, column}
use Rattle.pt_tables_opening.specs.Opening.{IsEarlierVersion}
use Rattle.pt_tables_opening.proofs.AgencyLemmas.{only_row}
use Rattle.pt_tables_rows.specs.Rows.{number_value}
use Rattle.pt_tables_rows.specs.Schema.{IsEarlier, desk_table, schema_of}
use Rattle.pt_tables_rows.specs.Tables.{AreRows}

-- there is exactly one row, of this version
abbrev pub AreOfVersion : ℕ → List Row → Type 0
AreOfVersion version rows = (row : Row) × (rows ≡ row ∷ []) × (column row 1 ≡ number_value version)

pub version_told : (version : ℕ) → IsEarlier version → (db : Database) (rows : List Row) → AreRows desk_table db.trees rows → db.schema ≡ schema_of version
    → (is : Bool) → (IsTrue is ↔ AreOfVersion version rows) → (IsTrue is ↔ IsEarlierVersion version db)
version_told version early db rows are has is h = (
  λ yes. let it = h.0 yes in record {
    earlier = early;
    schema = has;
    row = it.0;
    rows = subst (AreRows desk_table db.trees) it.1 are;
    version_is = it.2;
  },
  λ is_of. h.1 (is_of.row, sym (only_row db.trees rows are is_of.row is_of.rows), is_of.version_is),
)
