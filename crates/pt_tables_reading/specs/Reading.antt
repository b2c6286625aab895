-- How a record is read back from a row, or a value from a column.
use Rattle.std.specs.Prelude.{◌≡◌, ℕ, ◌≤◌, Option, None, Some, List, [], ◌∷◌, length}
use Rattle.sqlite.specs.Order.{Row}
use Rattle.pt_base_values.specs.declared.policy.Policy.{Policy}
use Rattle.pt_desk_rules.specs.declared.kept.Kept.{Kept}
use Rattle.pt_desk_requests.specs.declared.caller.Role.{Role}
use Rattle.pt_desk_requests.specs.declared.caller.Role.TheVariants as role
use Rattle.pt_desk_spelling.specs.Ranges.{IsWord}
use Rattle.pt_tables_rows.specs.Rows.{desk_row}
use Rattle.pt_tables_reading.specs.declared.kept.KeptRow.{KeptRow}

-- the result of reading `found`: the fitting value that is written so, or None if no fitting value is
abbrev pub Reads : {A B : Type 0} → (A → B) → (A → Type 0) → B → Option A → Type 0
Reads written Fits found (Some x) = (written x ≡ found) × Fits x
Reads written Fits found None = (x : _) → Fits x → written x ≡ found → ⊥

-- the fitting record with the same row as `known` and with `found` in the second table, or None if there is none
abbrev pub ReadsBeside : {A B C : Type 0} → (A → B) → (A → List C) → (A → Type 0) → A → C → Option A → Type 0
ReadsBeside written beside Fits known found (Some x) = (written x ≡ written known) × (beside x ≡ found ∷ []) × Fits x
ReadsBeside written beside Fits known found None =
    (x : _) → Fits x → written x ≡ written known → beside x ≡ found ∷ [] → ⊥

-- ---- ranges that the types of fields guarantee

-- the agency's row, with its policy and the number last given to a trip
abbrev pub agency_row : Policy × ℕ → Row
agency_row agency = desk_row agency.0 agency.1

abbrev pub FitsAgency : Policy × ℕ → Type 0
FitsAgency agency = IsWord agency.1

abbrev pub FitsDigest : List ℕ → Type 0
FitsDigest digest = length digest ≡ 32

-- the last accepted write that a row has
abbrev pub kept_record : KeptRow → Kept
kept_record row = record { caller = row.caller; number = row.number; request = row.request.now; reply = row.reply }
