-- A travel table as CSV: a header row, and below it one record for each row of the table.
use Rattle.std.specs.Prelude.{◌≡◌, ◌≢◌, ℕ, ◌+◌, ◌-◌, ◌*◌, ◌^◌, ◌<◌, ◌≤◌, ◌⊎◌, ◌↔◌, List, [], ◌∷◌, ◌++◌, length}
use Rattle.std.specs.Prelude.{map, min, codes, slice_index_or, All, Contains}
use Rattle.std.specs.List.{fold}
use Rattle.pt_base_values.specs.Ranges.{last_minute}
use Rattle.csv.specs.Reading.{AreRecords, Reached, default_config, strip_bom}
use Rattle.csv.specs.declared.parser.State.{State}
use Rattle.csv.specs.declared.parser.State.TheVariants as state
use Rattle.pt_base_values.specs.declared.fault.Fault.{Fault}
use Rattle.pt_base_values.specs.Fault.{code_of, fault_at}
use Rattle.pt_base_values.specs.declared.fault.Cause.TheVariants as cause
use Rattle.pt_travel.specs.Chain.{Row}
use Rattle.pt_travel.specs.Table.{IsNewPair, Rises, most_places}

-- a record of CSV: the bytes of its fields
abbrev pub Record : Type 0
Record = List (List ℕ)

-- these are all the records of a text, without a byte order mark at its start
abbrev pub HasRecords : List ℕ → List Record → Type 0
HasRecords text records = AreRecords default_config state.StartRecord (strip_bom text) records

-- these are the first records of a text
abbrev pub BeginsWith : List ℕ → List Record → Type 0
BeginsWith text records = (after : State) × (rest : List ℕ)
    × Reached default_config state.StartRecord (strip_bom text) records after rest

-- the header row
abbrev pub header : Record
header = codes "from" ∷ codes "to" ∷ codes "minutes" ∷ []

-- a field has 1 to `most` decimal digits
abbrev pub IsDigits : ℕ → List ℕ → Type 0
IsDigits most field = (1 ≤ length field) × (length field ≤ most) × All (λ byte. (48 ≤ byte) × (byte ≤ 57)) field

-- the number that decimal digits write
abbrev pub number_of : List ℕ → ℕ
number_of digits = fold (λ number digit. 10 * number + (digit - 48)) 0 digits

-- a field names a place of the list
abbrev pub IsPlace : List ℕ → List ℕ → Type 0
IsPlace places field = IsDigits 10 field × Contains places (number_of field)

-- a field gives minutes within a day
abbrev pub IsMinutes : List ℕ → Type 0
IsMinutes field = IsDigits 4 field × (number_of field ≤ last_minute)

-- a record's field
abbrev pub field : Record → ℕ → List ℕ
field fields i = slice_index_or fields i []

-- both ends of a record's drive are places of the list
abbrev pub NamesPlaces : List ℕ → Record → Type 0
NamesPlaces places fields = IsPlace places (field fields 0) × IsPlace places (field fields 1)

-- a record is a row: its three fields name two places of the list and the minutes between them
abbrev pub IsSound : List ℕ → Record → Type 0
IsSound places fields = (length fields ≡ 3) × NamesPlaces places fields × IsMinutes (field fields 2)

-- the row that a record spells
abbrev pub row_of : Record → Row
row_of fields = (number_of (field fields 0), number_of (field fields 1), number_of (field fields 2))

-- two rows give one pair of places different minutes
abbrev pub Conflicts : Row → Row → Type 0
Conflicts row other = (row.0 ≡ other.0) × (row.1 ≡ other.1) × (row.2 ≢ other.2)

-- the records below the header are all rows, and no two conflict
abbrev pub AreSound : List ℕ → List Record → Type 0
AreSound places records =
    All (IsSound places) records × ((row other : Row) → Contains (map row_of records) row
    → Contains (map row_of records) other → Conflicts row other → ⊥)

-- the rows of these records in order, each once
abbrev pub IsSortedFrom : List Record → List Row → Type 0
IsSortedFrom records rows = Rises rows × ((row : Row) → Contains rows row ↔ Contains (map row_of records) row)

-- the code of what is wrong with a record, after others that are sound
abbrev pub HasFault : List ℕ → List Record → Record → ℕ → Type 0
HasFault places earlier fields code =
    ((code ≡ code_of cause.TravelRecord) × (length fields ≢ 3))
    ⊎ ((code ≡ code_of cause.TravelPlace) × (length fields ≡ 3) × (NamesPlaces places fields → ⊥))
    ⊎ ((code ≡ code_of cause.TravelMinutes) × (length fields ≡ 3) × NamesPlaces places fields
    × (IsMinutes (field fields 2) → ⊥))
    ⊎ ((code ≡ code_of cause.TravelPair) × IsSound places fields × (other : Row) × Contains (map row_of earlier) other
    × Conflicts (row_of fields) other)

-- what was read so far: nothing, or the header row and sound records below it, with their rows in order
abbrev pub IsReadSoFar : List ℕ → List Record → List Row → Type 0
IsReadSoFar places seen rows =
    ((seen ≡ []) × (rows ≡ []))
    ⊎ ((records : List Record) × (seen ≡ header ∷ records) × AreSound places records × IsSortedFrom records rows)

-- the row number in a fault, for the record after `count` others; it is 2^32 - 1 from there on
abbrev pub number_after : ℕ → ℕ
number_after count = min (count + 1) (2 ^ 32 - 1)

-- the fault of the record after those that were read so far
abbrev pub IsNextFault : List ℕ → List Record → Record → Fault → Type 0
IsNextFault places seen fields fault =
    ((seen ≡ []) × (fault ≡ fault_at cause.TravelHeader 1) × (fields ≢ header))
    ⊎ ((records : List Record) × (seen ≡ header ∷ records) × AreSound places records
    × HasFault places records fields fault.code
    × (fault.row ≡ number_after (length seen)))

-- the record after those that were read so far adds a row: it is sound, and its pair of places is new
abbrev pub AddsRow : List ℕ → List Record → Record → Type 0
AddsRow places seen fields =
    (records : List Record) × (seen ≡ header ∷ records) × AreSound places records × IsSound places fields
    × IsNewPair (map row_of records) (row_of fields)

-- a text reads as a table of these rows
pub record ReadsAs (text places : List ℕ) (rows : List Row) : Type 0 where
  pub few_places : length places ≤ most_places
  pub records : List Record
  pub all_of_them : HasRecords text (header ∷ records)
  pub sound : AreSound places records
  pub sorted : IsSortedFrom records rows

-- a text has no header row
abbrev pub LacksHeader : List ℕ → Type 0
LacksHeader text = HasRecords text [] ⊎ ((first : Record) × BeginsWith text (first ∷ []) × (first ≢ header))

-- the first record below the header that is not sound, and its number; the header row is number 1
abbrev pub FailsAt : List ℕ → List ℕ → Fault → Type 0
FailsAt text places fault =
    (earlier : List Record) × (fields : Record) × BeginsWith text (header ∷ earlier ++ (fields ∷ []))
    × AreSound places earlier × HasFault places earlier fields fault.code
    × (fault.row ≡ number_after (length earlier + 1))

-- the first fault of a text: too many places, then no header row, then that of the first record that is not sound
abbrev pub IsFirstFault : List ℕ → List ℕ → Fault → Type 0
IsFirstFault text places fault =
    ((fault ≡ fault_at cause.TravelPlaces 0) × (most_places < length places))
    ⊎ ((fault ≡ fault_at cause.TravelHeader 1) × (length places ≤ most_places) × LacksHeader text)
    ⊎ ((length places ≤ most_places) × FailsAt text places fault)
