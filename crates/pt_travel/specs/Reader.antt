-- A reader of a travel table's records over bytes in memory: what it gave, and why its memory ran out.
use Rattle.std.specs.Prelude.{◌≡◌, ℕ, ◌⊎◌, true, Option, Some, List, [], ◌∷◌, ◌++◌}
use Rattle.std.specs.Borrow.{Bor}
use Rattle.csv.specs.Reading.{Reached, Ready, default_config, has_failed, reader_config, reader_state, reader_trim}
use Rattle.csv.specs.Reading.{source_of, strip_bom}
use Rattle.csv.specs.declared.parser.State.TheVariants as state
use Rattle.csv.specs.declared.reader.Reader.{Reader}
use Rattle.csv.specs.declared.reader.Trim.TheVariants as trim
use Rattle.pt_travel.specs.Text.{AddsRow, Record}

-- a reader of bytes in memory
abbrev pub BytesReader : Type 0
BytesReader = Reader (Bor (List ℕ))

abbrev pub bytes_of : Bor (List ℕ) → Option (List ℕ)
bytes_of bytes = Some bytes.now

-- a reader gave these records of a text, and reads on behind them
pub record HasGiven (text : List ℕ) (seen : List Record) (reader : BytesReader) : Type 0 where
  pub untrimmed : reader_trim reader ≡ trim.None
  pub ready : Ready reader
  pub config : reader_config reader ≡ default_config
  pub rest : List ℕ
  pub source : source_of bytes_of reader ≡ Some rest
  pub reached : Reached default_config state.StartRecord (strip_bom text) seen (reader_state reader) rest

-- a reader gave no record of a text yet
abbrev pub IsAtStart : List ℕ → BytesReader → Type 0
IsAtStart text reader = HasGiven text [] reader

-- The last record that a reader gave adds a row. So the text has no fault up to there.
abbrev pub NeedsRoom : List ℕ → List ℕ → BytesReader → Type 0
NeedsRoom text places reader =
    (seen : List Record) × (fields : Record) × HasGiven text (seen ++ fields ∷ []) reader × AddsRow places seen fields

-- there was no memory for the next record, or none for the row that the last record adds
abbrev pub LacksMemory : List ℕ → List ℕ → BytesReader → Type 0
LacksMemory text places reader = (has_failed reader ≡ true) ⊎ NeedsRoom text places reader
