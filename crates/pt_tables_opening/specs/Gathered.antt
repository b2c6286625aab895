-- Which records the rows of a table are, where each record has one row or several.
use Rattle.std.specs.Prelude.{◌≡◌, ◌⊎◌, ℕ, ◌≤◌, ◌^◌, List, [], ◌∷◌, length, flat_map, Option, None, Some}
use Rattle.std.specs.Prelude.{IsPermutation}
use Rattle.sqlite.specs.Order.{Row, column}
use Rattle.sqlite.specs.Table.{Table}
use Rattle.sqlite.specs.Tree.{Trees}
use Rattle.pt_desk_rules.specs.Ranges.{FitsStop}
use Rattle.pt_base_records.specs.Records.{Each, Edit, IsInOrder}
use Rattle.pt_desk_scheduling.specs.declared.planned.PlannedStop.{PlannedStop}
use Rattle.pt_tables_rows.specs.Rows.{number_value, stop_rows_from}
use Rattle.pt_tables_rows.specs.Tables.{AreRows}

-- a record that rows can represent: it fits, and 32-bit numbers can count its rows
abbrev pub FitsRows : {A : Type 0} → (A → List Row) → (A → Type 0) → A → Type 0
FitsRows rows_of Fits x = Fits x × (length (rows_of x) ≤ 2 ^ 32)

-- the first row begins a record, and no later row does
abbrev pub BeginsOnce : (Row → Type 0) → List Row → Type 0
BeginsOnce Begins [] = ⊥
BeginsOnce Begins (first ∷ later) = Begins first × Each (λ row. Begins row → ⊥) later

-- the records that have these rows, in their order, or None if no fitting records have them
abbrev pub TellsGathered : {A : Type 0} → (A → List Row) → (A → Type 0) → List Row → Option (Edit A) → Type 0
TellsGathered rows_of Fits rows (Some edit) =
    (edit.away ≡ []) × (flat_map rows_of edit.puts ≡ rows) × Each Fits edit.puts
TellsGathered rows_of Fits rows None = (xs : List _) → Each Fits xs → flat_map rows_of xs ≡ rows → ⊥

-- the edit only puts records, in the order of their keys
abbrev pub PutsInOrder : {A : Type 0} → (A → ℕ) → Edit A → Type 0
PutsInOrder key edit = (edit.away ≡ []) × IsInOrder key edit.puts

-- the edit only puts records, in the order of their keys, and each fits
pub record IsFitting {A : Type 0} (key : A → ℕ) (Fits : A → Type 0) (edit : Edit A) : Type 0 where
  pub puts : PutsInOrder key edit
  pub each : Each Fits edit.puts

-- no records have the rows, or those that have them are not in the order of their keys
abbrev pub GathersNothing : {A : Type 0} → (A → ℕ) → (A → List Row) → (A → Type 0) → List Row → Type 0
GathersNothing {A} key rows_of Fits rows =
    TellsGathered rows_of Fits rows None
    ⊎ (edit : Edit A) × TellsGathered rows_of Fits rows (Some edit) × (IsInOrder key edit.puts → ⊥)

-- if records in the order of their keys have these rows in some order, they have them in this order
abbrev pub KeepsRows : {A : Type 0} → (A → ℕ) → (A → List Row) → (A → Type 0) → List Row → Type 0
KeepsRows {A} key rows_of Fits rows =
    (xs : List A) → Each Fits xs → IsInOrder key xs → IsPermutation (flat_map rows_of xs) rows
    → flat_map rows_of xs ≡ rows

-- the same, and all records with the same rows as records in order are in order too
pub record KeepsOrder {A : Type 0} (key : A → ℕ) (rows_of : A → List Row) (Fits : A → Type 0) (rows : List Row) :
    Type 0 where
  pub same : KeepsRows key rows_of Fits rows
  pub rising : (xs ys : List A) → Each Fits xs → Each Fits ys → flat_map rows_of xs ≡ flat_map rows_of ys
      → IsInOrder key xs → IsInOrder key ys

-- no records in the order of their keys have the rows of the table
abbrev pub AreRowsOfNone : {A : Type 0} → (A → ℕ) → Table → (A → List Row) → (A → Type 0) → Trees → Type 0
AreRowsOfNone key home rows_of Fits trees =
    (xs : List _) → Each Fits xs → IsInOrder key xs → AreRows home trees (flat_map rows_of xs) → ⊥

-- ---- tables of one row each

-- each row begins a record
abbrev pub BeginsEach : Row → Type 0
BeginsEach row = Unit {0}

-- ---- plans

-- the stop of this row is the first of a plan
abbrev pub BeginsPlan : Row → Type 0
BeginsPlan row = column row 2 ≡ number_value 0

-- stops of a plan that rows can represent: each fits, and 32-bit numbers can count their rows
abbrev pub FitStops : ℕ → ℕ → List PlannedStop → Type 0
FitStops vehicle day stops = (length (stop_rows_from 0 vehicle day stops) ≤ 2 ^ 32) × Each FitsStop stops

-- ---- travel tables

-- the row begins a travel table: it has 0, which is no place, as its first place
abbrev pub BeginsTravel : Row → Type 0
BeginsTravel row = column row 1 ≡ number_value 0
