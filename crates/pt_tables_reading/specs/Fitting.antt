-- Ranges that the types of fields guarantee: definitions see only numbers and lists, so they state them. Also the rows
-- of conditions, entries, stops and drives, as they are read back.
use Rattle.std.specs.Prelude.{ℕ, ◌<◌, ◌^◌, ◌==◌, Option, None, Some, List, [], ◌∷◌, Bool, true, false, slice_set}
use Rattle.std.specs.Prelude.{map, All, FitsSigned}
use Rattle.std.specs.Int.{w32}
use Rattle.std.specs.List.{join_with_byte, slice_split}
use Rattle.sqlite.specs.Order.{Row}
use Rattle.pt_base_values.specs.Day.{IsDay}
use Rattle.pt_base_values.specs.declared.place.Point.{Point}
use Rattle.pt_rights_conditions.specs.Texts.{condition_text}
use Rattle.pt_rights_files.specs.Conditions.{IsCondition, IsConditions}
use Rattle.pt_rights_files.specs.declared.conditions.Condition.{Condition}
use Rattle.pt_rights_files.specs.declared.entry.Entry.{Entry}
use Rattle.pt_rights_files.specs.declared.entry.Entry.TheVariants as entry
use Rattle.pt_desk_spelling.specs.Ranges.{IsWord}
use Rattle.pt_desk_spelling.specs.Replies.{IsId}
use Rattle.pt_desk_spelling.specs.Requests.{entry_number}
use Rattle.pt_travel.specs.Chain as travel
use Rattle.pt_tables_rows.specs.Rows.{entry_conditions, entry_words, first_number, number_value, second_number}
use Rattle.pt_tables_rows.specs.Rows.{stop_number, travel_row}
use Rattle.pt_tables_reading.specs.declared.drives.DriveAt.{DriveAt}
use Rattle.pt_tables_reading.specs.declared.stops.StopAt.{StopAt}

-- the coordinates are signed 32-bit numbers
abbrev pub FitsPoint : Point → Type 0
FitsPoint point = FitsSigned w32 point.x × FitsSigned w32 point.y

-- a set of weekdays, with one weekday marked or left as it was
abbrev pub mark : List Bool → ℕ → Bool → List Bool
mark days number true = slice_set days number true
mark days number false = days

-- the text of conditions in a row, separated by semicolons (byte 59)
abbrev pub joined : List Condition → List ℕ
joined conditions = join_with_byte 59 (map condition_text conditions)

-- the parts of a text between its semicolons
abbrev pub parts_of : List ℕ → List (List ℕ)
parts_of text = slice_split (λ b. b == 59) text

abbrev pub FitsConditions : List Condition → Type 0
FitsConditions conditions = IsConditions conditions × All IsCondition conditions

-- what a row has of an entry: its kind, its two numbers, its conditions and its words
abbrev pub parts_of_entry : Entry → ℕ × Option ℕ × Option ℕ × List ℕ × List ℕ
parts_of_entry e = (entry_number e, first_number e, second_number e, entry_conditions e, entry_words e)

-- ---- a row of a plan, and one of a travel table

abbrev pub stop_row : StopAt → Row
stop_row at =
    number_value at.vehicle ∷ number_value at.day ∷ number_value at.place ∷ number_value at.stop.trip
    ∷ number_value (stop_number at.stop.kind) ∷ []

pub record FitsStopAt (at : StopAt) : Type 0 where
  pub vehicle : IsId at.vehicle
  pub day : IsDay at.day
  pub place : IsWord at.place
  pub trip : IsId at.stop.trip

-- a drive, or zeros if there is none
abbrev pub drive_numbers : Option travel.Row → travel.Row
drive_numbers None = (0, 0, 0)
drive_numbers (Some drive) = drive

abbrev pub drive_row : DriveAt → Row
drive_row at = travel_row at.from_day (drive_numbers at.drive)

abbrev pub IsDrive : Option travel.Row → Type 0
IsDrive None = Unit {0}
IsDrive (Some drive) = IsId drive.0 × IsId drive.1 × (drive.2 < 2 ^ 16)

pub record FitsDriveAt (at : DriveAt) : Type 0 where
  pub from_day : IsDay at.from_day
  pub drive : IsDrive at.drive
