-- Records with marks in a second table: a record is marked if its number is a row there.
use Rattle.std.specs.Prelude.{◌≡◌, ℕ, Bool, true, false, List, [], ◌∷◌, flat_map, is_some, Option, None, Some}
use Rattle.sqlite.specs.Effect.{Database}
use Rattle.sqlite.specs.Order.{Row}
use Rattle.pt_base_records.specs.Records.{record_at, within}
use Rattle.pt_base_records.specs.declared.span.Span.{Span}
use Rattle.pt_tables_reading.specs.Ranges.{IsWord}
use Rattle.pt_tables_asking.specs.Asking.{HasAnswer}
use Rattle.pt_tables_asking.specs.declared.marks.Mark.{Mark}
use Rattle.pt_tables_rows.specs.Rows.{number_value, row_if}

abbrev pub mark_key : Mark → ℕ
mark_key mark = mark.number

abbrev pub mark_row : Mark → Row
mark_row mark = number_value mark.number ∷ []

abbrev pub FitsMark : Mark → Type 0
FitsMark mark = IsWord mark.number

-- one of the marks has this number
abbrev pub has_mark : List Mark → ℕ → Bool
has_mark marks number = is_some (record_at mark_key number marks)

-- there is one row with this number, or no row
abbrev pub IsMark : ℕ → List Row → Type 0
IsMark number rows = (is_there : Bool) × (rows ≡ row_if is_there (number_value number ∷ []))

abbrev pub has_row : List Row → Bool
has_row [] = false
has_row (row ∷ rows) = true

-- a record was found, and it has a row in the table of marks
abbrev pub is_marked : {A : Type 0} → (A → List Row) → Option A → Bool
is_marked rows_of None = false
is_marked rows_of (Some x) = has_row (rows_of x)

-- the record, marked if the record with its key in `all` has a mark
abbrev pub marked_in : {A : Type 0} → (A → ℕ) → (A → List Row) → (A → Bool → A) → List A → A → A
marked_in key rows_of marked all x = marked x (is_marked rows_of (record_at key (key x) all))

-- for each span of numbers, the only answer to the query is the marks of the records with keys in the span
abbrev pub HasMarks : {A : Type 0} → List ℕ → (A → ℕ) → (A → List Row) → Database → List A → Type 0
HasMarks text key rows_of db all =
    (span : Span)
    → HasAnswer text (number_value span.from ∷ number_value span.to ∷ []) db (flat_map rows_of (within key span all))
