-- The headers that the desk reads, from the names and values of a message's header lines.
use Rattle.std.specs.Prelude.{◌≡◌, ◌⊎◌, ◌<◌, ℕ, List, [], ◌∷◌, codes, map, filter, length, bytes_eq, Bool, Option, Some}
use Rattle.std.specs.Prelude.{None, Result, Ok, Err}
use Rattle.std.specs.Char.{to_ascii_lowercase}
use Rattle.pt_base_values.specs.SpelledNumber.{SpellsNumber, number_from}
use Rattle.pt_http_inbox.specs.Reads.{longest_body}
use Rattle.pt_http_request.specs.Fields.{needed}
use Rattle.pt_http_request.specs.declared.field_name.FieldName.{FieldName}
use Rattle.pt_http_request.specs.declared.field_name.FieldName.TheVariants as field
use Rattle.pt_http_request.specs.declared.headers.Given.{Given}
use Rattle.pt_http_request.specs.declared.headers.Given.TheVariants as given

-- two names are the same, apart from the case of letters
abbrev pub same_name : List ℕ → List ℕ → Bool
same_name one other = bytes_eq (map to_ascii_lowercase one) (map to_ascii_lowercase other)

-- the values of the lines with this name, in order
abbrev pub values_named : List ℕ → List (List ℕ × List ℕ) → List (List ℕ)
values_named name lines = map (λ line. line.1) (filter (λ line. same_name name line.0) lines)

-- whether a name has no value, one, or several
abbrev pub IsGiven : Given → List (List ℕ) → Type 0
IsGiven given.Missing values = values ≡ []
IsGiven (given.Once value) values = values ≡ value.now ∷ []
IsGiven given.Repeated values = 1 < length values

-- the length by the values of Content-Length: 0 if there are none, or one value of 1 to 16 digits, at most the longest body
abbrev pub IsLengthIn : List (List ℕ) → ℕ → Type 0
IsLengthIn values number =
    ((values ≡ []) × (number ≡ 0)) ⊎ ((value : List ℕ) × (values ≡ value ∷ []) × SpellsNumber 16 longest_body value number)

-- the body's length: there is no Transfer-Encoding, and Content-Length gives the length
abbrev pub IsBodyLength : List (List ℕ × List ℕ) → ℕ → Type 0
IsBodyLength lines number =
    (values_named (codes "transfer-encoding") lines ≡ [])
    × IsLengthIn (values_named (codes "content-length") lines) number

-- the caller's key by the values of its header: none, or the bytes of one; two are a fault
abbrev pub key_from : List (List ℕ) → Result (Option (List ℕ)) FieldName
key_from [] = Ok None
key_from (value ∷ []) = Ok (Some value)
key_from (value ∷ other ∷ values) = Err field.DeskKey

abbrev pub key_in : List (List ℕ × List ℕ) → Result (Option (List ℕ)) FieldName
key_in lines = key_from (values_named (codes "desk-key") lines)

-- the caller's number for a write: one value of 1 to 10 digits, at most 4,294,967,295
abbrev pub number_of : List (List ℕ) → Option ℕ
number_of (value ∷ []) = number_from 10 4_294_967_295 value
number_of _ = None

abbrev pub number_in : List (List ℕ × List ℕ) → Result ℕ FieldName
number_in lines = needed (number_of (values_named (codes "desk-number") lines)) field.DeskNumber
