-- The fields of a JSON object by their names, and what each may hold.
use Rattle.std.specs.Prelude.{◌≡◌, ℕ, ◌&&◌, List, length, Bool, true, false, Option, Some, None, is_some}
use Rattle.std.specs.Prelude.{Result, Ok, Err, if◌then◌else◌, option_and_then, refl}
use Rattle.std.proofs.lemmas.Bool.{leb-true, and_parts}
use Rattle.std.specs.Int.{IsInRange}
use Rattle.std.specs.List.{list_all}
use Rattle.hex.specs.Hex.{decode_sized}
use Rattle.hex.specs.declared.error.FromHexError.{FromHexError}
use Rattle.serde_json.specs.Data.{Data}
use Rattle.serde_json.specs.Find.{get, as_bool, as_null, as_number, as_u64, as_str}
use Rattle.pt_base_values.specs.SpelledDay.{day_from}
use Rattle.pt_base_values.specs.SpelledNumber.{is_within}
use Rattle.pt_rights_files.specs.Reasons.{longest_reasons}
use Rattle.pt_http_request.specs.Numbers.{id_of}
use Rattle.pt_http_request.specs.Names.{field_name}
use Rattle.pt_http_request.specs.declared.field_name.FieldName.{FieldName}

infixl 10 ◌>>=◌
-- the next step on a value; a fault ends the steps
abbrev pub ◌>>=◌ : {A B E : Type 0} → Result A E → (A → Result B E) → Result B E
Ok value >>= next = next value
Err fault >>= next = Err fault

-- the value, converted; a fault stays as it is
abbrev pub result_map : {A B E : Type 0} → (A → B) → Result A E → Result B E
result_map make (Ok value) = Ok (make value)
result_map make (Err fault) = Err fault

-- the value; this fault if there is none
abbrev pub needed : {A E : Type 0} → Option A → E → Result A E
needed (Some value) fault = Ok value
needed None fault = Err fault

-- the result of a test that passed; this fault if it failed
abbrev pub tested : {A E : Type 0} (test : Bool) → (test ≡ true → A) → E → Result A E
tested true make fault = Ok (make refl)
tested false make fault = Err fault

-- the whole number of a field: a nonnegative integer without fraction or exponent
abbrev pub whole_at : FieldName → Data → Result ℕ FieldName
whole_at name body = needed (option_and_then as_u64 (option_and_then as_number (get (field_name name) body))) name

-- the text of a field
abbrev pub text_at : FieldName → Data → Result (List ℕ) FieldName
text_at name body = needed (option_and_then as_str (get (field_name name) body)) name

-- the truth value of a field
abbrev pub truth_at : FieldName → Data → Result Bool FieldName
truth_at name body = needed (option_and_then as_bool (get (field_name name) body)) name

-- a field is missing or null
abbrev pub holds_nothing : Option Data → Bool
holds_nothing None = true
holds_nothing (Some found) = is_some (as_null found)

-- the truth value of a field; false if it is missing or null
abbrev pub truth_if_any_at : FieldName → Data → Result Bool FieldName
truth_if_any_at name body = if holds_nothing (get (field_name name) body) then Ok false else truth_at name body

-- the record number of a field
abbrev pub id_at : FieldName → Data → Result ℕ FieldName
id_at name body = do
  number ← whole_at name body
  needed (id_of number) name

-- the value of a result, if there is one
abbrev pub value_of : {A : Type 0} → Result A FromHexError → Option A
value_of (Ok value) = Some value
value_of (Err fault) = None

-- the 32 bytes of a digest, spelled as 64 hexadecimal digits of either case
abbrev pub digest_from : List ℕ → Option (List ℕ)
digest_from text = value_of (decode_sized text 32)

-- the digest of a field
abbrev pub digest_at : FieldName → Data → Result (List ℕ) FieldName
digest_at name body = do
  text ← text_at name body
  needed (digest_from text) name

-- the day of a field
abbrev pub day_at : FieldName → Data → Result ℕ FieldName
day_at name body = do
  text ← text_at name body
  needed (day_from text) name

-- whether the text is of printable ASCII, from the space to the tilde, and neither empty nor too long
abbrev pub are_reasons : List ℕ → Bool
are_reasons text = is_within 1 longest_reasons (length text) && list_all (λ byte. is_within 0x20 0x7E byte) text

-- the text, if it may be reasons
abbrev pub reasons_from : List ℕ → Option (List ℕ)
reasons_from text = if are_reasons text then Some text else None

-- the reasons of a field
abbrev pub reasons_at : FieldName → Data → Result (List ℕ) FieldName
reasons_at name body = do
  text ← text_at name body
  needed (reasons_from text) name

-- the number, if it is in this range
abbrev pub within : ℕ → ℕ → ℕ → Option ℕ
within least most number = if is_within least most number then Some number else None

-- the whole number of a field, if it is in this range
abbrev pub number_within : FieldName → ℕ → ℕ → Data → Result ℕ FieldName
number_within name least most body = do
  number ← whole_at name body
  needed (within least most number) name

-- a number with the proof that it is in this range
pub record Ranged (least most : ℕ) : Type 0 where
  pub number : ℕ
  pub in_range : IsInRange least most number

abbrev pub ranged : {least most : ℕ} (number : ℕ) → IsInRange least most number → Ranged least most
ranged number in_range = record { number = number; in_range = in_range }

pub in_range : (least most number : ℕ) → is_within least most number ≡ true → IsInRange least most number
in_range least most number test =
    let both = and_parts _ _ test in
    (leb-true least number both.0, leb-true number most both.1)

-- the whole number of a field, with the proof that it is in this range
abbrev pub ranged_at : FieldName → (least most : ℕ) → Data → Result (Ranged least most) FieldName
ranged_at name least most body = do
  number ← whole_at name body
  tested (is_within least most number) (λ test. ranged number (in_range least most number test)) name
