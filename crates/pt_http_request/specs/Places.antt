-- The place that a body spells. Fields are read in order, and the first bad field is the fault.
use Rattle.std.specs.Prelude.{◌≡◌, ℤ, pos, neg_ℤ, int_le, ◌&&◌, Bool, true, Option, Some, None, Result, Ok}
use Rattle.std.specs.Prelude.{option_and_then, if◌then◌else◌}
use Rattle.std.proofs.lemmas.Bool.{and_parts}
use Rattle.std.proofs.lemmas.Float.{T_from_true}
use Rattle.std.specs.Int.Signed.{le_z_yes}
use Rattle.pt_base_values.specs.Place.{IsCoordinate}
use Rattle.pt_base_values.specs.declared.place.Place.{Place}
use Rattle.serde_json.specs.Data.{Data}
use Rattle.serde_json.specs.Find.{get, as_number, as_i64}
use Rattle.pt_http_request.specs.Fields.{truth_at, id_at, needed, tested, ◌>>=◌}
use Rattle.pt_http_request.specs.Names.{field_name}
use Rattle.pt_http_request.specs.declared.field_name.FieldName.{FieldName}
use Rattle.pt_http_request.specs.declared.field_name.FieldName.TheVariants as field

-- whether a coordinate is on the plane; it is in feet
abbrev pub is_on_plane : ℤ → Bool
is_on_plane feet = int_le (neg_ℤ (pos 1_000_000)) feet && int_le feet (pos 1_000_000)

-- the integer that a value spells, written without fraction or exponent
abbrev pub integer_from : Data → Option ℤ
integer_from value = option_and_then as_i64 (as_number value)

-- the coordinate that a value spells
abbrev pub coordinate_from : Data → Option ℤ
coordinate_from value =
    option_and_then (λ feet. if is_on_plane feet then Some feet else None) (integer_from value)

-- a coordinate with the proof that it is on the plane
pub record Coordinate : Type 0 where
  pub feet : ℤ
  pub on_plane : IsCoordinate feet

abbrev pub coordinate : (feet : ℤ) → IsCoordinate feet → Coordinate
coordinate feet on_plane = record { feet = feet; on_plane = on_plane }

pub on_plane : (feet : ℤ) → is_on_plane feet ≡ true → IsCoordinate feet
on_plane feet test =
    let both = and_parts _ _ test in
    (le_z_yes (T_from_true _ both.0), le_z_yes (T_from_true _ both.1))

-- the coordinate of a field
abbrev pub coordinate_at : FieldName → Data → Result Coordinate FieldName
coordinate_at name body = do
  feet ← needed (option_and_then integer_from (get (field_name name) body)) name
  tested (is_on_plane feet) (λ test. coordinate feet (on_plane feet test)) name

-- the place that a body spells: id, x, y, core
abbrev pub place_in : Data → Result Place FieldName
place_in body = do
  id ← id_at field.Id body
  x ← coordinate_at field.X body
  y ← coordinate_at field.Y body
  core ← truth_at field.Core body
  Ok (record { id = id; at = record { x = x.feet; y = y.feet }; core = core; on_plane = (x.on_plane, y.on_plane) })
