-- The rider's record that a body spells. Fields are read in order, and the first bad field is the fault.
use Rattle.std.specs.Prelude.{ℕ, List, codes, bytes_eq, Option, Some, None, Result, Ok, if◌then◌else◌}
use Rattle.pt_base_values.specs.declared.rider.Residence.{Residence}
use Rattle.pt_base_values.specs.declared.rider.Residence.TheVariants as residence
use Rattle.pt_base_values.specs.declared.rider.Rider.{Rider}
use Rattle.serde_json.specs.Data.{Data}
use Rattle.pt_http_request.specs.Fields.{text_at, truth_at, truth_if_any_at, id_at, needed, ◌>>=◌}
use Rattle.pt_http_request.specs.declared.field_name.FieldName.{FieldName}
use Rattle.pt_http_request.specs.declared.field_name.FieldName.TheVariants as field

-- the residence of this name
abbrev pub residence_named : List ℕ → Option Residence
residence_named name =
    if bytes_eq name (codes "resident") then Some residence.Resident
    else (if bytes_eq name (codes "visitor") then Some residence.Visitor
    else None)

-- the residence that a field names
abbrev pub residence_at : FieldName → Data → Result Residence FieldName
residence_at name body = do
  text ← text_at name body
  needed (residence_named text) name

-- the rider's record that a body spells: id, kind, attendant, wheelchair
abbrev pub rider_in : Data → Result Rider FieldName
rider_in body = do
  id ← id_at field.Id body
  residence ← residence_at field.Kind body
  attendant ← truth_at field.Attendant body
  wheelchair ← truth_if_any_at field.Wheelchair body
  Ok (record { id = id; kind = residence; attendant = attendant; wheelchair = wheelchair })
