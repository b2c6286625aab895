-- The wish or the outcome of a trip that a body spells. Fields are read in order, and the first bad field is the fault.
use Rattle.std.specs.Prelude.{ℕ, List, codes, bytes_eq, Option, Some, None, Result, Ok}
use Rattle.std.specs.Prelude.{if◌then◌else◌}
use Rattle.pt_base_values.specs.Ranges.{last_minute}
use Rattle.pt_base_values.specs.declared.trip.Wish.{Wish}
use Rattle.pt_rights_files.specs.declared.tally.Outcome.{Outcome}
use Rattle.pt_rights_files.specs.declared.tally.Outcome.TheVariants as outcome
use Rattle.serde_json.specs.Data.{Data}
use Rattle.serde_json.specs.Find.{get}
use Rattle.pt_http_request.specs.Fields.{text_at, truth_at, id_at, day_at, number_within, holds_nothing, needed, ◌>>=◌}
use Rattle.pt_http_request.specs.Names.{field_name}
use Rattle.pt_http_request.specs.declared.field_name.FieldName.{FieldName}
use Rattle.pt_http_request.specs.declared.field_name.FieldName.TheVariants as field

-- the minute of the day of a field; None if it is missing or null
abbrev pub minute_if_any_at : FieldName → Data → Result (Option ℕ) FieldName
minute_if_any_at name body =
    if holds_nothing (get (field_name name) body) then Ok None
    else (do
      minute ← number_within name 0 last_minute body
      Ok (Some minute))

-- the wish that a body spells: day, wish, from, to, by, attendant, companions
abbrev pub wish_in : Data → Result Wish FieldName
wish_in body = do
  day ← day_at field.Day body
  pickup ← number_within field.Wish 0 last_minute body
  from ← id_at field.From body
  to ← id_at field.To body
  by ← minute_if_any_at field.By body
  attendant ← truth_at field.Attendant body
  companions ← number_within field.Companions 0 255 body
  Ok (record {
    day = day;
    pickup = pickup;
    from = from;
    to = to;
    by = by;
    attendant = attendant;
    companions = companions;
  })

-- the rider and the wish that a body spells
abbrev pub booking_in : Data → Result (ℕ × Wish) FieldName
booking_in body = do
  rider ← id_at field.Rider body
  wish ← wish_in body
  Ok (rider, wish)

-- the outcome of this name
abbrev pub outcome_named : List ℕ → Option Outcome
outcome_named name =
    if bytes_eq name (codes "ridden") then Some outcome.Ridden
    else (if bytes_eq name (codes "missed-rider") then Some outcome.MissedRider
    else (if bytes_eq name (codes "missed-operator") then Some outcome.MissedOperator
    else None))

-- the outcome that a body spells
abbrev pub outcome_in : Data → Result Outcome FieldName
outcome_in body = do
  name ← text_at field.Outcome body
  needed (outcome_named name) field.Outcome
