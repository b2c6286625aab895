-- The vehicle that a body spells. Fields are read in order, and the first bad field is the fault.
use Rattle.std.specs.Prelude.{nat_le, if◌then◌else◌, Result, Ok, refl}
use Rattle.std.proofs.lemmas.Bool.{leb-true}
use Rattle.pt_base_values.specs.Ranges.{last_minute}
use Rattle.pt_base_values.specs.declared.vehicle.Vehicle.{Vehicle}
use Rattle.serde_json.specs.Data.{Data}
use Rattle.serde_json.specs.Find.{get}
use Rattle.pt_http_request.specs.Fields.{id_at, day_at, number_within, ranged_at, needed, tested, ◌>>=◌}
use Rattle.pt_http_request.specs.Fields.{Ranged, holds_nothing, in_range, ranged}
use Rattle.pt_http_request.specs.Routes.{days_at}
use Rattle.pt_http_request.specs.Names.{field_name}
use Rattle.pt_http_request.specs.declared.field_name.FieldName.{FieldName}
use Rattle.pt_http_request.specs.declared.field_name.FieldName.TheVariants as field

-- the number of a vehicle's wheelchair places; 0 if the field is missing or null
abbrev pub chairs_at : Data → Result (Ranged 0 10) FieldName
chairs_at body =
    if holds_nothing (get (field_name field.Chairs) body) then Ok (ranged 0 (in_range 0 10 0 refl))
    else ranged_at field.Chairs 0 10 body

-- the vehicle that a body spells; it must leave its depot no later than it is due back
abbrev pub vehicle_in : Data → Result Vehicle FieldName
vehicle_in body = do
  id ← id_at field.Id body
  from_day ← day_at field.FromDay body
  days ← needed (days_at body) field.Days
  depot ← id_at field.Depot body
  capacity ← ranged_at field.Capacity 1 30 body
  opens ← number_within field.Opens 0 last_minute body
  closes ← number_within field.Closes 0 last_minute body
  hours_ordered ← tested (nat_le opens closes) (leb-true opens closes) field.Opens
  duration ← ranged_at field.Duration 1 last_minute body
  chairs ← chairs_at body
  Ok (record {
    id = id;
    from_day = from_day;
    days = days;
    depot = depot;
    capacity = capacity.number;
    chairs = chairs.number;
    opens = opens;
    closes = closes;
    duration = duration.number;
    capacity_in_range = capacity.in_range;
    chairs_in_range = chairs.in_range.1;
    hours_ordered = hours_ordered;
    duration_in_range = duration.in_range;
  })
