-- The policy that a body spells. Fields are read in order, and the first bad field is the fault.
use Rattle.std.specs.Prelude.{Result, Ok}
use Rattle.pt_base_values.specs.Ranges.{highest_fare}
use Rattle.pt_base_values.specs.declared.policy.Policy.{Policy}
use Rattle.serde_json.specs.Data.{Data}
use Rattle.pt_http_request.specs.Fields.{ranged_at, ◌>>=◌}
use Rattle.pt_http_request.specs.declared.field_name.FieldName.{FieldName}
use Rattle.pt_http_request.specs.declared.field_name.FieldName.TheVariants as field

-- the policy that a body spells
abbrev pub policy_in : Data → Result Policy FieldName
policy_in body = do
  base ← ranged_at field.Base 0 highest_fare body
  transfer ← ranged_at field.Transfer 0 highest_fare body
  fare ← ranged_at field.Fare 0 highest_fare body
  service ← ranged_at field.Service 0 30 body
  extra_ride ← ranged_at field.ExtraRide 0 240 body
  min_missed ← ranged_at field.MinMissed 1 1_000 body
  percent ← ranged_at field.Percent 1 100 body
  span_days ← ranged_at field.SpanDays 1 366 body
  Ok (record {
    base = base.number;
    transfer = transfer.number;
    fare = fare.number;
    service = service.number;
    extra_ride = extra_ride.number;
    min_missed = min_missed.number;
    percent = percent.number;
    span_days = span_days.number;
    base_in_range = base.in_range.1;
    transfer_in_range = transfer.in_range.1;
    fare_in_range = fare.in_range.1;
    service_in_range = service.in_range.1;
    extra_ride_in_range = extra_ride.in_range.1;
    min_missed_in_range = min_missed.in_range;
    percent_in_range = percent.in_range;
    span_days_in_range = span_days.in_range;
  })
