-- The rows of the tables, as a query shows them: the values of the columns in their order.
use Rattle.std.specs.Prelude.{ℕ, ℤ, ◌+◌, ◌==◌, pos, negsuc, not, true, false, List, [], ◌∷◌, map, flat_map, Bool}
use Rattle.std.specs.Prelude.{Option, None, Some}
use Rattle.std.specs.Int.{from_bool}
use Rattle.std.specs.List.{join_with_byte}
use Rattle.sqlite.specs.declared.types.Value.{Value}
use Rattle.sqlite.specs.declared.types.Value.TheVariants.{Int, Text, Blob}
use Rattle.sqlite.specs.Order.{Row}
use Rattle.pt_base_values.specs.declared.place.Place.{Place}
use Rattle.pt_base_values.specs.declared.policy.Policy.{Policy}
use Rattle.pt_base_values.specs.declared.rider.Rider.{Rider}
use Rattle.pt_base_values.specs.declared.trip.Trip.{Trip}
use Rattle.pt_base_values.specs.declared.trip_status.TripStatus.{TripStatus}
use Rattle.pt_base_values.specs.declared.trip_status.TripStatus.TheVariants.{Booked, Cancelled, Ridden, MissedRider}
use Rattle.pt_base_values.specs.declared.trip_status.TripStatus.TheVariants.{MissedOperator}
use Rattle.pt_base_values.specs.declared.vehicle.Vehicle.{Vehicle}
use Rattle.pt_rights_conditions.specs.Texts.{condition_text}
use Rattle.pt_corridor.specs.Route.{FixedRoute}
use Rattle.pt_desk_rules.specs.Travel.{TravelTable}
use Rattle.pt_desk_rules.specs.declared.change.FiledEntry.{FiledEntry}
use Rattle.pt_desk_rules.specs.declared.kept.Kept.{Kept}
use Rattle.pt_desk_rules.specs.StopKind.{StopKind}
use Rattle.pt_desk_rules.specs.StopKind.TheVariants.{Pickup, Drop}
use Rattle.pt_desk_requests.specs.declared.caller.Caller.{Caller}
use Rattle.pt_desk_rules.specs.Entry.{Entry}
use Rattle.pt_desk_rules.specs.Entry.TheVariants as entry
use Rattle.pt_desk_rules.specs.Grant.{Grant}
use Rattle.pt_desk_scheduling.specs.Plan.{Plan}
use Rattle.pt_desk_scheduling.specs.declared.planned.PlannedStop.{PlannedStop}
use Rattle.pt_desk_spelling.specs.Fields.{days_byte}
use Rattle.pt_desk_spelling.specs.Replies.{reply_spelling}
use Rattle.pt_desk_spelling.specs.Requests.{role_number, subject_of, kind_number, entry_number, point_bytes}
use Rattle.pt_tables_rows.specs.Schema.{table_version}
use Rattle.pt_desk_rules.specs.Chain as travel
use Rattle.pt_desk_rules.specs.Parts.{Part, record_in, records_of}
use Rattle.pt_desk_rules.specs.Parts as part
use Rattle.pt_desk_rules.specs.State.{State}
use Rattle.pt_desk_rules.specs.TableNames.{part_of}
use Rattle.pt_desk_rules.specs.declared.table_name.TableName.{TableName}
use Rattle.pt_desk_rules.specs.declared.table_name.TableName.TheVariants as name

abbrev pub number_value : ℕ → Value
number_value n = Int (pos n)

-- a truth value: 0 or 1
abbrev pub truth_value : Bool → Value
truth_value value = number_value (from_bool value)

-- an optional number: -1 means none
abbrev pub optional_value : Option ℕ → Value
optional_value None = Int (negsuc 0)
optional_value (Some n) = number_value n

-- the agency's only row: the version, the policy, and the number last given to a trip
abbrev pub versioned_row : ℕ → Policy → ℕ → Row
versioned_row version policy last_trip =
    number_value 1 ∷ number_value version ∷ number_value policy.base ∷ number_value policy.transfer
    ∷ number_value policy.fare ∷ number_value policy.service ∷ number_value policy.extra_ride
    ∷ number_value policy.min_missed ∷ number_value policy.percent ∷ number_value policy.span_days
    ∷ number_value last_trip ∷ []

-- the agency's row in tables of the current version
abbrev pub desk_row : Policy → ℕ → Row
desk_row policy last_trip = versioned_row table_version policy last_trip

abbrev pub caller_row : Caller → Row
caller_row caller =
    number_value caller.id ∷ number_value (role_number caller.role) ∷ number_value (subject_of caller.role)
    ∷ Blob caller.digest ∷ []

abbrev pub kept_row : Kept → Row
kept_row kept =
    number_value kept.caller ∷ number_value kept.number ∷ Blob kept.request ∷ Blob (reply_spelling kept.reply) ∷ []

abbrev pub place_row : Place → Row
place_row place = number_value place.id ∷ Int place.at.x ∷ Int place.at.y ∷ truth_value place.core ∷ []

-- a fixed route; each of its points takes eight bytes
abbrev pub route_row : FixedRoute → Row
route_row route =
    number_value route.id ∷ number_value route.width ∷ Blob (flat_map point_bytes route.points)
    ∷ truth_value route.accessible ∷ number_value (days_byte route.days) ∷ number_value route.first
    ∷ number_value route.last ∷ []

-- a version of a vehicle, valid from its day on
abbrev pub vehicle_row : Vehicle → Row
vehicle_row version =
    number_value version.id ∷ number_value version.from_day ∷ number_value (days_byte version.days)
    ∷ number_value version.depot ∷ number_value version.capacity ∷ number_value version.opens
    ∷ number_value version.closes ∷ number_value version.duration ∷ []

abbrev pub rider_row : Rider → Row
rider_row rider =
    number_value rider.id ∷ number_value (kind_number rider.kind) ∷ truth_value rider.attendant ∷ []

-- ---- entries

-- the last day of a grant, the position that an appeal is against, or the first day of a suspension
abbrev pub first_number : Entry → Option ℕ
first_number (entry.Grant grant) = Some grant.until
first_number (entry.Appeal against) = Some against
first_number (entry.AppealGranted grant) = Some grant.until
first_number (entry.Suspend starts ends reasons) = Some starts
first_number _ = None

-- the last day of a suspension
abbrev pub second_number : Entry → Option ℕ
second_number (entry.Suspend starts ends reasons) = Some ends
second_number _ = None

-- the conditions of a grant, separated by semicolons (byte 59)
abbrev pub conditions_text : Grant → List ℕ
conditions_text grant = join_with_byte 59 (map condition_text grant.conditions)

abbrev pub entry_conditions : Entry → List ℕ
entry_conditions (entry.Grant grant) = conditions_text grant
entry_conditions (entry.AppealGranted grant) = conditions_text grant
entry_conditions _ = []

-- the reasons of a decision or a suspension, or the basis of a notice
abbrev pub entry_words : Entry → List ℕ
entry_words (entry.Refuse reasons) = reasons
entry_words (entry.AppealDenied reasons) = reasons
entry_words (entry.Notice basis) = basis
entry_words (entry.Suspend starts ends reasons) = reasons
entry_words _ = []

abbrev pub entry_row : FiledEntry → Row
entry_row filed =
    number_value filed.rider ∷ number_value filed.position ∷ number_value (entry_number filed.entered.entry)
    ∷ number_value filed.entered.day ∷ number_value filed.entered.author
    ∷ optional_value (first_number filed.entered.entry) ∷ optional_value (second_number filed.entered.entry)
    ∷ Text (entry_conditions filed.entered.entry) ∷ Text (entry_words filed.entered.entry) ∷ []

-- ---- trips

abbrev pub status_number : TripStatus → ℕ
status_number Booked = 0
status_number Cancelled = 1
status_number Ridden = 2
status_number MissedRider = 3
status_number MissedOperator = 4

abbrev pub trip_row : Trip → Row
trip_row trip =
    number_value trip.id ∷ number_value trip.rider ∷ number_value trip.wish.day ∷ number_value trip.wish.pickup
    ∷ number_value trip.wish.from ∷ number_value trip.wish.to ∷ optional_value trip.wish.by
    ∷ truth_value trip.wish.attendant ∷ number_value trip.wish.companions ∷ number_value trip.fare
    ∷ number_value trip.service ∷ number_value trip.ride ∷ number_value trip.vehicle ∷ number_value trip.window_from
    ∷ number_value trip.window_to ∷ number_value (status_number trip.status) ∷ []

abbrev pub stop_number : StopKind → ℕ
stop_number Pickup = 0
stop_number Drop = 1

-- a stop of a vehicle on a day, at its place
abbrev pub stop_row : ℕ → ℕ → ℤ → PlannedStop → Row
stop_row vehicle day place stop =
    number_value vehicle ∷ number_value day ∷ Int place ∷ number_value stop.trip
    ∷ number_value (stop_number stop.kind) ∷ []

-- the stops of a vehicle on a day, at consecutive places from this one on
abbrev pub stop_rows_from : ℕ → ℕ → ℕ → List PlannedStop → List Row
stop_rows_from place vehicle day [] = []
stop_rows_from place vehicle day (stop ∷ later) =
    (number_value vehicle ∷ number_value day ∷ number_value place ∷ number_value stop.trip
    ∷ number_value (stop_number stop.kind) ∷ [])
    ∷ stop_rows_from (place + 1) vehicle day later

abbrev pub stop_rows : Plan → List Row
stop_rows plan = stop_rows_from 0 plan.vehicle plan.day plan.stops

-- ---- wheelchairs and their places

-- the row if the value is true, otherwise no row
abbrev pub row_if : Bool → Row → List Row
row_if true row = row ∷ []
row_if false row = []

-- a rider in a wheelchair
abbrev pub rider_chair_rows : Rider → List Row
rider_chair_rows rider = row_if rider.wheelchair (number_value rider.id ∷ [])

-- the wheelchair places of a version of a vehicle: no row if it has none
abbrev pub vehicle_chair_rows : Vehicle → List Row
vehicle_chair_rows version =
    row_if (not (version.chairs == 0))
    (number_value version.id ∷ number_value version.from_day ∷ number_value version.chairs ∷ [])

-- the trip of a rider in a wheelchair
abbrev pub trip_chair_rows : Trip → List Row
trip_chair_rows trip = row_if trip.wheelchair (number_value trip.id ∷ [])

-- ---- driving times

abbrev pub travel_row : ℕ → travel.Row → Row
travel_row from_day row =
    number_value from_day ∷ number_value row.0 ∷ number_value row.1 ∷ number_value row.2 ∷ []

-- the rows of a travel table, after a row of zeros: an empty table has that row only
abbrev pub travel_rows : TravelTable → List Row
travel_rows table = map (travel_row table.from_day) ((0, 0, 0) ∷ table.rows)

-- ---- all tables

-- the rows of a record that has one
abbrev pub one_row : {A : Type 0} → (A → Row) → A → List Row
one_row row_of x = row_of x ∷ []

-- the rows of a record in the table of its part
abbrev pub record_rows : (p : Part) → record_in p → List Row
record_rows part.callers = one_row caller_row
record_rows part.kept = one_row kept_row
record_rows part.places = one_row place_row
record_rows part.routes = one_row route_row
record_rows part.riders = one_row rider_row
record_rows part.entries = one_row entry_row
record_rows part.vehicles = one_row vehicle_row
record_rows part.travel = travel_rows
record_rows part.trips = one_row trip_row
record_rows part.planned = stop_rows

-- the rows of a part's records
abbrev pub part_rows : Option Part → State → List Row
part_rows None s = []
part_rows (Some p) s = flat_map (record_rows p) (records_of p s)

-- the rows of a table in a database of this version
abbrev pub versioned_rows : ℕ → TableName → State → List Row
versioned_rows version name.Desk s = versioned_row version s.policy s.last_trip ∷ []
versioned_rows version name.RiderChairs s = flat_map rider_chair_rows s.riders
versioned_rows version name.VehicleChairs s = flat_map vehicle_chair_rows s.vehicles
versioned_rows version name.TripChairs s = flat_map trip_chair_rows s.trips
versioned_rows version t s = part_rows (part_of t) s

-- the rows of a table in a database of the current version
abbrev pub rows_in : TableName → State → List Row
rows_in t s = versioned_rows table_version t s
