-- How a request that may change something is spelled in bytes.
use Rattle.std.specs.Prelude.{◌≡◌, ℕ, Bool, true, false, ◌==◌, if◌then◌else◌, List, [], ◌∷◌, ◌++◌}
use Rattle.pt_base_values.specs.declared.place.Place.{Place}
use Rattle.pt_base_values.specs.declared.place.Point.{Point}
use Rattle.pt_base_values.specs.declared.policy.Policy.{Policy}
use Rattle.pt_base_values.specs.declared.rider.Residence.{Residence}
use Rattle.pt_base_values.specs.declared.rider.Residence.TheVariants.{Resident, Visitor}
use Rattle.pt_base_values.specs.declared.rider.Rider.{Rider}
use Rattle.pt_base_values.specs.declared.trip.Wish.{Wish}
use Rattle.pt_base_values.specs.declared.vehicle.Vehicle.{Vehicle}
use Rattle.pt_rights_conditions.specs.Texts.{condition_text}
use Rattle.pt_corridor.specs.Route.{FixedRoute}
use Rattle.pt_desk_requests.specs.declared.caller.Caller.{Caller}
use Rattle.pt_desk_requests.specs.declared.caller.Role.{Role}
use Rattle.pt_desk_requests.specs.declared.caller.Role.TheVariants as role
use Rattle.pt_desk_requests.specs.declared.request.Write.{Write}
use Rattle.pt_desk_requests.specs.declared.request.Write.TheVariants as write
use Rattle.pt_rights_files.specs.declared.conditions.Condition.{Condition}
use Rattle.pt_rights_files.specs.declared.entry.Entry.{Entry}
use Rattle.pt_rights_files.specs.declared.entry.Entry.TheVariants as entry
use Rattle.pt_rights_files.specs.declared.entry.Grant.{Grant}
use Rattle.pt_rights_files.specs.declared.tally.Outcome.{Outcome}
use Rattle.pt_rights_files.specs.declared.tally.Outcome.TheVariants as outcome
use Rattle.pt_travel.specs.Chain.{Row}
use Rattle.pt_desk_spelling.specs.Fields.{number_bytes, numbers_bytes, signed_bytes, truth_bytes, days_byte, optional_bytes}
use Rattle.pt_desk_spelling.specs.Fields.{text_bytes, list_bytes}
use Rattle.pt_desk_spelling.specs.Ranges.{IsRequest}

-- ---- callers

abbrev pub role_number : Role → ℕ
role_number (role.Rider rider) = 0
role_number role.Clerk = 1
role_number role.Examiner = 2
role_number role.Officer = 3
role_number role.Dispatcher = 4
role_number (role.Driver vehicle) = 5
role_number role.Admin = 6

-- the number of the rider or vehicle that the role is about, and 0 for a role about none
abbrev pub subject_of : Role → ℕ
subject_of (role.Rider rider) = rider
subject_of (role.Driver vehicle) = vehicle
subject_of _ = 0

abbrev pub caller_bytes : Caller → List ℕ
caller_bytes caller =
    number_bytes caller.id ++ role_number caller.role ∷ [] ++ number_bytes (subject_of caller.role) ++ caller.digest

-- ---- settings

abbrev pub policy_bytes : Policy → List ℕ
policy_bytes policy =
    numbers_bytes (policy.base ∷ policy.transfer ∷ policy.fare ∷ policy.service ∷ policy.extra_ride ∷ policy.min_missed
    ∷ policy.percent ∷ policy.span_days ∷ [])

abbrev pub point_bytes : Point → List ℕ
point_bytes point = signed_bytes point.x ++ signed_bytes point.y

abbrev pub place_bytes : Place → List ℕ
place_bytes place = number_bytes place.id ++ point_bytes place.at ++ truth_bytes place.core

abbrev pub route_bytes : FixedRoute → List ℕ
route_bytes route =
    numbers_bytes (route.id ∷ route.width ∷ []) ++ list_bytes point_bytes route.points ++ truth_bytes route.accessible
    ++ days_byte route.days ∷ [] ++ numbers_bytes (route.first ∷ route.last ∷ [])

-- a vehicle's wheelchair places are spelled only if it has some
abbrev pub chairs_bytes : ℕ → List ℕ
chairs_bytes chairs = if chairs == 0 then [] else number_bytes chairs

abbrev pub vehicle_bytes : Vehicle → List ℕ
vehicle_bytes vehicle =
    numbers_bytes (vehicle.id ∷ vehicle.from_day ∷ []) ++ days_byte vehicle.days ∷ []
    ++ numbers_bytes (vehicle.depot ∷ vehicle.capacity ∷ vehicle.opens ∷ vehicle.closes ∷ vehicle.duration ∷ [])
    ++ chairs_bytes vehicle.chairs

abbrev pub row_bytes : Row → List ℕ
row_bytes row = numbers_bytes (row.0 ∷ row.1 ∷ row.2 ∷ [])

-- ---- riders and their case files

abbrev pub kind_number : Residence → ℕ
kind_number Resident = 0
kind_number Visitor = 1

-- a wheelchair is spelled only if the rider has one
abbrev pub wheelchair_bytes : Bool → List ℕ
wheelchair_bytes false = []
wheelchair_bytes true = 1 ∷ []

abbrev pub rider_bytes : Rider → List ℕ
rider_bytes rider =
    number_bytes rider.id ++ kind_number rider.kind ∷ [] ++ truth_bytes rider.attendant
    ++ wheelchair_bytes rider.wheelchair

-- a condition is spelled as its text
abbrev pub condition_bytes : Condition → List ℕ
condition_bytes condition = text_bytes (condition_text condition)

abbrev pub grant_bytes : Grant → List ℕ
grant_bytes grant = number_bytes grant.until ++ list_bytes condition_bytes grant.conditions

abbrev pub entry_number : Entry → ℕ
entry_number entry.Complete = 0
entry_number (entry.Grant grant) = 1
entry_number (entry.Refuse reasons) = 2
entry_number (entry.Appeal against) = 3
entry_number entry.Heard = 4
entry_number (entry.AppealGranted grant) = 5
entry_number (entry.AppealDenied reasons) = 6
entry_number entry.Overturn = 7
entry_number (entry.Notice basis) = 8
entry_number entry.NoticeHeard = 9
entry_number (entry.Suspend starts ends reasons) = 10

-- what an entry has besides its kind
abbrev pub particulars_of : Entry → List ℕ
particulars_of (entry.Grant grant) = grant_bytes grant
particulars_of (entry.Refuse reasons) = text_bytes reasons
particulars_of (entry.Appeal against) = number_bytes against
particulars_of (entry.AppealGranted grant) = grant_bytes grant
particulars_of (entry.AppealDenied reasons) = text_bytes reasons
particulars_of (entry.Notice basis) = text_bytes basis
particulars_of (entry.Suspend starts ends reasons) = numbers_bytes (starts ∷ ends ∷ []) ++ text_bytes reasons
particulars_of _ = []

abbrev pub entry_bytes : Entry → List ℕ
entry_bytes entered = entry_number entered ∷ particulars_of entered

-- ---- trips

abbrev pub wish_bytes : Wish → List ℕ
wish_bytes wish =
    numbers_bytes (wish.day ∷ wish.pickup ∷ wish.from ∷ wish.to ∷ []) ++ optional_bytes wish.by
    ++ truth_bytes wish.attendant ++ number_bytes wish.companions

abbrev pub outcome_number : Outcome → ℕ
outcome_number outcome.Ridden = 0
outcome_number outcome.MissedRider = 1
outcome_number outcome.MissedOperator = 2

-- ---- requests

-- the number of the request's kind
abbrev pub tag_of : Write → ℕ
tag_of (write.PutCaller caller) = 1
tag_of (write.PutPolicy policy) = 2
tag_of (write.PutPlace place) = 3
tag_of (write.PutRoute route) = 4
tag_of (write.PutVehicle vehicle) = 5
tag_of (write.PutRider rider) = 6
tag_of (write.Enter rider entered) = 7
tag_of (write.Book rider wish) = 8
tag_of (write.Change trip wish) = 9
tag_of (write.Cancel trip) = 10
tag_of (write.Outcome trip outcome) = 11
tag_of (write.Travel day rows) = 12

abbrev pub fields_of : Write → List ℕ
fields_of (write.PutCaller caller) = caller_bytes caller
fields_of (write.PutPolicy policy) = policy_bytes policy
fields_of (write.PutPlace place) = place_bytes place
fields_of (write.PutRoute route) = route_bytes route
fields_of (write.PutVehicle vehicle) = vehicle_bytes vehicle
fields_of (write.PutRider rider) = rider_bytes rider
fields_of (write.Enter rider entered) = number_bytes rider ++ entry_bytes entered
fields_of (write.Book rider wish) = number_bytes rider ++ wish_bytes wish
fields_of (write.Change trip wish) = number_bytes trip ++ wish_bytes wish
fields_of (write.Cancel trip) = number_bytes trip
fields_of (write.Outcome trip outcome) = number_bytes trip ++ outcome_number outcome ∷ []
fields_of (write.Travel day rows) = number_bytes day ++ list_bytes row_bytes rows

-- a request: its tag and its fields
abbrev pub spelling : Write → List ℕ
spelling asked = tag_of asked ∷ fields_of asked

-- the bytes spell a request that may be asked
abbrev pub IsSpelling : List ℕ → Type 0
IsSpelling bytes = (asked : Write) × IsRequest asked × (bytes ≡ spelling asked)
