-- The names of methods, fields and faults of a request.
use Rattle.std.specs.Prelude.{ℕ, List, codes}
use Rattle.pt_http_request.specs.declared.fault.AllowedMethod.{AllowedMethod}
use Rattle.pt_http_request.specs.declared.fault.AllowedMethod.TheVariants.{Get, Post}
use Rattle.pt_http_request.specs.declared.field_name.FieldName.{FieldName}
use Rattle.pt_http_request.specs.declared.field_name.FieldName.TheVariants as field
use Rattle.pt_http_request.specs.declared.fault.RequestFault.{RequestFault}
use Rattle.pt_http_request.specs.declared.fault.RequestFault.TheVariants as fault

-- the name of a method in HTTP
abbrev pub method_name : AllowedMethod → List ℕ
method_name Get = codes "GET"
method_name Post = codes "POST"

-- the name of a header of a request, or of a field of a body
abbrev pub field_name : FieldName → List ℕ
field_name field.DeskKey = codes "Desk-Key"
field_name field.DeskNumber = codes "Desk-Number"
field_name field.Id = codes "id"
field_name field.Role = codes "role"
field_name field.Subject = codes "subject"
field_name field.Digest = codes "digest"
field_name field.Kind = codes "kind"
field_name field.Attendant = codes "attendant"
field_name field.Wheelchair = codes "wheelchair"
field_name field.Entry = codes "entry"
field_name field.Until = codes "until"
field_name field.Conditions = codes "conditions"
field_name field.Reasons = codes "reasons"
field_name field.Against = codes "against"
field_name field.Basis = codes "basis"
field_name field.Starts = codes "starts"
field_name field.Ends = codes "ends"
field_name field.Base = codes "base"
field_name field.Transfer = codes "transfer"
field_name field.Fare = codes "fare"
field_name field.Service = codes "service"
field_name field.ExtraRide = codes "extra_ride"
field_name field.MinMissed = codes "min_missed"
field_name field.Percent = codes "percent"
field_name field.SpanDays = codes "span_days"
field_name field.X = codes "x"
field_name field.Y = codes "y"
field_name field.Core = codes "core"
field_name field.Width = codes "width"
field_name field.Points = codes "points"
field_name field.Accessible = codes "accessible"
field_name field.Days = codes "days"
field_name field.First = codes "first"
field_name field.Last = codes "last"
field_name field.FromDay = codes "from_day"
field_name field.Depot = codes "depot"
field_name field.Capacity = codes "capacity"
field_name field.Opens = codes "opens"
field_name field.Closes = codes "closes"
field_name field.Duration = codes "duration"
field_name field.Chairs = codes "chairs"
field_name field.Rider = codes "rider"
field_name field.Day = codes "day"
field_name field.Wish = codes "wish"
field_name field.From = codes "from"
field_name field.To = codes "to"
field_name field.By = codes "by"
field_name field.Companions = codes "companions"
field_name field.Outcome = codes "outcome"
field_name field.Due = codes "due"
field_name field.Trip = codes "trip"
field_name field.Vehicle = codes "vehicle"
field_name field.WindowFrom = codes "window_from"
field_name field.WindowTo = codes "window_to"
field_name field.Status = codes "status"

-- the name of a fault
abbrev pub fault_name : RequestFault → List ℕ
fault_name fault.Head = codes "http.head"
fault_name fault.Length = codes "http.length"
fault_name fault.Path = codes "http.path"
fault_name (fault.Method allowed) = codes "http.method"
fault_name fault.Json = codes "http.json"
fault_name (fault.Field name) = codes "http.field"

-- the HTTP status of a fault: Bad Request, Not Found, or Method Not Allowed
abbrev pub status_of_fault : RequestFault → ℕ
status_of_fault fault.Head = 400
status_of_fault fault.Length = 400
status_of_fault fault.Path = 404
status_of_fault (fault.Method allowed) = 405
status_of_fault fault.Json = 400
status_of_fault (fault.Field name) = 400
