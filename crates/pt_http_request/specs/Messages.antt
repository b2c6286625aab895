-- The request in a message, from its head and body. Parts are read in order, and the first bad part is the fault.
use Rattle.std.specs.Prelude.{◌≡◌, ℕ, List, [], ◌∷◌, codes, bytes_eq, Option, Some, None, is_some, Result, Ok, Err}
use Rattle.std.specs.Prelude.{option_map, option_and_then, if◌then◌else◌}
use Rattle.std.specs.Str.{is_utf8}
use Rattle.matchit.specs.Router.{RouteOf}
use Rattle.matchit.specs.Rows.{RowsOf}
use Rattle.pt_desk_requests.specs.declared.request.Read.{Read}
use Rattle.pt_desk_requests.specs.declared.request.Request.{Request}
use Rattle.pt_desk_requests.specs.declared.request.Request.TheVariants as request
use Rattle.pt_desk_requests.specs.declared.request.Write.{Write}
use Rattle.pt_desk_requests.specs.declared.request.Write.TheVariants as write
use Rattle.serde_json.specs.Data.{Data}
use Rattle.serde_json.specs.Find.{as_object}
use Rattle.serde_json.specs.Read.{read}
use Rattle.pt_http_request.specs.declared.fault.AllowedMethod.TheVariants as way
use Rattle.pt_http_request.specs.declared.field_name.FieldName.{FieldName}
use Rattle.pt_http_request.specs.declared.fault.RequestFault.{RequestFault}
use Rattle.pt_http_request.specs.declared.fault.RequestFault.TheVariants as fault
use Rattle.pt_http_request.specs.Callers.{caller_in}
use Rattle.pt_http_request.specs.Riders.{rider_in}
use Rattle.pt_http_request.specs.Entries.{entry_in}
use Rattle.pt_http_request.specs.Fields.{needed, result_map, ◌>>=◌}
use Rattle.pt_http_request.specs.Policy.{policy_in}
use Rattle.pt_http_request.specs.Places.{place_in}
use Rattle.pt_http_request.specs.Routes.{route_in}
use Rattle.pt_http_request.specs.Vehicles.{vehicle_in}
use Rattle.pt_http_request.specs.Trips.{wish_in, booking_in, outcome_in}
use Rattle.pt_http_request.specs.Headers.{key_in, number_in}
use Rattle.pt_http_request.specs.declared.fault.MessageFault.{MessageFault}
use Rattle.pt_http_request.specs.declared.fault.MessageFault.TheVariants.{Refused, Memory}
use Rattle.pt_http_request.specs.declared.message.Message.{Message}
use Rattle.pt_http_request.specs.Targets.{target_in, path_of}
use Rattle.pt_http_request.specs.declared.targets.Path.{Path}
use Rattle.pt_http_request.specs.declared.targets.Target.{Target}
use Rattle.pt_http_request.specs.declared.targets.Target.TheVariants as target
use Rattle.pt_http_request.specs.declared.targets.WriteTarget.{WriteTarget}
use Rattle.pt_http_request.specs.declared.targets.WriteTarget.TheVariants as writes

-- the text of a body; an empty body means an empty object
abbrev pub body_text : List ℕ → List ℕ
body_text [] = codes "{}"
body_text (byte ∷ bytes) = byte ∷ bytes

-- the value, if it is an object
abbrev pub object_of : Data → Option Data
object_of found = if is_some (as_object found) then Some found else None

-- the JSON object that a text spells
abbrev pub object_from : List ℕ → Option Data
object_from text = if is_utf8 text then option_and_then object_of (read text) else None

-- the write to this target that the fields of a body spell, or the first bad field
abbrev pub write_in : WriteTarget → Data → Result Write FieldName
write_in writes.Callers body = result_map write.PutCaller (caller_in body)
write_in writes.Policy body = result_map write.PutPolicy (policy_in body)
write_in writes.Places body = result_map write.PutPlace (place_in body)
write_in writes.Routes body = result_map write.PutRoute (route_in body)
write_in writes.Riders body = result_map write.PutRider (rider_in body)
write_in writes.Vehicles body = result_map write.PutVehicle (vehicle_in body)
write_in (writes.Entries rider) body = result_map (write.Enter rider) (entry_in body)
write_in writes.Trips body = result_map (λ booking. write.Book booking.0 booking.1) (booking_in body)
write_in (writes.Change trip) body = result_map (write.Change trip) (wish_in body)
write_in (writes.Cancel trip) body = Ok (write.Cancel trip)
write_in (writes.Outcome trip) body = result_map (write.Outcome trip) (outcome_in body)

-- ---- whole messages

-- the content of a message: the caller's key, the number for a write, and the request
abbrev pub Sent : Type 0
Sent = Option (List ℕ) × ℕ × Request

abbrev pub sent : Message → Sent
sent message = (option_map (λ key. key.items) message.key, message.number, message.request)

-- a fault of a field as a fault of the message
abbrev pub by_field : {A : Type 0} → Result A FieldName → Result A RequestFault
by_field (Ok value) = Ok value
by_field (Err name) = Err (fault.Field name)

-- the content of a read: the key is read
abbrev pub read_with : List (List ℕ × List ℕ) → Read → Result Sent FieldName
read_with lines asked = do
  key ← key_in lines
  Ok (key, 0, request.Read asked)

-- the content of a write with this object: key, number and fields are read in this order
abbrev pub write_with : List (List ℕ × List ℕ) → WriteTarget → Data → Result Sent FieldName
write_with lines asked found = do
  key ← key_in lines
  number ← number_in lines
  write ← write_in asked found
  Ok (key, number, request.Write write)

-- the content of a write with this body: JSON is checked first
abbrev pub write_from : List (List ℕ × List ℕ) → WriteTarget → List ℕ → Result Sent RequestFault
write_from lines asked body = do
  found ← needed (object_from (body_text body)) fault.Json
  by_field (write_with lines asked found)

-- the content of a message to this target: the method is checked first
abbrev pub request_in : List ℕ → List (List ℕ × List ℕ) → List ℕ → Target → Result Sent RequestFault
request_in method lines body (target.Read asked) =
    if bytes_eq method (codes "GET") then by_field (read_with lines asked) else Err (fault.Method way.Get)
request_in method lines body (target.Write asked) =
    if bytes_eq method (codes "POST") then write_from lines asked body else Err (fault.Method way.Post)

-- the content of a message: the path is checked first
abbrev pub message_in : RowsOf (RouteOf Path) → List ℕ → List ℕ → List (List ℕ × List ℕ) → List ℕ
    → Result Sent RequestFault
message_in routes method whole lines body = do
  asked ← needed (target_in routes (path_of whole)) fault.Path
  request_in method lines body asked

-- the parts spell this message
abbrev pub SpellsMessage : RowsOf (RouteOf Path) → List ℕ → List ℕ → List (List ℕ × List ℕ) → List ℕ → Message → Type 0
SpellsMessage routes method whole lines body message = message_in routes method whole lines body ≡ Ok (sent message)

-- this is the first fault in the parts
abbrev pub IsMessageFault : RowsOf (RouteOf Path) → List ℕ → List ℕ → List (List ℕ × List ℕ) → List ℕ → RequestFault
    → Type 0
IsMessageFault routes method whole lines body why = message_in routes method whole lines body ≡ Err why

-- ---- results of reading

-- the same key, number and request
pub record IsSameMessage (one other : Message) : Type 0 where
  pub key : option_map (λ key. key.items) one.key ≡ option_map (λ key. key.items) other.key
  pub number : one.number ≡ other.number
  pub request : one.request ≡ other.request

-- the result is this message, or the error is out of memory
abbrev pub IsMessageRead : Message → Result Message MessageFault → Type 0
IsMessageRead message (Ok read) = IsSameMessage read message
IsMessageRead message (Err (Refused why)) = ⊥
IsMessageRead message (Err Memory) = Unit {0}

-- the result is this fault, or the error is out of memory
abbrev pub IsRefusedFor : RequestFault → Result Message MessageFault → Type 0
IsRefusedFor fault (Ok read) = ⊥
IsRefusedFor fault (Err (Refused why)) = why ≡ fault
IsRefusedFor fault (Err Memory) = Unit {0}
