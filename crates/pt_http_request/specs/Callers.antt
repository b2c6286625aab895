-- The caller that a body spells. Fields are read in order, and the first bad field is the fault.
use Rattle.std.specs.Prelude.{◌==◌, ℕ, List, codes, bytes_eq, Result, Ok, Err, if◌then◌else◌}
use Rattle.pt_desk_requests.specs.declared.caller.Caller.{Caller}
use Rattle.pt_desk_requests.specs.declared.caller.Role.{Role}
use Rattle.pt_desk_requests.specs.declared.caller.Role.TheVariants as role
use Rattle.serde_json.specs.Data.{Data}
use Rattle.pt_http_request.specs.Fields.{whole_at, text_at, id_at, digest_at, ◌>>=◌}
use Rattle.pt_http_request.specs.declared.field_name.FieldName.{FieldName}
use Rattle.pt_http_request.specs.declared.field_name.FieldName.TheVariants as field

-- a rider's or a driver's role, with the number of the rider or the vehicle as its subject
abbrev pub role_with_subject : (ℕ → Role) → Data → Result Role FieldName
role_with_subject of body = do
  subject ← id_at field.Subject body
  Ok (of subject)

-- a role that names nobody: its subject must be 0
abbrev pub role_alone : Role → Data → Result Role FieldName
role_alone plain body = do
  subject ← whole_at field.Subject body
  if subject == 0 then Ok plain else Err field.Subject

-- the role of this name
abbrev pub role_named : List ℕ → Data → Result Role FieldName
role_named name body =
    if bytes_eq name (codes "rider") then role_with_subject role.Rider body
    else (if bytes_eq name (codes "clerk") then role_alone role.Clerk body
    else (if bytes_eq name (codes "examiner") then role_alone role.Examiner body
    else (if bytes_eq name (codes "officer") then role_alone role.Officer body
    else (if bytes_eq name (codes "dispatcher") then role_alone role.Dispatcher body
    else (if bytes_eq name (codes "driver") then role_with_subject role.Driver body
    else (if bytes_eq name (codes "admin") then role_alone role.Admin body
    else Err field.Role))))))

-- the caller that a body spells: id, role, subject, digest
abbrev pub caller_in : Data → Result Caller FieldName
caller_in body = do
  id ← id_at field.Id body
  name ← text_at field.Role body
  role ← role_named name body
  digest ← digest_at field.Digest body
  Ok (record { id = id; role = role; digest = digest })
