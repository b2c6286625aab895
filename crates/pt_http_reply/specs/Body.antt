-- Bodies of replies: compact JSON with keys in byte order, and texts such as manifests and letters.
use Rattle.std.specs.Prelude.{◌≡◌, ℕ, List, ◌++◌, Bool, true, false, map, codes, decimal, pos, Ok, Err}
use Rattle.std.specs.List.{join_with_byte}
use Rattle.pt_base_values.specs.DateText.{IsDateText}
use Rattle.pt_base_values.specs.Rule.{name_of}
use Rattle.pt_rights_files.specs.declared.case_file.Standing.{Standing}
use Rattle.pt_rights_files.specs.declared.case_file.Standing.TheVariants as standing
use Rattle.pt_rights_files.specs.declared.conditions.Condition.{Condition}
use Rattle.pt_rights_files.specs.declared.entry.Grant.{Grant}
use Rattle.pt_rights_conditions.specs.Texts.{condition_text}
use Rattle.pt_desk_store.specs.declared.keeper.StoreFault.TheVariants.{Memory, Store}
use Rattle.pt_manifest.specs.Export.{trips_text}
use Rattle.pt_manifest.specs.Letters.{letter_text}
use Rattle.pt_manifest.specs.Manifests.{day_sheet_text, manifest_text}
use Rattle.pt_desk_requests.specs.declared.request.Answer.{Answer}
use Rattle.pt_desk_requests.specs.declared.request.Answer.TheVariants as answer
use Rattle.pt_http_request.specs.Names.{fault_name, field_name}
use Rattle.pt_http_request.specs.declared.fault.RequestFault.{RequestFault}
use Rattle.pt_http_request.specs.declared.fault.RequestFault.TheVariants as fault
use Rattle.pt_http_reply.specs.Json.{truth_text, quoted}
use Rattle.pt_http_reply.specs.Trips.{confirmation_body, IsTripsBody}
use Rattle.pt_http_reply.specs.declared.response.Response.{Response}
use Rattle.pt_http_reply.specs.declared.response.Response.TheVariants as response

-- a condition of a grant, as a JSON text
abbrev pub condition_json : Condition → List ℕ
condition_json condition = quoted (condition_text condition)

-- the conditions of a grant in their order, with a comma (byte 44) between each two
abbrev pub conditions_text : List Condition → List ℕ
conditions_text members = join_with_byte 44 (map condition_json members)

-- a standing that has only a name
abbrev pub named_standing_body : List ℕ → Bool → List ℕ
named_standing_body name suspended =
    codes "{\"standing\":\"" ++ name ++ codes "\",\"suspended\":" ++ truth_text suspended ++ codes "}"

-- a grant; `until` is the text of its last day
abbrev pub granted_body : Grant → Bool → List ℕ → List ℕ
granted_body grant suspended until =
    codes "{\"conditions\":[" ++ conditions_text grant.conditions ++ codes "],\"standing\":\"granted\",\"suspended\":"
    ++ truth_text suspended ++ codes ",\"until\":\"" ++ until ++ codes "\"}"

-- the body with a resident's standing
abbrev pub IsStandingBody : Standing → Bool → List ℕ → Type 0
IsStandingBody standing.Presumed suspended body = body ≡ named_standing_body (codes "presumed") suspended
IsStandingBody standing.AppealOverdue suspended body = body ≡ named_standing_body (codes "appeal-overdue") suspended
IsStandingBody standing.None suspended body = body ≡ named_standing_body (codes "none") suspended
IsStandingBody (standing.Granted grant) suspended body =
    (until : List ℕ) × IsDateText (pos grant.until) until × (body ≡ granted_body grant suspended until)

-- a visitor's standing: whether the visitor may use the day (49 CFR 37.127(e)); no visitor is suspended
abbrev pub visitor_body : Bool → List ℕ
visitor_body true = named_standing_body (codes "visitor") false
visitor_body false = named_standing_body (codes "visitor-used") false

-- a denial with the name of its rule
abbrev pub denial_body : List ℕ → List ℕ
denial_body name = codes "{\"denied\":\"" ++ name ++ codes "\"}"

-- the body with the answer to a request
abbrev pub IsAnswerBody : Answer → List ℕ → Type 0
IsAnswerBody answer.Done body = body ≡ codes "{\"done\":true}"
IsAnswerBody (answer.Entered place) body = body ≡ codes "{\"entered\":" ++ decimal place ++ codes "}"
IsAnswerBody (answer.Standing standing suspended) body = IsStandingBody standing suspended body
IsAnswerBody (answer.Visitor may_use) body = body ≡ visitor_body may_use
IsAnswerBody (answer.Booked told) body = body ≡ confirmation_body told
IsAnswerBody answer.Possible body = body ≡ codes "{\"possible\":true}"
IsAnswerBody (answer.Trips trips) body = IsTripsBody trips body
IsAnswerBody (answer.Letter letter) body = body ≡ letter_text letter
IsAnswerBody (answer.Manifest day sheet) body = body ≡ manifest_text day sheet
IsAnswerBody (answer.DaySheet sheet) body = body ≡ day_sheet_text sheet
IsAnswerBody (answer.Export trips) body = body ≡ trips_text trips
IsAnswerBody (answer.Denied rule) body = body ≡ denial_body (name_of rule)

-- the body for a fault in the request; a bad field is named
abbrev pub fault_body : RequestFault → List ℕ
fault_body (fault.Field name) =
    codes "{\"denied\":\"http.field\",\"field\":\"" ++ field_name name ++ codes "\"}"
fault_body refused = denial_body (fault_name refused)

-- the body of a reply
abbrev pub IsBody : Response → List ℕ → Type 0
IsBody (response.Answered (Ok told)) body = IsAnswerBody told body
IsBody (response.Answered (Err Memory)) body = body ≡ denial_body (codes "desk.memory")
IsBody (response.Answered (Err Store)) body = body ≡ denial_body (codes "desk.store")
IsBody (response.Refused refused) body = body ≡ fault_body refused
