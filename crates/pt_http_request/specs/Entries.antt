-- The entry of a case file that a body spells. Fields are read in order, and the first bad field is the fault.
use Rattle.std.specs.Prelude.{ℕ, List, length, codes, bytes_eq, Option, Some, None, Result, Ok, if◌then◌else◌}
use Rattle.std.specs.Prelude.{option_and_then}
use Rattle.pt_rights_files.specs.Limits.{most_conditions}
use Rattle.pt_rights_files.specs.declared.conditions.Condition.{Condition}
use Rattle.pt_rights_files.specs.declared.entry.Entry.{Entry}
use Rattle.pt_rights_files.specs.declared.entry.Entry.TheVariants as entry
use Rattle.pt_rights_files.specs.declared.entry.Grant.{Grant}
use Rattle.serde_json.specs.Data.{Data}
use Rattle.serde_json.specs.Find.{get, as_str}
use Rattle.pt_base_values.specs.SpelledNumber.{is_within}
use Rattle.pt_http_request.specs.Conditions.{condition_from}
use Rattle.pt_http_request.specs.Fields.{text_at, day_at, reasons_at, number_within, needed, result_map, ◌>>=◌}
use Rattle.pt_http_request.specs.Numbers.{last_position}
use Rattle.pt_http_request.specs.Routes.{each, values_of}
use Rattle.pt_http_request.specs.declared.entries.EntryKind.{EntryKind}
use Rattle.pt_http_request.specs.declared.entries.EntryKind.TheVariants as kind
use Rattle.pt_http_request.specs.Names.{field_name}
use Rattle.pt_http_request.specs.declared.field_name.FieldName.{FieldName}
use Rattle.pt_http_request.specs.declared.field_name.FieldName.TheVariants as field

-- the kind of entry of this name
abbrev pub kind_named : List ℕ → Option EntryKind
kind_named name =
    if bytes_eq name (codes "complete") then Some kind.Complete
    else (if bytes_eq name (codes "grant") then Some kind.Grant
    else (if bytes_eq name (codes "refuse") then Some kind.Refuse
    else (if bytes_eq name (codes "appeal") then Some kind.Appeal
    else (if bytes_eq name (codes "heard") then Some kind.Heard
    else (if bytes_eq name (codes "appeal-granted") then Some kind.AppealGranted
    else (if bytes_eq name (codes "appeal-denied") then Some kind.AppealDenied
    else (if bytes_eq name (codes "overturn") then Some kind.Overturn
    else (if bytes_eq name (codes "notice") then Some kind.Notice
    else (if bytes_eq name (codes "notice-heard") then Some kind.NoticeHeard
    else (if bytes_eq name (codes "suspend") then Some kind.Suspend
    else None))))))))))

-- the kind of the entry that a body spells
abbrev pub kind_in : Data → Result EntryKind FieldName
kind_in body = do
  name ← text_at field.Entry body
  needed (kind_named name) field.Entry

-- the condition that a value spells
abbrev pub condition_in : Data → Option Condition
condition_in value = option_and_then condition_from (as_str value)

-- the conditions, if they are one to four
abbrev pub few : List Condition → Option (List Condition)
few members = if is_within 1 most_conditions (length members) then Some members else None

-- the conditions that a list spells
abbrev pub conditions_from : List Data → Option (List Condition)
conditions_from values = option_and_then few (each condition_in values)

-- the conditions that a body lists
abbrev pub conditions_at : Data → Option (List Condition)
conditions_at body =
    option_and_then conditions_from (option_and_then values_of (get (field_name field.Conditions) body))

-- the grant that a body spells: until, conditions
abbrev pub grant_in : Data → Result Grant FieldName
grant_in body = do
  until ← day_at field.Until body
  conditions ← needed (conditions_at body) field.Conditions
  Ok (record { until = until; conditions = conditions })

-- the position of the entry that an appeal is against
abbrev pub place_in_file : Data → Result ℕ FieldName
place_in_file body = number_within field.Against 0 last_position body

-- the suspension that a body spells: starts, ends, reasons
abbrev pub suspension_in : Data → Result Entry FieldName
suspension_in body = do
  starts ← day_at field.Starts body
  ends ← day_at field.Ends body
  reasons ← reasons_at field.Reasons body
  Ok (entry.Suspend starts ends reasons)

-- the entry of a kind that a body spells
abbrev pub entry_of_kind : EntryKind → Data → Result Entry FieldName
entry_of_kind kind.Complete body = Ok entry.Complete
entry_of_kind kind.Grant body = result_map entry.Grant (grant_in body)
entry_of_kind kind.Refuse body = result_map entry.Refuse (reasons_at field.Reasons body)
entry_of_kind kind.Appeal body = result_map entry.Appeal (place_in_file body)
entry_of_kind kind.Heard body = Ok entry.Heard
entry_of_kind kind.AppealGranted body = result_map entry.AppealGranted (grant_in body)
entry_of_kind kind.AppealDenied body = result_map entry.AppealDenied (reasons_at field.Reasons body)
entry_of_kind kind.Overturn body = Ok entry.Overturn
entry_of_kind kind.Notice body = result_map entry.Notice (reasons_at field.Basis body)
entry_of_kind kind.NoticeHeard body = Ok entry.NoticeHeard
entry_of_kind kind.Suspend body = suspension_in body

-- the entry that a body spells: its kind, then the fields of that kind
abbrev pub entry_in : Data → Result Entry FieldName
entry_in body = do
  which ← kind_in body
  entry_of_kind which body
