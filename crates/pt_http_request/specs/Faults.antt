-- Facts of a fault, unless the error is out of memory.
use Rattle.pt_http_request.specs.declared.field_name.FieldName.{FieldName}
use Rattle.pt_http_request.specs.declared.fault.RequestFault.{RequestFault}
use Rattle.pt_http_request.specs.declared.fault.RequestFault.TheVariants as fault
use Rattle.pt_http_request.specs.declared.fault.MessageFault.{MessageFault}
use Rattle.pt_http_request.specs.declared.fault.MessageFault.TheVariants.{Refused, Memory}

-- the fault names a field, and the fact holds for that field
abbrev pub OnField : (FieldName → Type 0) → RequestFault → Type 0
OnField P (fault.Field name) = P name
OnField P _ = ⊥

-- the fact holds for the fault, unless the error is out of memory
abbrev pub OnRefused : (RequestFault → Type 0) → MessageFault → Type 0
OnRefused P (Refused why) = P why
OnRefused P Memory = Unit {0}
