-- The parts of a message spell one message, or have one first fault, and not both.
use Rattle.std.proofs.Common.{◌≡◌, refl, ℕ, List, ap, sym, subst, inl, inr, ◌∙◌}
use Rattle.std.proofs.lemmas.Bool.{false_from_ne_true}
use Rattle.std.proofs.lemmas.Str.{IsUtf8-from_is_utf8, is_utf8-from_IsUtf8}
use Rattle.std.specs.Prelude.{bytes_eq, codes, Bool, true, false, if◌then◌else◌, Option, Some, None, Result, Ok, Err}
use Rattle.std.specs.Prelude.{IfOk, IfErr, IsSome, IsUtf8}
use Rattle.std.specs.Str.{is_utf8}
use Rattle.matchit.specs.Router.{RouteOf}
use Rattle.matchit.specs.Rows.{RowsOf}
use Rattle.serde_json.specs.Data.{Data}
use Rattle.serde_json.specs.Find.{as_object}
use Rattle.serde_json.specs.Read.{read}
use Rattle.pt_base_values.specs.SpelledNumber.{SpellsNumber}
use Rattle.pt_http_request.specs.declared.fault.AllowedMethod.{AllowedMethod}
use Rattle.pt_http_request.specs.declared.fault.AllowedMethod.TheVariants as way
use Rattle.pt_http_request.specs.declared.field_name.FieldName.{FieldName}
use Rattle.pt_http_request.specs.declared.fault.RequestFault.{RequestFault}
use Rattle.pt_http_request.specs.declared.fault.RequestFault.TheVariants as fault
use Rattle.pt_http_request.specs.Fields.{needed, ◌>>=◌}
use Rattle.pt_http_request.specs.Faults.{OnRefused}
use Rattle.pt_http_request.specs.Headers.{values_named, IsLengthIn, IsBodyLength}
use Rattle.pt_http_request.specs.Messages.{body_text, object_from, Sent, sent, by_field, read_with, write_with}
use Rattle.pt_http_request.specs.Messages.{write_from, request_in, message_in, SpellsMessage, IsMessageFault}
use Rattle.pt_http_request.specs.Messages.{IsSameMessage, IsMessageRead, IsRefusedFor}
use Rattle.pt_http_request.specs.Targets.{target_in, path_of}
use Rattle.pt_http_request.specs.declared.fault.MessageFault.{MessageFault}
use Rattle.pt_http_request.specs.declared.fault.MessageFault.TheVariants.{Refused, Memory}
use Rattle.pt_http_request.specs.declared.message.Message.{Message}
use Rattle.pt_http_request.specs.declared.targets.Path.{Path}
use Rattle.pt_http_request.specs.declared.targets.Target.{Target}
use Rattle.pt_http_request.specs.declared.targets.Target.TheVariants as target
use Rattle.pt_http_request.specs.declared.targets.WriteTarget.{WriteTarget}
use Rattle.pt_http_request.proofs.ListLemmas.{value-unique, error-unique, value-or-error}

-- ---- lengths of bodies

length-unique : (values : List (List ℕ)) (one other : ℕ) → IsLengthIn values one → IsLengthIn values other → one ≡ other
length-unique values one other (inl a) (inl b) = a.1 ∙ sym b.1
length-unique values one other (inl a) (inr b) = cc (a.0, b.1)
length-unique values one other (inr a) (inl b) = cc (a.1, b.0)
length-unique values one other (inr a) (inr b) =
    let same : a.0 ≡ b.0 = cc (a.1, b.1) in
    let here : SpellsNumber 16 16_384 b.0 one = subst (λ (text : List ℕ). SpellsNumber 16 16_384 text one) same a.2 in
    sym here.2 ∙ b.2.2

-- header lines give one length of the body
pub body_length_unique : (lines : List (List ℕ × List ℕ)) (one other : ℕ) → IsBodyLength lines one
    → IsBodyLength lines other → one ≡ other
body_length_unique lines one other a b = length-unique (values_named (codes "content-length") lines) one other a.1 b.1

-- ---- messages

sent-same : (one other : Message) → sent one ≡ sent other → IsSameMessage one other
sent-same one other same = record {
  key = ap (λ s. s.0) same;
  number = ap (λ s. s.1) same;
  request
      = ap (λ s. s.2) same;
}

-- the parts of a message spell one message
pub message_unique : (routes : RowsOf (RouteOf Path)) (method whole : List ℕ) (lines : List (List ℕ × List ℕ))
    (body : List ℕ) (one other : Message) → SpellsMessage routes method whole lines body one
    → SpellsMessage routes method whole lines body other → IsSameMessage one other
message_unique routes method whole lines body one other a b = sent-same one other (value-unique _ _ _ a b)

-- if they spell a message, they have no fault
pub message_or_fault : (routes : RowsOf (RouteOf Path)) (method whole : List ℕ) (lines : List (List ℕ × List ℕ))
    (body : List ℕ) (one : Message) (why : RequestFault) → SpellsMessage routes method whole lines body one
    → IsMessageFault routes method whole lines body why → ⊥
message_or_fault routes method whole lines body one why a wrong = value-or-error _ _ _ a wrong

-- if its path has a target, they are read by it
by_target : (routes : RowsOf (RouteOf Path)) (method whole : List ℕ) (lines : List (List ℕ × List ℕ)) (body : List ℕ)
    (asked : Target) → target_in routes (path_of whole) ≡ Some asked
    → message_in routes method whole lines body ≡ request_in method lines body asked
by_target routes method whole lines body asked there = rw there refl

-- a result for the message to a path's target is one for the whole message
pub message-read : (routes : RowsOf (RouteOf Path)) (method whole : List ℕ) (lines : List (List ℕ × List ℕ))
    (body : List ℕ) (asked : Target) (result : Result Message MessageFault)
    → target_in routes (path_of whole) ≡ Some asked → IfOk result (λ read. request_in method lines body asked ≡ Ok
    (sent read)) → IfErr result (OnRefused (λ why. request_in method lines body asked ≡ Err why))
    → (message : Message) → SpellsMessage routes method whole lines body message → IsMessageRead message result
message-read routes method whole lines body asked (Ok read) there ok err message spelled
    = message_unique routes method whole lines body read message
    (by_target routes method whole lines body asked there ∙ ok) spelled
message-read routes method whole lines body asked (Err (Refused why)) there ok err message spelled
    = value-or-error _ _ _ spelled (by_target routes method whole lines body asked there ∙ err)
message-read routes method whole lines body asked (Err Memory) there ok err message spelled = tt

-- the same for a fault
pub message-refused : (routes : RowsOf (RouteOf Path)) (method whole : List ℕ) (lines : List (List ℕ × List ℕ))
    (body : List ℕ) (asked : Target) (result : Result Message MessageFault)
    → target_in routes (path_of whole) ≡ Some asked → IfOk result (λ read. request_in method lines body asked ≡ Ok
    (sent read)) → IfErr result (OnRefused (λ why. request_in method lines body asked ≡ Err why))
    → (why : RequestFault) → IsMessageFault routes method whole lines body why → IsRefusedFor why result
message-refused routes method whole lines body asked (Ok read) there ok err why wrong
    = value-or-error _ _ _ (by_target routes method whole lines body asked there ∙ ok) wrong
message-refused routes method whole lines body asked (Err (Refused given)) there ok err why wrong
    = error-unique _ _ _ (by_target routes method whole lines body asked there ∙ err) wrong
message-refused routes method whole lines body asked (Err Memory) there ok err why wrong = tt

-- ---- faults

-- a fault after the head and the length of the body
abbrev pub is_of_parts : RequestFault → Bool
is_of_parts fault.Head = false
is_of_parts fault.Length = false
is_of_parts why = true

field_of_parts : {A : Type 0} (found : Result A FieldName) (why : RequestFault) → by_field found ≡ Err why
    → is_of_parts why ≡ true
field_of_parts (Ok value) why e = cc e
field_of_parts (Err name) why e =
    let same : fault.Field name ≡ why = cc e in
    ap is_of_parts (sym same)

json_of_parts : (lines : List (List ℕ × List ℕ)) (asked : WriteTarget) (found : Option Data) (why : RequestFault)
    → (needed found fault.Json >>= (λ f. by_field (write_with lines asked f))) ≡ Err why → is_of_parts why ≡ true
json_of_parts lines asked None why e =
    let same : fault.Json ≡ why = cc e in
    ap is_of_parts (sym same)
json_of_parts lines asked (Some f) why e = field_of_parts (write_with lines asked f) why e

method_of_parts : (test : Bool) (way : AllowedMethod) (sent : Result Sent RequestFault) (why : RequestFault)
    → (sent ≡ Err why → is_of_parts why ≡ true) → (if test then sent else Err (fault.Method way)) ≡ Err why
    → is_of_parts why ≡ true
method_of_parts true way sent why rest e = rest e
method_of_parts false way sent why rest e =
    let same : fault.Method way ≡ why = cc e in
    ap is_of_parts (sym same)

request_of_parts : (method : List ℕ) (lines : List (List ℕ × List ℕ)) (body : List ℕ) (found : Option Target)
    (why : RequestFault) → (needed found fault.Path >>= (λ asked. request_in method lines body asked)) ≡ Err why
    → is_of_parts why ≡ true
request_of_parts method lines body None why e =
    let same : fault.Path ≡ why = cc e in
    ap is_of_parts (sym same)
request_of_parts method lines body (Some (target.Read asked)) why e
    = method_of_parts (bytes_eq method (codes "GET")) way.Get (by_field (read_with lines asked)) why (field_of_parts
    (read_with lines asked) why) e
request_of_parts method lines body (Some (target.Write asked)) why e
    = method_of_parts (bytes_eq method (codes "POST")) way.Post (write_from lines asked body) why
    (json_of_parts lines asked (object_from (body_text body)) why) e

-- a message that has its parts is not refused for its head or its length
pub fault_of_parts : (routes : RowsOf (RouteOf Path)) (method whole : List ℕ) (lines : List (List ℕ × List ℕ))
    (body : List ℕ) (why : RequestFault) → IsMessageFault routes method whole lines body why → is_of_parts why ≡ true
fault_of_parts routes method whole lines body why refused = request_of_parts method lines body (target_in routes
    (path_of whole)) why refused

-- ---- bodies

pub no_text : (text : List ℕ) → ¬ (IsUtf8 text) → object_from text ≡ None
no_text text not = let test : is_utf8 text ≡ false = false_from_ne_true (is_utf8 text) (λ e. not
    (IsUtf8-from_is_utf8 text e)) in rw test refl

pub object-found : (text : List ℕ) (found : Data) → IsUtf8 text → read text ≡ Some found → IsSome (as_object found)
    → object_from text ≡ Some found
object-found text found is held object = let test = is_utf8-from_IsUtf8 text is in rw (test, held, object) refl
