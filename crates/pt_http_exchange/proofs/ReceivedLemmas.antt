-- Requests at the front of an input, of which an inbox holds a part.
use Rattle.std.proofs.Common.{◌≡◌, ℕ, ◌≤◌, ◌<◌, ◌+◌, ◌-◌, List, [], ◌++◌, length, take, drop, sym, ap, ◌∙◌, subst}
use Rattle.std.proofs.Common.{arith, Option, Some, None, append_assoc, length-append, length-drop, length-take}
use Rattle.std.proofs.Common.{length-take-le}
use Rattle.std.proofs.lemmas.List.{take-append-drop, take-append-le, drop-append-le, drop-drop}
use Rattle.std.specs.Io.KnownBytes.{IsAtEnd}
use Rattle.std.specs.Prelude.{IfSome, IfErr, Result, Ok, Err}
use Rattle.std.proofs.lemmas.Bool.{false≢true}
use Rattle.httparse.specs.Grammar.{RequestHead, print_request}
use Rattle.pt_http_inbox.specs.Head.{BeginsWithHead, IsHead, IsHeadWithin}
use Rattle.pt_http_inbox.specs.declared.head.Head.{Head}
use Rattle.pt_http_inbox.specs.Inbox.{ReadsOn}
use Rattle.pt_http_inbox.specs.declared.inbox.Inbox.{Inbox}
use Rattle.pt_http_inbox.proofs.ReadsLemmas.{reads_known}
use Rattle.pt_http_request.specs.declared.fault.RequestFault.{RequestFault}
use Rattle.pt_http_request.specs.declared.fault.RequestFault.TheVariants as fault
use Rattle.pt_http_request.specs.Headers.{IsBodyLength}
use Rattle.pt_http_request.specs.Messages.{SpellsMessage, IsMessageFault}
use Rattle.pt_http_request.specs.declared.message.Message.{Message}
use Rattle.pt_http_request.specs.Targets.{desk_routes}
use Rattle.pt_http_request.proofs.MessageLemmas.{body_length_unique, fault_of_parts}
use Rattle.pt_http_exchange.specs.Input.{HasInput}
use Rattle.pt_http_exchange.specs.Message.{HasNoBody, BeginsWithFault}
use Rattle.pt_http_exchange.specs.Parts.{lines_of, AreParts, BeginsWithParts}
use Rattle.matchit.specs.Router.{RouteOf}
use Rattle.matchit.specs.Rows.{RowsOf}
use Rattle.pt_http_request.specs.Faults.{OnRefused}
use Rattle.pt_http_request.specs.declared.fault.MessageFault.{MessageFault}
use Rattle.pt_http_request.specs.declared.fault.MessageFault.TheVariants.{Refused}
use Rattle.pt_http_request.specs.declared.targets.Path.{Path}
use Rattle.pt_http_exchange.specs.Received.{IsSpelledBy, BeginsWith}
use Rattle.pt_http_exchange.specs.declared.received.Received.{Received}
use Rattle.pt_http_exchange.specs.declared.received.Received.TheVariants as received

-- reads leave the input as it is
pub reads_input : {R : Type 0} (remaining : R → Option (List ℕ)) (old new : Inbox R) (input : List ℕ)
    → ReadsOn remaining old new → HasInput remaining old input → HasInput remaining new input
reads_input remaining old new input reads has =
    let on = reads_known remaining old new has.left reads has.known in
    record { left = on.0; known = on.1; whole = has.whole ∙ on.2 }

-- a property of each error holds for the error of a result
pub on_err : {T E : Type 0} {P : E → Type 0} (result : Result T E) → ((error : E) → P error) → IfErr result P
on_err (Ok value) holds = tt
on_err (Err error) holds = holds error

some_one : {A : Type 0} (a b : A) → ◌≡◌ {A = Option A} (Some a) (Some b) → a ≡ b
some_one a b same = cc

-- at the end of the input nothing is left
pub none_left : (known : Option (List ℕ)) (left : List ℕ) → IsAtEnd known → known ≡ Some left → left ≡ []
none_left None left end is = absurd (cc)
none_left (Some bytes) left end is = sym (some_one bytes left is) ∙ end

-- the first `count` bytes are this head
abbrev pub HeadIs : List ℕ → ℕ → RequestHead → Type 0
HeadIs bytes count whole = BeginsWithHead bytes whole (drop count bytes) × (count ≤ length bytes)

pub head_found : (found : Option Head) (bytes : List ℕ) (head : Head) → found ≡ Some head → IfSome found (IsHead bytes)
    → IsHead bytes head
head_found None bytes head is found = absurd (cc)
head_found (Some some) bytes head is found = subst (IsHead bytes) (some_one some head is) found

-- a head that was found has its parts in its own bytes
pub parts_in : (bytes : List ℕ) (found : Head) (is : IsHead bytes found)
    → AreParts (take found.length bytes) found is.head
parts_in bytes found is =
    let long : length (take found.length bytes) ≡ found.length = length-take-le found.length bytes is.within in
    record {
      well_formed = is.begins.reads.0;
      parts = is.parts;
      inside = subst (λ n. IsHeadWithin n found) (sym long) is.inside;
    }

-- a head that was found still has its parts when more bytes have come
pub parts_later : (bytes more longer : List ℕ) (found : Head) (is : IsHead bytes found) → longer ≡ bytes ++ more
    → AreParts (take found.length longer) found is.head
parts_later bytes more longer found is grown =
    let same : take found.length longer ≡ take found.length bytes
    = ap (take found.length) grown ∙ take-append-le found.length bytes more is.within in
    subst (λ b. AreParts b found is.head) (sym same) (parts_in bytes found is)

-- a head that was found is the first bytes of its length
pub head_is : (bytes : List ℕ) (found : Head) (is : IsHead bytes found) → HeadIs bytes found.length is.head
head_is bytes found is = (is.begins, is.within)

-- a head with these parts spells what the parts spell
pub spelled_same : (routes : RowsOf (RouteOf Path)) (method target : List ℕ) (lines : List (List ℕ × List ℕ))
    (body : List ℕ)
    (whole : RequestHead) (message : Message) → routes ≡ desk_routes
    → method ≡ whole.method → target ≡ whole.target → lines ≡ lines_of whole
    → SpellsMessage routes method target lines body message
    → SpellsMessage desk_routes whole.method whole.target (lines_of whole) body message
spelled_same routes method target lines body whole message routed is_method is_target are_lines spelled =
    rw (routed, is_method, is_target, are_lines) at spelled

-- a head with these parts has the fault of the parts
pub refused_same : (routes : RowsOf (RouteOf Path)) (method target : List ℕ) (lines : List (List ℕ × List ℕ))
    (body : List ℕ)
    (whole : RequestHead) (error : MessageFault) (why : RequestFault) → error ≡ Refused why → routes ≡ desk_routes
    → method ≡ whole.method → target ≡ whole.target → lines ≡ lines_of whole
    → OnRefused (IsMessageFault routes method target lines body) error
    → IsMessageFault desk_routes whole.method whole.target (lines_of whole) body why
refused_same routes method target lines body whole error why is routed is_method is_target are_lines refused =
    rw (is, routed, is_method, is_target, are_lines) at refused

-- it begins the whole input too
pub begins_more : (bytes more whole_input : List ℕ) (count : ℕ) (whole : RequestHead) → whole_input ≡ bytes ++ more
    → HeadIs bytes count whole → BeginsWithHead whole_input whole (drop count bytes ++ more)
begins_more bytes more input count whole is (begins, within) = record {
  reads = (
    begins.reads.0,
    is ∙ ap (λ b. b ++ more) begins.reads.1 ∙ append_assoc (print_request whole) (drop count bytes) more,
  );
  short = begins.short;
  few = begins.few;
}

-- it is still there when more bytes have come
pub head_more : (bytes more longer : List ℕ) (count : ℕ) (whole : RequestHead) → longer ≡ bytes ++ more
    → HeadIs bytes count whole → HeadIs longer count whole
head_more bytes more longer count whole is head =
    let rest : drop count longer ≡ drop count bytes ++ more = ap (drop count) is
    ∙ drop-append-le count bytes more head.1 in
    let grown : length longer ≡ length bytes + length more = ap length is ∙ length-append bytes more in (
      subst (BeginsWithHead longer whole) (sym rest) (begins_more bytes more longer count whole is head),
      omega
          (arith, grown, head.1),
    )

-- the fields of the head give no length
pub no_length : (bytes left input : List ℕ) (count : ℕ) (whole : RequestHead) → input ≡ bytes ++ left
    → HeadIs bytes count whole → ((size : ℕ) → ¬ (IsBodyLength (lines_of whole) size)) → HasNoBody input
no_length bytes left input count whole is head none = record {
  head = whole;
  after = drop count bytes ++ left;
  begins = begins_more bytes left input count whole is head;
  short = λ size taken. absurd (none size taken);
}

-- the input ends before the whole body has come
pub short_body : (bytes left input : List ℕ) (count size : ℕ) (whole : RequestHead) → input ≡ bytes ++ left → left ≡ []
    → length bytes < count + size → HeadIs bytes count whole → IsBodyLength (lines_of whole) size → HasNoBody input
short_body bytes left input count size whole is ended few head taken =
    let none : length left ≡ 0 = ap length ended in
    let after : length (drop count bytes ++ left) ≡ length (drop count bytes) + length left
    = length-append (drop count bytes) left in
    record {
      head = whole;
      after = drop count bytes ++ left;
      begins = begins_more bytes left input count whole is head;
      short = λ other given.
          let one : other ≡ size = body_length_unique (lines_of whole) other size given taken in
          omega (arith, one, after, none, few, head.1, length-drop count bytes);
    }

-- the head and the body have come
pub whole_parts : (bytes left input body : List ℕ) (count size : ℕ) (whole : RequestHead) → input ≡ bytes ++ left
    → count + size ≤ length bytes → HeadIs bytes count whole → IsBodyLength (lines_of whole) size
    → body ≡ take size (drop count bytes) → BeginsWithParts input whole body (drop (count + size) bytes ++ left)
whole_parts bytes left input body count size whole is fits head taken is_body =
    let rest = drop (count + size) bytes in
    let split : drop count bytes ≡ body ++ rest
    = sym (take-append-drop size (drop count bytes)) ∙ ap (λ b. b ++ drop size (drop count bytes)) (sym is_body)
    ∙ ap (λ r. body ++ r) (drop-drop size count bytes) in
    let after : drop count bytes ++ left ≡ body ++ (rest ++ left) = ap (λ b. b ++ left) split
    ∙ append_assoc body rest left in
    let long : length body ≡ size = ap length is_body ∙ omega
    (arith, fits, length-drop count bytes, length-take size (drop count bytes)) in
    record {
      begins = subst (BeginsWithHead input whole) after (begins_more bytes left input count whole is head);
      body_length = subst (IsBodyLength (lines_of whole)) (sym long) taken;
    }

-- the bytes between a head and the end of its body
pub body_between : (bytes : List ℕ) (count size : ℕ) → take ((count + size) - count) (drop count bytes) ≡ take size
    (drop count bytes)
body_between bytes count size =
    let same : (count + size) - count ≡ size = omega arith in
    ap (λ n. take n (drop count bytes)) same

refused_parts : (bytes body rest : List ℕ) (head : RequestHead) (why : RequestFault)
    → BeginsWithParts bytes head body rest → IsMessageFault desk_routes head.method head.target (lines_of head) body
    why → BeginsWithFault bytes why rest
refused_parts bytes body rest head fault.Head parts refused = absurd
    (false≢true (fault_of_parts desk_routes head.method head.target (lines_of head) body fault.Head refused))
refused_parts bytes body rest head fault.Length parts refused
    = absurd (false≢true (fault_of_parts desk_routes head.method head.target (lines_of head) body fault.Length refused))
refused_parts bytes body rest head fault.Path parts refused = record
    { head = head; body = body; parts = parts; refused = refused }
refused_parts bytes body rest head (fault.Method allowed) parts refused
    = record { head = head; body = body; parts = parts; refused = refused }
refused_parts bytes body rest head fault.Json parts refused = record
    { head = head; body = body; parts = parts; refused = refused }
refused_parts bytes body rest head (fault.Field name) parts refused
    = record { head = head; body = body; parts = parts; refused = refused }

-- what the parts of a request spell is at the front of the bytes
pub received_whole : (bytes body rest : List ℕ) (head : RequestHead) (came : Received)
    → BeginsWithParts bytes head body rest → IsSpelledBy head body came → BeginsWith bytes came rest
received_whole bytes body rest head (received.Message message) parts spelled
    = record { head = head; body = body; parts = parts; spelled = spelled }
received_whole bytes body rest head (received.Refused why) parts refused
    = refused_parts bytes body rest head why parts refused
