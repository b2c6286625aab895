-- Bytes begin with a message, or have a first fault.
use Rattle.std.proofs.Common.{◌≡◌, ℕ, ◌<◌, ◌≤◌, ◌^◌, Bool, true, false, List, [], ◌∷◌, ◌++◌, length, All, refl, sym}
use Rattle.std.proofs.Common.{ap, ◌∙◌, subst, arith, inl, inr, length-append, length-take-le, map, reverse, take, drop}
use Rattle.std.proofs.Common.{Option, Some, None, Result, Ok, Err}
use Rattle.std.specs.Prelude.{◌⊎◌, codes, bytes_eq, filter, if◌then◌else◌}
use Rattle.std.specs.List.{flat_map}
use Rattle.std.specs.Global.{Vec}
use Rattle.std.proofs.lemmas.Bool.{cases_lt, cases_Bool, false≢true}
use Rattle.std.proofs.lemmas.List.{length-reverse, take-append-drop}
use Rattle.std.proofs.lemmas.List.Elements.{All-cons, All-filter, All-head, All-map, All-nil}
use denote.RawPtr.{null_ptr}
use Rattle.httparse.specs.Grammar.{is_ows, skip_ows, trim_ows, Field, print_field, field_value, print_end}
use Rattle.httparse.specs.Grammar.{print_blank, print_version, print_section, RequestHead, print_request}
use Rattle.httparse.specs.Spans.{name_and_value}
use Rattle.httparse.proofs.GrammarLemmas.{print_request-append}
use Rattle.httparse.proofs.PieceLemmas.{print_field-append}
use Rattle.pt_base_values.specs.SpelledNumber.{number_from}
use Rattle.pt_base_values.proofs.NumberLemmas.{number_from-known, number_from-spelled}
use Rattle.pt_http_inbox.specs.Head.{BeginsWithHead, HasNoHead}
use Rattle.pt_http_request.proofs.MessageLemmas.{body_length_unique, fault_of_parts, is_of_parts}
use Rattle.pt_http_request.specs.declared.fault.RequestFault.{RequestFault}
use Rattle.pt_http_request.specs.declared.fault.RequestFault.TheVariants as fault
use Rattle.pt_http_request.specs.declared.field_name.FieldName.{FieldName}
use Rattle.pt_http_request.specs.declared.message.Message.{Message}
use Rattle.pt_http_request.specs.declared.targets.Target.{Target}
use Rattle.pt_http_request.specs.declared.targets.Target.TheVariants as target
use Rattle.pt_http_request.specs.declared.targets.WriteTarget.{WriteTarget}
use Rattle.pt_http_request.specs.Fields.{needed, ◌>>=◌}
use Rattle.pt_http_request.specs.Headers.{values_named, same_name, IsLengthIn, IsBodyLength, key_from, key_in}
use Rattle.pt_http_request.specs.Headers.{number_in}
use Rattle.pt_http_request.specs.Messages.{Sent, by_field, write_with, request_in, message_in}
use Rattle.pt_http_request.specs.Messages.{body_text, object_from, write_in, SpellsMessage, IsMessageFault}
use Rattle.pt_http_request.specs.Targets.{desk_routes, target_in, path_of}
use Rattle.pt_desk_requests.specs.declared.request.Read.{Read}
use Rattle.pt_desk_requests.specs.declared.request.Request.{Request}
use Rattle.pt_desk_requests.specs.declared.request.Request.TheVariants as request
use Rattle.pt_desk_requests.specs.declared.request.Write.{Write}
use Rattle.serde_json.specs.Data.{Data}
use Rattle.pt_http_exchange.proofs.HeadDecisions.{HasHead, head_or_none}
use Rattle.pt_http_exchange.specs.Message.{BeginsWithMessage, BeginsWithFault, BeginsWithRefused, HasNoBody}
use Rattle.pt_http_exchange.specs.Parts.{lines_of, BeginsWithParts}

-- ---- the length that header lines give

none_of : (value : List ℕ) (size : ℕ) → IsLengthIn (value ∷ []) size → number_from 16 16_384 value ≡ None → ⊥
none_of value size (inl nothing) is = let wrong : value ∷ [] ≡ [] = nothing.0 in cc
none_of value size (inr given) is =
    let same : value ≡ given.0 = cc (given.1) in
    let known = number_from-known 16 16_384 given.0 size given.2 in
    cc (same, known, is)

length_in : (values : List (List ℕ)) → ((size : ℕ) × IsLengthIn values size) ⊎ ((size : ℕ) → ¬ (IsLengthIn values size))
length_in [] = inl (0, inl (refl, refl))
length_in (value ∷ []) = by_number (number_from 16 16_384 value) refl
  where
    by_number : (found : Option ℕ) → number_from 16 16_384 value ≡ found
        → ((size : ℕ) × IsLengthIn (value ∷ []) size) ⊎ ((size : ℕ) → ¬ (IsLengthIn (value ∷ []) size))
    by_number (Some number) is = inl (number, inr (value, refl, number_from-spelled 16 16_384 value number is))
    by_number None is = inr (λ size given. none_of value size given is)
length_in (value ∷ other ∷ values) = inr (λ size given. two_given size given)
  where
    two_given : (size : ℕ) → IsLengthIn (value ∷ other ∷ values) size → ⊥
    two_given size (inl nothing) = let wrong : value ∷ other ∷ values ≡ [] = nothing.0 in cc
    two_given size (inr given) = let wrong : value ∷ other ∷ values ≡ given.0 ∷ [] = given.1 in cc

body_length_or : (lines : List (List ℕ × List ℕ))
    → ((size : ℕ) × IsBodyLength lines size) ⊎ ((size : ℕ) → ¬ (IsBodyLength lines size))
body_length_or lines = both (values_named (codes "transfer-encoding") lines) refl
    (length_in (values_named (codes "content-length") lines))
  where
    both : (coded : List (List ℕ)) → values_named (codes "transfer-encoding") lines ≡ coded
        → ((size : ℕ) × IsLengthIn (values_named (codes "content-length") lines) size)
        ⊎ ((size : ℕ) → ¬ (IsLengthIn (values_named (codes "content-length") lines) size))
        → ((size : ℕ) × IsBodyLength lines size) ⊎ ((size : ℕ) → ¬ (IsBodyLength lines size))
    both [] is (inl given) = inl (given.0, (is, given.1))
    both [] is (inr none) = inr (λ size given. none size given.1)
    both (value ∷ values) is found = inr (λ size given. let wrong : value ∷ values ≡ [] = sym is ∙ given.0 in cc)

-- ---- the key that is sent, and how long it is

read_key : (lines : List (List ℕ × List ℕ)) (found : Result (Option (List ℕ)) FieldName) (asked : Read) (told : Sent)
    → by_field (found >>= (λ key. Ok (key, 0, request.Read asked))) ≡ Ok told → found ≡ Ok told.0
read_key lines (Err name) asked told is = absurd (cc)
read_key lines (Ok key) asked told is =
    let same : ◌≡◌ {A = Sent} (key, 0, request.Read asked) told = cc in
    ap (λ (t : Sent). Ok t.0) same

write_key : (found : Result (Option (List ℕ)) FieldName) (numbered : Result ℕ FieldName)
    (written : Result Write FieldName)
    (told : Sent) → by_field (found >>= (λ key. numbered >>= (λ number. written
    >>= (λ write. Ok (key, number, request.Write write))))) ≡ Ok told → found ≡ Ok told.0
write_key (Err name) numbered written told is = absurd (cc)
write_key (Ok key) (Err name) written told is = absurd (cc)
write_key (Ok key) (Ok number) (Err name) told is = absurd (cc)
write_key (Ok key) (Ok number) (Ok write) told is =
    let same : ◌≡◌ {A = Sent} (key, number, request.Write write) told = cc in
    ap (λ (t : Sent). Ok t.0) same

body_key : (lines : List (List ℕ × List ℕ)) (asked : WriteTarget) (found : Option Data) (told : Sent)
    → (needed found fault.Json >>= (λ body. by_field (write_with lines asked body))) ≡ Ok told
    → key_in lines ≡ Ok told.0
body_key lines asked None told is = absurd (cc)
body_key lines asked (Some body) told is = write_key (key_in lines) (number_in lines) (write_in asked body) told is

chosen : (test : Bool) (one : Result Sent RequestFault) (why : RequestFault) (told : Sent)
    → (if test then one else Err why) ≡ Ok told → one ≡ Ok told
chosen true one why told is = is
chosen false one why told is = absurd (cc)

request_key : (method : List ℕ) (lines : List (List ℕ × List ℕ)) (body : List ℕ) (found : Option Target) (told : Sent)
    → (needed found fault.Path >>= (λ asked. request_in method lines body asked)) ≡ Ok told
    → key_in lines ≡ Ok told.0
request_key method lines body None told is = absurd (cc)
request_key method lines body (Some (target.Read asked)) told is = read_key lines (key_in lines) asked told
    (chosen (bytes_eq method (codes "GET")) _ _ told is)
request_key method lines body (Some (target.Write asked)) told is =
    body_key lines asked (object_from (body_text body)) told (chosen (bytes_eq method (codes "POST")) _ _ told is)

key_among : (values : List (List ℕ)) (value : List ℕ) (most : ℕ) → All (λ v. length v ≤ most) values
    → key_from values ≡ Ok (Some value) → length value ≤ most
key_among [] value most short is = absurd (cc)
key_among (one ∷ []) value most short is =
    let same : one ≡ value = cc in
    subst (λ (v : List ℕ). length v ≤ most) same (All-head (λ v. length v ≤ most) one [] short)
key_among (one ∷ other ∷ values) value most short is = absurd (cc)

skip_short : (bytes : List ℕ) → length (skip_ows bytes) ≤ length bytes
skip_short [] = omega arith
skip_short (byte ∷ bytes) = by_test (skip_short bytes) (is_ows byte) refl
  where
    by_test : length (skip_ows bytes) ≤ length bytes → (test : Bool) → is_ows byte ≡ test
        → length (skip_ows (byte ∷ bytes)) ≤ length (byte ∷ bytes)
    by_test later true is = rw is (omega (arith, later))
    by_test later false is = rw is (omega arith)

trim_short : (bytes : List ℕ) → length (trim_ows bytes) ≤ length bytes
unfolding trim_ows
trim_short bytes = omega (
  arith,
  length-reverse (skip_ows (reverse (skip_ows bytes))),
  skip_short (reverse (skip_ows bytes)),
  length-reverse (skip_ows bytes),
  skip_short bytes,
)

-- the values of field lines are no longer than the lines
values_short : (fields : List Field) (most : ℕ) → length (flat_map print_field fields) ≤ most
    → All (λ f. length (field_value f) ≤ most) fields
values_short [] most short = All-nil (λ f. length (field_value f) ≤ most)
values_short (f ∷ fields) most short =
    let others = flat_map print_field fields in
    let split : length (flat_map print_field (f ∷ fields))
    ≡ length (f.name ++ 58 ∷ (f.raw ++ (print_end f.end ++ others)))
    = ap length (print_field-append f others) in
    let name = length-append f.name (58 ∷ (f.raw ++ (print_end f.end ++ others))) in
    let raw = length-append f.raw (print_end f.end ++ others) in
    let end = length-append (print_end f.end) others in
    All-cons (λ g. length (field_value g) ≤ most) f fields
    (omega (arith, short, split, name, raw, end, trim_short f.raw))
    (values_short fields most (omega (arith, short, split, name, raw, end)))

-- the field lines are no longer than the head
lines_short : (head : RequestHead) → length (flat_map print_field head.fields) ≤ length (print_request head)
lines_short head =
    let fields = flat_map print_field head.fields in
    let section = print_section head.fields head.last in
    let version = print_version head.minor in
    let end = print_end head.line_end in
    let line = version ++ (end ++ (section ++ [])) in
    let whole : length (print_request head ++ []) ≡ length (print_blank head.blank ++ (head.method ++ 32 ∷ (head.target
    ++ 32 ∷ (version ++ (end ++ (section ++ []))))))
    = ap length (print_request-append head []) in
    omega (
      arith,
      whole,
      length-append (print_request head) [],
      length-append section [],
      length-append fields (print_end head.last),
      length-append end (section ++ []),
      length-append version (end ++ (section ++ [])),
      length-append head.target (32 ∷ line),
      length-append head.method (32 ∷ (head.target ++ 32 ∷ line)),
      length-append (print_blank head.blank) (head.method ++ 32 ∷ (head.target ++ 32 ∷ line)),
    )

-- the key that a short head gives is short
key_short : (head : RequestHead) (value : List ℕ) → length (print_request head) ≤ 8_192
    → key_in (lines_of head) ≡ Ok (Some value) → length value < 2 ^ 63
key_short head value short is =
    let values = values_named (codes "desk-key") (lines_of head) in
    let fields = values_short head.fields 8_192 (omega (arith, short, lines_short head)) in
    let lines : All (λ line. length line.1 ≤ 8_192) (lines_of head)
    = All-map (λ line. length line.1 ≤ 8_192) name_and_value head.fields fields in
    let named : All (λ v. length v ≤ 8_192) values
    = All-map (λ v. length v ≤ 8_192) (λ line. line.1)
    (filter (λ line. same_name (codes "desk-key") line.0) (lines_of head))
    (All-filter (λ line. same_name (codes "desk-key") line.0) (λ line. length line.1 ≤ 8_192) (lines_of head) lines) in
    let most = key_among values value 8_192 named is in
    omega (arith, most)

-- ---- messages

-- a vector of these bytes
abbrev vec_of : (bytes : List ℕ) → length bytes < 2 ^ 63 → Vec ℕ
vec_of bytes short = record {
  ptr = null_ptr;
  len = length bytes;
  cap = length bytes;
  alloc = record { memory = record { seal = tt } };
  items = bytes;
  ok = (refl, omega arith);
  small = short;
}

-- the parts of a message spell one, or have a fault
abbrev Spelled : RequestHead → List ℕ → Type 0
Spelled head body =
    ((message : Message) × SpellsMessage desk_routes head.method head.target (lines_of head) body message)
    ⊎ ((why : RequestFault) × IsMessageFault desk_routes head.method head.target (lines_of head) body why)

spelled_or : (head : RequestHead) (body : List ℕ) → length (print_request head) ≤ 8_192 → Spelled head body
spelled_or head body short = by_result (message_in desk_routes head.method head.target (lines_of head) body) refl
  where
    by_key : (key : Option (List ℕ)) (number : ℕ) (asked : Request)
        → message_in desk_routes head.method head.target (lines_of head) body ≡ Ok (key, number, asked)
        → key_in (lines_of head) ≡ Ok key → Spelled head body
    by_key None number asked is given = inl (record { key = None; number = number; request = asked }, is)
    by_key (Some value) number asked is given = inl (
      record {
        key = Some (vec_of value (key_short head value short given));
        number = number;
        request = asked;
      },
      is,
    )

    by_result : (found : Result Sent RequestFault)
        → message_in desk_routes head.method head.target (lines_of head) body ≡ found → Spelled head body
    by_result (Err why) is = inr (why, is)
    by_result (Ok told) is = by_key told.0 told.1 told.2 is
        (request_key head.method (lines_of head) body (target_in desk_routes (path_of head.target)) told is)

-- a message begins the bytes, or they have a fault
abbrev pub MessageOrFault : List ℕ → Type 0
MessageOrFault bytes =
    ((message : Message) × (rest : List ℕ) × BeginsWithMessage bytes message rest)
    ⊎ ((why : RequestFault) × (rest : List ℕ) × BeginsWithFault bytes why rest)

refused : (bytes rest : List ℕ) (why : RequestFault) → is_of_parts why ≡ true → BeginsWithRefused bytes why rest
    → BeginsWithFault bytes why rest
refused bytes rest fault.Head of_parts is = absurd (false≢true of_parts)
refused bytes rest fault.Length of_parts is = absurd (false≢true of_parts)
refused bytes rest fault.Path of_parts is = is
refused bytes rest (fault.Method allowed) of_parts is = is
refused bytes rest fault.Json of_parts is = is
refused bytes rest (fault.Field name) of_parts is = is

-- a head and a body that were received
of_parts : (bytes body rest : List ℕ) (head : RequestHead) → BeginsWithParts bytes head body rest → Spelled head body
    → MessageOrFault bytes
of_parts bytes body rest head parts (inl found) =
    inl (found.0, rest, record { head = head; body = body; parts = parts; spelled = found.1 })
of_parts bytes body rest head parts (inr found) = inr (
  found.0,
  rest,
  refused bytes rest found.0
      (fault_of_parts desk_routes head.method head.target (lines_of head) body found.0 found.1)
      (record { head = head; body = body; parts = parts; refused = found.1 }),
)

-- a head that was received, and the length of its body
of_length : (bytes after : List ℕ) (head : RequestHead) → BeginsWithHead bytes head after
    → ((size : ℕ) × IsBodyLength (lines_of head) size) ⊎ ((size : ℕ) → ¬ (IsBodyLength (lines_of head) size))
    → MessageOrFault bytes
of_length bytes after head begins (inr none) = inr (
  fault.Length,
  [],
  record {
    head = head;
    after = after;
    begins = begins;
    short = λ size given. absurd (none size given);
  },
)
of_length bytes after head begins (inl given) = by_size (cases_lt (length after) given.0)
  where
    by_size : (length after < given.0) ⊎ (given.0 ≤ length after) → MessageOrFault bytes
    by_size (inl few) = inr (
      fault.Length,
      [],
      record {
        head = head;
        after = after;
        begins = begins;
        short = λ size other. subst (λ (n : ℕ). length after < n)
            (body_length_unique (lines_of head) given.0 size given.1 other) few;
      },
    )
    by_size (inr all) =
        let size : length (take given.0 after) ≡ given.0 = length-take-le given.0 after all in
        of_parts bytes (take given.0 after) (drop given.0 after) head (record {
          begins = subst (BeginsWithHead bytes head) (sym (take-append-drop given.0 after)) begins;
          body_length = subst (IsBodyLength (lines_of head)) (sym size) given.1;
        }) (spelled_or head (take given.0 after) begins.short)

-- bytes begin with a message, or have a fault
pub message_or_first_fault : (bytes : List ℕ) → MessageOrFault bytes
message_or_first_fault bytes = by_head (head_or_none bytes)
  where
    by_head : HasHead bytes ⊎ HasNoHead bytes → MessageOrFault bytes
    by_head (inr none) = inr (fault.Head, [], none)
    by_head (inl found) = of_length bytes found.1 found.0 found.2 (body_length_or (lines_of found.0))
