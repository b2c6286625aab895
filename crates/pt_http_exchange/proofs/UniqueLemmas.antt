-- Bytes begin with one message at most, or have one first fault, and not both.
use Rattle.std.proofs.Common.{◌≡◌, refl, ℕ, ◌<◌, ◌+◌, List, ◌++◌, length, take, drop, sym, ap, ◌∙◌, subst, arith}
use Rattle.std.proofs.Common.{inl, inr}
use Rattle.std.specs.Prelude.{◌⊎◌, true, false}
use Rattle.std.proofs.lemmas.Bool.{false≢true}
use Rattle.std.proofs.Common.{length-append}
use Rattle.std.proofs.Math.Seq.{drop-append_seam, take-append_seam}
use Rattle.httparse.specs.Grammar.{RequestHead}
use Rattle.httparse.proofs.GrammarLemmas.{request_unique}
use Rattle.pt_http_inbox.specs.Head.{HasNoHead}
use Rattle.pt_http_request.specs.declared.fault.RequestFault.{RequestFault}
use Rattle.pt_http_request.specs.declared.fault.RequestFault.TheVariants as fault
use Rattle.pt_http_request.specs.Headers.{IsBodyLength}
use Rattle.pt_http_request.specs.Messages.{SpellsMessage, IsMessageFault, IsSameMessage}
use Rattle.pt_http_request.specs.Targets.{desk_routes}
use Rattle.pt_http_request.specs.declared.message.Message.{Message}
use Rattle.pt_http_request.proofs.ListLemmas.{error-unique}
use Rattle.pt_http_request.proofs.MessageLemmas.{body_length_unique, message_unique, message_or_fault}
use Rattle.pt_http_reply.specs.declared.response.Response.TheVariants as response
use Rattle.pt_http_exchange.specs.Exchange.{is_last}
use Rattle.pt_http_exchange.specs.Message.{BeginsWithMessage, BeginsWithFault, BeginsWithRefused, HasNoBody}
use Rattle.pt_http_exchange.specs.Parts.{lines_of, BeginsWithParts}

front_of : (body rest : List ℕ) → body ≡ take (length body) (body ++ rest)
front_of body rest = sym (take-append_seam body rest)

-- the parts of a request are the only ones that begin the bytes
same_parts : (bytes body other rest more : List ℕ) (head another : RequestHead) → BeginsWithParts bytes head body rest
    → BeginsWithParts bytes another other more → (another ≡ head) × (other ≡ body) × (more ≡ rest)
same_parts bytes body other rest more head another one two =
    let unique = request_unique bytes another head (other ++ more) (body ++ rest) two.begins.reads one.begins.reads in
    let long : length other ≡ length body
    = body_length_unique (lines_of head) (length other) (length body)
    (subst (λ h. IsBodyLength (lines_of h) (length other)) unique.0 two.body_length) one.body_length in (
      unique.0,
      front_of other more ∙ ap (λ b. take (length other) b) unique.1 ∙ ap (λ n. take n (body ++ rest)) long
          ∙ sym (front_of body rest),
      sym (drop-append_seam other more) ∙ ap (λ b. drop (length other) b) unique.1
          ∙ ap (λ n. drop n (body ++ rest)) long ∙ drop-append_seam body rest,
    )

moved : (P : RequestHead → List ℕ → Type 0) (head another : RequestHead) (body other : List ℕ) → another ≡ head
    → other ≡ body → P another other → P head body
moved P head another body other same_head same_body here = rw (same_head, same_body) at here

pub one_message : (bytes rest more : List ℕ) (one other : Message) → BeginsWithMessage bytes one rest
    → BeginsWithMessage bytes other more → IsSameMessage one other × (rest ≡ more)
one_message bytes rest more one other first second =
    let same = same_parts bytes first.body second.body rest more first.head second.head first.parts second.parts in
    let spelled = moved (λ head body. SpellsMessage desk_routes head.method head.target (lines_of head) body other)
    first.head second.head first.body second.body same.0 same.1 second.spelled in (
      message_unique desk_routes first.head.method first.head.target (lines_of first.head) first.body one other
          first.spelled spelled,
      sym same.2,
    )

no_refusal : (bytes rest more : List ℕ) (message : Message) (why : RequestFault) → BeginsWithMessage bytes message rest
    → ¬ (BeginsWithRefused bytes why more)
no_refusal bytes rest more message why first refused =
    let same = same_parts bytes first.body refused.body rest more first.head refused.head first.parts refused.parts in
    let stands = moved (λ head body. IsMessageFault desk_routes head.method head.target (lines_of head) body why)
    first.head refused.head first.body refused.body same.0 same.1 refused.refused in
    message_or_fault desk_routes first.head.method first.head.target (lines_of first.head) first.body message why
    first.spelled stands

-- if the parts of a request have come, the body is not short
body_came : (bytes body rest : List ℕ) (head : RequestHead) → BeginsWithParts bytes head body rest
    → ¬ (HasNoBody bytes)
body_came bytes body rest head parts short =
    let unique = request_unique bytes short.head head short.after (body ++ rest) short.begins.reads
    parts.begins.reads in
    let taken = subst (λ h. IsBodyLength (lines_of h) (length body)) (sym unique.0) parts.body_length in
    let few : length short.after < length body = short.short (length body) taken in
    let all : length short.after ≡ length body + length rest = ap length unique.1 ∙ length-append body rest in
    omega (arith, few, all)

pub message_has_no_fault : (bytes rest more : List ℕ) (message : Message) (why : RequestFault)
    → BeginsWithMessage bytes message rest → ¬ (BeginsWithFault bytes why more)
message_has_no_fault bytes rest more message fault.Head first none
    = none first.head (first.body ++ rest) first.parts.begins
message_has_no_fault bytes rest more message fault.Length first short
    = body_came bytes first.body rest first.head first.parts short
message_has_no_fault bytes rest more message fault.Path first refused
    = no_refusal bytes rest more message fault.Path first refused
message_has_no_fault bytes rest more message (fault.Method allowed) first refused
    = no_refusal bytes rest more message (fault.Method allowed) first refused
message_has_no_fault bytes rest more message fault.Json first refused
    = no_refusal bytes rest more message fault.Json first refused
message_has_no_fault bytes rest more message (fault.Field name) first refused
    = no_refusal bytes rest more message (fault.Field name) first refused

-- ---- one fault

-- a first fault is of the head, of the body's length, or of what the parts of a request spell
abbrev FaultOf : List ℕ → RequestFault → List ℕ → Type 0
FaultOf bytes why rest =
    ((why ≡ fault.Head) × HasNoHead bytes)
    ⊎ (((why ≡ fault.Length) × HasNoBody bytes) ⊎ BeginsWithRefused bytes why rest)

fault_of : (bytes rest : List ℕ) (why : RequestFault) → BeginsWithFault bytes why rest → FaultOf bytes why rest
fault_of bytes rest fault.Head none = inl (refl, none)
fault_of bytes rest fault.Length short = inr (inl (refl, short))
fault_of bytes rest fault.Path refused = inr (inr refused)
fault_of bytes rest (fault.Method allowed) refused = inr (inr refused)
fault_of bytes rest fault.Json refused = inr (inr refused)
fault_of bytes rest (fault.Field name) refused = inr (inr refused)

-- the same fault, and the same rest if something is claimed about it
abbrev IsSameFault : RequestFault → RequestFault → List ℕ → List ℕ → Type 0
IsSameFault why other rest more = (why ≡ other) × (is_last (response.Refused why) ≡ false → rest ≡ more)

same_refusal : (bytes rest more : List ℕ) (why other : RequestFault) → BeginsWithRefused bytes why rest
    → BeginsWithRefused bytes other more → IsSameFault why other rest more
same_refusal bytes rest more why other first second =
    let same = same_parts bytes first.body second.body rest more first.head second.head first.parts second.parts in
    let stands = moved (λ head body. IsMessageFault desk_routes head.method head.target (lines_of head) body other)
    first.head second.head first.body second.body same.0 same.1 second.refused in
    (error-unique _ _ _ first.refused stands, λ goes_on. sym same.2)

-- nothing is claimed about the rest after a bad head or a bad length
same_last : (why other last : RequestFault) (rest more : List ℕ) → is_last (response.Refused last) ≡ true
    → why ≡ last → other ≡ last → IsSameFault why other rest more
same_last why other last rest more ends is its = (
  is ∙ sym its,
  λ goes_on. absurd (false≢true (sym goes_on ∙ ap (λ w. is_last (response.Refused w)) is ∙ ends)),
)

by_cases : (bytes rest more : List ℕ) (why other : RequestFault) → FaultOf bytes why rest → FaultOf bytes other more
    → IsSameFault why other rest more
by_cases bytes rest more why other (inl one) (inl two) = same_last why other fault.Head rest more refl one.0 two.0
by_cases bytes rest more why other (inl one) (inr (inl two)) = absurd (one.1 two.1.head two.1.after two.1.begins)
by_cases bytes rest more why other (inl one) (inr (inr two))
    = absurd (one.1 two.head (two.body ++ more) two.parts.begins)
by_cases bytes rest more why other (inr (inl one)) (inl two) = absurd (two.1 one.1.head one.1.after one.1.begins)
by_cases bytes rest more why other (inr (inl one)) (inr (inl two))
    = same_last why other fault.Length rest more refl one.0 two.0
by_cases bytes rest more why other (inr (inl one)) (inr (inr two))
    = absurd (body_came bytes two.body more two.head two.parts one.1)
by_cases bytes rest more why other (inr (inr one)) (inl two)
    = absurd (two.1 one.head (one.body ++ rest) one.parts.begins)
by_cases bytes rest more why other (inr (inr one)) (inr (inl two))
    = absurd (body_came bytes one.body rest one.head one.parts two.1)
by_cases bytes rest more why other (inr (inr one)) (inr (inr two)) = same_refusal bytes rest more why other one two

pub same_fault : (bytes rest more : List ℕ) (why other : RequestFault) → BeginsWithFault bytes why rest
    → BeginsWithFault bytes other more → IsSameFault why other rest more
same_fault bytes rest more why other first second
    = by_cases bytes rest more why other (fault_of bytes rest why first) (fault_of bytes more other second)
