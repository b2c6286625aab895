-- Rehearsals, message by message.
use Rattle.std.proofs.Common.{◌≡◌, ◌≢◌, ◌⊎◌, ◌<◌, ◌≤◌, arith, ℕ, false, List, [], ◌∷◌, ◌++◌, refl, sym, ap, ◌∙◌}
use Rattle.std.proofs.Common.{append_assoc, append-nil, inl, inr, length, length-append}
use Rattle.std.specs.Prelude.{Option}
use Rattle.std.specs.Io.KnownBytes.{Appends}
use Rattle.std.proofs.KnownBytes.{Appends-nil, Appends-trans}
use Rattle.pt_http_inbox.specs.declared.inbox.Inbox.{Inbox}
use Rattle.pt_http_rehearsal.specs.Moment.{BeginsWithMoment}
use Rattle.pt_http_reply.specs.Response.{IsReplyText}
use Rattle.pt_http_reply.specs.declared.response.Response.{Response}
use Rattle.pt_base_values.specs.Fault.{code_of, fault}
use Rattle.pt_base_values.proofs.FaultLemmas.{other_code, other_fault}
use Rattle.pt_base_values.specs.declared.fault.Fault.{Fault}
use Rattle.pt_base_values.specs.declared.fault.Cause.TheVariants as cause
use Rattle.pt_base_values.specs.Moment.{Moment}
use Rattle.pt_http_exchange.specs.Exchange.{Desk, Exchanges, IsUnanswered, is_last}
use Rattle.pt_http_exchange.specs.Input.{HasInput}
use Rattle.pt_http_rehearsal.specs.Rehearsal.{most_messages, Exchanged, IsStep, Rehearses, HasBadLine}

-- The state of a rehearsal of this input after at most `count` messages: the remaining messages complete it.
pub record StandsAt {R : Type 0} (remaining : R → Option (List ℕ)) (input : List ℕ) (old : Desk)
    (before : Option (List ℕ)) (inbox : Inbox R) (now : Desk) (after : Option (List ℕ)) (count : ℕ) : Type 0 where
  pub messages : List Exchanged
  pub few : length messages ≤ count
  pub written : List ℕ
  pub left : List ℕ
  pub has : HasInput remaining inbox left
  pub goes : (later : List Exchanged) (more rest : List ℕ) (new : Desk) → Rehearses later left now more rest new
      → Rehearses (messages ++ later) input old (written ++ more) rest new
  pub appended : Appends before after written

-- it begins
pub begun : {R : Type 0} (remaining : R → Option (List ℕ)) (input : List ℕ) (old : Desk) (before : Option (List ℕ))
    (inbox : Inbox R) → HasInput remaining inbox input → StandsAt remaining input old before inbox old before 0
begun remaining input old before inbox has = record {
  messages = [];
  few = omega arith;
  written = [];
  left = input;
  has = has;
  goes = λ later more rest new goes. goes;
  appended = Appends-nil before;
}

-- it may stop here
pub stops : {R : Type 0} {count : ℕ} (remaining : R → Option (List ℕ)) (input : List ℕ) (old now : Desk)
    (before after : Option (List ℕ)) (inbox : Inbox R)
    → (stands : StandsAt remaining input old before inbox now after count)
    → Rehearses stands.messages input old stands.written stands.left now
stops remaining input old now before after inbox stands =
    rw (append-nil stands.messages, append-nil stands.written) at (stands.goes [] [] stands.left now (refl, refl, refl))

-- one more message
abbrev pub one_more : Moment → Response → List ℕ → Exchanged
one_more now reply text = record { now = now; reply = reply; text = text }

pub step_of : (at : Moment) (left between rest text : List ℕ) (now new : Desk) (reply : Response)
    → BeginsWithMoment left at.0 at.1 between → Exchanges at between now new reply rest
    → IsReplyText reply text
    → IsStep (one_more at reply text) left now rest new
step_of at left between rest text now new reply moment exchanged replied = record {
  after = between;
  moment = moment;
  exchanged = exchanged;
  replied = replied;
}

-- it may stop after one more message
pub ends : {R : Type 0} {count : ℕ} (remaining : R → Option (List ℕ)) (input rest : List ℕ) (old now new : Desk)
    (before after : Option (List ℕ)) (inbox : Inbox R) (one : Exchanged)
    → (stands : StandsAt remaining input old before inbox now after count)
    → IsStep one stands.left now rest new → Rehearses (stands.messages ++ one ∷ []) input old
    (stands.written ++ one.text) rest new
ends remaining input rest old now new before after inbox one stands step =
    stands.goes (one ∷ []) one.text rest new (
      rest,
      new,
      [],
      step,
      (λ last. refl),
      (refl, refl, refl),
      sym
          (append-nil one.text),
    )

-- it then has one more message
pub one_longer : {count most : ℕ} (messages : List Exchanged) (one : Exchanged) → length messages ≤ count → count < most
    → length (messages ++ one ∷ []) ≤ most
one_longer messages one few below = omega (arith, few, below, length-append messages (one ∷ []))

-- the rehearsal goes on after a message that does not end it
pub went_on : {R : Type 0} {count most : ℕ} (remaining : R → Option (List ℕ)) (input rest : List ℕ) (old now new : Desk)
    (before after later : Option (List ℕ)) (inbox next : Inbox R) (one : Exchanged)
    → (stands : StandsAt remaining input old before inbox now after count) → IsStep one stands.left now rest new
    → is_last one.reply ≡ false → HasInput remaining next rest → Appends after later one.text → count < most
    → StandsAt remaining input old before next new later most
went_on remaining input rest old now new before after later inbox next one stands step goes_on has adds few = record {
  messages = stands.messages ++ one ∷ [];
  few = one_longer stands.messages one stands.few few;
  written = stands.written ++ one.text;
  left = rest;
  has = has;
  goes = λ further more end final goes.
      let on : Rehearses (stands.messages ++ (one ∷ further)) input old (stands.written ++ (one.text ++ more)) end final
      = stands.goes (one ∷ further) (one.text ++ more) end final
      (rest, new, more, step, (λ last. absurd (cc (last, goes_on))), goes, refl) in
      rw (sym (append_assoc stands.messages (one ∷ []) further), sym (append_assoc stands.written one.text more)) at on;
  appended = Appends-trans before after later stands.written one.text stands.appended adds;
}

pub unanswered_no_line : (error : Fault) → IsUnanswered error → error ≡ fault cause.MomentLine → ⊥
unanswered_no_line error (inl is) line = other_fault error cause.Memory cause.MomentLine (omega arith) is line
unanswered_no_line error (inr is) line = other_fault error cause.ReadFailed cause.MomentLine (omega arith) is line

pub read_no_line : (error : Fault) → error ≡ fault cause.ReadFailed → error ≡ fault cause.MomentLine → ⊥
read_no_line error is line = other_fault error cause.ReadFailed cause.MomentLine (omega arith) is line

pub write_no_line : (error : Fault) → error ≡ fault cause.WriteFailed → error ≡ fault cause.MomentLine → ⊥
write_no_line error is line = other_fault error cause.WriteFailed cause.MomentLine (omega arith) is line

-- the state of a rehearsal that ended before the end of its input
abbrev pub Stopped : List ℕ → Desk → Desk → Option (List ℕ) → Option (List ℕ) → Fault → Type 0
Stopped input old new before after error =
    (messages : List Exchanged) × (written : List ℕ) × (rest : List ℕ) × Rehearses messages input old written rest new
    × (error ≢ fault cause.WriteFailed → Appends before after written)
    × (error ≡ fault cause.MomentLine → HasBadLine rest)
    × (length messages ≤ most_messages)

-- it ended in the state that it had
pub stopped_here : {R : Type 0} {count : ℕ} (remaining : R → Option (List ℕ)) (input : List ℕ) (old now : Desk)
    (before after : Option (List ℕ)) (inbox : Inbox R) (error : Fault)
    → (stands : StandsAt remaining input old before inbox now after count) → count ≤ most_messages
    → (error ≡ fault cause.MomentLine → HasBadLine stands.left) → Stopped input old now before after error
stopped_here remaining input old now before after inbox error stands few line = (
  stands.messages,
  stands.written,
  stands.left,
  stops remaining input old now before after inbox stands,
  (λ other. stands.appended),
  line,
  omega (arith, stands.few, few),
)

-- a message was read, and not answered
pub stopped_unanswered : {R : Type 0} {count : ℕ} (remaining : R → Option (List ℕ)) (input : List ℕ)
    (old now new : Desk) (before after later : Option (List ℕ)) (inbox : Inbox R) (error : Fault)
    → StandsAt remaining input old before inbox now after count → count ≤ most_messages
    → IsUnanswered error → new ≡ now → later ≡ after → Stopped input old new before later error
stopped_unanswered remaining input old now new before after later inbox error stands few unanswered same kept =
    rw (same, kept) (stopped_here remaining input old now before after inbox error stands few
    (λ line. absurd (unanswered_no_line error unanswered line)))

-- a message was answered, and its reply was not written
pub stopped_unheard : {R : Type 0} {count : ℕ} (remaining : R → Option (List ℕ)) (input rest : List ℕ)
    (old now new : Desk) (before after later : Option (List ℕ)) (inbox : Inbox R) (one : Exchanged) (error : Fault)
    → (stands : StandsAt remaining input old before inbox now after count) → count < most_messages
    → error ≡ fault cause.WriteFailed → IsStep one stands.left now rest new → Stopped input old new before later error
stopped_unheard remaining input rest old now new before after later inbox one error stands few is step = (
  stands.messages ++ one ∷ [],
  stands.written ++ one.text,
  rest,
  ends remaining input rest old now new before after
      inbox one stands step,
  (λ other. absurd (other is)),
  (λ line. absurd (write_no_line error is line)),
  one_longer stands.messages one stands.few few,
)

pub either : {P Q R : Type 0} → P ⊎ Q → (P → R) → (Q → R) → R
either (inl p) one other = one p
either (inr q) one other = other q

pub read_cause_no_line : (error : Fault) → error.code ≡ code_of cause.ReadFailed → error ≡ fault cause.MomentLine → ⊥
read_cause_no_line error is line = other_code error.code cause.ReadFailed cause.MomentLine (omega arith) is (ap (λ (e : Fault). e.code) line)

pub memory_cause_no_line : (error : Fault) → error.code ≡ code_of cause.Memory → error ≡ fault cause.MomentLine → ⊥
memory_cause_no_line error is line = other_code error.code cause.Memory cause.MomentLine (omega arith) is (ap (λ (e : Fault). e.code) line)
