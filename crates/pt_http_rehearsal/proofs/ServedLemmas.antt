-- Rehearsals of bytes that are not known, message by message.
use Rattle.std.proofs.Common.{◌≡◌, ◌≢◌, ◌<◌, ◌≤◌, arith, ℕ, false, true, List, [], ◌∷◌, ◌++◌, refl, sym}
use Rattle.std.proofs.Common.{append_assoc, append-nil, length, length-append, Err}
use Rattle.std.specs.Prelude.{Option, Result}
use Rattle.std.specs.Io.KnownBytes.{Appends}
use Rattle.std.proofs.KnownBytes.{Appends-nil, Appends-trans}
use Rattle.pt_base_values.specs.Fault.{fault}
use Rattle.pt_base_values.specs.declared.fault.Fault.{Fault}
use Rattle.pt_base_values.specs.declared.fault.Cause.TheVariants as cause
use Rattle.pt_base_values.specs.Moment.{Moment}
use Rattle.pt_http_exchange.specs.Exchange.{Desk, Serves, is_last}
use Rattle.pt_http_reply.specs.Response.{IsReplyText}
use Rattle.pt_http_reply.specs.declared.response.Response.{Response}
use Rattle.pt_http_rehearsal.specs.Rehearsal.{most_messages, AreReplies, ServesEach, ServesSome}

-- The state of a rehearsal after at most `count` messages, whatever they were: those that follow complete it.
pub record HasServed (old : Desk) (before : Option (List ℕ)) (now : Desk) (after : Option (List ℕ)) (count : ℕ)
    : Type 0 where
  pub replies : List (Moment × Response)
  pub few : length replies ≤ count
  pub written : List ℕ
  pub serves : (later : List (Moment × Response)) (new : Desk) → ServesEach later now new
      → ServesEach (replies ++ later) old new
  pub spells : (later : List (Moment × Response)) (more : List ℕ) → AreReplies later more
      → AreReplies (replies ++ later) (written ++ more)
  pub appended : Appends before after written

-- it begins
pub serving_begun : (old : Desk) (before : Option (List ℕ)) → HasServed old before old before 0
serving_begun old before = record {
  replies = [];
  few = omega arith;
  written = [];
  serves = λ later new serves. serves;
  spells = λ later more spells. spells;
  appended = Appends-nil before;
}

-- it stops here, with any result
pub served_here : {T : Type 0} {count : ℕ} (old now : Desk) (before after : Option (List ℕ)) (result : Result T Fault)
    → HasServed old before now after count → count ≤ most_messages → ServesSome old now before after result
served_here old now before after result has few = (
  has.replies,
  rw (append-nil has.replies) at (has.serves [] now refl),
  omega (arith, has.few, few),
  (λ other. (
    has.written,
    rw (append-nil has.replies, append-nil has.written) at (has.spells [] [] refl),
    has.appended,
  )),
)

-- a message was read, and not answered
pub served_unanswered : {T : Type 0} {count : ℕ} (old now new : Desk) (before after later : Option (List ℕ))
    (result : Result T Fault) → HasServed old before now after count → count ≤ most_messages → new ≡ now
    → later ≡ after → ServesSome old new before later result
served_unanswered old now new before after later result has few same kept =
    rw (same, kept) (served_here old now before after result has few)

-- one more message
served_more : {count : ℕ} (old now new : Desk) (before after : Option (List ℕ)) (at : Moment) (reply : Response)
    → (has : HasServed old before now after count) → Serves at now new reply
    → ServesEach (has.replies ++ (at, reply) ∷ []) old new
served_more old now new before after at reply has serves =
    has.serves ((at, reply) ∷ []) new (new, serves, (λ last. refl), refl)

one_longer : {count most : ℕ} (replies : List (Moment × Response)) (one : Moment × Response) → length replies ≤ count
    → count < most → length (replies ++ one ∷ []) ≤ most
one_longer replies one few below = omega (arith, few, below, length-append replies (one ∷ []))

-- a message was answered, and its reply was not wholly written
pub served_unheard : {T : Type 0} {count : ℕ} (old now new : Desk) (before after later : Option (List ℕ))
    (at : Moment) (reply : Response) (result : Result T Fault) → HasServed old before now after count
    → count < most_messages → Serves at now new reply → result ≡ Err (fault cause.WriteFailed)
    → ServesSome old new before later result
served_unheard old now new before after later at reply result has few serves is = (
  has.replies ++ (at, reply) ∷ [],
  served_more old now new before after at reply has serves,
  one_longer has.replies (at, reply) has.few few,
  (λ other. absurd (other is)),
)

-- a message was answered, and its reply was written
pub served_last : {T : Type 0} {count : ℕ} (old now new : Desk) (before after later : Option (List ℕ))
    (at : Moment) (reply : Response) (text : List ℕ) (result : Result T Fault) → HasServed old before now after count
    → count < most_messages → Serves at now new reply → IsReplyText reply text → Appends after later text
    → ServesSome old new before later result
served_last old now new before after later at reply text result has few serves spelled adds = (
  has.replies ++ (at, reply) ∷ [],
  served_more old now new before after at reply has serves,
  one_longer has.replies (at, reply) has.few few,
  (λ other. (
    has.written ++ text,
    has.spells ((at, reply) ∷ []) text (text, [], spelled, refl, sym (append-nil text)),
    Appends-trans before after later has.written text has.appended adds,
  )),
)

-- and it does not end the rehearsal
pub served_on : {count most : ℕ} (old now new : Desk) (before after later : Option (List ℕ)) (at : Moment)
    (reply : Response) (text : List ℕ) → HasServed old before now after count → Serves at now new reply
    → IsReplyText reply text → Appends after later text → is_last reply ≡ false → count < most
    → HasServed old before new later most
served_on old now new before after later at reply text has serves spelled adds goes_on few = record {
  replies = has.replies ++ (at, reply) ∷ [];
  few = one_longer has.replies (at, reply) has.few few;
  written = has.written ++ text;
  serves = λ further end on.
      let all : ServesEach (has.replies ++ ((at, reply) ∷ further)) old end =
      has.serves ((at, reply) ∷ further) end (new, serves, (λ last. absurd (cc (last, goes_on))), on) in
      rw (sym (append_assoc has.replies ((at, reply) ∷ []) further)) at all;
  spells = λ further more on.
      let all : AreReplies (has.replies ++ ((at, reply) ∷ further)) (has.written ++ (text ++ more)) =
      has.spells ((at, reply) ∷ further) (text ++ more) (text, more, spelled, on, refl) in
      rw (sym (append_assoc has.replies ((at, reply) ∷ []) further), sym (append_assoc has.written text more)) at all;
  appended = Appends-trans before after later has.written text has.appended adds;
}
