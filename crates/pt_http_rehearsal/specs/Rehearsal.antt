-- Rehearsals: messages one after another, each after a line with its moment.
use Rattle.std.specs.Prelude.{◌≡◌, ◌≢◌, ◌⊎◌, ℕ, ◌≤◌, true, List, [], ◌∷◌, ◌++◌, length, Option, Result, Err}
use Rattle.std.specs.Io.KnownBytes.{Appends}
use Rattle.pt_base_values.specs.Fault.{fault}
use Rattle.pt_base_values.specs.Moment.{Moment}
use Rattle.pt_base_values.specs.declared.fault.Fault.{Fault}
use Rattle.pt_base_values.specs.declared.fault.Cause.TheVariants as cause
use Rattle.pt_http_rehearsal.specs.Moment.{BeginsWithMoment}
use Rattle.pt_http_reply.specs.Response.{IsReplyText}
use Rattle.pt_http_reply.specs.declared.response.Response.{Response}
use Rattle.pt_http_exchange.specs.Exchange.{Desk, Exchanges, IsUnanswered, Serves, is_last}

-- the most messages of a rehearsal
abbrev pub most_messages : ℕ
most_messages = 100_000

-- a message of a rehearsal: its moment, the reply, and the reply's bytes
pub record Exchanged : Type 0 where
  pub now : Moment
  pub reply : Response
  pub text : List ℕ

-- the bytes begin with this message's moment and then the message, and leave this rest and this state
pub record IsStep (one : Exchanged) (bytes : List ℕ) (old : Desk) (rest : List ℕ) (new : Desk) : Type 0 where
  pub after : List ℕ
  pub moment : BeginsWithMoment bytes one.now.0 one.now.1 after
  pub exchanged : Exchanges one.now after old new one.reply rest
  pub replied : IsReplyText one.reply one.text

-- The desk answers these messages at the front of the bytes, and writes these bytes in reply. It leaves this rest and
-- this state.
abbrev pub Rehearses : List Exchanged → List ℕ → Desk → List ℕ → List ℕ → Desk → Type 0
Rehearses [] bytes old written rest new = (rest ≡ bytes) × (new ≡ old) × (written ≡ [])
Rehearses (one ∷ later) bytes old written rest new =
    (left : List ℕ) × (mid : Desk) × (more : List ℕ) × IsStep one bytes old left mid
    × (is_last one.reply ≡ true → later ≡ []) × Rehearses later left mid more rest new × (written ≡ one.text ++ more)

-- the input is used up, or the last message ended the rehearsal
abbrev pub IsFinished : List Exchanged → List ℕ → Type 0
IsFinished messages rest =
    (rest ≡ []) ⊎ ((front : List Exchanged) × (one : Exchanged) × (messages ≡ front ++ one ∷ [])
    × (is_last one.reply ≡ true))

-- The desk answers some messages in turn, each at this moment with this reply, and leaves this state. The messages need
-- not be those that came in.
abbrev pub ServesEach : List (Moment × Response) → Desk → Desk → Type 0
ServesEach [] old new = new ≡ old
ServesEach (one ∷ later) old new =
    (mid : Desk) × Serves one.0 old mid one.1 × (is_last one.1 ≡ true → later ≡ []) × ServesEach later mid new

-- the bytes of these replies, one after another
abbrev pub AreReplies : List (Moment × Response) → List ℕ → Type 0
AreReplies [] written = written ≡ []
AreReplies (one ∷ later) written =
    (text : List ℕ) × (more : List ℕ) × IsReplyText one.1 text × AreReplies later more × (written ≡ text ++ more)

-- What a rehearsal does whatever its reader gives, also if its bytes are not known: it answers some messages, and writes
-- nothing but their replies. The last reply may not be wholly written if the error is a failed write.
abbrev pub ServesSome : {T : Type 0} → Desk → Desk → Option (List ℕ) → Option (List ℕ) → Result T Fault → Type 0
ServesSome old new out_old out_new result =
    (replies : List (Moment × Response)) × ServesEach replies old new × (length replies ≤ most_messages)
    × (result ≢ Err (fault cause.WriteFailed) → (written : List ℕ) × AreReplies replies written
    × Appends out_old out_new written)

-- the bytes do not begin with a line with a moment
abbrev pub HasNoMoment : List ℕ → Type 0
HasNoMoment bytes = (day minute : ℕ) (rest : List ℕ) → ¬ (BeginsWithMoment bytes day minute rest)

-- the input continues, but not with a line with a moment; the end of the input is not a bad line
abbrev pub HasBadLine : List ℕ → Type 0
HasBadLine bytes = (bytes ≢ []) × HasNoMoment bytes

-- the errors of a rehearsal: out of memory, a failed read or write, a bad line, or too many messages
abbrev pub IsRehearsalFault : Fault → Type 0
IsRehearsalFault error = IsUnanswered error ⊎ (error ≡ fault cause.WriteFailed) ⊎ (error ≡ fault cause.MomentLine)
