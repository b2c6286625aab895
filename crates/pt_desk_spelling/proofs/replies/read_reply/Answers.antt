use Rattle.std.proofs.Common.{ℕ, ◌∷◌, Some, ap, ◌∙◌, arith}
use Rattle.std.proofs.lemmas.Bool.Decides.{nat_tests}
use Rattle.pt_desk_spelling.specs.declared.replies.KeptReply.{KeptReply}
use Rattle.pt_desk_spelling.proofs.ReplyLemmas.{entered-only, booked-only, none-only}
use Rattle.pt_desk_spelling.proofs.replies.read_reply.Goals as goal
use Rattle.pt_desk_spelling.proofs.replies.read_reply.Goals.{in_default-via-in-0+else-is_empty}
use Rattle.pt_desk_spelling.proofs.replies.read_reply.Goals.{in_default-via-in-1+else-fields-eq4}
use Rattle.pt_desk_spelling.proofs.replies.read_reply.Goals.{in_default-via-in-2+else-fields-eq-CONFIRMATION_BYTES}
use Rattle.pt_desk_spelling.proofs.replies.read_reply.Goals.{in_default-via-in_default-1}

pub returns-in_err-confirmation_of-in-2-clause-read :
    goal.returns-in_err-confirmation_of-in-2-clause-read
returns-in_err-confirmation_of-in-2-clause-read c = λ reply spelled.
    let whole = c.in_ok-kind.ensures.cases.0 ∙ ap (λ (k : ℕ). k ∷ c.in_ok-kind.fields.now) c.in-2.is in
    let only = booked-only c.args.bytes.now c.in_ok-kind.fields.now c.numbers_from.result reply
    c.confirmation_of.result whole c.numbers_from.ensures.spelled c.numbers_from.ensures.words
    c.confirmation_of.ensures.read spelled in
    absurd (let found = only.1 in let none = c.in_err-confirmation_of-in-2.was in cc)

pub returns-in-1-clause-read : goal.returns-in-1-clause-read
returns-in-1-clause-read c = λ reply spelled.
    let whole = c.in_ok-kind.ensures.cases.0 ∙ ap (λ (k : ℕ). k ∷ c.in_ok-kind.fields.now) c.in-1.is in
    ap (λ (r : KeptReply). Some r) (entered-only c.args.bytes.now c.in_ok-kind.fields.now c.number_at.result reply whole c.if-fields-eq4.true c.number_at.ensures (omega arith) spelled)

pub returns-in_ok-confirmation_of-in-2-clause-read :
    goal.returns-in_ok-confirmation_of-in-2-clause-read
returns-in_ok-confirmation_of-in-2-clause-read c = λ reply spelled.
    let whole = c.in_ok-kind.ensures.cases.0 ∙ ap (λ (k : ℕ). k ∷ c.in_ok-kind.fields.now) c.in-2.is in
    let only = booked-only c.args.bytes.now c.in_ok-kind.fields.now c.numbers_from.result reply
    c.confirmation_of.result whole c.numbers_from.ensures.spelled c.numbers_from.ensures.words
    c.confirmation_of.ensures.read spelled in
    let found = only.1 in
    let is = only.2 in
    let was = c.in_ok-confirmation_of-in-2.was in
    cc

pub returns-in_default-clause-read : goal.returns-in_default-clause-read
returns-in_default-clause-read c = λ reply spelled.
    let only = none-only c.args.bytes.now c.in_ok-kind.fields.now c.in_ok-kind.kind.now reply c.in_ok-kind.ensures.cases.0 spelled in
    elim c.in_default.branch [
      | in_default-via-in-0+else-is_empty w ↦ absurd (only (λ is size. grind (arith, nat_tests)) (λ is size. omega arith) (λ is size. omega arith))
      | in_default-via-in-1+else-fields-eq4 w ↦ absurd (only (λ is size. omega arith) (λ is size. omega arith) (λ is size. omega arith))
      | in_default-via-in-2+else-fields-eq-CONFIRMATION_BYTES w ↦ absurd (only (λ is size. omega arith) (λ is size. omega arith) (λ is size. omega arith))
      | in_default-via-in_default-1 w ↦ absurd (only (λ is size. omega arith) (λ is size. omega arith) (λ is size. omega arith))
    ]
