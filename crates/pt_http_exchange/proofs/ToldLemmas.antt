-- A read leaves the desk as it was. So if there is no memory for its answer, the reply may say so.
use Rattle.std.proofs.Common.{◌≡◌, ℕ, true, false, List, Option, Some, None, Ok, Err, refl, sym, ap, ◌∙◌, subst, inl}
use Rattle.std.proofs.Common.{inr}
use Rattle.std.specs.Prelude.{option_map}
use Rattle.pt_base_values.specs.declared.rule.Rule.TheVariants.{Key}
use Rattle.pt_base_values.specs.Moment.{Moment}
use Rattle.pt_desk_store.specs.declared.keeper.StoreFault.TheVariants.{Memory}
use Rattle.pt_desk.specs.Step.{sender, state_after}
use Rattle.pt_desk_requests.specs.declared.request.Answer.{Answer}
use Rattle.pt_desk_requests.specs.declared.request.Answer.TheVariants.{Booked, Denied, Done, Entered}
use Rattle.pt_desk_laws.proofs.OutcomeLemmas.{is_of_write, commits_nothing}
use Rattle.pt_http_reply.specs.Reply.{is_of_read, is_told, IsSent}
use Rattle.pt_http_reply.specs.declared.response.Response.{Response}
use Rattle.pt_http_reply.specs.declared.response.Response.TheVariants as response
use Rattle.pt_http_request.specs.declared.message.Message.{Message}
use Rattle.pt_http_exchange.specs.Exchange.{Desk, AnswersWith}
use Rattle.pt_http_exchange.specs.Received.{Responds}
use Rattle.pt_http_exchange.specs.declared.received.Received.{Received}
use Rattle.pt_http_exchange.specs.declared.received.Received.TheVariants as received

-- the answer to a read is not that of an accepted write
pub of_read : (told : Answer) → is_of_read told ≡ true → is_of_write told ≡ false
of_read Done reads = absurd (cc)
of_read (Entered position) reads = absurd (cc)
of_read (Booked told) reads = absurd (cc)
of_read _ reads = refl

-- if a message gets the answer to a read, it may get out of memory instead
wants_memory : (key : Option (List ℕ)) (now : Moment) (message : Message) (old new : Desk) (told : Answer)
    → is_of_read told ≡ true
    → AnswersWith key now message old new (Ok told) → AnswersWith key now message old new (Err Memory)
wants_memory None now message old new told reads (is, same) = let denied : told ≡ Denied Key
    = cc in absurd (cc (rw denied at reads))
wants_memory (Some key) now message old new told reads ((answer, left, tells, inr fault), fails) = absurd fault.0
wants_memory (Some key) now message old new told reads ((answer, left, tells, inl is), fails) =
    let none : left ≡ None
    = commits_nothing (sender key old.content) now message.number message.request old.content answer left is
    (of_read answer (ap is_of_read (sym tells.0) ∙ reads)) in
    let stays : new.content ≡ old.content = tells.1 ∙ ap (λ left. state_after left old.content) none in (
      (answer, None, stays, inr (tt, refl)),
      record {
        grows = fails.grows;
        told = λ is. absurd (cc);
        stays = λ failed. let no = fails.stays failed in absurd (cc);
      },
    )

told_or_wanting : (now : Moment) (came : Received) (old new : Desk) (reply : Response) → is_told reply ≡ true
    → Responds now came old new reply
    → Responds now came old new (response.Answered (Err Memory))
told_or_wanting now (received.Message message) old new (response.Answered (Ok told)) reads responds =
    wants_memory (option_map (λ key. key.items) message.key) now message old new told reads responds
told_or_wanting now (received.Message message) old new (response.Answered (Err failed)) reads responds
    = absurd (cc)
told_or_wanting now (received.Message message) old new (response.Refused named) reads responds = absurd responds
told_or_wanting now (received.Refused why) old new (response.Answered told) reads responds = absurd responds
told_or_wanting now (received.Refused why) old new (response.Refused named) reads responds = absurd (cc)

-- what is sent is a response to what was received
pub sent_responds : (now : Moment) (came : Received) (old new : Desk) (reply sent : Response)
    → Responds now came old new reply → IsSent reply sent
    → Responds now came old new sent
sent_responds now came old new reply sent responds (inl same)
    = subst (λ (r : Response). Responds now came old new r) (sym same) responds
sent_responds now came old new reply sent responds (inr (reads, wanting)) =
    subst (λ (r : Response). Responds now came old new r) (sym wanting)
    (told_or_wanting now came old new reply reads responds)
