-- What comes of one connection.
use Rattle.std.proofs.Common.{◌≡◌, ◌⊎◌, ◌∙◌, ℕ, ℤ, Bool, true, false, List, [], Option, Some, None, Ok, Err, ap, inl, inr, not, refl, subst, sym}
use Rattle.std.specs.Io.KnownBytes.{Appends}
use Rattle.pt_base_values.specs.declared.fault.Cause.TheVariants as cause
use Rattle.pt_base_values.specs.Fault.{code_of, fault}
use Rattle.pt_base_values.specs.declared.fault.Fault.{Fault}
use Rattle.pt_base_values.specs.Moment.{Moment}
use Rattle.pt_desk_store.specs.Store.{Store}
use Rattle.pt_http_exchange.specs.Exchange.{IsUnanswered, IsWritten, desk_of}
use Rattle.pt_http_reply.specs.Response.{IsReplyText}
use Rattle.pt_http_reply.specs.declared.response.Response.{Response}
use Rattle.pt_app_serve.specs.Connection.{Adds, AnswersFrom, nothing_of}
use Rattle.pt_app_serve.specs.Serving.{AnswersSent, Gets, IsLeftAs, IsMomentAt, Served, ServesATurn, Turn, has_failed, heard, unheard, unanswered, progress_of}

some_same : {T : Type 0} (one other : T) → Some one ≡ Some other → one ≡ other
some_same one other is = cc

no_some : {T : Type 0} (one : T) → ◌≡◌ {A = Option T} (Some one) None → ⊥
no_some one is = absurd (cc)

-- a client whose whole reply was written got that
gets_reply : (sent : Option (List ℕ)) (one : Served) (got_old got_new : Option (List ℕ))
    (old new : Option (List (List ℕ))) → got_old ≡ nothing_of sent → IsWritten one.reply got_old got_new
    → Adds old got_new new → Gets sent (heard one) old new
gets_reply None one got_old got_new old new first written adds = tt
gets_reply (Some input) one got_old got_new None new first written adds = tt
gets_reply (Some input) one got_old got_new (Some before) None first written adds = tt
gets_reply (Some input) one got_old got_new (Some before) (Some after) first written adds =
    let last : Appends got_old (Some adds.0) written.0 =
    subst (λ (it : Option (List ℕ)). Appends got_old it written.0) adds.1 written.2 in
    let whole : Appends (Some []) (Some adds.0) written.0 =
    subst (λ (it : Option (List ℕ)). Appends it (Some adds.0) written.0) first last in
    (adds.0, subst (λ (text : List ℕ). IsReplyText one.reply text) (sym whole) written.1, adds.2)

-- one whose reply was not wholly written got something
gets_some : (sent : Option (List ℕ)) (one : Served) (got : Option (List ℕ)) (old new : Option (List (List ℕ)))
    → Adds old got new → Gets sent (unheard one) old new
gets_some None one got old new adds = tt
gets_some (Some input) one got None new adds = tt
gets_some (Some input) one got (Some before) None adds = tt
gets_some (Some input) one got (Some before) (Some after) adds = (adds.0, tt, adds.2)

-- one whose request was not answered got nothing
gets_nothing : (sent got_old got_new : Option (List ℕ)) (old new : Option (List (List ℕ))) → got_old ≡ nothing_of sent
    → got_new ≡ got_old → Adds old got_new new → Gets sent unanswered old new
gets_nothing None got_old got_new old new first same adds = tt
gets_nothing (Some input) got_old got_new None new first same adds = tt
gets_nothing (Some input) got_old got_new (Some before) None first same adds = tt
gets_nothing (Some input) got_old got_new (Some before) (Some after) first same adds =
    (adds.0, some_same adds.0 [] (sym adds.1 ∙ same ∙ first), adds.2)

-- of one that was not accepted nothing is known
gets_unknown : (sent : Option (List ℕ)) (turn : Turn) (old new : Option (List (List ℕ))) → sent ≡ None
    → Gets sent turn old new
gets_unknown None turn old new is = tt
gets_unknown (Some input) turn old new is = absurd (no_some input is)

-- a connection was left as its turn says
left_as : (sent : Option (List ℕ)) (turn : Turn) (before after : Option Bool) → after ≡ Some (not (has_failed turn))
    → IsLeftAs sent turn before after
left_as (Some input) turn before after is = is
left_as None turn before after is = inl is

-- one that was not accepted is not left
left_not : (sent : Option (List ℕ)) (ending : Option Bool) → sent ≡ None → IsLeftAs sent unanswered ending ending
left_not None ending is = inr (refl, refl)
left_not (Some input) ending is = absurd (no_some input is)

-- a request that was answered is to what the client sends
answers_sent : {T : Type 0} (sent : Option (List ℕ)) (old new : Store) (now : Moment)
    (got_old got_new : Option (List ℕ)) (Same : Type 0) (value : T)
    → AnswersFrom sent old new now got_old got_new Same (Ok value) → new.doubt ≡ 0
    → (reply : Response) × AnswersSent sent now (desk_of old) (desk_of new) reply × IsWritten reply got_old got_new
answers_sent (Some input) old new now got_old got_new Same value answers clean =
    let found = answers.answered clean input refl in
    (found.0, (found.1.0, found.1.1), found.2)
answers_sent None old new now got_old got_new Same value answers clean =
    let found = answers.served clean in
    (found.0, found.1.0, found.2)

-- also where the reply was not wholly written
answers_unheard : {T : Type 0} (sent : Option (List ℕ)) (old new : Store) (now : Moment)
    (got_old got_new : Option (List ℕ)) (Same : Type 0) (error : Fault)
    → AnswersFrom {T = T} sent old new now got_old got_new Same (Err error) → new.doubt ≡ 0
    → error ≡ fault cause.WriteFailed → (reply : Response) × AnswersSent sent now (desk_of old) (desk_of new) reply
answers_unheard (Some input) old new now got_old got_new Same error answers clean write =
    let found = answers.unheard clean input refl (ap Err write) in
    (found.0, (found.1.0, found.1.1))
answers_unheard None old new now got_old got_new Same error answers clean write =
    let found = answers.failure.unseen clean (ap Err write) in
    (found.0, found.1.0)

-- what is so of one connection is so of another whose client sends the same
along : (Fact : Option (List ℕ) → Type 0) (given sent : Option (List ℕ)) (got : Option (List ℕ)) → given ≡ sent
    → got ≡ nothing_of sent → (got ≡ nothing_of given → Fact given) → Fact sent
along Fact given sent got same first holds =
    subst (λ (it : Option (List ℕ)). Fact it) same
    (holds (first ∙ ap nothing_of (sym same)))

-- a connection that was answered
pub heard_turn : {T : Type 0} (Shows : Option (List ℕ) → ℤ → Type 0) (Fails : Option (List ℕ) → Type 0)
    (zone : List ℕ) (given sent : Option (List ℕ)) (old new : Store) (now : Moment)
    (got_old got_new : Option (List ℕ)) (Same : Type 0) (value : T) (replied_old replied_new : Option (List (List ℕ)))
    (ending_old ending_new : Option Bool)
    → given ≡ sent → got_old ≡ nothing_of sent → IsMomentAt (Shows given) zone now
    → AnswersFrom given old new now got_old got_new Same (Ok value) → Adds replied_old got_new replied_new
    → ending_new ≡ Some true → new.doubt ≡ 0
    → ServesATurn Shows Fails zone sent None (progress_of old replied_old ending_old)
    (progress_of new replied_new ending_new)
heard_turn Shows Fails zone given sent old new now got_old got_new Same value replied_old replied_new ending_old
    ending_new same first moment answers adds ends clean =
    along (λ it. ServesATurn Shows Fails zone it None (progress_of old replied_old ending_old)
    (progress_of new replied_new ending_new)) given sent got_old same first (λ blank.
    let found = answers_sent given old new now got_old got_new Same value answers clean in
    let one : Served = record { now = now; reply = found.0 } in (
      heard one,
      refl,
      record {
        desk = record { moment = moment; answered = found.1 };
        client = gets_reply given one got_old got_new replied_old replied_new blank found.2 adds;
        seen_off = left_as given (heard one) ending_old ending_new ends;
      },
    ))

-- one that failed: its request is answered, or nothing is changed
pub failed_turn : {T : Type 0} (Shows : Option (List ℕ) → ℤ → Type 0) (Fails : Option (List ℕ) → Type 0)
    (zone : List ℕ) (given sent : Option (List ℕ)) (old new : Store) (now : Moment)
    (got_old got_new : Option (List ℕ)) (Same : Type 0) (error : Fault) (replied_old replied_new : Option (List (List ℕ)))
    (ending_old ending_new : Option Bool)
    → given ≡ sent → got_old ≡ nothing_of sent → IsMomentAt (Shows given) zone now
    → AnswersFrom {T = T} given old new now got_old got_new Same (Err error) → Fails given
    → (Same → (desk_of new ≡ desk_of old) × (got_new ≡ got_old)) → Adds replied_old got_new replied_new
    → ending_new ≡ Some false
    → (error ≡ fault cause.ReadFailed) ⊎ (error ≡ fault cause.WriteFailed) → new.doubt ≡ 0
    → ServesATurn Shows Fails zone sent (Some error) (progress_of old replied_old ending_old)
    (progress_of new replied_new ending_new)
failed_turn Shows Fails zone given sent old new now got_old got_new Same error replied_old replied_new ending_old
    ending_new same first moment answers fails kept adds ends (inl read) clean =
    along (λ it. ServesATurn Shows Fails zone it (Some error) (progress_of old replied_old ending_old)
    (progress_of new replied_new ending_new)) given sent got_old same first (λ blank.
    let left = kept (answers.failure.unanswered (inr read)) in (
      unanswered,
      sym (ap Some read),
      record {
        desk = (left.0, fails);
        client = gets_nothing given got_old got_new replied_old replied_new blank left.1 adds;
        seen_off = left_as given unanswered ending_old ending_new ends;
      },
    ))
failed_turn Shows Fails zone given sent old new now got_old got_new Same error replied_old replied_new ending_old
    ending_new same first moment answers fails kept adds ends (inr write) clean =
    along (λ it. ServesATurn Shows Fails zone it (Some error) (progress_of old replied_old ending_old)
    (progress_of new replied_new ending_new)) given sent got_old same first (λ blank.
    let found = answers_unheard given old new now got_old got_new Same error answers clean write in
    let one : Served = record { now = now; reply = found.0 } in (
      unheard one,
      sym (ap Some write),
      record {
        desk = (record { moment = moment; answered = found.1 }, fails);
        client = gets_some given one got_new replied_old replied_new adds;
        seen_off = left_as given (unheard one) ending_old ending_new ends;
      },
    ))

-- and one that was not accepted
pub refused_turn : (Shows : Option (List ℕ) → ℤ → Type 0) (Fails : Option (List ℕ) → Type 0) (zone : List ℕ)
    (sent : Option (List ℕ)) (store : Store) (replied : Option (List (List ℕ))) (ending : Option Bool) → sent ≡ None
    → Fails sent
    → ServesATurn Shows Fails zone sent (Some (fault cause.ReadFailed)) (progress_of store replied ending)
    (progress_of store replied ending)
refused_turn Shows Fails zone sent store replied ending unknown fails = (
  unanswered,
  refl,
  record {
    desk = (refl, fails);
    client = gets_unknown sent unanswered replied replied unknown;
    seen_off = left_not sent ending unknown;
  },
)

-- a connection that does not end the serving failed to be read or to be written
pub read_or_write : (error : Fault) → (error.code ≡ code_of cause.Memory → ⊥) → IsUnanswered error ⊎ (error ≡ fault cause.WriteFailed)
    → (error ≡ fault cause.ReadFailed) ⊎ (error ≡ fault cause.WriteFailed)
read_or_write error other (inl (inl memory)) = absurd (other (ap (λ (it : Fault). it.code) memory))
read_or_write error other (inl (inr read)) = inl read
read_or_write error other (inr write) = inr write
