-- The numbers of accepted writes, kept requests, and the answer to a write that is sent again.
use Rattle.std.proofs.Common.{◌≡◌, ◌≢◌, inl, inr, ◌∙◌, ℕ, zero, suc, ◌+◌, ◌<◌, nat_lt, Bool, true, false, IsTrue}
use Rattle.std.proofs.Common.{List, [], ◌∷◌, map, Option, Some, None, arith, cond, refl, sym, ap, subst}
use Rattle.std.specs.Prelude.{◌==◌, ◌&&◌, bytes_eq, is_some, slice_index}
use Rattle.std.specs.Option.{unwrap_or}
use Rattle.std.specs.List.{cons_option, last_or}
use Rattle.std.specs.List.Sorted.{IsStrictlyIncreasing}
use Rattle.std.proofs.lemmas.Bool.Decides.{eqb_tells, nat_tests}
use Rattle.std.proofs.lemmas.Option.{same_Some}
use Rattle.std.proofs.lemmas.Slice.Eq.{bytes_eq-Decides}
use Rattle.pt_desk_rules.specs.Rule.{Rule}
use Rattle.pt_desk_rules.specs.Trip.{Trip}
use Rattle.pt_desk_rules.specs.Wish.{Wish}
use Rattle.pt_desk_rules.specs.Moment.{Moment}
use Rattle.pt_base_records.specs.Records.{edited, put, record_at, Edit}
use Rattle.pt_base_records.proofs.OrderLemmas.{record_at-put_same, record_at-put_other}
use Rattle.pt_base_records.proofs.TableLemmas.{below_is}
use Rattle.pt_desk_rules.specs.FailingRules.{first_failing}
use Rattle.pt_desk_rules.specs.Outcome.{Outcome}
use Rattle.pt_desk_scheduling.specs.Plan.{Plan}
use Rattle.pt_desk_scheduling.specs.declared.scheduling.Scheduled.TheVariants as scheduled
use Rattle.pt_desk_spelling.specs.Replies.{answer_of, reply_of}
use Rattle.pt_desk_spelling.specs.Requests.{spelling}
use Rattle.pt_desk_spelling.specs.declared.replies.KeptReply.{KeptReply}
use Rattle.pt_desk_spelling.specs.declared.replies.KeptReply.TheVariants as reply
use Rattle.pt_desk_rules.specs.Arrival.{arrival_of}
use Rattle.pt_desk_rules.specs.Booking.{IsBooking}
use Rattle.pt_desk_rules.specs.Deciding.{booked, changed, kept_by, with_kept, IsCancelDecided, IsChangeDecided}
use Rattle.pt_desk_rules.specs.Deciding.{IsEndDecided, IsDecidedBy, IsDecisionAfter}
use Rattle.pt_desk_rules.specs.Facts.{facts_of, FactsOf}
use Rattle.pt_desk_laws.specs.Numbers.{accepted_writes, committed, kept_from, kept_where, last_number, number_of}
use Rattle.pt_desk_laws.specs.Numbers.{AreCalls, AreMadeBy, Call, IsKept, IsWrite}
use Rattle.pt_desk_laws.specs.Numbers.{AcceptedNumbersRise, AcceptedWritesAreKept, LastAcceptedIsKept}
use Rattle.pt_desk_laws.specs.Numbers.{AcceptedWritesMakeTheState}
use Rattle.pt_desk_laws.specs.Numbers.{RepeatsAreToldTheSame, WritesMayBeSentAgain}
use Rattle.pt_desk_rules.specs.Rules.{rules_of}
use Rattle.pt_desk_rules.specs.State.{State, applied, caller_key, kept_key, kept_of, no_edit, puts_one}
use Rattle.pt_desk_rules.specs.Step.{arrival_in, left_of, sender, sent_with, state_after, told_of}
use Rattle.pt_desk_rules.specs.Step.{IsOutcome, IsOutcomeAs, IsOutcomeBy}
use Rattle.pt_desk_laws.proofs.OutcomeLemmas.{decision_is, is_of_write, IsOfWrite}
use Rattle.pt_desk_rules.specs.declared.change.Change.{Change}
use Rattle.pt_desk_rules.specs.declared.deciding.Decision.{Decision}
use Rattle.pt_desk_rules.specs.declared.deciding.Decision.TheVariants as decision
use Rattle.pt_desk_rules.specs.declared.facts.CancelFacts.{CancelFacts}
use Rattle.pt_desk_rules.specs.declared.facts.WishFacts.{WishFacts}
use Rattle.pt_desk_rules.specs.declared.kept.Arrival.{Arrival}
use Rattle.pt_desk_rules.specs.declared.kept.Arrival.TheVariants.{New, Repeated, Stale}
use Rattle.pt_desk_rules.specs.declared.kept.Kept.{Kept}
use Rattle.pt_desk_rules.specs.declared.kept.Sent.{Sent}
use Rattle.pt_desk_rules.specs.Caller.{Caller}
use Rattle.pt_desk_rules.specs.Answer.{Answer}
use Rattle.pt_desk_rules.specs.Answer.TheVariants.{Done, Entered, Booked}
use Rattle.pt_desk_rules.specs.Request.{Request}
use Rattle.pt_desk_rules.specs.Request.TheVariants as request
use Rattle.pt_desk_rules.specs.Write.{Write}
use Rattle.pt_desk_rules.specs.Write.TheVariants as write

-- the callers that an accepted write puts
abbrev pub callers_by : Write → Edit Caller
callers_by (write.PutCaller new) = puts_one new
callers_by _ = no_edit

-- an accepted write puts these callers and no kept request
abbrev pub Makes : Edit Caller → Decision → Type 0
Makes callers (decision.Denied first) = Unit {0}
Makes callers (decision.Accepted told change) = (change.kept ≡ no_edit) × (change.callers ≡ callers)

booking_makes : (change : Trip → Plan → Change)
    → ((told : Answer) (trip : Trip) (plan : Plan) → Makes no_edit (decision.Accepted told (change trip plan)))
    → (number : ℕ) (left_out : Option ℕ) (today : ℕ) (wish : Wish) (facts : WishFacts) (decided : Decision)
    → IsBooking change number left_out today wish facts decided → Makes no_edit decided
booking_makes change makes number left_out today wish facts decided (scheduled.Denied rule, by, is) =
    subst (Makes no_edit) (sym is) tt
booking_makes change makes number left_out today wish facts decided
    (scheduled.Booked trip plan, by, (told, confirms, is)) =
    subst (Makes no_edit) (sym is) (makes (Booked told) trip plan)

change_makes : (found : Option Trip) (wish : Wish) (today : ℕ) (facts : WishFacts) (decided : Decision)
    → IsChangeDecided found wish today facts decided → Makes no_edit decided
change_makes None wish today facts decided changes = absurd changes
change_makes (Some old) wish today facts decided changes =
    booking_makes (changed old facts.booking.plan) (λ told trip plan. (refl, refl)) old.id (Some old.id) today wish
    facts decided changes

cancel_makes : (found : Option Trip) (facts : CancelFacts) (decided : Decision)
    → IsCancelDecided found facts decided → Makes no_edit decided
cancel_makes None facts decided cancels = absurd cancels
cancel_makes (Some trip) facts decided is = subst (Makes no_edit) (sym is) (refl, refl)

end_makes : (found : Option Trip) (outcome : Outcome) (decided : Decision) → IsEndDecided found outcome decided
    → Makes no_edit decided
end_makes None outcome decided ends = absurd ends
end_makes (Some trip) outcome decided is = subst (Makes no_edit) (sym is) (refl, refl)

pub decided_makes : (asked : Write) (author today : ℕ) (facts : FactsOf asked) (decided : Decision)
    → IsDecidedBy asked author today facts decided → Makes (callers_by asked) decided
decided_makes (write.Book rider wish) author today facts decided is =
    booking_makes booked (λ told trip plan. (refl, refl)) (facts.booking.last_trip + 1) None today wish facts decided is
decided_makes (write.Change trip wish) author today facts decided is =
    change_makes facts.booking.trip wish today facts decided is
decided_makes (write.Cancel trip) author today facts decided is = cancel_makes facts.trip facts decided is
decided_makes (write.Outcome trip outcome) author today found decided is = end_makes found outcome decided is
decided_makes asked author today facts decided is = subst (Makes (callers_by asked)) (sym is) (refl, refl)

-- an accepted write puts these callers and its own caller's kept request
abbrev Keeps : Edit Caller → ℕ → Sent → Decision → Type 0
Keeps callers me sent (decision.Denied first) = Unit {0}
Keeps callers me sent (decision.Accepted told change) =
    (change.kept ≡ puts_one (kept_by me sent (unwrap_or (reply_of told) reply.Done))) × (change.callers ≡ callers)

made_keeps : (callers : Edit Caller) (me : ℕ) (sent : Sent) (made : Decision) → Makes callers made
    → Keeps callers me sent (with_kept me sent made)
made_keeps callers me sent (decision.Denied first) makes = tt
made_keeps callers me sent (decision.Accepted told change) makes = (refl, makes.1)

decision_keeps : (first : Option Rule) (asked : Write) (me : Caller) (now : Moment) (sent : Sent)
    (facts : FactsOf asked) (decided : Decision) → IsDecisionAfter first asked me now sent facts decided
    → Keeps (callers_by asked) me.id sent decided
decision_keeps (Some first) asked me now sent facts decided is = subst (Keeps (callers_by asked) me.id sent) (sym is) tt
decision_keeps None asked me now sent facts decided (made, is, keeps) =
    subst (Keeps (callers_by asked) me.id sent) (sym keeps)
    (made_keeps (callers_by asked) me.id sent made (decided_makes asked me.id now.0 facts made is))

-- the answer to an accepted write can be stored
told_again : (told : Answer) → is_of_write told ≡ true → told ≡ answer_of (unwrap_or (reply_of told) reply.Done)
told_again Done is = refl
told_again (Entered position) is = refl
told_again (Booked told) is = refl
told_again _ is = absurd (cc)

-- a new number is above that of the kept request
new_where : (b : Bool) (other : Arrival) → (other ≡ New → ⊥) → cond b New other ≡ New → IsTrue b
new_where true other not is = refl
new_where false other not is = absurd (not is)

repeated_is_not_new : (b : Bool) (told : KeptReply) → cond b (Repeated told) Stale ≡ New → ⊥
repeated_is_not_new true told is = absurd (cc)
repeated_is_not_new false told is = absurd (cc)

pub new_is_above : (number : ℕ) (bytes : List ℕ) (found : Option Kept) → arrival_of number bytes found ≡ New
    → number_of found < number
new_is_above number bytes None is =
    below_is 0 number (new_where (nat_lt 0 number) Stale (λ same. absurd (cc)) is)
new_is_above number bytes (Some kept) is =
    below_is kept.number number (new_where (nat_lt kept.number number) _
    (repeated_is_not_new (kept.number == number && bytes_eq kept.request bytes) kept.reply) is)

-- the kept request of each caller after this one is put
kept_same : (kept : Kept) (s new : State) → new.kept ≡ put kept_key kept s.kept → kept_of kept.caller new ≡ Some kept
kept_same kept s new is = ap (record_at kept_key kept.caller) is ∙ record_at-put_same kept_key kept s.kept

kept_other : (kept : Kept) (id : ℕ) (s new : State) → new.kept ≡ put kept_key kept s.kept → id ≢ kept.caller
    → kept_of id new ≡ kept_of id s
kept_other kept id s new is other =
    ap (record_at kept_key id) is ∙ record_at-put_other kept_key id kept s.kept (λ same. other (sym same))

kept_after : (kept : Kept) (change : Change) (s new : State) → Some new ≡ Some (applied change s)
    → change.kept ≡ puts_one kept → new.kept ≡ put kept_key kept s.kept
kept_after kept change s new is keeps =
    ap (λ (t : State). t.kept) (same_Some new (applied change s) is) ∙ ap (λ e. edited kept_key e s.kept) keeps

decided_is_kept : (asked : Write) (me : Caller) (number : ℕ) (s new : State) (told : Answer) (decided : Decision)
    → last_number me.id s < number → IsOfWrite decided
    → Keeps (callers_by asked) me.id (sent_with number asked) decided → told ≡ told_of decided
    → Some new ≡ left_of decided s → IsKept me number asked told s new
decided_is_kept asked me number s new told (decision.Denied first) above of keeps tells leaves = absurd (cc)
decided_is_kept asked me number s new told (decision.Accepted says change) above of keeps tells leaves =
    let said = unwrap_or (reply_of says) reply.Done in
    let kept = kept_by me.id (sent_with number asked) said in
    let is = kept_after kept change s new leaves keeps.0 in
    record {
      above = above;
      kept = (said, tells ∙ told_again says of, kept_same kept s new is);
      others_stay = λ id other. kept_other kept id s new is other;
    }

write_is_kept : (arrival : Arrival) (asked : Write) (me : Caller) (now : Moment) (number : ℕ) (s new : State)
    (told : Answer) → arrival_in s asked me number ≡ arrival
    → IsOutcomeAs arrival asked me now number s told (Some new) → IsKept me number asked told s new
write_is_kept (Repeated reply) asked me now number s new told comes (tells, leaves) = absurd (cc)
write_is_kept Stale asked me now number s new told comes (tells, leaves) = absurd (cc)
write_is_kept New asked me now number s new told comes (decided, is, made, tells, leaves) =
    let facts = facts_of asked s in
    let sent = sent_with number asked in
    let first = first_failing (rules_of asked me now facts) in
    decided_is_kept asked me number s new told decided
    (new_is_above number (spelling asked) (kept_of me.id s) comes)
    (decision_is first asked me now sent facts decided is)
    (decision_keeps first asked me now sent facts decided is) tells leaves

-- the callers after an accepted write
callers_after : (asked : Write) (me : ℕ) (sent : Sent) (s new : State) (decided : Decision)
    → Keeps (callers_by asked) me sent decided → Some new ≡ left_of decided s
    → new.callers ≡ edited caller_key (callers_by asked) s.callers
callers_after asked me sent s new (decision.Denied first) keeps leaves = absurd (cc)
callers_after asked me sent s new (decision.Accepted told change) keeps leaves =
    ap (λ (t : State). t.callers) (same_Some new (applied change s) leaves)
    ∙ ap (λ e. edited caller_key e s.callers) keeps.1

pub write_leaves_callers : (arrival : Arrival) (asked : Write) (me : Caller) (now : Moment) (number : ℕ)
    (s new : State) (told : Answer) → IsOutcomeAs arrival asked me now number s told (Some new)
    → new.callers ≡ edited caller_key (callers_by asked) s.callers
write_leaves_callers (Repeated reply) asked me now number s new told (tells, leaves) = absurd (cc)
write_leaves_callers Stale asked me now number s new told (tells, leaves) = absurd (cc)
write_leaves_callers New asked me now number s new told (decided, is, made, tells, leaves) =
    let facts = facts_of asked s in
    let sent = sent_with number asked in
    let first = first_failing (rules_of asked me now facts) in
    callers_after asked me.id sent s new decided
    (decision_keeps first asked me now sent facts decided is) leaves

pub accepted_writes_are_kept : AcceptedWritesAreKept
accepted_writes_are_kept key now number asked me s new told by outcome =
    write_is_kept (arrival_in s asked me number) asked me now number s new told refl
    (subst (λ c. IsOutcomeBy c now number (request.Write asked) s told (Some new)) by outcome)

-- a write with the number and spelling of the kept request is that request
same_again : (told : KeptReply) (below same equal : Bool) → below ≡ false → same ≡ true → equal ≡ true
    → cond below New (cond (same && equal) (Repeated told) Stale) ≡ Repeated told
same_again told true same equal level one other = absurd (cc)
same_again told false false equal level one other = absurd (cc)
same_again told false true false level one other = absurd (cc)
same_again told false true true level one other = refl

not_below : (n : ℕ) → nat_lt n n ≡ false
not_below n = grind (arith, nat_tests)

is_itself : (n : ℕ) → (n == n) ≡ true
is_itself n = grind (arith, nat_tests)

comes_again : (kept : Kept) (bytes : List ℕ) → kept.request ≡ bytes
    → arrival_of kept.number bytes (Some kept) ≡ Repeated kept.reply
comes_again kept bytes same =
    same_again kept.reply (nat_lt kept.number kept.number) (kept.number == kept.number) (bytes_eq kept.request bytes)
    (not_below kept.number) (is_itself kept.number)
    ((bytes_eq-Decides kept.request bytes).1 same)

pub repeats_are_told_the_same : RepeatsAreToldTheSame
repeats_are_told_the_same key now asked me kept s told left by found same outcome =
    let written = subst (λ c. IsOutcomeBy c now kept.number (request.Write asked) s told left) by outcome in
    let comes : arrival_in s asked me kept.number ≡ Repeated kept.reply =
    ap (λ o. arrival_of kept.number (spelling asked) o) found ∙ comes_again kept (spelling asked) same in
    subst (λ a. IsOutcomeAs a asked me now kept.number s told left) comes written

-- The effect of a call on a caller's kept request: none, or the call is an accepted write.
abbrev Moves : ℕ → State → State → Option Kept → Type 0
Moves id s after None = kept_of id after ≡ kept_of id s
Moves id s after (Some kept) = (kept_of id after ≡ Some kept) × (last_number id s < kept.number)

same_reply : (told : Answer) (said : KeptReply) → told ≡ answer_of said → unwrap_or (reply_of told) reply.Done ≡ said
same_reply told reply.Done is = ap (λ t. unwrap_or (reply_of t) reply.Done) is
same_reply told (reply.Entered position) is = ap (λ t. unwrap_or (reply_of t) reply.Done) is
same_reply told (reply.Booked booking) is = ap (λ t. unwrap_or (reply_of t) reply.Done) is

own_write : (me : Caller) (number : ℕ) (asked : Write) (told : Answer) (s new : State)
    → IsKept me number asked told s new
    → Moves me.id s new (Some (kept_by me.id (sent_with number asked) (unwrap_or (reply_of told) reply.Done)))
own_write me number asked told s new is =
    let same = same_reply told is.kept.0 is.kept.1 in
    (is.kept.2 ∙ ap (λ r. Some (kept_by me.id (sent_with number asked) r)) (sym same), is.above)

-- a call by this caller
own_moves : (me : Caller) (now : Moment) (number : ℕ) (asked : Request) (s : State) (told : Answer)
    (left : Option State) → IsOutcomeBy (Some me) now number asked s told left
    → Moves me.id s (state_after left s) (kept_where me.id number asked told left)
own_moves me now number (request.Read asked) s told left outcome =
    ap (λ l. kept_of me.id (state_after l s)) outcome.1
own_moves me now number (request.Explain rider wish) s told left outcome =
    ap (λ l. kept_of me.id (state_after l s)) outcome.1
own_moves me now number (request.Write asked) s told None outcome = refl
own_moves me now number (request.Write asked) s told (Some new) outcome =
    own_write me number asked told s new
    (write_is_kept (arrival_in s asked me number) asked me now number s new told refl outcome)

-- a call by another caller
other_moves : (id : ℕ) (me : Caller) (now : Moment) (number : ℕ) (asked : Request) (s : State) (told : Answer)
    (left : Option State) → id ≢ me.id → IsOutcomeBy (Some me) now number asked s told left
    → Moves id s (state_after left s) None
other_moves id me now number (request.Read asked) s told left other outcome =
    ap (λ l. kept_of id (state_after l s)) outcome.1
other_moves id me now number (request.Explain rider wish) s told left other outcome =
    ap (λ l. kept_of id (state_after l s)) outcome.1
other_moves id me now number (request.Write asked) s told None other outcome = refl
other_moves id me now number (request.Write asked) s told (Some new) other outcome =
    (write_is_kept (arrival_in s asked me number) asked me now number s new told refl outcome).others_stay id other

call_moves_by : (id : ℕ) (found : Option Caller) (call : Call) (s : State)
    → IsOutcomeBy found call.now call.number call.asked s call.told call.left
    → Moves id s (state_after call.left s) (kept_from id found call)
call_moves_by id None call s outcome = ap (λ l. kept_of id (state_after l s)) outcome.1
call_moves_by id (Some me) call s outcome = elim (eqb_tells me.id id) [
  | inl (tells, same) ↦
      subst (λ b. Moves id s (state_after call.left s)
      (cond b (kept_where id call.number call.asked call.told call.left) None)) (sym tells)
      (subst (λ i. Moves i s (state_after call.left s) (kept_where i call.number call.asked call.told call.left)) same
      (own_moves me call.now call.number call.asked s call.told call.left outcome))
  | inr (tells, other) ↦
      subst (λ b. Moves id s (state_after call.left s)
      (cond b (kept_where id call.number call.asked call.told call.left) None)) (sym tells)
      (other_moves id me call.now call.number call.asked s call.told call.left (λ same. other (sym same)) outcome)
]

call_moves : (id : ℕ) (call : Call) (s : State)
    → IsOutcome call.key call.now call.number call.asked s call.told call.left
    → Moves id s (state_after call.left s) (kept_from id (sender call.key s) call)
call_moves id call s outcome = call_moves_by id (sender call.key s) call s outcome

-- the last of a list with one more element before it
last_moves : (id : ℕ) (s next : State) (one : Option Kept) (later : List Kept) (found : Option Kept)
    → Moves id s next one → found ≡ last_or (kept_of id next) later
    → found ≡ last_or (kept_of id s) (cons_option one later)
last_moves id s next None later found moves is = is ∙ ap (λ o. last_or o later) moves
last_moves id s next (Some kept) later found moves is = is ∙ ap (λ o. last_or o later) moves.0

pub last_accepted_is_kept : LastAcceptedIsKept
last_accepted_is_kept id s after [] is = ap (λ t. kept_of id t) is
last_accepted_is_kept id s after (call ∷ later) (outcome, rest) =
    last_moves id s (state_after call.left s) (kept_from id (sender call.key s) call)
    (accepted_writes id (state_after call.left s) later) (kept_of id after) (call_moves id call s outcome)
    (last_accepted_is_kept id (state_after call.left s) after later rest)

-- a number below the first of a rising list makes a rising list with it
rises_one : (n : ℕ) → IsStrictlyIncreasing (n ∷ [])
rises_one n k within = absurd (omega arith)

rises_with : (n m : ℕ) (ms : List ℕ) → n < m → IsStrictlyIncreasing (m ∷ ms) → IsStrictlyIncreasing (n ∷ m ∷ ms)
rises_with n m ms below rises zero within = below
rises_with n m ms below rises (suc k) within =
    let next : suc (k + 1) ≡ suc k + 1 = omega arith in
    subst (λ i. slice_index (m ∷ ms) k < slice_index (n ∷ m ∷ ms) i) next (rises k (omega arith))

numbers_move : (id : ℕ) (s next : State) (one : Option Kept) (later : List Kept) → Moves id s next one
    → IsStrictlyIncreasing (last_number id next ∷ map (λ kept. kept.number) later)
    → IsStrictlyIncreasing (last_number id s ∷ map (λ kept. kept.number) (cons_option one later))
numbers_move id s next None later moves rises =
    subst (λ o. IsStrictlyIncreasing (number_of o ∷ map (λ kept. kept.number) later)) moves rises
numbers_move id s next (Some kept) later moves rises =
    rises_with (last_number id s) kept.number (map (λ kept. kept.number) later) moves.1
    (subst (λ o. IsStrictlyIncreasing (number_of o ∷ map (λ kept. kept.number) later)) moves.0 rises)

pub accepted_numbers_rise : AcceptedNumbersRise
accepted_numbers_rise id s after [] is = rises_one (last_number id s)
accepted_numbers_rise id s after (call ∷ later) (outcome, rest) =
    numbers_move id s (state_after call.left s) (kept_from id (sender call.key s) call)
    (accepted_writes id (state_after call.left s) later) (call_moves id call s outcome)
    (accepted_numbers_rise id (state_after call.left s) after later rest)

-- what commits a state is a write
commits_by_write : (found : Option Caller) (now : Moment) (number : ℕ) (asked : Request) (s : State) (told : Answer)
    (left : Option State) (new : State) → left ≡ Some new → IsOutcomeBy found now number asked s told left
    → IsWrite asked
commits_by_write None now number asked s told left new is outcome = absurd (let none = sym is ∙ outcome.1 in cc)
commits_by_write (Some me) now number (request.Read asked) s told left new is outcome =
    absurd (let none = sym is ∙ outcome.1 in cc)
commits_by_write (Some me) now number (request.Explain rider wish) s told left new is outcome =
    absurd (let none = sym is ∙ outcome.1 in cc)
commits_by_write (Some me) now number (request.Write asked) s told left new is outcome = tt

-- a call that committed nothing leaves no kept request
none_kept : (id : ℕ) (found : Option Caller) (call : Call) → call.left ≡ None → kept_from id found call ≡ None
none_kept id None call is = refl
none_kept id (Some me) call is =
    none_if (me.id == id) (kept_where id call.number call.asked call.told call.left)
    (ap (λ l. kept_where id call.number call.asked call.told l) is ∙ none_where id call.number call.asked call.told)
  where
    none_where : (id number : ℕ) (asked : Request) (told : Answer) → kept_where id number asked told None ≡ None
    none_where id number (request.Read asked) told = refl
    none_where id number (request.Explain rider wish) told = refl
    none_where id number (request.Write asked) told = refl

    none_if : (own : Bool) (kept : Option Kept) → kept ≡ None → cond own kept None ≡ None
    none_if true kept is = is
    none_if false kept is = refl

-- one call more, which committed this
made_with : (s after : State) (call : Call) (later writes : List Call) (left : Option State) → call.left ≡ left
    → IsOutcome call.key call.now call.number call.asked s call.told call.left
    → AreMadeBy (state_after left s) after later writes
    → AreMadeBy s after (call ∷ later) (cond (is_some left) (call ∷ writes) writes)
made_with s after call later writes None is outcome made = record {
  alone = made.alone;
  are_writes = made.are_writes;
  each_once = λ id. made.each_once id
      ∙ sym (ap (λ o. cons_option o (accepted_writes id (state_after call.left s) later))
      (none_kept id (sender call.key s) call is)
      ∙ ap (λ l. accepted_writes id (state_after l s) later) is);
}
made_with s after call later writes (Some new) is outcome made = record {
  alone = (outcome, subst (λ l. AreCalls (state_after l s) writes after) (sym is) made.alone);
  are_writes = (
    commits_by_write (sender call.key s) call.now call.number call.asked s call.told call.left new is outcome,
    made.are_writes,
  );
  each_once = λ id. ap (λ ws. cons_option (kept_from id (sender call.key s) call) ws)
      (subst (λ l. accepted_writes id (state_after l s) writes ≡ accepted_writes id (state_after l s) later) (sym is)
      (made.each_once id));
}

pub accepted_writes_make_the_state : AcceptedWritesMakeTheState
accepted_writes_make_the_state s after [] is = record { alone = is; are_writes = tt; each_once = λ id. refl }
accepted_writes_make_the_state s after (call ∷ later) (outcome, rest) =
    made_with s after call later (committed later) call.left refl outcome
    (accepted_writes_make_the_state (state_after call.left s) after later rest)

-- the kept request stays if no other write was accepted
still_kept : (id : ℕ) (s after : State) (calls : List Call) → AreCalls s calls after → accepted_writes id s calls ≡ []
    → kept_of id after ≡ kept_of id s
still_kept id s after calls are none =
    last_accepted_is_kept id s after calls are ∙ ap (λ ks. last_or (kept_of id s) ks) none

pub writes_may_be_sent_again : WritesMayBeSentAgain
writes_may_be_sent_again key with now later number asked me holder told again calls s after left last holds same
    outcome =
    let is = accepted_writes_are_kept key now number asked me s last.committed told last.by last.accepted in
    let kept = kept_by me.id (sent_with number asked) is.kept.0 in
    let found : kept_of me.id after ≡ Some kept =
    still_kept me.id last.committed after calls last.calls_since last.none_since ∙ is.kept.2 in
    let here : kept_of holder.id after ≡ Some kept = ap (λ i. kept_of i after) same ∙ found in
    let tells = repeats_are_told_the_same with later asked holder kept after again left holds here refl outcome in
    (tells.0 ∙ sym is.kept.1, tells.1)
