-- One more call of a run.
use Rattle.std.proofs.Common.{◌≡◌, ℕ, zero, suc, ◌<◌, ◌≤◌, ◌⊎◌, ◌++◌, List, [], ◌∷◌, Some, None, Result, Ok, Err}
use Rattle.std.proofs.Common.{length, drop, get_or, drop-cons, add-one, ◌+◌, arith, refl, sym, ap, ◌∙◌, subst, inl}
use Rattle.std.proofs.Common.{inr}
use Rattle.std.proofs.lemmas.List.{drop_all}
use Rattle.pt_desk_rules.specs.State.{State}
use Rattle.pt_desk_store.specs.Store.{Store, ChangesNothing, Fails}
use Rattle.pt_desk_store.specs.declared.keeper.StoreFault.{StoreFault}
use Rattle.pt_desk_store.specs.declared.keeper.StoreFault.TheVariants.{Memory, Store as failed}
use Rattle.pt_desk_requests.specs.declared.request.Answer.{Answer}
use Rattle.pt_desk.specs.declared.running.Call.{Call}
use Rattle.pt_desk.specs.Run.{AnswersCall, IsOnlyTold, IsOutcomeOf, Runs, AreOnlyTold, AreRefused, GoesOn}
use Rattle.pt_desk.specs.Run.{made, AreAnswered, IsToldAfterACrash, RunsAreCalls, RunsLeaveAcceptedWrites, TellOfFailure}
use Rattle.pt_desk_laws.specs.Again.{IsToldAgain}
use Rattle.pt_desk_laws.specs.Numbers.{committed, AreMadeBy}
use Rattle.pt_desk_rules.specs.Step.{state_after}
use Rattle.pt_desk_laws.proofs.NumberLemmas.{accepted_writes_make_the_state}
use Rattle.pt_desk_laws.proofs.AgainLemmas.{requests_are_the_same_again}
use Rattle.std.proofs.lemmas.Option.{same_Some}

abbrev Reply : Type 0
Reply = Result Answer StoreFault

-- an answer before a run
answered : (call : Call) (calls : List Call) (reply : Reply) (replies : List Reply) (old mid new : State)
    → AnswersCall call old mid reply → (◌≡◌ {A = Reply} reply (Err failed) → ⊥) → Runs mid calls replies new
    → Runs old (call ∷ calls) (reply ∷ replies) new
answered call calls (Err failed) replies old mid new told fine rest = absurd (fine refl)
answered call calls (Err Memory) replies old mid new (told, left, tells, by) fine rest = subst (λ s. Runs s calls replies new) tells rest
answered call calls (Ok answer) replies old mid new (told, left, tells, (inl is)) fine rest =
    (left, subst (λ (a : Answer). IsOutcomeOf call old a left) (sym tells.0) is, subst (λ s. Runs s calls replies new) tells.1 rest)
answered call calls (Ok answer) replies old mid new (told, left, tells, (inr fault)) fine rest = absurd fault.0

refused : (call : Call) (calls : List Call) (reply : Reply) (replies : List Reply) (old new : State)
    → ◌≡◌ {A = Reply} reply (Err failed) → AreRefused calls replies → Runs old (call ∷ calls) (reply ∷ replies) new
refused call calls reply replies old new is rest = subst (λ r. Runs old (call ∷ calls) (r ∷ replies) new) (sym is) rest

-- one more call, with its answer
pub goes_on : (call : Call) (calls : List Call) (reply : Reply) (replies : List Reply) (old mid new : State) (before now : ℕ) → Fails before now reply
    → AnswersCall call old mid reply → GoesOn now mid calls replies new → GoesOn before old (call ∷ calls) (reply ∷ replies) new
goes_on call calls reply replies old mid new before zero fails told rest =
    let grows = fails.grows in
    record {
      runs = λ none. answered call calls reply replies old mid new told (λ is. let lt = fails.told is in omega arith) (rest.runs refl);
      failed = λ some. absurd (omega arith);
    }
goes_on call calls reply replies old mid new before (suc n) fails told rest =
    let some : 0 < suc n = omega arith in
    record {
      runs = λ none. refused call calls reply replies old new (fails.stays some) (rest.failed some);
      failed = λ _. (fails.stays some, rest.failed some);
    }

-- nothing is left to run
pub ended : (failures : ℕ) (s : State) (calls : List Call) (i : ℕ) → length calls ≤ i → GoesOn failures s (drop i calls) [] s
ended failures s calls i all = rw drop_all (record { runs = λ _. refl; failed = λ _. tt })

-- the call that comes next
next : (calls : List Call) (i : ℕ) (call : Call) → i < length calls → call ≡ get_or calls i call → drop i calls ≡ call ∷ drop (i + 1) calls
next calls i call lt here = rw add-one (drop-cons calls i call lt ∙ ap (λ c. c ∷ drop (suc i) calls) (sym here))

pub goes_on_at : (calls : List Call) (i : ℕ) (call : Call) (reply : Reply) (replies : List Reply)
    (old mid new : State) (before now : ℕ) → i < length calls → call ≡ get_or calls i call → Fails before now reply
    → AnswersCall call old mid reply → GoesOn now mid (drop (i + 1) calls) replies new → GoesOn before old (drop i calls) (reply ∷ replies) new
goes_on_at calls i call reply replies old mid new before now lt here fails told rest =
    subst (λ cs. GoesOn before old cs (reply ∷ replies) new) (sym (next calls i call lt here))
    (goes_on call (drop (i + 1) calls) reply replies old mid new before now fails told rest)

told_at_last : (replies : List Reply) (reply : Reply) → TellOfFailure (replies ++ reply ∷ []) → TellOfFailure replies ⊎ (◌≡◌ {A = Reply} reply (Err failed))
told_at_last [] reply (inl is) = inr is
told_at_last [] reply (inr none) = absurd none
told_at_last (first ∷ replies) reply (inl is) = inl (inl is)
told_at_last (first ∷ replies) reply (inr later) = elim (told_at_last replies reply later) [ inl some ↦ inl (inr some) | inr last ↦ inr last ]

-- one more reply: if one says that the store has failed, it has
pub failure_told : (replies longer : List Reply) (reply : Reply) (before after : ℕ) → longer ≡ replies ++ reply ∷ [] → before ≤ after
    → (TellOfFailure replies → 0 < before) → (◌≡◌ {A = Reply} reply (Err failed) → 0 < after) → TellOfFailure longer → 0 < after
failure_told replies longer reply before after is grows so_far now some =
    elim (told_at_last replies reply (subst TellOfFailure is some)) [
      | inl earlier ↦ let up = so_far earlier in omega arith
      | inr last ↦ now last
    ]

-- if the store is clean, the content is unchanged, and a crash leaves only what was there
abbrev pub IsSame : Store → Store → Type 0
IsSame before after = ChangesNothing {X = Unit {0}} {E = StoreFault} before after (Ok tt)

same_then : (call : Call) (reply : Reply) (a b c : Store) → b.doubt ≤ c.doubt → IsSame a b → (IsOnlyTold call reply → ChangesNothing b c reply) → IsOnlyTold call reply → IsSame a c
same_then call (Ok answer) a b c up first changes told =
    let last = changes told in
    record {
      content = λ clean. let was : b.doubt ≡ 0 = omega arith in last.content clean ∙ first.content was;
      found = λ clean o found. let was : b.doubt ≡ 0 = omega arith in first.found was o (last.found clean o found);
    }
same_then call (Err fault) a b c up first changes told = absurd (elim told [ inl denial ↦ denial | inr read ↦ absurd (cc (read.1)) ])

-- one more call that is a denial or an answered read
pub only_told_at : (calls : List Call) (i : ℕ) (call : Call) (reply : Reply) (replies : List Reply) (a b c : Store) → i < length calls → call ≡ get_or calls i call → b.doubt ≤ c.doubt
    → (IsOnlyTold call reply → ChangesNothing b c reply) → IsSame a b × AreOnlyTold (drop i calls) (reply ∷ replies) → IsSame a c × AreOnlyTold (drop (i + 1) calls) replies
only_told_at calls i call reply replies a b c lt here up changes (first, told) =
    let these = subst (λ cs. AreOnlyTold cs (reply ∷ replies)) (next calls i call lt here) told in
    (same_then call reply a b c up first changes these.0, these.1)

-- if each call is refused, none is answered
none_answered : (calls : List Call) (replies : List Reply) → AreRefused calls replies → AreAnswered calls replies []
none_answered [] [] refused = tt
none_answered [] (reply ∷ replies) refused = refused
none_answered (call ∷ calls) [] refused = refused
none_answered (call ∷ calls) (reply ∷ replies) (is, rest) =
    subst (λ r. AreAnswered (call ∷ calls) (r ∷ replies) []) (sym is) (none_answered calls replies rest)

-- the answered calls of a run are calls by the rules
pub runs_are_calls : RunsAreCalls
runs_are_calls old new [] [] is = record {
  answered = [];
  after = old;
  are_answered = tt;
  by_rules = refl;
  left = λ served. is;
}
runs_are_calls old new [] (reply ∷ replies) runs = absurd runs
runs_are_calls old new (call ∷ calls) [] runs = absurd runs
runs_are_calls old new (call ∷ calls) (Err failed ∷ replies) refused = record {
  answered = [];
  after = old;
  are_answered = none_answered calls replies refused;
  by_rules = refl;
  left = λ served. absurd (served.0 refl);
}
runs_are_calls old new (call ∷ calls) (Err Memory ∷ replies) runs =
    let rest = runs_are_calls old new calls replies runs in
    record {
      answered = rest.answered;
      after = rest.after;
      are_answered = rest.are_answered;
      by_rules = rest.by_rules;
      left = λ served. rest.left served.1;
    }
runs_are_calls old new (call ∷ calls) (Ok told ∷ replies) (left, is, runs) =
    let rest = runs_are_calls (state_after left old) new calls replies runs in
    record {
      answered = made call told left ∷ rest.answered;
      after = rest.after;
      are_answered = (refl, rest.are_answered);
      by_rules = (is, rest.by_rules);
      left = λ served. rest.left served.1;
    }

pub runs_leave_accepted_writes : RunsLeaveAcceptedWrites
runs_leave_accepted_writes old new calls replies runs served =
    let run = runs_are_calls old new calls replies runs in
    let made_by = accepted_writes_make_the_state old run.after run.answered run.by_rules in
    let left = sym (run.left served) in
    (run.answered, run.are_answered, subst (λ t. AreMadeBy old t run.answered (committed run.answered)) left made_by)

-- an answer is by the rules, and an opening after it finds what it left
pub told_after_a_crash : (before after : Store) → IsToldAfterACrash before after
told_after_a_crash before after call told again opened left sound settled serving (value, made, goes, by) found comes =
    let told_so = (goes.holds serving.clean).tells in
    let here : opened ≡ after.content =
    same_Some opened after.content (goes.settled settled serving.serves serving.whole (Some opened) found) in
    let stands : state_after made before.content ≡ opened = sym (here ∙ told_so.1) in
    elim (by serving.clean) [
      | inl is ↦
          let again_there = subst (λ t. IsOutcomeOf call t again left) (sym stands) comes in
          let same = requests_are_the_same_again call.key.items call.now call.number call.request before.content value
          again made left sound is again_there in
          subst (λ t. IsToldAgain call.key.items call.request before.content t told again × (left ≡ None)) stands
          (subst (λ v. IsToldAgain call.key.items call.request before.content (state_after made before.content) v again
          × (left ≡ None)) (sym told_so.0) same)
      | inr fault ↦ absurd fault.0
    ]
