-- Answers by the outcomes that the rules allow.
use Rattle.std.proofs.Common.{◌≡◌, ◌∙◌, ◌<◌, ◌≤◌, inl, inr, Option, None, Some, Result, Ok, Err, IfOk, OnOk, arith, ap, refl, sym, subst}
use Rattle.std.specs.Result.{IsErrAnd}
use Rattle.pt_desk_rules.specs.State.{State}
use Rattle.pt_desk_rules.specs.Step.{state_after}
use Rattle.pt_desk_store.specs.Store.{Store, Answers, ChangesNothing, Goes, IsDurable, Tells, TellsBy}
use Rattle.pt_desk_store.specs.declared.keeper.StoreFault.{StoreFault}
use Rattle.pt_desk_store.specs.declared.keeper.StoreFault.TheVariants.{Memory, Store as failed}
use Rattle.pt_desk_store.proofs.ReadLemmas.{fault_of, reads_map}
use Rattle.pt_desk_store.proofs.StoreLemmas.{found_still, reads_then, read_tells, leaves_nothing}

abbrev Outcome : Type 0 → Type 1
Outcome X = State → X → Option State → Type 0

-- a read before calls that then answer, by what is known of what was read
pub known_then : {X Y : Type 0} (a b c : Store) (x v : X) (Is Is' : Outcome Y) (r : Result Y StoreFault) → Goes a b v None (Ok x) → Answers b c Is r
    → (b.doubt ≡ 0 → (w : Y) (left : Option State) → Is a.content w left → Is' a.content w left) → Answers a c Is' r
known_then a b c x v Is Is' r first (told, left, goes, by) gives = (
  told,
  left,
  reads_then a b c x v told told left left r first goes (λ _ _ _. (refl, refl)),
  (λ clean.
      let up : b.doubt ≤ c.doubt = goes.clean in
      let was : b.doubt ≡ 0 = omega arith in
      let read = read_tells a.content b.content v x (first.holds was).tells in
      elim (by clean) [
        | inl is ↦ inl (gives was told left (subst (λ s. Is s told left) read.1 is))
        | inr fault ↦ inr fault
      ]),
)

-- a read before calls that then answer
pub read_then : {X Y : Type 0} (a b c : Store) (x v : X) (Is Is' : Outcome Y) (r : Result Y StoreFault) → Goes a b v None (Ok x) → Answers b c Is r
    → (x ≡ v → (w : Y) (left : Option State) → Is a.content w left → Is' a.content w left) → Answers a c Is' r
read_then a b c x v Is Is' r first next gives = known_then a b c x v Is Is' r first next (λ was. gives (first.holds was).tells.0)

-- an answer by what was read
pub known_told : {X Y : Type 0} (a b : Store) (x v : X) (w : Y) (Is : Outcome Y) → Goes a b v None (Ok x) → (b.doubt ≡ 0 → Is a.content w None) → Answers a b Is (Ok w)
known_told a b x v w Is first is = (w, None, reads_map a b v x (λ _. w) first, (λ clean. inl (is clean)))

-- a read whose result is the answer
pub read_told : {X Y : Type 0} (a b : Store) (x v : X) (w : Y) (Is : Outcome Y) → Goes a b v None (Ok x) → (x ≡ v → Is a.content w None) → Answers a b Is (Ok w)
read_told a b x v w Is first is = known_told a b x v w Is first (λ clean. is (first.holds clean).tells.0)

-- a fault while something is read
pub read_fault : {X Y : Type 0} (a b : Store) (v : X) (w : Y) (e : StoreFault) (Is : Outcome Y) → Goes {X = X} a b v None (Err e) → Answers {X = Y} a b Is (Err e)
read_fault a b v w e Is first = (w, None, fault_of a b v w e first, (λ _. inr (tt, refl)))

-- out of memory after a read
pub read_memory : {X Y : Type 0} (a b : Store) (x v : X) (w : Y) (Is : Outcome Y) → Goes a b v None (Ok x) → Answers {X = Y} a b Is (Err Memory)
read_memory {X} {Y} a b x v w Is first =
    let fine : (◌≡◌ {A = Result Y StoreFault} (Err Memory) (Err failed) → ⊥) = λ same. absurd (cc) in
    let fine' : (◌≡◌ {A = Result X StoreFault} (Ok x) (Err failed) → ⊥) = λ same. absurd (cc) in (
      w,
      None,
      record {
        clean = first.clean;
        serves = first.serves;
        grows = first.grows;
        told = λ same. absurd (fine same);
        stays = λ none some. absurd (fine' (first.stays none some));
        settled = first.settled;
        holds = λ clean.
            let it = first.holds clean in
            record { tells = it.tells.1; crash = it.crash; durable = tt; memory = λ _. found_still a b it.tells.1 it.crash; fits = it.fits };
      },
      (λ _. inr (tt, refl)),
    )

-- calls with the answer and commit of one outcome
pub goes_by : {X : Type 0} (a b : Store) (told : X) (left : Option State) (Is : Outcome X) (r : Result X StoreFault) → Goes a b told left r → Is a.content told left → Answers a b Is r
goes_by a b told left Is r goes is = (told, left, goes, λ _. inl is)

-- their answer, if the store is clean
pub tells_by : {X : Type 0} (a b : Store) (Is : Outcome X) (r : Result X StoreFault) → Answers a b Is r → b.doubt ≡ 0 → TellsBy a.content b.content Is r
tells_by a b Is r (told, left, goes, by) clean = (told, left, (goes.holds clean).tells, by clean)

agrees : {X : Type 0} (old new : State) (told : X) (left : Option State) (r : Result X StoreFault) → Tells old new told left r → IfOk r (λ x. x ≡ told)
agrees old new told left (Ok x) tells = tells.0
agrees old new told left (Err fault) tells = tt

stays : {X : Type 0} (old new : State) (told : X) (left : Option State) (r : Result X StoreFault) → left ≡ None → Tells old new told left r → OnOk r (new ≡ old)
stays old new told left (Ok x) none tells = tells.1 ∙ ap (λ left. state_after left old) none
stays old new told left (Err fault) none tells = tt

-- nothing changes, if each outcome with this answer commits nothing
pub changes_nothing : {X : Type 0} (a b : Store) (Is : Outcome X) (r : Result X StoreFault) → Answers a b Is r
    → ((told : X) (left : Option State) → IfOk r (λ x. x ≡ told) → Is a.content told left → left ≡ None) → ChangesNothing a b r
changes_nothing a b Is r (told, left, goes, by) none_by =
    let none : b.doubt ≡ 0 → left ≡ None
    = λ clean. elim (by clean) [
      | inl is ↦ none_by told left (agrees a.content b.content told left r (goes.holds clean).tells) is
      | inr fault ↦ fault.1
    ] in
    record {
      content = λ clean. stays a.content b.content told left r (none clean) (goes.holds clean).tells;
      found = λ clean o found. leaves_nothing a b told left r o goes (none clean) clean found;
    }

-- a fault as `?` returns it
pub handed : {Y : Type 0} (P : Result Y StoreFault → Type 0) (e : StoreFault) (r : Result Y StoreFault) → IsErrAnd r (λ error. error ≡ e) → P (Err e) → P r
handed P e (Ok y) is holds = absurd is
handed {Y} P e (Err error) is holds = subst (λ (f : StoreFault). P (Err f)) (sym is) holds

-- out of memory before anything is asked
pub no_memory : {X : Type 0} (a : Store) (w : X) (Is : Outcome X) → Answers {X = X} a a Is (Err Memory)
no_memory {X} a w Is =
    let fine : (◌≡◌ {A = Result X StoreFault} (Err Memory) (Err failed) → ⊥) = λ same. absurd (cc) in (
      w,
      None,
      record {
        clean = omega arith;
        serves = omega arith;
        grows = omega arith;
        told = λ same. absurd (fine same);
        stays = λ none some. absurd (omega arith);
        settled = λ settled. settled;
        holds = λ _. record { tells = refl; crash = λ o found. inl found; durable = tt; memory = λ _ finds. finds; fits = λ _. refl };
      },
      (λ _. inr (tt, refl)),
    )

-- a store that has failed before is not asked
pub shut_out : {X : Type 0} (a : Store) (w : X) (Is : Outcome X) → 0 < a.failures → Answers a a Is (Err failed)
shut_out a w Is some = (
  w,
  None,
  record {
    clean = omega arith;
    serves = omega arith;
    grows = omega arith;
    told = λ _. some;
    stays = λ _ _. refl;
    settled = λ settled. settled;
    holds = λ _. record { tells = tt; crash = λ o found. inl found; durable = tt; memory = λ _ finds. finds; fits = λ _. refl };
  },
  (λ _. inr (tt, refl)),
)

same_fault : {X Y : Type 0} (e other : StoreFault) → ◌≡◌ {A = Result Y StoreFault} (Err e) (Err other) → ◌≡◌ {A = Result X StoreFault} (Err e) (Err other)
same_fault e other same = let is : e ≡ other = cc in cc

fault_tells : {X Y : Type 0} (old new : State) (v : X) (w : Y) (left : Option State) (e : StoreFault) → Tells {X = X} old new v left (Err e) → Tells {X = Y} old new w left (Err e)
fault_tells old new v w left Memory tells = tells
fault_tells old new v w left failed tells = tt

not_lasting : (X : Type 0) (after : Store) (left : Option State) (e : StoreFault) → IsDurable {X = X} after left (Err e)
not_lasting X after None e = tt
not_lasting X after (Some new) e = tt

-- a fault, whatever was to be answered
pub fault_as : {X Y : Type 0} (a b : Store) (v : X) (w : Y) (left : Option State) (e : StoreFault) → Goes {X = X} a b v left (Err e) → Goes {X = Y} a b w left (Err e)
fault_as {X} {Y} a b v w left e goes = record {
  clean = goes.clean;
  serves = goes.serves;
  grows = goes.grows;
  told = λ same. goes.told (same_fault {X = X} {Y = Y} e failed same);
  stays = λ none some. same_fault {X = Y} {Y = X} e failed (goes.stays none some);
  settled = goes.settled;
  holds = λ clean.
      let it = goes.holds clean in
      record {
        tells = fault_tells a.content b.content v w left e it.tells;
        crash = it.crash;
        durable = not_lasting Y b left e;
        memory = λ same. it.memory (same_fault {X = X} {Y = Y} e Memory same);
        fits = it.fits;
      };
}
