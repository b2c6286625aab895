-- What calls by the rules leave at a crash, one call after another.
use Rattle.std.proofs.Common.{◌≡◌, ◌∙◌, ℕ, zero, suc, ◌<◌, ◌⊎◌, inl, inr, List, [], ◌∷◌, ◌++◌, Option, Some, None, Result, Ok, Err, arith, refl, sym, subst}
use Rattle.pt_base_values.specs.Moment.{Moment}
use Rattle.pt_desk.specs.Crash.{FindsReached, Lasts, Reaches}
use Rattle.pt_desk_laws.specs.Numbers.{AreCalls, Call}
use Rattle.pt_desk_rules.specs.State.{State}
use Rattle.pt_desk_rules.specs.Step.{IsOutcome, state_after}
use Rattle.pt_desk_requests.specs.declared.request.Answer.{Answer}
use Rattle.pt_desk_requests.specs.declared.request.Request.{Request}
use Rattle.pt_desk_store.specs.Store.{Answers, IsFault, IsLeft, Store, Tells}
use Rattle.pt_desk_store.specs.declared.keeper.StoreFault.{StoreFault}
use Rattle.pt_desk_store.specs.declared.keeper.StoreFault.TheVariants.{Memory, Store as failed}

more_calls : (a b c : State) (first next : List Call) → AreCalls a first b → AreCalls b next c → AreCalls a (first ++ next) c
more_calls a b c [] next is then = subst (λ s. AreCalls s next c) is then
more_calls a b c (call ∷ later) next (outcome, is) then = (outcome, more_calls (state_after call.left a) b c later next is then)

reaches_further : (a b c : State) → Reaches a b → Reaches b c → Reaches a c
reaches_further a b c (first, is) (next, then) = (first ++ next, more_calls a b c first next is then)

none_or_some : (n : ℕ) → (n ≡ 0) ⊎ (0 < n)
none_or_some zero = inl refl
none_or_some (suc n) = inr (omega arith)

-- a store that nothing was asked of
pub lasts_still : (s : Store) → Lasts s s
lasts_still s = record {
  clean = omega arith;
  grows = omega arith;
  crash = λ clean o found. inl found;
  content = λ clean none. ([], refl);
  silent = λ some o found. found;
}

found_further : (a b : Store) (o : Option State) → Lasts a b → b.doubt ≡ 0 → b.found o ⊎ (FindsReached b.content o × (b.failures ≡ 0)) → a.found o ⊎ FindsReached a.content o
found_further a b o first clean (inl found) = first.crash clean o found
found_further a b o first clean (inr ((new, is, reaches), none)) = inr (new, is, reaches_further a.content b.content new (first.content clean none) reaches)

-- what is found after more calls, and whether the store had failed before them
found_next : (b c : Store) (o : Option State) → Lasts b c → c.doubt ≡ 0 → c.found o → b.found o ⊎ (FindsReached b.content o × (b.failures ≡ 0))
found_next b c o next clean found = elim (none_or_some b.failures) [
  | inl none ↦ elim (next.crash clean o found) [ inl before ↦ inl before | inr reached ↦ inr (reached, none) ]
  | inr some ↦ inl (next.silent some o found)
]

-- one call after another
pub lasts_further : (a b c : Store) → Lasts a b → Lasts b c → Lasts a c
lasts_further a b c first next =
    let early : c.doubt ≡ 0 → b.doubt ≡ 0 = λ clean. omega (arith, clean, next.clean) in
    record {
      clean = omega (arith, first.clean, next.clean);
      grows = omega (arith, first.grows, next.grows);
      crash = λ clean o found. found_further a b o first (early clean) (found_next b c o next clean found);
      content = λ clean none. reaches_further a.content b.content c.content (first.content (early clean) (omega (arith, none, next.grows))) (next.content clean none);
      silent = λ some o found. first.silent some o (next.silent (omega (arith, some, first.grows)) o found);
    }

-- ---- one call

abbrev made : (key : List ℕ) (now : Moment) (number : ℕ) (asked : Request) (told : Answer) (left : Option State) → Call
made key now number asked told left = record { key = key; now = now; number = number; asked = asked; told = told; left = left }

one_call : (key : List ℕ) (now : Moment) (number : ℕ) (asked : Request) (s new : State) (told : Answer) (left : Option State)
    → IsOutcome key now number asked s told left → new ≡ state_after left s → Reaches s new
one_call key now number asked s new told left outcome is = (made key now number asked told left ∷ [], (outcome, is))

-- what the call committed is found
left_found : (key : List ℕ) (now : Moment) (number : ℕ) (asked : Request) (s : State) (told : Answer) (left o : Option State) (before : Type 0)
    → IsOutcome key now number asked s told left ⊎ (left ≡ None) → before ⊎ IsLeft left o → before ⊎ FindsReached s o
left_found key now number asked s told left o before outcome (inl was) = inl was
left_found key now number asked s told None o before outcome (inr none) = absurd none
left_found key now number asked s told (Some new) o before (inl outcome) (inr is) = inr (new, is, one_call key now number asked s new told (Some new) outcome refl)
left_found key now number asked s told (Some new) o before (inr none) (inr is) = absurd (cc)

decided : {P : Type 0} (r : Result Answer StoreFault) (left : Option State) → P ⊎ (IsFault r × (left ≡ None)) → P ⊎ (left ≡ None)
decided r left (inl is) = inl is
decided r left (inr fault) = inr fault.1

-- the content that the call leaves, where the store has not failed
content_of_call : (key : List ℕ) (now : Moment) (number : ℕ) (asked : Request) (s new : State) (told : Answer) (left : Option State) (r : Result Answer StoreFault)
    → Tells s new told left r → IsOutcome key now number asked s told left ⊎ (IsFault r × (left ≡ None)) → (◌≡◌ {A = Result Answer StoreFault} r (Err failed) → ⊥) → Reaches s new
content_of_call key now number asked s new told left (Ok answer) tells (inl outcome) served = one_call key now number asked s new told left outcome tells.1
content_of_call key now number asked s new told left (Ok answer) tells (inr fault) served = absurd fault.0
content_of_call key now number asked s new told left (Err Memory) tells by served = ([], tells)
content_of_call key now number asked s new told left (Err failed) tells by served = absurd (served refl)

-- a call by the rules of a store that had not failed
pub lasts_call : (a b : Store) (key : List ℕ) (now : Moment) (number : ℕ) (asked : Request) (r : Result Answer StoreFault)
    → a.failures ≡ 0 → Answers a b (IsOutcome key now number asked) r → Lasts a b
lasts_call a b key now number asked r none (told, left, goes, by) = record {
  clean = goes.clean;
  grows = goes.grows;
  crash = λ clean o found. left_found key now number asked a.content told left o (a.found o) (decided r left (by clean)) ((goes.holds clean).crash o found);
  content = λ clean whole. content_of_call key now number asked a.content b.content told left r (goes.holds clean).tells (by clean) (λ is. let some = goes.told is in omega (arith, some, whole));
  silent = λ some. absurd (omega (arith, some, none));
}
