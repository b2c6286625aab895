-- Connections one after another.
use Rattle.std.proofs.Common.{◌≡◌, ◌⊎◌, ◌∙◌, ◌+◌, ◌^◌, ◌<◌, ◌≤◌, ℕ, ℤ, Bool, cond, List, [], ◌∷◌, ◌++◌, Option, Result, Ok, Err, OnErr, is_some, ap, arith, inl, inr, refl, subst, sym}
use Rattle.std.proofs.lemmas.List.Sums.{sum_by_push}
use Rattle.pt_base_values.specs.declared.fault.Fault.{Fault}
use Rattle.pt_desk_store.specs.Store.{Store}
use Rattle.pt_app_serve.specs.Serving.{Progress, ServesATurn, ServesInTurn, ServesOn, Turn, failures_in, has_failed, progress_of}

-- one connection more
pub one_more : (Shows : Option (List ℕ) → ℤ → Type 0) (Fails : Option (List ℕ) → Type 0) (zone : List ℕ)
    (sents : List (Option (List ℕ))) (turns : List Turn) (sent : Option (List ℕ)) (turn : Turn)
    (old now new : Progress) → ServesInTurn Shows Fails zone sents turns old now
    → ServesOn Shows Fails zone sent turn now new
    → ServesInTurn Shows Fails zone (sents ++ sent ∷ []) (turns ++ turn ∷ []) old new
one_more Shows Fails zone [] [] sent turn old now new same serves =
    (new, subst (λ (at : Progress). ServesOn Shows Fails zone sent turn at new) same serves, refl)
one_more Shows Fails zone (one ∷ more) (first ∷ later) sent turn old now new goes serves =
    (goes.0, goes.1, one_more Shows Fails zone more later sent turn goes.0 now new goes.2 serves)
one_more Shows Fails zone [] (first ∷ later) sent turn old now new goes serves = absurd goes
one_more Shows Fails zone (one ∷ more) [] sent turn old now new goes serves = absurd goes

append_one : {T : Type 0} (before : List T) (one : T) (after : List T)
    → before ++ one ∷ after ≡ (before ++ one ∷ []) ++ after
append_one [] one after = refl
append_one (first ∷ before) one after = ap (λ (it : List _). first ∷ it) (append_one before one after)

append_none : {T : Type 0} (list : List T) → list ++ [] ≡ list
append_none [] = refl
append_none (first ∷ list) = ap (λ (it : List _). first ∷ it) (append_none list)

-- what a connection adds to those that failed
abbrev pub count_of : Bool → ℕ
count_of failed = cond failed 1 0

-- what came of the connections before those that are still to come, so many of which failed
abbrev pub HasServed : (Option (List ℕ) → ℤ → Type 0) → (Option (List ℕ) → Type 0) → List ℕ
    → List (Option (List ℕ)) → List (Option (List ℕ)) → ℕ → Progress → Progress
    → Type 0
HasServed Shows Fails zone before after failed old new =
    (sents : List (Option (List ℕ))) × (turns : List Turn) × (before ≡ sents ++ after)
    × (failures_in turns ≡ failed) × ServesInTurn Shows Fails zone sents turns old new

-- and of the next
pub goes_on : (Shows : Option (List ℕ) → ℤ → Type 0) (Fails : Option (List ℕ) → Type 0) (zone : List ℕ)
    (before now_left after : List (Option (List ℕ))) (sent : Option (List ℕ)) (failed more : ℕ) (next : Option Fault)
    (old now new : Progress) → HasServed Shows Fails zone before now_left failed old now → now_left ≡ sent ∷ after
    → failed + count_of (is_some next) ≡ more → ServesATurn Shows Fails zone sent next now new
    → HasServed Shows Fails zone before after more old new
goes_on Shows Fails zone before now_left after sent failed more next old now new has one counts serves =
    let counted_failures = has.3 in
    let pushed = sum_by_push (λ turn. count_of (has_failed turn)) has.1 serves.0 in
    let last : count_of (has_failed serves.0) ≡ count_of (is_some next) =
    ap (λ (it : Option Fault). count_of (is_some it)) serves.1 in (
      has.0 ++ sent ∷ [],
      has.1 ++ serves.0 ∷ [],
      has.2 ∙ ap (λ (it : List (Option (List ℕ))). has.0 ++ it) one ∙ append_one has.0 sent after,
      omega (arith, pushed, last, counts, counted_failures),
      one_more Shows Fails zone has.0 has.1 sent serves.0 old now new has.4 serves.2,
    )

-- the same of a store that is clean in the end
pub goes_on_clean : (Shows : Option (List ℕ) → ℤ → Type 0) (Fails : Option (List ℕ) → Type 0) (zone : List ℕ)
    (before now_left after : List (Option (List ℕ))) (sent : Option (List ℕ)) (failed more : ℕ) (next : Option Fault)
    (now new : Store) (old at next_at : Progress)
    → (now.doubt ≡ 0 → HasServed Shows Fails zone before now_left failed old at)
    → now.doubt ≤ new.doubt → now_left ≡ sent ∷ after → failed + count_of (is_some next) ≡ more
    → (new.doubt ≡ 0 → ServesATurn Shows Fails zone sent next at next_at)
    → new.doubt ≡ 0
    → HasServed Shows Fails zone before after more old next_at
goes_on_clean Shows Fails zone before now_left after sent failed more next now new old at next_at has stays one counts
    serves clean =
    let was_clean : now.doubt ≡ 0 = omega arith in
    goes_on Shows Fails zone before now_left after sent failed more next old at next_at (has was_clean) one counts
    (serves clean)

-- none is still to come
pub has_served_all : (Shows : Option (List ℕ) → ℤ → Type 0) (Fails : Option (List ℕ) → Type 0) (zone : List ℕ)
    (before after : List (Option (List ℕ))) (failed : ℕ) (old new : Progress)
    → HasServed Shows Fails zone before after failed old new → after ≡ []
    → (turns : List Turn) × (failures_in turns ≡ failed) × ServesInTurn Shows Fails zone before turns old new
has_served_all Shows Fails zone before after failed old new has none =
    let all : before ≡ has.0 = has.2 ∙ ap (λ (it : List (Option (List ℕ))). has.0 ++ it) none ∙ append_none has.0 in (
      has.1,
      has.3,
      subst (λ (it : List (Option (List ℕ))). ServesInTurn Shows Fails zone it has.1 old new) (sym all) has.4,
    )

-- the next ends the serving
pub broken_off : (Shows : Option (List ℕ) → ℤ → Type 0) (Fails : Option (List ℕ) → Type 0) (zone : List ℕ)
    (before now_left after : List (Option (List ℕ))) (sent : Option (List ℕ)) (failed : ℕ) (old new : Progress)
    → HasServed Shows Fails zone before now_left failed old new → now_left ≡ sent ∷ after
    → (sents : List (Option (List ℕ))) × (sent : Option (List ℕ)) × (turns : List Turn)
    × (before ≡ sents ++ sent ∷ after) × ServesInTurn Shows Fails zone sents turns old new
broken_off Shows Fails zone before now_left after sent failed old new has one =
    (has.0, sent, has.1, has.2 ∙ ap (λ (it : List (Option (List ℕ))). has.0 ++ it) one, has.4)

-- so many are to come as at the beginning, or those fit, and so the latter do
pub fits_still : (now fn : ℕ) → (now ≡ fn) ⊎ (fn < 2 ^ 32) → now < 2 ^ 32 → fn < 2 ^ 32
fits_still now fn (inl same) fits = omega (arith, same, fits)
fits_still now fn (inr fits) now_fits = fits

-- a desk and clients of which nothing has come
pub same_progress : (old new : Store) (replied_old replied_new : Option (List (List ℕ)))
    (ending_old ending_new : Option Bool) → new ≡ old → (replied_new ≡ replied_old) × (ending_new ≡ ending_old)
    → progress_of old replied_old ending_old ≡ progress_of new replied_new ending_new
same_progress old new replied_old replied_new ending_old ending_new store same =
    ap (λ (it : Store). progress_of it replied_old ending_old) (sym store)
    ∙ ap (λ (it : Option (List (List ℕ))). progress_of new it ending_old) (sym same.0)
    ∙ ap (λ (it : Option Bool). progress_of new replied_new it) (sym same.1)

-- what is so is so of an error
pub so_of_error : {T E : Type 0} (result : Result T E) (Fact : Type 0) → Fact → OnErr result Fact
so_of_error (Ok value) Fact so = tt
so_of_error (Err error) Fact so = so
