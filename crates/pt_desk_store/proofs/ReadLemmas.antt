-- Reads in turn, and functions of their results.
use Rattle.std.proofs.Common.{◌≡◌, None, Result, Ok, Err, refl, sym, subst, ap, ◌∙◌}
use Rattle.std.specs.Result.{IsErrAnd}
use Rattle.pt_desk_rules.specs.State.{State}
use Rattle.pt_desk_store.specs.Store.{Store, Goes, Reads, Tells}
use Rattle.pt_desk_store.specs.declared.keeper.StoreFault.{StoreFault}
use Rattle.pt_desk_store.specs.declared.keeper.StoreFault.TheVariants.{Memory, Store as failed}
use Rattle.pt_desk_store.proofs.StoreLemmas.{reads_then}

no_fault : {X : Type 0} (x : X) → ◌≡◌ {A = Result X StoreFault} (Ok x) (Err failed) → ⊥
no_fault x same = absurd (cc)

no_memory : {X : Type 0} (x : X) → ◌≡◌ {A = Result X StoreFault} (Ok x) (Err Memory) → ⊥
no_memory x same = absurd (cc)

-- a function of what is read
pub reads_map : {X Y : Type 0} (a b : Store) (v x : X) (h : X → Y) → Goes a b v None (Ok x) → Goes a b (h v) None (Ok (h x))
reads_map a b v x h read = record {
  clean = read.clean;
  serves = read.serves;
  grows = read.grows;
  told = λ same. absurd (no_fault (h x) same);
  stays = λ none some. absurd (no_fault x (read.stays none some));
  settled = read.settled;
  holds = λ clean.
      let it = read.holds clean in
      record { tells = (ap h it.tells.0, it.tells.1); crash = it.crash; durable = tt; memory = λ is. absurd (no_memory (h x) is); fits = it.fits };
}

-- two reads in turn
pub reads_pair : {X Y : Type 0} (a b c : Store) (f : State → X) (g : State → Y) (x : X) (y : Y) → Reads a b f (Ok x) → Reads b c g (Ok y) → Reads {X = X × Y} a c (λ s. (f s, g s)) (Ok (x, y))
reads_pair {X} {Y} a b c f g x y first next =
    let both : X → Y → X × Y = λ p q. (p, q) in
    reads_then a b c x (f a.content) (both x (g b.content)) (both (f a.content) (g a.content)) None None (Ok (both x y)) first (reads_map b c (g b.content) y (both x) next)
    (λ _ is same. (ap (λ z. both z (g b.content)) is ∙ ap (λ (s : State). both (f a.content) (g s)) same, refl))

-- a read, and then one that depends on the result of the first
pub reads_by : {X Y : Type 0} (a b c : Store) (f : State → X) (g : X → State → Y) (x : X) (y : Y) → Reads a b f (Ok x) → Reads b c (g x) (Ok y)
    → Reads {X = X × Y} a c (λ s. (f s, g (f s) s)) (Ok (x, y))
reads_by {X} {Y} a b c f g x y first next =
    let both : X → Y → X × Y = λ p q. (p, q) in
    reads_then a b c x (f a.content) (both x (g x b.content)) (both (f a.content) (g (f a.content) a.content)) None None (Ok (both x y)) first
    (reads_map b c (g x b.content) y (both x) next)
    (λ _ is same. (ap (λ p. both p (g p b.content)) is ∙ ap (λ (s : State). both (f a.content) (g (f a.content) s)) same, refl))

same_fault : {X Y : Type 0} (e : StoreFault) → ◌≡◌ {A = Result Y StoreFault} (Err e) (Err failed) → ◌≡◌ {A = Result X StoreFault} (Err e) (Err failed)
same_fault e same = let is : e ≡ failed = cc in cc

same_memory : {X Y : Type 0} (e : StoreFault) → ◌≡◌ {A = Result Y StoreFault} (Err e) (Err Memory) → ◌≡◌ {A = Result X StoreFault} (Err e) (Err Memory)
same_memory e same = let is : e ≡ Memory = cc in cc

fault_tells : {X Y : Type 0} (old new : State) (v : X) (w : Y) (e : StoreFault) → Tells {X = X} old new v None (Err e) → Tells {X = Y} old new w None (Err e)
fault_tells old new v w Memory tells = tells
fault_tells old new v w failed tells = tt

-- a fault, whatever was to be read
pub fault_of : {X Y : Type 0} (a b : Store) (v : X) (w : Y) (e : StoreFault) → Goes {X = X} a b v None (Err e) → Goes {X = Y} a b w None (Err e)
fault_of {X} {Y} a b v w e read = record {
  clean = read.clean;
  serves = read.serves;
  grows = read.grows;
  told = λ same. read.told (same_fault {X = X} {Y = Y} e same);
  stays = λ none some. same_fault {X = Y} {Y = X} e (read.stays none some);
  settled = read.settled;
  holds = λ clean.
      let it = read.holds clean in
      record {
        tells = fault_tells a.content b.content v w e it.tells;
        crash = it.crash;
        durable = tt;
        memory = λ same. it.memory (same_memory {X = X} {Y = Y} e same);
        fits = it.fits;
      };
}

fault_as : {Y Z : Type 0} (a b : Store) (v : Y) (u : Z) (e : StoreFault) (r : Result Z StoreFault) → IsErrAnd r (λ error. error ≡ e) → Goes {X = Y} a b v None (Err e)
    → Goes {X = Z} a b u None r
fault_as a b v u e (Ok z) is fault = absurd is
fault_as {Y} {Z} a b v u e (Err error) is fault = subst (λ (f : StoreFault). Goes {X = Z} a b u None (Err f)) (sym is) (fault_of {X = Y} {Y = Z} a b v u e fault)

-- a fault, as `?` returns it
pub fault_handed : {Y Z : Type 0} {a b : Store} {v : Y} {u : Z} {e : StoreFault} {r : Result Z StoreFault} → IsErrAnd r (λ error. error ≡ e)
    → Goes {X = Y} a b v None (Err e) → Goes {X = Z} a b u None r
fault_handed {Y} {Z} {a} {b} {v} {u} {e} {r} is fault = fault_as {Y = Y} {Z = Z} a b v u e r is fault

-- what comes after a read
pub after : {X Y : Type 0} {a b c : Store} {x v : X} {w : Y} {r : Result Y StoreFault} → Goes a b v None (Ok x) → Goes b c w None r → Goes a c w None r
after {X} {Y} {a} {b} {c} {x} {v} {w} {r} first next = reads_then a b c x v w w None None r first next (λ _ _ _. (refl, refl))
