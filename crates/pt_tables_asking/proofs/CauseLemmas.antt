-- Why a read fails.
use Rattle.std.proofs.Common.{◌≡◌, ◌⊎◌, inl, inr, ℕ, Bool, true, false, IsTrue, IsSome, List, Ok, Err, Result, IfErr, append-nil, refl, sym, ap, subst, ◌∙◌, arith}
use Rattle.sqlite.specs.Effect.{Database, RefusesToRead}
use Rattle.sqlite.specs.Given.{IsPlain}
use Rattle.sqlite.specs.Held.{Held, state}
use Rattle.sqlite.specs.Listing.{understood, reads_listing, IsSourceOf}
use Rattle.sqlite.specs.Order.{Row}
use Rattle.sqlite.specs.Schema.{Schema}
use Rattle.sqlite.specs.State.{State as Connected, Fails, FailsToQuery, HasCause as Explains, HasCleanDisk, IsNoStatement, IsNotRun, IsTooLate, Survives, store_error}
use Rattle.sqlite.specs.Store.{Ghosts}
use Rattle.sqlite.specs.Tree.{Trees}
use Rattle.sqlite.specs.declared.error.Error.{Error}
use Rattle.sqlite.specs.declared.error.Error.TheVariants.{SqliteFailure}
use Rattle.sqlite.specs.declared.error.ErrorCode.TheVariants as code
use Rattle.sqlite_trees.specs.declared.error.StoreError.{StoreError}
use Rattle.sqlite_trees.specs.declared.error.StoreError.TheVariants.{OutOfMemory, Io, Corrupt, Full, Broken, Unstorable}
use Rattle.pt_tables_asking.specs.Asking.{HasCause, IsServedIn, Takes, command_in}
use Rattle.pt_tables_asking.specs.Content.{IsExcused}
use Rattle.pt_tables_asking.specs.declared.asking.Unread.{Unread}
use Rattle.pt_tables_asking.specs.declared.asking.Unread.TheVariants.{Memory, Row as BadRow, Store as failed}

-- memory was refused, or there is a cause
abbrev pub Blames : Connected → Connected → Error → Type 0
Blames old new e = (e ≡ SqliteFailure code.OutOfMemory) ⊎ HasCause old new

-- ---- one call after another

-- what failed in the first call is the cause of all
pub cause_then : (a b c : Connected) (P : Trees → Type 0) → HasCause a b → Survives b c P → HasCause a c
cause_then a b c P (inl shut) next = inl shut
cause_then a b c P (inr (inl more)) next = inr (inl (omega (arith, more, next.counts)))
cause_then a b c P (inr (inr limited)) next = inr (inr limited)

-- what a call says of a connection that was shut, if calls before it may have shut it
shut_before : (a b c : Connected) (P Q : Trees → Type 0) → Survives a b P → HasCleanDisk b → Survives b c Q → (is : Bool) → a.is_open ≡ is → b.is_open ≡ false → HasCause a c
shut_before a b c P Q first clean next false is shut = inl is
shut_before a b c P Q first clean next true is shut = elim (first.closes clean is) [
  | inl here ↦ absurd (let no = sym here ∙ shut in cc)
  | inr more ↦ inr (inl (omega (arith, more, next.counts)))
]

-- what failed in the second call is the cause of both
pub cause_after : (a b c : Connected) (P Q : Trees → Type 0) → Survives a b P → HasCleanDisk b → Survives b c Q → HasCause b c → HasCause a c
cause_after a b c P Q first clean next (inl shut) = shut_before a b c P Q first clean next a.is_open refl shut
cause_after a b c P Q first clean next (inr (inl more)) = inr (inl (omega (arith, more, first.counts)))
cause_after a b c P Q first clean next (inr (inr limited)) = inr (inr (subst IsSome first.limit limited))

pub excused_then : (a b c : Connected) (P : Trees → Type 0) (u : Unread) → IsExcused a b u → Survives b c P → IsExcused a c u
excused_then a b c P Memory h next = tt
excused_then a b c P failed h next = cause_then a b c P h next
excused_then a b c P BadRow h next = absurd h

pub excused_after : (a b c : Connected) (P Q : Trees → Type 0) (u : Unread) → Survives a b P → HasCleanDisk b → Survives b c Q → IsExcused b c u → IsExcused a c u
excused_after a b c P Q Memory first clean next h = tt
excused_after a b c P Q failed first clean next h = cause_after a b c P Q first clean next h
excused_after a b c P Q BadRow first clean next h = absurd h

-- ---- a query

caused : (old new : Connected) (e : Error) (cause : StoreError) → e ≡ store_error cause → Explains old new ⊥ cause → Blames old new e
caused old new e OutOfMemory is h = inl is
caused old new e Io is h = inr (inr (inl h))
caused old new e Corrupt is h = inr (inr (inl h))
caused old new e Full is h = inr (inr (inl h))
caused old new e Broken is h = inr (inl h)
caused old new e Unstorable is h = absurd h

pub fails_caused : (old new : Connected) (e : Error) → Fails old new ⊥ e → Blames old new e
fails_caused old new e h = caused old new e h.0 h.1 h.2

module _ (schema : Schema) (text : List ℕ) (params : Row) (plain : IsPlain (understood schema text)) (unlisted : reads_listing schema text ≡ false)
    (served : IsServedIn schema text params) (old new : Connected) (has : old.now.schema ≡ schema) (e : Error) where
  known : understood schema text ≡ understood old.now.schema text
  known = sym (ap (λ s. understood s text) has)

  stated : IsNoStatement old text params e → ⊥
  stated (inl h) = subst IsPlain (known ∙ h.1) plain
  stated (inr h) =
      let takes = subst (Takes text params) (known ∙ h.1) served.takes in
      let bare = subst IsPlain (known ∙ h.1) plain in
      elim h.2 [
        | inl long ↦ long.0 takes.0
        | inr other ↦ elim other [ inl few ↦ few.0 takes.1 | inr timed ↦ timed.0 bare.1 ]
      ]

  not_run : IsNotRun old new text params e → Blames old new e
  unfolding IsNotRun
  not_run (inl h) = absurd (stated h.0)
  not_run (inr h) = fails_caused old new e h

  -- a query of the desk's tables
  pub query_caused : FailsToQuery text params old new e → Blames old new e
  unfolding FailsToQuery
  query_caused (inl h) = not_run h
  query_caused (inr h) =
      let is = known ∙ h.1.is in
      let bare = subst IsPlain is plain in
      let it = rw (bare.0, bare.1, append-nil params) at h.2 in
      let db : it.0 ≡ old.now = subst (λ b. IsSourceOf b old.now it.0) (ap (λ s. reads_listing s text) has ∙ unlisted) it.1 in
      inr (inr (inr (served.refused old.step_limit it.0 e (ap (λ (d : Database). d.schema) db ∙ has)
      (subst (λ k. RefusesToRead old.step_limit k it.0 params e) (sym (ap command_in is)) it.2))))

-- the same inside of a transaction that was begun for it
module _ {S : Type 0} (g : Ghosts S) (text : List ℕ) (params : Row) (schema : Schema) (plain : IsPlain (understood schema text)) (unlisted : reads_listing schema text ≡ false)
    (served : IsServedIn schema text params) (old begun mid last : Held S) (begins : begun ≡ record old { in_transaction = true }) (has : (state g old).now.schema ≡ schema) where
  pub query_caused_inside : (e : Error) → FailsToQuery text params (state g begun) (state g mid) e ⊎ IsTooLate text params (state g begun) (state g mid) e
      → Survives (state g mid) (state g last) (λ _. ⊥) → Blames (state g old) (state g last) e
  query_caused_inside e (inl h) next =
      let there : (state g begun).now.schema ≡ schema = ap (λ (s : Held _). (state g s).now.schema) begins ∙ has in
      elim (query_caused schema text params plain unlisted served (state g begun) (state g mid) there e h) [
        | inl memory ↦ inl memory
        | inr cause ↦ inr (cause_then (state g old) (state g mid) (state g last) (λ _. ⊥) (subst (λ (s : Held _). HasCause (state g s) (state g mid)) begins cause) next)
      ]
  query_caused_inside e (inr late) next =
      let inside : IsTrue (state g begun).in_transaction = ap (λ (s : Held _). s.in_transaction) begins in
      absurd (let no = sym inside ∙ late.3 in cc)

-- ---- the fault of an error

pub excused_by : (old new : Connected) (e : Error) (u : Unread) → (e ≡ SqliteFailure code.OutOfMemory → u ≡ Memory) → (u ≡ BadRow → ⊥) → Blames old new e → IsExcused old new u
excused_by old new e Memory memory shown blames = tt
excused_by old new e failed memory shown (inl is) = absurd (let no = memory is in cc)
excused_by old new e failed memory shown (inr cause) = cause
excused_by old new e BadRow memory shown blames = absurd (shown refl)

-- a connection that was shut has no answer
pub if_open : (old new : Connected) (u : Unread) → (u ≡ BadRow → ⊥) → (IsTrue old.is_open → IsExcused old new u) → (is : Bool) → old.is_open ≡ is → IsExcused old new u
if_open old new Memory shown excused is same = tt
if_open old new failed shown excused true same = excused same
if_open old new failed shown excused false same = inl same
if_open old new BadRow shown excused is same = absurd (shown refl)

-- ---- results

pub excuses_as : {X : Type 0} (old new : Connected) (r : Result X Unread) (e : Unread) → r ≡ Err e → IsExcused old new e → IfErr r (IsExcused old new)
excuses_as old new r e is h = subst (λ r. IfErr r (IsExcused old new)) (sym is) h

-- records in the order of their keys are returned
pub excuses_none : {X : Type 0} (old new : Connected) (r : Result X Unread) (P : Type 0) → IfErr r (λ _. ¬ P) → P → IfErr r (IsExcused old new)
excuses_none old new (Ok x) P never here = tt
excuses_none old new (Err e) P never here = absurd (never here)
