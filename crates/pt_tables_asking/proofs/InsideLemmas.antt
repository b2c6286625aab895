-- What a query in a transaction that is rolled back returns, and what it leaves.
use Rattle.std.proofs.Common.{◌≡◌, ◌⊎◌, inl, inr, ℕ, List, true, false, cond, IsTrue, Option, Some, None, Result, Ok, Err, IfOk, IfErr, Vec, refl, sym, ap, subst, ◌∙◌, arith}
use Rattle.std.specs.declared.alloc.Global.{Global}
use Rattle.sqlite.specs.Effect.{Database}
use Rattle.sqlite.specs.Given.{IsPlain}
use Rattle.sqlite.specs.Held.{Held, state}
use Rattle.sqlite.specs.Listing.{reads_listing, understood}
use Rattle.sqlite.specs.Order.{Row}
use Rattle.sqlite.specs.State.{State as Connected, HasCleanDisk, IsUnchanged, IsRolledBack, IsNotRun, IsTooLate, FailsToQuery, FailsToShow, KeepsCommit, Shown, ShowsRows, Survives}
use Rattle.sqlite.specs.Store.{Ghosts}
use Rattle.sqlite.specs.declared.error.Error.{Error}
use Rattle.sqlite.proofs.Callers.{command_of, reads_as, survives_begin}
use Rattle.sqlite.proofs.InsideLemmas.{keeps_then, unchanged_keeps}
use Rattle.sqlite.proofs.StateLemmas.{survives_then}
use Rattle.sqlite_resolve.specs.declared.compiled.Compiled.{Compiled}
use Rattle.sqlite_resolve.specs.declared.error.CompileError.{CompileError}
use Rattle.pt_tables_rows.specs.Returning.{Returning}
use Rattle.pt_tables_rows.specs.Schema.{desk_schema}
use Rattle.pt_tables_asking.specs.Asking.{IsAnswer, IsShown, Rests, command_in}

-- ---- what it answers

pub same_command : (r : Result Compiled CompileError) → command_of r ≡ command_in r
same_command (Ok c) = refl
same_command (Err e) = refl

rows_open : (old new : Connected) (sql : List ℕ) (c : Compiled) (params : Row) (rows : List Row) (o : Option Returning) → ShowsRows old new sql c params rows o → IsTrue old.is_open
rows_open old new sql c params rows None h = h.3.0.was_open
rows_open old new sql c params rows (Some what) h = h.1.shown.was_open

shown_open : (sql : List ℕ) (params : Row) (old new : Connected) (rows : List Row) → Shown sql params old new rows → IsTrue old.is_open
unfolding Shown
shown_open sql params old new rows h = rows_open old new sql h.0 _ rows h.0.returning h.2

module _ {S : Type 0} (g : Ghosts S) (text : List ℕ) (params : Row) (old begun : Held S) (mid : Connected) (begins : begun ≡ record old { in_transaction = true }) where
  pub shown_inside : IsPlain (understood desk_schema text) → reads_listing desk_schema text ≡ false
      → (rows : List Row) → Shown text params (state g begun) mid rows → IsShown text params (state g old) rows
  shown_inside plain unlisted rows h = record {
    was_open = subst (λ (s : Held _). IsTrue (state g s).is_open) begins (shown_open text params (state g begun) mid rows h);
    answer = λ has.
        let same : (state g begun).now ≡ (state g old).now = ap (λ (s : Held _). (state g s).now) begins in
        subst (λ (d : Database). IsAnswer text params d rows) same
        (reads_as text params (state g begun) mid desk_schema (ap (λ (d : Database). d.schema) same ∙ has)
        (command_in (understood desk_schema text)) (same_command (understood desk_schema text)) plain unlisted
        rows h);
  }

-- ---- what it leaves

not_run : (old new : Connected) (sql : List ℕ) (params : Row) (e : Error) → IsNotRun old new sql params e → IsUnchanged old new ⊎ IsRolledBack old new
unfolding IsNotRun
not_run old new sql params e (inl h) = inl h.1
not_run old new sql params e (inr h) = inr h.3

fails_to_show : (old new : Connected) (sql : List ℕ) (c : Compiled) (params : Row) (e : Error) (o : Option Returning)
    → FailsToShow old new sql c params e o → IsUnchanged old new ⊎ IsRolledBack old new
fails_to_show old new sql c params e None h = inl h.3
fails_to_show old new sql c params e (Some what) (inl h) = inl h.1
fails_to_show old new sql c params e (Some what) (inr h) = inr h.3

fails : (sql : List ℕ) (params : Row) (old new : Connected) (e : Error) → FailsToQuery sql params old new e → IsUnchanged old new ⊎ IsRolledBack old new
unfolding FailsToQuery
fails sql params old new e (inl h) = not_run old new sql params e h
fails sql params old new e (inr h) = fails_to_show old new sql h.0 _ e h.0.returning h.2

shows_keeps : (old new : Connected) (sql : List ℕ) (c : Compiled) (params : Row) (rows : List Row)
    (o : Option Returning) → IsTrue old.in_transaction → ShowsRows old new sql c params rows o → KeepsCommit old new
shows_keeps old new sql c params rows None inside h = unchanged_keeps old new (inl h.3)
shows_keeps old new sql c params rows (Some what) inside h = record {
  was_open = λ _. h.1.shown.was_open;
  committed = λ _. h.1.shown.committed_is ∙ ap (λ b. cond b old.committed new.now) inside;
}

shown_keeps : (sql : List ℕ) (params : Row) (old new : Connected) (rows : List Row) → IsTrue old.in_transaction → Shown sql params old new rows → KeepsCommit old new
unfolding Shown
shown_keeps sql params old new rows inside h = shows_keeps old new sql h.0 _ rows h.0.returning inside h.2

module _ (sql : List ℕ) (params : Row) (old new : Connected) (inside : IsTrue old.in_transaction) where
  queried_keeps : (r : Result (Vec Row Global) Error) → IfOk r (λ rows. Shown sql params old new rows.items)
      → IfErr r (λ e. FailsToQuery sql params old new e ⊎ IsTooLate sql params old new e) → KeepsCommit old new
  queried_keeps (Ok rows) ok err = shown_keeps sql params old new rows.items inside ok
  queried_keeps (Err e) ok err = elim err [ inl failed ↦ unchanged_keeps old new (fails sql params old new e failed) | inr late ↦ unchanged_keeps old new (inl late.5) ]

module _ {S : Type 0} (g : Ghosts S) (text : List ℕ) (params : Row) (old begun mid last : Held S) (begins : begun ≡ record old { in_transaction = true }) where
  begun_inside : IsTrue (state g begun).in_transaction
  begun_inside = ap (λ (s : Held _). s.in_transaction) begins

  begun_keeps : KeepsCommit (state g begun) (state g mid) → KeepsCommit (state g old) (state g mid)
  begun_keeps h = record {
    was_open = λ here. subst (λ (s : Held _). IsTrue (state g s).is_open) begins (h.was_open here);
    committed = λ here. h.committed here ∙ ap (λ (s : Held _). (state g s).committed) begins;
  }

  pub rests_inside : (r : Result (Vec Row Global) Error) → (HasCleanDisk (state g mid) → IfOk r (λ rows. Shown text params (state g begun) (state g mid) rows.items))
      → (HasCleanDisk (state g mid) → IfErr r (λ e. FailsToQuery text params (state g begun) (state g mid) e ⊎ IsTooLate text params (state g begun) (state g mid) e))
      → Survives (state g begun) (state g mid) (λ _. ⊥) → last.in_transaction ≡ false → (HasCleanDisk (state g last) → IsRolledBack (state g mid) (state g last))
      → Survives (state g mid) (state g last) (λ _. ⊥) → Rests (state g old) (state g last)
  rests_inside r ok err queried ended undone survives = record {
    settled = ended;
    keeps = λ clean. keeps_then (state g old) (state g mid) (state g last)
        (begun_keeps (queried_keeps text params (state g begun) (state g mid) begun_inside r (ok (early clean)) (err (early clean))))
        (unchanged_keeps (state g mid) (state g last) (inr (undone clean)));
    undone = λ clean here. let back = (undone clean).undone here in back.0 ∙ sym back.1;
    survives = survives_begin g old (state g last) (λ _. ⊥)
        (subst (λ (s : Held _). Survives (state g s) (state g last) (λ _. ⊥)) begins
        (survives_then (state g begun) (state g mid) (state g last) (λ _. ⊥) (λ _. ⊥) (λ _. ⊥) (λ _ _ none. none) (λ _ _ none. none) queried survives));
  }
    where
      early : HasCleanDisk (state g last) → HasCleanDisk (state g mid)
      early clean = omega (arith, clean, survives.clean)

-- ---- what it leaves, further on

-- what was shown and committed is still shown
pub still_shown : (old new : Connected) → Rests old new → HasCleanDisk new → (IsTrue old.is_open → old.committed ≡ old.now) → IsTrue new.is_open → new.now ≡ old.now
still_shown old new rests clean settled here =
    let keeps = rests.keeps clean in
    rests.undone clean here ∙ keeps.committed here ∙ settled (keeps.was_open here)

pub rests_then : (a b c : Connected) → Rests a b → Rests b c → Rests a c
rests_then a b c one two = record {
  settled = two.settled;
  keeps = λ clean. keeps_then a b c (one.keeps (early clean)) (two.keeps clean);
  undone = two.undone;
  survives = survives_then a b c (λ _. ⊥) (λ _. ⊥) (λ _. ⊥) (λ _ _ none. none) (λ _ _ none. none) one.survives two.survives;
}
  where
    early : HasCleanDisk c → HasCleanDisk b
    early clean = omega (arith, clean, two.survives.clean)
