-- What reads of the tables, one after the other, do to the connection.
use Rattle.std.proofs.Common.{◌≡◌, ◌≢◌, inl, inr, ℕ, List, false, Result, Ok, Err, IfOk, IfErr, IsErr, Vec, Option, Some, None, sym, ap, subst, ◌∙◌, arith}
use Rattle.std.specs.declared.alloc.Global.{Global}
use Rattle.sqlite.specs.Effect.{Database}
use Rattle.sqlite.specs.Given.{IsPlain}
use Rattle.sqlite.specs.Listing.{understood}
use Rattle.sqlite.specs.Order.{Row}
use Rattle.sqlite.specs.State.{State as Connected, HasCleanDisk, IsUnchanged, IsRolledBack, IsNotRun, FailsToQuery, FailsToShow, Shown, ShowsRows, Survives, CommitsShowing}
use Rattle.sqlite.specs.declared.error.Error.{Error}
use Rattle.sqlite.proofs.Callers.{never_commits, unchanged_then}
use Rattle.sqlite.proofs.StateLemmas.{survives_then, survives_weaker}
use Rattle.pt_tables_asking.specs.Compiled.{Compiled}
use Rattle.sqlite_schema.specs.declared.command.Returning.{Returning}
use Rattle.sqlite.specs.Schema.{Schema}
use Rattle.pt_tables_opening.specs.Opening.{Stays, Rests, RestsOn}
use Rattle.pt_tables_rows.specs.Schema.{desk_schema}

-- ---- one query

unchanged_stays : (old new : Connected) → IsUnchanged old new → Stays old new
unchanged_stays old new h = record { was_open = λ _. h.0.was_open; now = λ _ _. h.0.now_is; committed = λ _. h.0.committed_is }

undone_stays : (old new : Connected) → IsRolledBack old new → Stays old new
undone_stays old new h = record { was_open = λ o. h.was_open o; now = λ o same. (h.undone o).0 ∙ same; committed = λ o. (h.undone o).1 }

not_run : (old new : Connected) (sql : List ℕ) (params : Row) (e : Error) → IsNotRun old new sql params e → Stays old new
unfolding IsNotRun
not_run old new sql params e (inl h) = unchanged_stays old new h.1
not_run old new sql params e (inr h) = undone_stays old new h.3

fails_to_show : (old new : Connected) (sql : List ℕ) (c : Compiled) (params : Row) (e : Error) (o : Option Returning) → FailsToShow old new sql c params e o → Stays old new
fails_to_show old new sql c params e None h = unchanged_stays old new h.3
fails_to_show old new sql c params e (Some what) (inl h) = unchanged_stays old new h.1
fails_to_show old new sql c params e (Some what) (inr h) = undone_stays old new h.3

failed_stays : (sql : List ℕ) (params : Row) (old new : Connected) (e : Error) → FailsToQuery sql params old new e → Stays old new
unfolding FailsToQuery
failed_stays sql params old new e (inl h) = not_run old new sql params e h
failed_stays sql params old new e (inr h) = fails_to_show old new sql h.0 _ e h.0.returning h.2

shows_rows : (old new : Connected) (sql : List ℕ) (c : Compiled) (params : Row) (rows : List Row) (o : Option Returning) → o ≡ None → ShowsRows old new sql c params rows o → IsUnchanged old new
shows_rows old new sql c params rows None none h = h.3
shows_rows old new sql c params rows (Some what) none h = absurd (cc)

shown_same : (sql : List ℕ) (params : Row) (old new : Connected) (rows : List Row) → IsPlain (understood old.now.schema sql) → Shown sql params old new rows → IsUnchanged old new
unfolding Shown
shown_same sql params old new rows plain h = shows_rows old new sql h.0 _ rows h.0.returning (subst IsPlain h.1.is plain).0 h.2

module _ (schema : Schema) (sql : List ℕ) (params : Row) (old new : Connected) where
  queried_same : (r : Result (Vec Row Global) Error) → IsPlain (understood old.now.schema sql) → IfOk r (λ rows. Shown sql params old new rows.items) → IfOk r (λ _. IsUnchanged old new)
  queried_same (Ok rows) plain ok = shown_same sql params old new rows.items plain ok
  queried_same (Err e) plain ok = tt

  queried_stays : (r : Result (Vec Row Global) Error) → IsPlain (understood old.now.schema sql) → IfOk r (λ rows. Shown sql params old new rows.items)
      → IfErr r (FailsToQuery sql params old new) → Stays old new
  queried_stays (Ok rows) plain ok err = unchanged_stays old new (shown_same sql params old new rows.items plain ok)
  queried_stays (Err e) plain ok err = failed_stays sql params old new e err

  -- a query that writes nothing
  pub queried_rests : (r : Result (Vec Row Global) Error) → IsPlain (understood schema sql) → (HasCleanDisk new → IfOk r (λ rows. Shown sql params old new rows.items))
      → (HasCleanDisk new → IfErr r (FailsToQuery sql params old new)) → (old.in_transaction ≡ false → new.in_transaction ≡ false)
      → Survives old new (CommitsShowing sql params old) → RestsOn schema old new r
  queried_rests r plain ok err mode survives = record {
    settled = mode;
    same = λ clean has. queried_same r (bare has) (ok clean);
    stays = λ clean has. queried_stays r (bare has) (ok clean) (err clean);
    survives = survives_weaker old new (CommitsShowing sql params old) (λ _. old.now.schema ≢ schema) (λ clean db commits has. never_commits sql params old db (bare has) commits) survives;
  }
    where
      bare : old.now.schema ≡ schema → IsPlain (understood old.now.schema sql)
      bare has = subst (λ s. IsPlain (understood s sql)) (sym has) plain

-- ---- one after the other

module _ {X Y E F : Type 0} (old mid : Connected) (x : X) where
  -- reads that succeeded, and then no others
  pub rests_so : Rests {E = E} old mid (Ok x) → (r : Result Y F) → Rests old mid r
  rests_so h r = record {
    settled = h.settled;
    same = λ clean has. any r (h.same clean has);
    stays = h.stays;
    survives = h.survives;
  }
    where
      any : (r : Result Y F) → IsUnchanged old mid → IfOk r (λ _. IsUnchanged old mid)
      any (Ok y) h = h
      any (Err e) h = tt

  -- reads that succeeded, and then others
  pub rests_then : (new : Connected) → Rests {E = E} old mid (Ok x) → (r : Result Y F) → Rests mid new r → Rests old new r
  rests_then new h r k = record {
    settled = λ none. k.settled (h.settled none);
    same = λ clean has. then_same r (before clean has) (k.same clean (still clean has));
    stays = λ clean has. then_stays (before clean has) (k.stays clean (still clean has));
    survives = survives_then old mid new _ _ (λ _. old.now.schema ≢ desk_schema) (λ _ _ none. none) (λ clean _ none has. none (still clean has)) h.survives k.survives;
  }
    where
      early : HasCleanDisk new → HasCleanDisk mid
      early clean = omega (arith, k.survives.clean)

      before : HasCleanDisk new → old.now.schema ≡ desk_schema → IsUnchanged old mid
      before clean has = h.same (early clean) has

      still : HasCleanDisk new → old.now.schema ≡ desk_schema → mid.now.schema ≡ desk_schema
      still clean has = ap (λ (d : Database). d.schema) (before clean has).0.now_is ∙ has

      then_same : (r : Result Y F) → IsUnchanged old mid → IfOk r (λ _. IsUnchanged mid new) → IfOk r (λ _. IsUnchanged old new)
      then_same (Ok y) a b = unchanged_then old mid new a b
      then_same (Err e) a b = tt

      then_stays : IsUnchanged old mid → Stays mid new → Stays old new
      then_stays a b = record {
        was_open = λ here. a.0.was_open;
        now = λ here same. b.now here (a.0.committed_is ∙ same ∙ sym a.0.now_is) ∙ a.0.now_is;
        committed = λ here. b.committed here ∙ a.0.committed_is;
      }

-- reads that succeeded, and then no others
pub last : {X Y E F : Type 0} (old new : Connected) (r : Result X E) (x : X) → r ≡ Ok x → Rests old new r → (s : Result Y F) → Rests old new s
last old new r x is h s = rests_so old new x (subst (Rests old new) is h) s

-- a read that failed, whose error is passed on
pub refused : {X Y E F : Type 0} (old new : Connected) (r : Result X E) (s : Result Y F) → IsErr s → Rests old new r → Rests old new s
refused {X} {Y} {E} {F} old new r s bad h = record { settled = h.settled; same = λ clean has. none s bad; stays = h.stays; survives = h.survives }
  where
    none : (s : Result Y F) → IsErr s → IfOk s (λ _. IsUnchanged old new)
    none (Ok y) bad = absurd (cc)
    none (Err e) bad = tt
