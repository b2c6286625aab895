-- What a commit makes of the store over tables.
use Rattle.std.proofs.Common.{◌≡◌, ◌<◌, ◌≤◌, ◌⊎◌, inl, inr, ℕ, IsTrue, Option, Some, None, Result, Ok, Err, List, false, length, refl, sym, ap, subst, ◌∙◌, arith}
use Rattle.sqlite.specs.Held.{Held, state}
use Rattle.sqlite.specs.State.{State as Connected, HasCleanDisk, Survives}
use Rattle.sqlite.specs.Store.{Ghosts}
use Rattle.sqlite.specs.Tree.{Trees}
use Rattle.pt_desk_store.specs.Listed.{known_of}
use Rattle.pt_desk_store.specs.Store.{Fits, Goes, Store}
use Rattle.pt_desk_store.specs.declared.keeper.StoreFault.{StoreFault}
use Rattle.pt_desk_store.specs.declared.keeper.StoreFault.TheVariants.{Memory, Store as failed}
use Rattle.pt_desk_rules.specs.State.{State, applied}
use Rattle.pt_desk_rules.specs.declared.change.Change.{Change}
use Rattle.pt_base_values.specs.declared.vehicle.Vehicle.{Vehicle}
use Rattle.pt_base_records.specs.Records.{Each}
use Rattle.pt_tables_asking.specs.Plans.{HasVersionAmong}
use Rattle.pt_tables_rows.specs.Tables.{IsWellFormed, IsKept, Stands}
use Rattle.pt_tables_keeper.proofs.ReadLemmas.{not_lasting}
use Rattle.pt_tables_keeper.proofs.StepLemmas.{Settles, finds, finds_once, settles, shut_falls}
use Rattle.pt_desk_store.proofs.StoreLemmas.{reads_then}
use Rattle.pt_tables_keeper.specs.Keeper.{AreInStep, KeptTables, kept_store, store_of}
use Rattle.pt_tables_keeper.specs.Writable.{IsWritable}
use Rattle.pt_tables_writing.proofs.GroupLemmas.{agrees_known}
use Rattle.pt_tables_writing.specs.Groups.{AgreesFor}
use Rattle.pt_tables_writing.specs.Committing.{IsDeskOf, IsMade, LeadsTo, LeavesDesk, MayFind}
use Rattle.pt_tables_writing.specs.Least.{IsUndone}

-- ---- what is known

-- the lists of what is known agree with the content, if the change can be written
pub agrees_writable : (change : Change) (vehicles : List Vehicle) (lists known content : State) → IsWritable vehicles change → lists ≡ known_of known → known ≡ content → AgreesFor change lists content
agrees_writable change vehicles lists known content may are same =
    subst (λ l. AgreesFor change l content) (sym (are ∙ ap known_of same)) (agrees_known change content may.kept may.riders may.entries may.trips)

-- ---- a transaction

module _ {riders : ℕ} (old new : Connected) (before after : State) (f : ℕ) (none : f ≡ 0) (was : AreInStep before riders f old)
    (survives : Survives old new (LeadsTo before after old)) (readable : IsWellFormed after) (carried : Each (HasVersionAmong after.vehicles) after.planned) (law : Settles new) where
  early : HasCleanDisk new → HasCleanDisk old
  early clean = let up = survives.clean in omega arith

  -- what is committed is a desk's database of the content after the change
  desk_after : HasCleanDisk new → (trees : Trees) → LeadsTo before after old trees → IsDeskOf after trees
  desk_after clean trees leads =
      let held = (was.kept none (early clean)).stands leads.was_open in
      record { tables = leads.tables held; rows = (readable, leads.rows held) }

  -- a crash leaves what it could leave before, or the content after the change
  crashes : (o : Option State) → MayFind new o → MayFind old o ⊎ (o ≡ Some after)
  crashes o found = elim (survives.crash found.0 found.1 found.2) [
    | inl before_it ↦ inl (early found.0, found.1, before_it, found.3)
    | inr leads ↦ inr (finds_once found.1 o (Some after) found.3 (desk_after found.0 found.1 leads))
  ]

  leaves_then : LeavesDesk new
  leaves_then clean trees left = elim (survives.crash clean trees left) [
    | inl before_it ↦ was.leaves (early clean) trees before_it
    | inr leads ↦ (after, desk_after clean trees leads)
  ]

  made_kept : IsMade before after old new → HasCleanDisk new → IsKept after new
  made_kept made clean =
      let held = (was.kept none (early clean)).stands made.was_open in
      record { stands = λ _. made.stands held; committed = λ _. made.committed }

  undone_kept : IsUndone old new → HasCleanDisk new → IsKept before new
  undone_kept undone clean =
      let held = was.kept none (early clean) in
      record {
        stands = λ here. subst (Stands before) (sym (undone.now here ∙ held.committed (undone.was_open here))) (held.stands (undone.was_open here));
        committed = λ here. undone.committed here ∙ sym (undone.now here);
      }

  -- all is done, and the tables have it
  pub step_made : (count : ℕ) → (HasCleanDisk old → count ≡ length after.riders) → new.in_transaction ≡ false → (HasCleanDisk new → IsMade before after old new) → AreInStep after count f new
  step_made count counted settled made = record {
    most = was.most;
    settled = settled;
    readable = readable;
    carried = carried;
    leaves = leaves_then;
    kept = λ _ clean. made_kept (made clean) clean;
    counted = λ _ clean. counted (early clean);
  }

  pub commits_made : (u count : ℕ) → (HasCleanDisk old → count ≡ length after.riders) → new.in_transaction ≡ false → (HasCleanDisk new → IsMade before after old new)
      → Goes {X = Unit {0}} (kept_store old before f u) (kept_store new after f u) tt (Some after) (Ok tt)
  commits_made u count counted settled made = record {
    clean = survives.clean;
    serves = shut_falls old new survives.clean (λ clean _. (made clean).was_open);
    grows = omega arith;
    told = λ is. absurd (cc);
    stays = λ low up. absurd (omega arith);
    settled = λ _. settles new after f u law (step_made count counted settled made);
    holds = λ clean. record {
      tells = (refl, refl);
      crash = crashes;
      durable = λ o found. finds new after law leaves_then readable (made_kept (made clean) clean) (made clean).is_open o found;
      memory = λ is. absurd (cc);
      fits = λ _. refl;
    };
  }

  -- nothing is done, since memory ran out or the store failed
  pub step_undone : (g : ℕ) → g ≤ 1 → new.in_transaction ≡ false → (HasCleanDisk new → IsUndone old new) → AreInStep before riders g new
  step_undone g most settled undone = record {
    most = most;
    settled = settled;
    readable = was.readable;
    carried = was.carried;
    leaves = leaves_then;
    kept = λ _ clean. undone_kept (undone clean) clean;
    counted = λ _ clean. was.counted none (early clean);
  }

  pub commits_not : (u g : ℕ) (e : StoreFault) → (e ≡ failed → g ≡ 1) → (e ≡ Memory → g ≡ 0)
      → new.in_transaction ≡ false → (HasCleanDisk new → IsUndone old new) → (e ≡ Memory → HasCleanDisk new → IsTrue new.is_open)
      → Goes {X = Unit {0}} (kept_store old before f u) (kept_store new before g u) tt (Some after) (Err e)
  commits_not u g Memory on_failed on_memory settled undone open_still =
      let zero : g ≡ 0 = on_memory refl in
      let most : g ≤ 1 = omega arith in
      record {
        clean = survives.clean;
        serves = shut_falls old new survives.clean (λ clean here. (undone clean).was_open here);
        grows = omega arith;
        told = λ is. absurd (cc);
        stays = λ low up. absurd (omega arith);
        settled = λ _. settles new before g u law (step_undone g most settled undone);
        holds = λ clean. record {
          tells = refl;
          crash = crashes;
          durable = tt;
          memory = λ _ _. finds new before law leaves_then was.readable (undone_kept (undone clean) clean) (open_still refl clean);
          fits = λ _. refl;
        };
      }
  commits_not u g failed on_failed on_memory settled undone open_still =
      let one : g ≡ 1 = on_failed refl in
      let most : g ≤ 1 = omega arith in
      record {
        clean = survives.clean;
        serves = shut_falls old new survives.clean (λ clean here. (undone clean).was_open here);
        grows = omega arith;
        told = λ _. omega arith;
        stays = λ _ _. refl;
        settled = λ _. settles new before g u law (step_undone g most settled undone);
        holds = λ clean. record { tells = tt; crash = crashes; durable = tt; memory = λ is. absurd (cc); fits = λ _. refl };
      }

-- a failure is counted once
pub at_most_one : (g : ℕ) (e : StoreFault) → (e ≡ failed → g ≡ 1) → (e ≡ Memory → g ≡ 0) → g ≤ 1
at_most_one g Memory on_failed on_memory = let zero : g ≡ 0 = on_memory refl in omega arith
at_most_one g failed on_failed on_memory = let one : g ≡ 1 = on_failed refl in omega arith

-- ---- before anything is written

-- out of memory
pub wants_memory : (s : Connected) (a : State) (f u : ℕ) (left : Option State) (r : Result (Unit {0}) StoreFault) → f ≡ 0
    → r ≡ Err Memory → Goes {X = Unit {0}} (kept_store s a f u) (kept_store s a f u) tt left r
wants_memory s a f u left r none is = subst (λ r. Goes {X = Unit {0}} (kept_store s a f u) (kept_store s a f u) tt left r) (sym is) (record {
  clean = omega arith;
  serves = omega arith;
  grows = omega arith;
  told = λ same. absurd (cc);
  stays = λ low up. absurd (omega arith);
  settled = λ before. before;
  holds = λ clean. record {
    tells = refl;
    crash = λ o found. inl found;
    durable = not_lasting (Unit {0}) (kept_store s a f u) left Memory;
    memory = λ _ finds. finds;
    fits = λ _. refl;
  };
})

-- ---- the keeper

-- a commit of these tables is one of the keeper that has them
pub commits_by : {S : Type 0} {u : ℕ} (g : Ghosts S) (conn : Held S) (failures : ℕ) (content : State) (now : KeptTables S) (change : Change) (after : Store)
    (r : Result (Unit {0}) StoreFault) → ◌≡◌ {A = KeptTables S} (record { conn = conn; failures = failures; unfit = u; content = content }) now
    → Goes {X = Unit {0}} (kept_store (state g conn) content failures u) after tt (Some (applied change content)) r
    → Goes {X = Unit {0}} (store_of g now) after tt (Some (applied change now.content)) r
commits_by {S} {u} g conn failures content now change after r is h =
    subst (λ (k : KeptTables S). Goes {X = Unit {0}} (store_of g k) after tt (Some (applied change k.content)) r) is h

-- what is stated for the riders of the keeper holds for these tables
pub riders_counted : {S : Type 0} {u : ℕ} (g : Ghosts S) (conn : Held S) (failures : ℕ) (content : State) (now : KeptTables S) (change : Change) (riders : ℕ)
    → ◌≡◌ {A = KeptTables S} (record { conn = conn; failures = failures; unfit = u; content = content }) now
    → (HasCleanDisk (state g now.conn) → riders ≡ length (applied change now.content).riders) → HasCleanDisk (state g conn) → riders ≡ length (applied change content).riders
riders_counted {S} {u} g conn failures content now change riders is counted =
    subst (λ (k : KeptTables S). HasCleanDisk (state g k.conn) → riders ≡ length (applied change k.content).riders) (sym is) counted

-- a commit after a read
pub commits_then : {X : Type 0} (a b c : Store) (x v : X) (change : Change) (r : Result (Unit {0}) StoreFault) → Goes a b v None (Ok x)
    → Goes {X = Unit {0}} b c tt (Some (applied change b.content)) r → Goes {X = Unit {0}} a c tt (Some (applied change a.content)) r
commits_then a b c x v change r first next =
    reads_then a b c x v tt tt (Some (applied change b.content)) (Some (applied change a.content)) r first next
    (λ _ _ same. (refl, ap (λ s. Some (applied change s)) same))

-- a commit that is refused before anything is written leaves all but the failures as it was
pub commit_refused : (old new : Store) (made : State) → old.doubt ≤ new.doubt → old.shut ≤ new.shut → old.failures ≤ new.failures → 0 < new.failures
    → ((o : Option State) → new.found o → old.found o) → Goes {X = Unit {0}} old new tt (Some made) (Err failed)
commit_refused old new made clean serves grows some same = record {
  clean = clean;
  serves = serves;
  grows = grows;
  told = λ _. some;
  stays = λ _ _. refl;
  settled = λ _ _ none. absurd (omega (arith, none, some));
  holds = λ _. record { tells = tt; crash = λ o found. inl (same o found); durable = tt; memory = λ is. absurd (cc); fits = λ none. absurd (cc) };
}

-- a read before a commit gives the store no change
pub fits_after : {X : Type 0} (a b c : Store) (v x : X) (Is : State → Type 0) → Goes a b v None (Ok x) → b.doubt ≤ c.doubt → c.unfit ≡ b.unfit → Fits a c Is
fits_after a b c v x Is read up same clean is =
    let was : b.doubt ≡ 0 = omega (arith, up, clean) in
    same ∙ (read.holds was).fits refl
