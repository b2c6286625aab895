-- The store in step with its tables, and what a read makes of it.
use Rattle.std.proofs.Common.{◌≡◌, ◌≤◌, ◌&&◌, inl, inr, ℕ, Bool, true, false, IsTrue, Option, Some, None, Result, Ok, Err, refl, sym, ap, subst, ◌∙◌, arith}
use Rattle.sqlite.specs.Effect.{Database}
use Rattle.sqlite.specs.State.{State as Connected, HasCleanDisk}
use Rattle.sqlite.specs.Tree.{Trees}
use Rattle.sqlite.specs.View.{doubt}
use Rattle.sqlite_trees.proofs.Doubt.{clean_of, no_doubt, only_falls}
use Rattle.pt_desk_store.specs.Store.{FindsContent, Goes, IsSettled}
use Rattle.pt_desk_store.specs.declared.keeper.StoreFault.{StoreFault}
use Rattle.pt_desk_store.specs.declared.keeper.StoreFault.TheVariants.{Memory, Store as failed}
use Rattle.pt_desk_rules.specs.State.{State}
use Rattle.pt_tables_rows.specs.Tables.{IsWellFormed, HasRows, IsKept}
use Rattle.pt_tables_asking.proofs.ContentLemmas.{kept_still}
use Rattle.pt_tables_asking.specs.Asking.{Rests}
use Rattle.pt_tables_keeper.specs.Keeper.{AreInStep, kept_store, shut}
use Rattle.pt_tables_rows.proofs.SameRows.{opens_once}
use Rattle.pt_tables_writing.specs.Committing.{IsDeskOf, LeavesDesk, MayFind, OpensDesk}

both : (a b : Bool) → IsTrue (a && b) → IsTrue a × IsTrue b
both true b h = (refl, h)
both false b h = absurd (cc)

join : (a b : Bool) → IsTrue a → IsTrue b → IsTrue (a && b)
join true b h k = k
join false b h k = absurd (cc)

open_of : (s : Connected) → shut s ≡ 0 → HasCleanDisk s × IsTrue s.is_open
open_of s h =
    let it = both s.is_clean s.is_open (clean_of (s.is_clean && s.is_open) h) in
    (no_doubt s.is_clean it.0, it.1)

pub shut_falls : (a b : Connected) → doubt a.is_clean ≤ doubt b.is_clean
    → (HasCleanDisk b → IsTrue b.is_open → IsTrue a.is_open) → shut a ≤ shut b
shut_falls a b falls opens = only_falls (a.is_clean && a.is_open) (b.is_clean && b.is_open) (λ h.
    let it = both b.is_clean b.is_open h in
    let clean : doubt b.is_clean ≡ 0 = no_doubt b.is_clean it.0 in
    join a.is_clean a.is_open (clean_of a.is_clean (omega arith)) (opens clean it.1))

-- what is left at a crash is what was committed, if the connection is open
abbrev pub Settles : Connected → Type 0
Settles s = (db : Trees) → IsTrue s.is_open → s.may_leave db → db ≡ s.committed.trees

-- an opening of a database finds one thing
pub finds_once : (trees : Trees) (one other : Option State) → OpensDesk trees one → OpensDesk trees other → one ≡ other
finds_once trees None None ones others = refl
finds_once trees None (Some b) ones others = absurd (ones b others)
finds_once trees (Some a) None ones others = absurd (others a ones)
finds_once trees (Some a) (Some b) ones others = opens_once trees (Some a) (Some b) ones.rows others.rows

-- while the keeper is in step, open and has not failed, an opening finds its content
pub finds : (s : Connected) (content : State) → Settles s → LeavesDesk s → IsWellFormed content → IsKept content s → IsTrue s.is_open → (o : Option State)
    → MayFind s o → o ≡ Some content
finds s content law leaves readable kept here o found =
    let same : found.1 ≡ s.now.trees = law found.1 here found.2 ∙ ap (λ (d : Database). d.trees) (kept.committed here) in
    let desk : IsDeskOf content found.1 = record {
      tables = (leaves found.0 found.1 found.2).1.tables;
      rows = (readable, subst (HasRows content) (sym same) (kept.stands here).rows);
    } in
    finds_once found.1 o (Some content) found.3 desk

pub settles : {riders : ℕ} (s : Connected) (content : State) (f u : ℕ) → Settles s → AreInStep content riders f s → IsSettled (kept_store s content f u)
settles s content f u law step open_still none o found =
    let here = open_of s open_still in
    finds s content law step.leaves step.readable (step.kept none here.0) here.1 o found

-- ---- a read

module _ {riders : ℕ} (old new : Connected) (content : State) (f : ℕ) (none : f ≡ 0) (was : AreInStep content riders f old)
    (rests : Rests old new) (law : Settles new) where
  early : HasCleanDisk new → HasCleanDisk old
  early clean = let up = rests.survives.clean in omega arith

  still : HasCleanDisk new → IsKept content new
  still clean = kept_still content old new rests clean (was.kept none (early clean))

  leaves_still : LeavesDesk new
  leaves_still clean trees left = elim (rests.survives.crash clean trees left) [
    | inl before_it ↦ was.leaves (early clean) trees before_it
    | inr nothing ↦ absurd nothing
  ]

  -- they stay in step, whether the read succeeded or not
  pub step_still : (g : ℕ) → g ≤ 1 → AreInStep content riders g new
  step_still g most =
      record {
        most = most;
        settled = rests.settled;
        readable = was.readable;
        carried = was.carried;
        leaves = leaves_still;
        kept = λ _ clean. still clean;
        counted = λ _ clean. was.counted none (early clean);
      }

  crashes : (o : Option State) → MayFind new o → MayFind old o
  crashes o found = elim (rests.survives.crash found.0 found.1 found.2) [
    | inl before_it ↦ (early found.0, found.1, before_it, found.3)
    | inr nothing ↦ absurd nothing
  ]

  -- an opening that would have found the content still does
  finds_still : (g u : ℕ) → FindsContent (kept_store old content f u) → FindsContent (kept_store new content g u)
  finds_still g u was_found o found = was_found o (crashes o found)

  serves : shut old ≤ shut new
  serves = shut_falls old new rests.survives.clean (λ clean here. (rests.keeps clean).was_open here)

  -- a read that returns what the content has
  pub reads_tables : {X : Type 0} (value : X) (r : Result X StoreFault) (g u : ℕ)
      → (HasCleanDisk new → (x : X) → r ≡ Ok x → x ≡ value) → (r ≡ Err failed → g ≡ 1) → ((r ≡ Err failed → ⊥) → g ≡ 0)
      → Goes (kept_store old content f u) (kept_store new content g u) value None r
  reads_tables value (Ok x) g u told on_failed on_other =
      let zero : g ≡ 0 = on_other (λ e. absurd (cc)) in
      record {
        clean = rests.survives.clean;
        serves = serves;
        grows = omega arith;
        told = λ is. absurd (cc);
        stays = λ low up. absurd (omega arith);
        settled = λ _. settles new content g u law (step_still g (omega arith));
        holds = λ clean. record { tells = (told clean x refl, refl); crash = λ o found. inl (crashes o found); durable = tt; memory = λ _. finds_still g u; fits = λ _. refl };
      }
  reads_tables value (Err Memory) g u told on_failed on_other =
      let zero : g ≡ 0 = on_other (λ e. absurd (cc)) in
      record {
        clean = rests.survives.clean;
        serves = serves;
        grows = omega arith;
        told = λ is. absurd (cc);
        stays = λ low up. absurd (omega arith);
        settled = λ _. settles new content g u law (step_still g (omega arith));
        holds = λ clean. record { tells = refl; crash = λ o found. inl (crashes o found); durable = tt; memory = λ _. finds_still g u; fits = λ _. refl };
      }
  reads_tables value (Err failed) g u told on_failed on_other =
      let one : g ≡ 1 = on_failed refl in
      record {
        clean = rests.survives.clean;
        serves = serves;
        grows = omega arith;
        told = λ _. omega arith;
        stays = λ _ _. refl;
        settled = λ _. settles new content g u law (step_still g (omega arith));
        holds = λ clean. record { tells = tt; crash = λ o found. inl (crashes o found); durable = tt; memory = λ _. finds_still g u; fits = λ _. refl };
      }
