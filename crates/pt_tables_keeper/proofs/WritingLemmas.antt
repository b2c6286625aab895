-- A change that is written after a read.
use Rattle.std.proofs.Common.{◌≡◌, ◌⊎◌, ℕ, inl, inr, false, IsTrue, IfErr, IfOk, List, [], Result, Ok, Err, sym, subst, ◌∙◌, arith}
use Rattle.sqlite.specs.Order.{Row}
use Rattle.sqlite.specs.State.{State as Connected, HasCleanDisk, IsNotRun, IsRolledBack, IsUnchanged, Survives}
use Rattle.sqlite.specs.Tree.{Trees}
use Rattle.sqlite.specs.declared.error.Error.{Error}
use Rattle.sqlite.proofs.InsideLemmas.{unchanged_keeps}
use Rattle.sqlite.proofs.StateLemmas.{survives_then}
use Rattle.pt_desk_rules.specs.Parts as part
use Rattle.pt_desk_rules.specs.State.{State}
use Rattle.pt_desk_rules.specs.declared.change.Change.{Change}
use Rattle.pt_base_records.specs.Records.{Each}
use Rattle.pt_desk_scheduling.specs.Plan.{Plan}
use Rattle.pt_tables_asking.specs.Asking.{Rests, ShowsCommit}
use Rattle.pt_tables_asking.proofs.InsideLemmas.{still_shown}
use Rattle.pt_tables_rows.specs.Tables.{Stands, IsWellFormed}
use Rattle.pt_tables_writing.specs.Groups.{AgreesFor, AgreesWith}
use Rattle.pt_tables_writing.specs.Committing.{IsMade, LeadsTo}
use Rattle.pt_tables_writing.specs.Least.{IsUndone}
use Rattle.pt_tables_keeper.specs.Plans.{IsOneKey, keys_of, plans_at}
use Rattle.pt_tables_keeper.proofs.PlanLemmas.{knows_edited}

-- the plans of its keys are what the change needs besides the lists
pub agrees_over : (change : Change) (known content : State) (plans : List Plan) → IsWellFormed content → Each IsOneKey change.planned.away → AgreesFor change known content
    → plans ≡ plans_at content.planned (keys_of change.planned) [] → AgreesWith change known plans content
agrees_over change known content plans well one agrees is = (agrees, knows_edited change.planned content.planned plans (well.order part.planned) one is)

module _ (old mid new : Connected) (rests : Rests old mid) (always : Survives mid new (λ _. Unit {0})) where
  pub clean_mid : HasCleanDisk new → HasCleanDisk mid
  clean_mid clean = omega (arith, clean, always.clean)

  pub clean_old : HasCleanDisk new → HasCleanDisk old
  clean_old clean = omega (arith, clean, always.clean, rests.survives.clean)

  module _ (before after : State) (shows : ShowsCommit old) where
    shown : HasCleanDisk new → IsTrue mid.is_open → mid.now ≡ old.now
    shown clean here = still_shown old mid rests (clean_mid clean) (λ there. sym (shows (clean_old clean) there)) here

    pub made_then : HasCleanDisk new → IsMade before after mid new → IsMade before after old new
    made_then clean made = record {
      was_open = (rests.keeps (clean_mid clean)).was_open made.was_open;
      is_open = made.is_open;
      committed = made.committed;
      stands = λ stands. made.stands (subst (Stands before) (sym (shown clean made.was_open)) stands);
    }

    leads_then : HasCleanDisk new → (trees : Trees) → LeadsTo before after mid trees → LeadsTo before after old trees
    leads_then clean trees leads = record {
      was_open = (rests.keeps (clean_mid clean)).was_open leads.was_open;
      rows = λ stands. leads.rows (subst (Stands before) (sym (shown clean leads.was_open)) stands);
      tables = λ stands. leads.tables (subst (Stands before) (sym (shown clean leads.was_open)) stands);
    }

    pub survives_over : (HasCleanDisk mid → Survives mid new (LeadsTo before after mid)) → Survives old new (LeadsTo before after old)
    survives_over given =
        let whole = survives_then old mid new (λ _. ⊥) (λ _. Unit {0}) (λ _. Unit {0}) (λ _ db none. tt) (λ _ db any. any) rests.survives always in
        record {
          clean = whole.clean;
          shield = whole.shield;
          counts = whole.counts;
          limit = whole.limit;
          closes = whole.closes;
          crash = λ clean db left. elim ((given (clean_mid clean)).crash clean db left) [
            | inl middle ↦ elim (rests.survives.crash (clean_mid clean) db middle) [ inl before_it ↦ inl before_it | inr none ↦ absurd none ]
            | inr leads ↦ inr (leads_then clean db leads)
          ];
        }

-- ---- the store is asked once more

not_understood : (old new : Connected) (sql : List ℕ) (e : Error) → IsNotRun old new sql [] e → IsUnchanged old new ⊎ IsRolledBack old new
unfolding IsNotRun
not_understood old new sql e (inl h) = inl h.1
not_understood old new sql e (inr h) = inr h.3

-- what showed the commit still does
shown_still : (old new : Connected) → (IsTrue old.is_open → old.now ≡ old.committed) → IsUnchanged old new ⊎ IsRolledBack old new → IsTrue new.is_open → new.now ≡ new.committed
shown_still old new shows (inl same) here = same.0.now_is ∙ shows same.0.was_open ∙ sym same.0.committed_is
shown_still old new shows (inr back) here = (back.undone here).0 ∙ sym (back.undone here).1

module _ {T : Type 0} (old new : Connected) (sql : List ℕ) (Is : T → Type 0) where
  understood : (r : Result T Error) → IfOk r (λ s. Is s × IsUnchanged old new) → IfErr r (λ e. (params : Row) → IsNotRun old new sql params e) → IsUnchanged old new ⊎ IsRolledBack old new
  understood (Ok s) ok err = inl ok.1
  understood (Err e) ok err = not_understood old new sql e (err [])

  -- a store that is asked to understand a text rests
  pub rests_asked : (r : Result T Error) → (HasCleanDisk new → IfOk r (λ s. Is s × IsUnchanged old new)) → (HasCleanDisk new → IfErr r (λ e. (params : Row) → IsNotRun old new sql params e))
      → new.in_transaction ≡ false → ShowsCommit old → Survives old new (λ _. ⊥) → Rests old new
  rests_asked r ok err settled shows survives = record {
    settled = settled;
    keeps = λ clean. unchanged_keeps old new (understood r (ok clean) (err clean));
    undone = λ clean here. shown_still old new (shows (omega (arith, clean, survives.clean))) (understood r (ok clean) (err clean)) here;
    survives = survives;
  }

-- what was undone stays undone
pub undone_further : (old mid new : Connected) → Rests mid new → (HasCleanDisk mid → IsUndone old mid) → HasCleanDisk new → IsUndone old new
undone_further old mid new rests undone clean =
    let early : HasCleanDisk mid = omega (arith, clean, rests.survives.clean) in
    let was = undone early in
    let keeps = rests.keeps clean in
    record {
      was_open = λ here. was.was_open (keeps.was_open here);
      now = λ here. rests.undone clean here ∙ keeps.committed here ∙ was.committed (keeps.was_open here);
      committed = λ here. keeps.committed here ∙ was.committed (keeps.was_open here);
    }

-- and what may be left at a crash is no more
pub survives_further : (old mid new : Connected) (P : Trees → Type 0) → Survives old mid P → Rests mid new → Survives old new P
survives_further old mid new P first rests =
    survives_then old mid new P (λ _. ⊥) P (λ _ db made. made) (λ _ db none. absurd none) first rests.survives
