-- A change that is written in one transaction: what is committed, and what a crash leaves of it.
use Rattle.std.proofs.Common.{◌≡◌, IsTrue, true, false, refl, sym, ap, subst, ◌∙◌, arith}
use Rattle.sqlite.specs.Effect.{IsDatabase}
use Rattle.sqlite.specs.Held.{Held, state}
use Rattle.sqlite.specs.State.{State as Connected, KeepsCommit, HasCleanDisk, Survives, Shows}
use Rattle.sqlite.specs.Store.{Ghosts}
use Rattle.sqlite.specs.Tree.{Trees}
use Rattle.sqlite.proofs.Callers.{survives_begin}
use Rattle.sqlite.proofs.StateLemmas.{survives_then}
use Rattle.pt_desk_rules.specs.State.{State}
use Rattle.pt_tables_writing.specs.Committing.{IsMade, LeadsTo}
use Rattle.pt_tables_writing.specs.Least.{IsDeskDatabase}
use Rattle.pt_tables_rows.specs.Schema.{desk_schema}
use Rattle.pt_tables_rows.specs.Tables.{HasRows, Stands}

module _ {S : Type 0} (g : Ghosts S) (old begun last : Held S) (before after : State) (is : begun ≡ record old { in_transaction = true })
    (survives : Survives (state g begun) (state g last) (λ _. ⊥))
    (written : HasCleanDisk (state g last) → IsTrue begun.in_transaction → KeepsCommit (state g begun) (state g last) × IsTrue last.in_transaction
    × ((state g begun).now.schema ≡ desk_schema → Stands before (state g begun).now → Stands after (state g last).now × IsDatabase (state g last).now))
    (opened : HasCleanDisk (state g last) → IsTrue begun.in_transaction → IsTrue (state g begun).is_open) where
  inside : IsTrue begun.in_transaction
  inside = subst (λ (h : Held S). IsTrue h.in_transaction) (sym is) refl

  same_now : (state g begun).now ≡ (state g old).now
  same_now = ap (λ (h : Held S). (state g h).now) is

  was_open : HasCleanDisk (state g last) → IsTrue (state g old).is_open
  was_open clean = subst (λ (h : Held S). IsTrue (state g h).is_open) is (opened clean inside)

  ends : HasCleanDisk (state g last) → Stands before (state g old).now → Stands after (state g last).now × IsDatabase (state g last).now
  ends clean stands =
      let begins : Stands before (state g begun).now = subst (Stands before) (sym same_now) stands in
      (written clean inside).2 begins.schema begins

  stand : HasCleanDisk (state g last) → Stands before (state g old).now → Stands after (state g last).now
  stand clean stands = (ends clean stands).0

  -- what it has are the desk's tables
  tabled : HasCleanDisk (state g last) → Stands before (state g old).now → IsDeskDatabase (state g last).now.trees
  tabled clean stands =
      let it = ends clean stands in
      subst (λ s. IsDatabase (record { schema = s; trees = (state g last).now.trees })) it.0.schema it.1

  -- once it is committed
  pub made : (end : Connected) → HasCleanDisk (state g last) → Shows (state g last) end (state g last).now (state g last).now false
      → IsMade before after (state g old) end
  made end clean shows = record {
    was_open = was_open clean;
    is_open = shows.is_open;
    committed = shows.committed_is ∙ sym shows.now_is;
    stands = λ stands. subst (Stands after) (sym shows.now_is) (stand clean stands);
  }

  -- a crash leaves what it could leave before, or the rows after the change
  pub survive : (end : Connected) → Survives (state g last) end (λ db. db ≡ (state g last).now.trees)
      → Survives (state g old) end (LeadsTo before after (state g old))
  survive end closes =
      let from = survives_begin g old (state g last) (λ _. ⊥) (subst (λ h. Survives (state g h) (state g last) (λ _. ⊥)) is survives) in
      survives_then (state g old) (state g last) end (λ _. ⊥) (λ db. db ≡ (state g last).now.trees) (LeadsTo before after (state g old))
      (λ _ db none. absurd none)
      (λ clean db same.
      let before_it : HasCleanDisk (state g last) = omega (arith, closes.clean) in
      record {
        was_open = was_open before_it;
        rows = λ stands. subst (HasRows after) (sym same) (stand before_it stands).rows;
        tables = λ stands. subst IsDeskDatabase (sym same) (tabled before_it stands);
      })
      from closes

-- whatever was written, there is no less doubt than before
pub lasts : {S : Type 0} (g : Ghosts S) (old begun last : Held S) (end : Connected) (P : Trees → Type 0) → begun ≡ record old { in_transaction = true }
    → Survives (state g begun) (state g last) (λ _. ⊥) → Survives (state g last) end P → Survives (state g old) end (λ _. Unit {0})
lasts g old begun last end P is survives ends =
    survives_then (state g old) (state g last) end (λ _. ⊥) P (λ _. Unit {0}) (λ _ db none. tt) (λ _ db any. tt)
    (survives_begin g old (state g last) (λ _. ⊥) (subst (λ h. Survives (state g h) (state g last) (λ _. ⊥)) is survives)) ends
