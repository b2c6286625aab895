use Rattle.std.proofs.Common.{◌≡◌, ℕ, length, refl, subst, subst₂, sym, ◌∙◌, arith}
use Rattle.sqlite.specs.Held.{Held, state}
use Rattle.pt_desk_store.specs.Store.{IsSettled}
use Rattle.pt_tables_keeper.specs.State.{State}
use Rattle.pt_tables_keeper.proofs.StepLemmas.{settles}
use Rattle.pt_tables_keeper.specs.Keeper.{AreInStep, kept_store}
use Rattle.pt_tables_writing.specs.Committing.{LeavesDesk}
use Rattle.pt_tables.proofs.keeping.keeper_of.Goals as goal

pub returns-clause-settled : goal.returns-clause-settled
returns-clause-settled g c =
    let s = state g.S.Store c.args.conn in
    let content = c.args.lists.content in
    let step : AreInStep content (length content.riders) 0 s = record {
      most = omega arith;
      settled = c.requires.settled;
      readable = c.requires.readable;
      carried = c.requires.carried;
      leaves = c.requires.leaves;
      kept = λ _ clean. c.requires.kept clean;
      counted = λ _ _. refl;
    } in
    let same : c.of.result.content ≡ content = c.of.ensures.content ∙ c.of-known.ensures.content ∙ c.of-tables.ensures.value in
    subst (λ (n : ℕ). IsSettled (kept_store (state g.S.Store c.of.result.conn) c.of.result.content n c.of.result.unfit)) (sym c.of.ensures.serves)
    (subst₂ (λ (h : Held _) (t : State). IsSettled (kept_store (state g.S.Store h) t 0 c.of.result.unfit)) (sym c.of.ensures.conn) (sym same)
    (settles s content 0 c.of.result.unfit (λ db here left. g.met.S.Store.settled c.args.conn.store db here left) step))

pub returns-clause-leaves : goal.returns-clause-leaves
returns-clause-leaves g c = subst (λ (h : Held _). LeavesDesk (state g.S.Store h)) (sym c.of.ensures.conn) c.requires.leaves
