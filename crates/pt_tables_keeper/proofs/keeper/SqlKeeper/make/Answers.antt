use Rattle.std.proofs.Common.{◌≡◌, Ok, Err, Some, sym, ap, subst, ◌∙◌, rules}
use Rattle.sqlite.specs.Held.{state}
use Rattle.pt_desk_store.specs.Store.{Goes}
use Rattle.pt_desk_store.specs.declared.keeper.StoreFault.TheVariants.{Memory}
use Rattle.pt_desk_rules.specs.State.{applied}
use Rattle.pt_tables_keeper.proofs.CommitLemmas.{agrees_writable, at_most_one, commits_by, commits_made, commits_not, riders_counted, step_made, step_undone, wants_memory}
use Rattle.pt_tables_keeper.proofs.PlanLemmas.{carried_after}
use Rattle.pt_tables_rows.proofs.SameRows.{applied-well_formed}
use Rattle.pt_tables_keeper.specs.Keeper.{AreInStep, KeptTables, kept_store}
use Rattle.pt_tables_keeper.specs.Writable.{IsWritable}
use Rattle.pt_tables_keeper.proofs.keeper.SqlKeeper.make.Goals as goal

pub returns-in_err-reserve : goal.returns-in_err-reserve
returns-in_err-reserve g c =
    let now = state g.S.Store c.self.inside.conn in
    let content = c.self.inside.known.content in
    let f = c.self.inside.failures in
    let u = c.self.inside.unfit in
    let none : f ≡ 0 = ap (λ (k : KeptTables _). k.failures) c.self.view_is ∙ c.requires.serves in
    let want : c.from_residual.result ≡ Err Memory = search rules in
    record {
      commits = commits_by g.S.Store c.self.inside.conn f content c.args.self.now c.args.change (kept_store now c.reserve.new.self.content f u) c.from_residual.result c.self.view_is
          (subst (λ a. Goes {X = Unit {0}} (kept_store now content f u) (kept_store now a f u) tt (Some (applied c.args.change content)) c.from_residual.result) (sym c.reserve.ensures.content)
          (wants_memory now content f u (Some (applied c.args.change content)) c.from_residual.result none want));
      unfit = ap (λ (k : KeptTables _). k.unfit) c.self.view_is;
    }

pub invariant_of-self-in-Ok : goal.invariant_of-self-in-Ok
invariant_of-self-in-Ok g c =
    let old = state g.S.Store c.self.inside.conn in
    let new = state g.S.Store c.write_over.new.conn in
    let content = c.self.inside.known.content in
    let change = c.args.change in
    let f = c.self.inside.failures in
    let none : f ≡ 0 = ap (λ (k : KeptTables _). k.failures) c.self.view_is ∙ c.requires.serves in
    let was = c.self.invariant in
    let well = was.readable in
    let may = subst (λ (k : KeptTables _). IsWritable k.content.vehicles change) (sym c.self.view_is) c.requires.writable in
    let agrees = agrees_writable change content.vehicles c.lists.result.now.content c.reserve.new.self.content content may c.lists.ensures.known c.reserve.ensures.content in
    let after = applied change content in
    subst (λ a. AreInStep a c.args.rider_count f new) (sym (c.make.ensures.content ∙ ap (applied change) c.reserve.ensures.content))
    (step_made old new content after f none was (c.write_over.ensures.survives content well agrees (was.kept none)) (applied-well_formed change content was.readable may.told)
    (carried_after change content was.readable may was.carried)
    (λ db here left. g.met.S.Store.settled c.write_over.new.conn.store db here left) c.args.rider_count
    (riders_counted g.S.Store c.self.inside.conn f content c.args.self.now change c.args.rider_count
    c.self.view_is c.requires.counted)
    c.write_over.ensures.settled (c.in-Ok.ensures.made content well agrees (was.kept none)))

pub invariant_of-self-in-Err-1 : goal.invariant_of-self-in-Err-1
invariant_of-self-in-Err-1 g c =
    let old = state g.S.Store c.self.inside.conn in
    let new = state g.S.Store c.write_over.new.conn in
    let content = c.self.inside.known.content in
    let change = c.args.change in
    let f = c.self.inside.failures in
    let none : f ≡ 0 = ap (λ (k : KeptTables _). k.failures) c.self.view_is ∙ c.requires.serves in
    let was = c.self.invariant in
    let well = was.readable in
    let may = subst (λ (k : KeptTables _). IsWritable k.content.vehicles change) (sym c.self.view_is) c.requires.writable in
    let agrees = agrees_writable change content.vehicles c.lists.result.now.content c.reserve.new.self.content content may c.lists.ensures.known c.reserve.ensures.content in
    let after = applied change content in
    subst (λ a. AreInStep a c.self.inside.rider_count c.blame.new.failures new) (sym c.reserve.ensures.content)
    (step_undone old new content after f none was (c.write_over.ensures.survives content well agrees (was.kept none)) (applied-well_formed change content was.readable may.told)
    (carried_after change content was.readable may was.carried)
    (λ db here left. g.met.S.Store.settled c.write_over.new.conn.store db here left) c.blame.new.failures
    (at_most_one c.blame.new.failures c.blame.result c.blame.ensures.failed c.blame.ensures.memory) c.write_over.ensures.settled c.in-Err.ensures.undone)

pub returns-in-Ok : goal.returns-in-Ok
returns-in-Ok g c =
    let old = state g.S.Store c.self.inside.conn in
    let new = state g.S.Store c.write_over.new.conn in
    let content = c.self.inside.known.content in
    let change = c.args.change in
    let f = c.self.inside.failures in
    let u = c.self.inside.unfit in
    let none : f ≡ 0 = ap (λ (k : KeptTables _). k.failures) c.self.view_is ∙ c.requires.serves in
    let was = c.self.invariant in
    let well = was.readable in
    let may = subst (λ (k : KeptTables _). IsWritable k.content.vehicles change) (sym c.self.view_is) c.requires.writable in
    let agrees = agrees_writable change content.vehicles c.lists.result.now.content c.reserve.new.self.content content may c.lists.ensures.known c.reserve.ensures.content in
    let after = applied change content in
    let made = commits_made old new content after f none was (c.write_over.ensures.survives content well agrees (was.kept none)) (applied-well_formed change content was.readable may.told)
    (carried_after change content was.readable may was.carried)
    (λ db here left. g.met.S.Store.settled c.write_over.new.conn.store db here left) u c.args.rider_count
    (riders_counted g.S.Store c.self.inside.conn f content c.args.self.now change c.args.rider_count c.self.view_is c.requires.counted)
    c.write_over.ensures.settled (c.in-Ok.ensures.made content well agrees (was.kept none)) in
    record {
      commits = commits_by g.S.Store c.self.inside.conn f content c.args.self.now change (kept_store new c.make.new.self.content f u) (Ok tt) c.self.view_is
          (subst (λ a. Goes {X = Unit {0}} (kept_store old content f u) (kept_store new a f u) tt (Some after) (Ok tt))
          (sym (c.make.ensures.content ∙ ap (applied change) c.reserve.ensures.content)) made);
      unfit = ap (λ (k : KeptTables _). k.unfit) c.self.view_is;
    }

pub returns-in-Err : goal.returns-in-Err
returns-in-Err g c =
    let old = state g.S.Store c.self.inside.conn in
    let new = state g.S.Store c.write_over.new.conn in
    let content = c.self.inside.known.content in
    let change = c.args.change in
    let f = c.self.inside.failures in
    let u = c.self.inside.unfit in
    let none : f ≡ 0 = ap (λ (k : KeptTables _). k.failures) c.self.view_is ∙ c.requires.serves in
    let was = c.self.invariant in
    let well = was.readable in
    let may = subst (λ (k : KeptTables _). IsWritable k.content.vehicles change) (sym c.self.view_is) c.requires.writable in
    let agrees = agrees_writable change content.vehicles c.lists.result.now.content c.reserve.new.self.content content may c.lists.ensures.known c.reserve.ensures.content in
    let after = applied change content in
    let undone = commits_not old new content after f none was (c.write_over.ensures.survives content well agrees (was.kept none)) (applied-well_formed change content was.readable may.told)
    (carried_after change content was.readable may was.carried)
    (λ db here left. g.met.S.Store.settled c.write_over.new.conn.store db here left) u c.blame.new.failures c.blame.result
    c.blame.ensures.failed c.blame.ensures.memory c.write_over.ensures.settled c.in-Err.ensures.undone
    (λ memory clean. c.write_over.ensures.open clean (c.in-Err.is ∙ ap Err (c.blame.ensures.cause.0 memory))) in
    record {
      commits = commits_by g.S.Store c.self.inside.conn f content c.args.self.now change (kept_store new c.reserve.new.self.content c.blame.new.failures u) (Err c.blame.result) c.self.view_is
          (subst (λ a. Goes {X = Unit {0}} (kept_store old content f u) (kept_store new a c.blame.new.failures u) tt (Some after) (Err c.blame.result)) (sym c.reserve.ensures.content) undone);
      unfit = ap (λ (k : KeptTables _). k.unfit) c.self.view_is;
    }

pub write_over-requires-clause-committed : goal.write_over-requires-clause-committed
write_over-requires-clause-committed g c clean here =
    let none : c.self.inside.failures ≡ 0 = ap (λ (k : KeptTables _). k.failures) c.self.view_is ∙ c.requires.serves in
    sym ((c.self.invariant.kept none clean).committed here)
