use Rattle.std.proofs.Common.{◌≡◌, ◌∙◌, ap, sym, [], take}
use Rattle.sqlite.specs.Held.{state}
use Rattle.pt_tables_writing.proofs.ChangeLemmas.{did_then}
use Rattle.pt_tables_writing.proofs.StopRows.{plan-replaced}
use Rattle.pt_tables_writing.proofs.grouped.stops.replace_plan.Goals as goal

pub returns : goal.returns
returns g c =
    let old = state g.S.Store c.args.tx.now.conn.now in
    let mid = state g.S.Store c.take_later_stops.new.tx.conn.now in
    let new = state g.S.Store c.insert_stops.new.tx.conn.now in
    let before = c.args.before.now in
    let plan = c.args.plan.now in
    let shared = c.shared_stops-shared.result in
    let one : c.deref.result.now ≡ before.stops = c.deref.ensures.value ∙ ap (λ p. p.stops) c.before-2.view_is in
    let other : c.deref-2.result.now ≡ plan.stops = c.deref-2.ensures.value ∙ ap (λ p. p.stops) c.plan.view_is in
    let same : take shared before.stops ≡ take shared plan.stops =
    ap (λ l. take shared l) (sym one) ∙ c.shared_stops-shared.ensures.same ∙ ap (λ l. take shared l) other in
    record {
      step = did_then c.in_ok-take_later_stops.ensures.step c.insert_stops.ensures.step
          (λ has kept add. plan-replaced before plan shared same old.now mid.now new.now kept
          (add (kept [] [] tt tt).schema));
    }
