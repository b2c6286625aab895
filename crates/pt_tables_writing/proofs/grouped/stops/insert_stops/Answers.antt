use Rattle.std.proofs.Common.{◌≡◌, ◌≤◌, ◌-◌, ◌∙◌, length, drop, take, length-drop, subst, sym, ap, arith, ◌++◌}
use Rattle.std.proofs.lemmas.List.{take_all}
use Rattle.sqlite.specs.Held.{state}
use Rattle.pt_tables_writing.specs.Grouped.{Adds}
use Rattle.pt_tables_rows.specs.Rows.{stop_rows_from}
use Rattle.pt_tables_rows.specs.Schema.{stops_table}
use Rattle.pt_tables_writing.proofs.ChangeLemmas.{did_added, did_at, did_nothing}
use Rattle.pt_tables_writing.proofs.StopRows.{stops-more}
use Rattle.pt_tables_writing.proofs.TurnLemmas.{rewrites_self}
use Rattle.pt_tables_writing.specs.Writes.{Rewrites}
use Rattle.pt_tables_writing.proofs.grouped.stops.insert_stops.Goals as goal

pub loop-place-init : goal.loop-place-init
loop-place-init g c =
    let a = state g.S.Store c.args.tx.now.conn.now in
    let first = c.args.first in
    let plan = c.args.plan.now in
    let none : first - first ≡ 0 = omega arith in
    record {
      from = omega arith;
      step = did_nothing (λ has before.
          subst (λ n. Rewrites stops_table before
          (stop_rows_from first plan.vehicle plan.day (take n (drop first plan.stops)) ++ before) a.now a.now)
          (sym none) (rewrites_self stops_table before a.now has));
    }

pub loop-place-preserved : goal.loop-place-preserved
loop-place-preserved g c =
    let at = c.loop-place.place in
    let first = c.args.first in
    let plan = c.args.plan.now in
    let low : first ≤ at = c.loop-place.invariant.from in
    record {
      from = omega (arith, low);
      step = did_at (Adds stops_table) (stops-more first at plan.vehicle plan.day plan.stops low)
          (did_added stops_table
          (stop_rows_from first plan.vehicle plan.day (take (at - first) (drop first plan.stops)))
          (stop_rows_from at plan.vehicle plan.day (take 2 (drop at plan.stops)))
          c.loop-place.invariant.step c.in_ok-insert_stops_at.ensures.step);
    }

pub returns : goal.returns
returns g c =
    let first = c.args.first in
    let plan = c.args.plan.now in
    let rest = drop first plan.stops in
    let listed : c.as_slice-stops.result.now ≡ plan.stops =
    c.as_slice-stops.ensures.value ∙ ap (λ p. p.stops) c.plan.view_is in
    let short : length rest ≤ c.loop-place.place - first =
    omega (arith, length-drop first plan.stops, ap length listed, c.loop-place-test.false) in
    record {
      step = did_at (λ stops. Adds stops_table (stop_rows_from first plan.vehicle plan.day stops))
          (take_all (c.loop-place.place - first) rest short) c.loop-place.invariant.step;
    }
