use Rattle.std.proofs.Common.{◌≡◌, ◌<◌, ◌+◌, ◌∙◌, pos, to_z, w64, [], ◌∷◌, length, get_or, drop, take, subst, sym, ap, arith}
use Rattle.std.proofs.Math.Facts.{to_z_pos}
use Rattle.pt_tables_writing.specs.Grouped.{Adds}
use Rattle.pt_tables_rows.specs.Rows.{stop_row, stop_rows_from}
use Rattle.pt_tables_rows.specs.Schema.{stops_table}
use Rattle.pt_tables_writing.proofs.ChangeLemmas.{did_at}
use Rattle.pt_tables_writing.proofs.StopRows.{last-row, next-rows}
use Rattle.pt_tables_writing.proofs.grouped.stops.insert_stops_at.Goals as goal

pub returns-then-next-stops : goal.returns-then-next-stops
returns-then-next-stops g c =
    let at = c.args.place in
    let plan = c.args.plan.now in
    let stop = c.index-stops-place.result in
    let listed : c.as_slice-stops.result.now ≡ plan.stops = c.as_slice-stops.ensures.value ∙ ap (λ p. p.stops) c.plan.view_is in
    let vehicle : c.plan.inside.vehicle ≡ plan.vehicle = ap (λ p. p.vehicle) c.plan.view_is in
    let day : c.plan.inside.day ≡ plan.day = ap (λ p. p.day) c.plan.view_is in
    let last : at + 1 ≡ length plan.stops = c.if-next-stops.true ∙ ap length listed in
    let place : to_z w64 at ≡ pos at = to_z_pos w64 (omega (arith, ap length listed, last, c.as_slice-stops.type_inv.1)) in
    let is : stop ≡ get_or plan.stops at stop = subst (λ l. stop ≡ get_or l at stop) listed c.index-stops-place.is in
    let rows : stop_row c.plan.inside.vehicle c.plan.inside.day (to_z w64 at) stop ∷ [] ≡ stop_rows_from at plan.vehicle plan.day (take 2 (drop at plan.stops)) =
    (λ i. stop_row (vehicle i) (day i) (place i) stop ∷ []) ∙ sym (last-row at plan.vehicle plan.day plan.stops stop last is) in
    record { step = did_at (Adds stops_table) rows c.insert_stop.ensures.step }

pub returns : goal.returns
returns g c =
    let at = c.args.place in
    let plan = c.args.plan.now in
    let stop = c.index-stops-place.result in
    let later = c.index-stops-next.result in
    let listed : c.as_slice-stops.result.now ≡ plan.stops = c.as_slice-stops.ensures.value ∙ ap (λ p. p.stops) c.plan.view_is in
    let vehicle : c.plan.inside.vehicle ≡ plan.vehicle = ap (λ p. p.vehicle) c.plan.view_is in
    let day : c.plan.inside.day ≡ plan.day = ap (λ p. p.day) c.plan.view_is in
    let low : at + 1 < length plan.stops = omega (arith, ap length listed, c.requires.there, c.if-next-stops.false) in
    let place : to_z w64 at ≡ pos at = to_z_pos w64 (omega (arith, ap length listed, low, c.as_slice-stops.type_inv.1)) in
    let next : to_z w64 (at + 1) ≡ pos (at + 1) = to_z_pos w64 (omega (arith, ap length listed, low, c.as_slice-stops.type_inv.1)) in
    let is : stop ≡ get_or plan.stops at stop = subst (λ l. stop ≡ get_or l at stop) listed c.index-stops-place.is in
    let next_is : later ≡ get_or plan.stops (at + 1) later = subst (λ l. later ≡ get_or l (at + 1) later) listed c.index-stops-next.is in
    let rows : stop_row c.plan.inside.vehicle c.plan.inside.day (to_z w64 at) stop ∷ stop_row c.plan.inside.vehicle c.plan.inside.day (to_z w64 (at + 1)) later ∷ []
    ≡ stop_rows_from at plan.vehicle plan.day (take 2 (drop at plan.stops)) =
    (λ i. stop_row (vehicle i) (day i) (place i) stop ∷ stop_row (vehicle i) (day i) (next i) later ∷ [])
    ∙ sym (next-rows at plan.vehicle plan.day plan.stops stop later low is next_is) in
    record { step = did_at (Adds stops_table) rows c.insert_two_stops.ensures.step }
