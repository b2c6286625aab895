use Rattle.std.proofs.Common.{◌≡◌, ◌∙◌, ap, ◌<◌, ◌^◌, arith, pos, to_z, w64, rules}
use Rattle.std.proofs.Math.Facts.{to_z_pos}
use Rattle.sqlite.specs.Held.{state}
use Rattle.pt_tables_writing.proofs.ChangeLemmas.{did_run}
use Rattle.pt_tables_writing.proofs.StopRows.{stops-kept}
use Rattle.pt_tables_writing.proofs.grouped.stops.take_later_stops.Goals as goal

pub returns : goal.returns
returns g c =
    let old = state g.S.Store c.args.tx.now.conn.now in
    let new = state g.S.Store c.execute.new.self.conn.now in
    let plan = c.args.plan.now in
    let vehicle : c.number.result ≡ plan.vehicle = c.number.ensures.value ∙ ap (λ p. p.vehicle) c.plan.view_is in
    let day : c.number-2.result ≡ plan.day = c.number-2.ensures.value ∙ ap (λ p. p.day) c.plan.view_is in
    let low : plan.day < 2 ^ 32 = omega (arith, day, c.number-2.ensures.in_range.1) in
    let first : to_z w64 c.args.first ≡ pos c.args.first = to_z_pos w64 (omega (arith, c.requires)) in
    let ran = c.in_ok-execute.ensures in
    record {
      step = did_run ran.same_reference ran.runs ran.survives
          (λ run has. stops-kept plan low c.args.first old new c.in_ok-execute.field-0 has
          (search (rules, vehicle, day, first)));
    }
