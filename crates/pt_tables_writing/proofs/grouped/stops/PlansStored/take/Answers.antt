use Rattle.std.proofs.Common.{◌≡◌, ◌∙◌, ap, ◌<◌, ◌^◌, arith, rules}
use Rattle.sqlite.specs.Held.{state}
use Rattle.pt_tables_writing.proofs.ChangeLemmas.{did_run}
use Rattle.pt_tables_writing.proofs.StopRows.{plan-taken}
use Rattle.pt_tables_writing.proofs.grouped.stops.PlansStored.take.Goals as goal

pub returns : goal.returns
returns g c =
    let old = state g.S.Store c.args.tx.now.conn.now in
    let new = state g.S.Store c.execute.new.self.conn.now in
    let gone = c.args.plan.now in
    let vehicle : c.number.result ≡ gone.vehicle = c.number.ensures.value ∙ ap (λ p. p.vehicle) c.plan.view_is in
    let day : c.number-2.result ≡ gone.day = c.number-2.ensures.value ∙ ap (λ p. p.day) c.plan.view_is in
    let low : gone.day < 2 ^ 32 = omega (arith, day, c.number-2.ensures.in_range.1) in
    let ran = c.in_ok-execute.ensures in
    record {
      step = did_run ran.same_reference ran.runs ran.survives
          (λ run has. plan-taken gone low old new c.in_ok-execute.field-0 has (search (rules, vehicle, day)));
    }
