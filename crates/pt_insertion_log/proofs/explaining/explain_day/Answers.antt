use Rattle.std.proofs.Common.{arith, ◌≡◌, ◌∙◌, ◌+◌, ◌++◌, ◌∷◌, [], ℕ, Bool, true, false, List, take, Option, None, Some, refl, subst, sym}
use Rattle.std.specs.Prelude.{not, is_some}
use Rattle.std.specs.Io.KnownBytes.{Appends}
use Rattle.pt_audit.specs.declared.line.Line.TheVariants as line
use Rattle.pt_audit.specs.Text.{line_text}
use Rattle.std.proofs.lemmas.List.{take_more, take_all}
use Rattle.pt_feasible.specs.Route.{stops_of}
use Rattle.pt_insertion_search.specs.declared.duty.Duty.{Duty}
use Rattle.pt_insertion_search.specs.Possible.{IsPossible}
use Rattle.pt_audit.specs.Cases.{cases_of_vehicle, cases_of_day}
use Rattle.pt_insertion_log.specs.Written.{WritesCases, WritesLines}
use Rattle.pt_insertion_log.proofs.WrittenLemmas.{more_written, day_written, no_way_written, on_ok}
use Rattle.pt_insertion_log.proofs.explaining.explain_day.Goals as goal

pub explain_vehicle-requires-clause-nowhere : goal.explain_vehicle-requires-clause-nowhere
explain_vehicle-requires-clause-nowhere g c =
    subst (λ (d : Duty). (i j : ℕ) → ¬ IsPossible (g.T.Times.minutes c.args.times.now) d.vehicle.now (stops_of d.route.now) c.args.asked.now i j) (sym c.duty-item.is)
    (c.requires.nowhere c.loop-duty.duty-index c.duty-item.result c.loop-duty-test.true)

pub loop-duty-preserved : goal.loop-duty-preserved
loop-duty-preserved g c =
    let duties = c.args.duties.now in
    let k = c.loop-duty.duty-index in
    let duty = c.duty-item.result in
    more_written (g.T.Times.minutes c.args.times.now) (λ (d : Duty). cases_of_vehicle c.args.asked.now d.vehicle.now (stops_of d.route.now)) (take k duties) duty (take (k + 1) duties)
    (g.W.Write.contents c.args.out.now) (g.W.Write.contents c.loop-duty.out) (g.W.Write.contents c.explain_vehicle.new.out)
    (subst (λ (d : Duty). take (k + 1) duties ≡ take k duties ++ d ∷ []) (sym c.duty-item.is)
    (take_more duties k duty c.loop-duty-test.true)) c.loop-duty.invariant c.in_ok-explain_vehicle.ensures.written

pub returns-clause-written : goal.returns-clause-written
returns-clause-written g c =
    let minutes = g.T.Times.minutes c.args.times.now in
    let duties = c.args.duties.now in
    day_written minutes duties c.args.asked.now (g.W.Write.contents c.args.out.now) (g.W.Write.contents c.loop-duty.out)
    (subst (λ (ds : List Duty). WritesCases minutes (cases_of_day c.args.asked.now ds)
    (g.W.Write.contents c.args.out.now) (g.W.Write.contents c.loop-duty.out))
    (take_all c.loop-duty.duty-index duties (omega arith)) c.loop-duty.invariant)

-- a test whether there is no value
told_none : (o : Option ℕ) (b : Bool) → is_some o ≡ not b → b ≡ true → o ≡ None
told_none None b told true_says = refl
told_none (Some n) true told true_says = absurd (cc)
told_none (Some n) false told true_says = absurd (cc)

pub returns-then-is_none-clause-written : goal.returns-then-is_none-clause-written
returns-then-is_none-clause-written g c =
    let minutes = g.T.Times.minutes c.args.times.now in
    let asked = c.args.asked.now in
    let old = g.W.Write.contents c.args.out.now in
    let new = g.W.Write.contents c.write_line.new.out in
    let none : minutes asked.origin asked.goal ≡ None = sym c.minutes.ensures.value ∙ told_none c.minutes.result c.is_none.result c.is_none.ensures c.if-is_none.true in
    on_ok c.write_line.result (Appends old new (line_text line.NoDirect)) (WritesLines minutes c.args.duties.now asked old new)
    (λ written. no_way_written minutes c.args.duties.now asked old new none c.write_line.ensures.in_form written) c.write_line.ensures.line
