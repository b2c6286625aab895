use Rattle.std.proofs.Common.{arith, ◌≡◌, ◌∙◌, ◌+◌, ◌-◌, ℕ, List, length, subst, ap}
use Rattle.std.specs.List.{flat_map}
use Rattle.pt_feasible.specs.Route.{stops_of}
use Rattle.pt_audit.specs.Cases.{Case, numbers_from}
use Rattle.pt_audit.proofs.CasesLemmas.{one_case, cases_of_pickup-one, numbers_to_next}
use Rattle.pt_insertion_log.specs.Written.{WritesCases}
use Rattle.pt_insertion_log.proofs.WrittenLemmas.{more_written}
use Rattle.pt_insertion_log.proofs.explaining.explain_pickup.Goals as goal

pub explain_case-requires-clause-nowhere : goal.explain_case-requires-clause-nowhere
explain_case-requires-clause-nowhere g c = c.requires.nowhere c.args.i c.loop-j.j

pub loop-j-preserved : goal.loop-j-preserved
loop-j-preserved g c =
    let stops = stops_of c.args.duty.now.route.now in
    more_written (g.T.Times.minutes c.args.times.now) (one_case c.args.asked.now c.args.duty.now.vehicle.now stops c.args.i) (numbers_from c.args.i (c.loop-j.j - c.args.i)) c.loop-j.j
    (numbers_from c.args.i (c.loop-j.j + 1 - c.args.i)) (g.W.Write.contents c.args.out.now) (g.W.Write.contents c.loop-j.out) (g.W.Write.contents c.explain_case.new.out)
    (numbers_to_next c.args.i c.loop-j.j c.loop-j.auto.j) c.loop-j.invariant c.in_ok-explain_case.ensures.written

pub returns-clause-written : goal.returns-clause-written
returns-clause-written g c =
    let stops = stops_of c.args.duty.now.route.now in
    let end : c.loop-j.j - c.args.i ≡ length stops + 1 - c.args.i = omega arith in
    subst (λ (cs : List Case). WritesCases (g.T.Times.minutes c.args.times.now) cs (g.W.Write.contents c.args.out.now) (g.W.Write.contents c.loop-j.out))
    (ap (λ (n : ℕ). flat_map (one_case c.args.asked.now c.args.duty.now.vehicle.now stops c.args.i)
    (numbers_from c.args.i n)) end ∙ cases_of_pickup-one c.args.asked.now c.args.duty.now.vehicle.now stops
    c.args.i) c.loop-j.invariant
