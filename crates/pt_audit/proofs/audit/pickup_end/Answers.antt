use Rattle.std.proofs.Common.{arith, ◌≡◌, ◌∙◌, ◌+◌, ◌-◌, ℕ, List, length, Option, None, Some, subst, sym, ap}
use Rattle.std.specs.List.{flat_map}
use Rattle.pt_feasible.specs.Route.{stops_of}
use Rattle.pt_audit.specs.Cases.{Case, numbers_from, cases_of_pickup}
use Rattle.pt_audit.specs.Reading.{EndsCases}
use Rattle.pt_audit.proofs.CasesLemmas.{one_case, cases_of_pickup-one, ends_at_start, one_more, none_more, numbers_to_next, numbers_around}
use Rattle.pt_audit.proofs.audit.pickup_end.Goals as goal

pub loop-j-init : goal.loop-j-init
loop-j-init g c =
    let stops = stops_of c.args.duty.now.route.now in
    let none : c.args.i - c.args.i ≡ 0 = omega arith in
    record {
      within = c.requires.start;
      right = subst (λ (n : ℕ). EndsCases (g.T.Times.minutes c.args.times.now)
          (flat_map (one_case c.args.asked.now c.args.duty.now.vehicle.now stops c.args.i) (numbers_from c.args.i n))
          c.args.lines.now c.args.start (Some c.args.start)) (sym none)
          (ends_at_start (g.T.Times.minutes c.args.times.now) c.args.lines.now c.args.start);
    }

pub loop-j-preserved : goal.loop-j-preserved
loop-j-preserved g c =
    let stops = stops_of c.args.duty.now.route.now in
    let cases = one_case c.args.asked.now c.args.duty.now.vehicle.now stops c.args.i in
    let here : EndsCases (g.T.Times.minutes c.args.times.now) (cases c.loop-j.j) c.args.lines.now c.loop-j.at (Some c.in_ok-at.at) = c.in_ok-at.ensures.right in
    record {
      within = c.in_ok-at.ensures.within;
      right = one_more (g.T.Times.minutes c.args.times.now) cases c.args.lines.now c.args.start c.loop-j.at (numbers_from c.args.i (c.loop-j.j - c.args.i)) c.loop-j.invariant.right c.loop-j.j
          (numbers_from c.args.i (c.loop-j.j + 1 - c.args.i)) (Some c.in_ok-at.at) (numbers_to_next c.args.i c.loop-j.j c.loop-j.auto.j) here;
    }

pub returns-in_err-at-clause-right : goal.returns-in_err-at-clause-right
returns-in_err-at-clause-right g c =
    let stops = stops_of c.args.duty.now.route.now in
    let cases = one_case c.args.asked.now c.args.duty.now.vehicle.now stops c.args.i in
    let ends : EndsCases (g.T.Times.minutes c.args.times.now) (flat_map cases (numbers_from c.args.i (length stops + 1 - c.args.i))) c.args.lines.now c.args.start None =
    none_more (g.T.Times.minutes c.args.times.now) cases c.args.lines.now c.args.start c.loop-j.at (numbers_from c.args.i (c.loop-j.j - c.args.i)) c.loop-j.invariant.right c.loop-j.j
    (numbers_from c.args.i (length stops + 1 - c.args.i))
    (numbers_from (c.loop-j.j + 1) (length stops + 1 - c.loop-j.j - 1))
    (numbers_around c.args.i c.loop-j.j (length stops + 1) c.loop-j.auto.j (omega arith))
    c.in_err-at.ensures.right in
    subst (λ (r : Option ℕ). EndsCases (g.T.Times.minutes c.args.times.now)
    (cases_of_pickup c.args.asked.now c.args.duty.now.vehicle.now stops c.args.i) c.args.lines.now c.args.start r)
    (sym c.from_residual.ensures)
    (subst (λ (cs : List Case). EndsCases (g.T.Times.minutes c.args.times.now) cs c.args.lines.now c.args.start None)
    (cases_of_pickup-one c.args.asked.now c.args.duty.now.vehicle.now stops c.args.i) ends)

pub returns-clause-right : goal.returns-clause-right
returns-clause-right g c =
    let stops = stops_of c.args.duty.now.route.now in
    let end : c.loop-j.j - c.args.i ≡ length stops + 1 - c.args.i = omega arith in
    subst (λ (cs : List Case). EndsCases (g.T.Times.minutes c.args.times.now) cs c.args.lines.now c.args.start (Some c.loop-j.at))
    (ap (λ (n : ℕ). flat_map (one_case c.args.asked.now c.args.duty.now.vehicle.now stops c.args.i)
    (numbers_from c.args.i n)) end ∙ cases_of_pickup-one c.args.asked.now c.args.duty.now.vehicle.now stops
    c.args.i) c.loop-j.invariant.right
