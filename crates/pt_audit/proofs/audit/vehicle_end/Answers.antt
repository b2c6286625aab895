use Rattle.std.proofs.Common.{arith, ◌≡◌, ◌+◌, ◌-◌, ℕ, length, Option, Some, subst, sym}
use Rattle.std.specs.List.{flat_map}
use Rattle.pt_feasible.specs.Route.{stops_of}
use Rattle.pt_audit.specs.Cases.{numbers_from, cases_of_pickup, cases_of_vehicle}
use Rattle.pt_audit.specs.Reading.{EndsCases}
use Rattle.pt_audit.proofs.CasesLemmas.{ends_at_start, one_more, none_more, numbers_below_next, numbers_below_around}
use Rattle.pt_audit.proofs.audit.vehicle_end.Goals as goal

pub loop-i-init : goal.loop-i-init
loop-i-init g c = record {
  within = c.requires.start;
  right = ends_at_start (g.T.Times.minutes c.args.times.now) c.args.lines.now c.args.start;
}

pub loop-i-preserved : goal.loop-i-preserved
loop-i-preserved g c = record {
  within = c.in_ok-at.ensures.within;
  right = one_more (g.T.Times.minutes c.args.times.now) (cases_of_pickup c.args.asked.now c.args.duty.now.vehicle.now (stops_of c.args.duty.now.route.now)) c.args.lines.now c.args.start c.loop-i.at
      (numbers_from 0 c.loop-i.i) c.loop-i.invariant.right c.loop-i.i (numbers_from 0 (c.loop-i.i + 1)) (Some c.in_ok-at.at) (numbers_below_next c.loop-i.i) c.in_ok-at.ensures.right;
}

pub returns-in_err-at-clause-right : goal.returns-in_err-at-clause-right
returns-in_err-at-clause-right g c =
    let stops = stops_of c.args.duty.now.route.now in
    let ends = none_more (g.T.Times.minutes c.args.times.now) (cases_of_pickup c.args.asked.now c.args.duty.now.vehicle.now stops) c.args.lines.now c.args.start c.loop-i.at
    (numbers_from 0 c.loop-i.i) c.loop-i.invariant.right c.loop-i.i (numbers_from 0 (length stops + 1))
    (numbers_from (c.loop-i.i + 1) (length stops + 1 - c.loop-i.i - 1))
    (numbers_below_around c.loop-i.i (length stops + 1) (omega arith)) c.in_err-at.ensures.right in
    subst (λ (r : Option ℕ). EndsCases (g.T.Times.minutes c.args.times.now)
    (cases_of_vehicle c.args.asked.now c.args.duty.now.vehicle.now stops) c.args.lines.now c.args.start r)
    (sym c.from_residual.ensures) ends

pub returns-clause-right : goal.returns-clause-right
returns-clause-right g c =
    let stops = stops_of c.args.duty.now.route.now in
    let end : c.loop-i.i ≡ length stops + 1 = omega arith in
    subst (λ (n : ℕ). EndsCases (g.T.Times.minutes c.args.times.now)
    (flat_map (cases_of_pickup c.args.asked.now c.args.duty.now.vehicle.now stops) (numbers_from 0 n))
    c.args.lines.now c.args.start (Some c.loop-i.at)) end c.loop-i.invariant.right
