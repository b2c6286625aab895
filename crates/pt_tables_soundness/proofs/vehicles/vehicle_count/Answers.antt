use Rattle.std.proofs.Common.{arith}
use Rattle.pt_tables_soundness.proofs.FleetLemmas.{order_from, days_from, count_goes}
use Rattle.pt_tables_soundness.proofs.vehicles.vehicle_count.Goals as goal
use Rattle.pt_tables_soundness.proofs.vehicles.vehicle_count.Goals.{then-not-has_later, else-not-has_later}

pub has_later-requires-clause-order : goal.has_later-requires-clause-order
has_later-requires-clause-order c =
    order_from c.loop-at.at c.index-versions-at.result c.args.versions.now c.split_at.result.1.now c.loop-at-test.true
    c.index-versions-at.is c.split_at.ensures.back c.requires.order

pub has_later-requires-clause-days : goal.has_later-requires-clause-days
has_later-requires-clause-days c =
    days_from c.loop-at.at c.index-versions-at.result c.args.versions.now c.split_at.result.1.now c.loop-at-test.true
    c.index-versions-at.is c.split_at.ensures.back c.requires.days

pub loop-at-preserved : goal.loop-at-preserved
loop-at-preserved c = record {
  few = elim c.if-not-has_later.branch [
    | then-not-has_later w ↦ let now = w.count-is in omega (arith, c.loop-at.invariant.few)
    | else-not-has_later w ↦ let now = w.count-is in omega (arith, c.loop-at.invariant.few)
  ];
  rest = elim c.if-not-has_later.branch [
    | then-not-has_later w ↦
        let now = w.count-is in let none = w.if-not-has_later.true in
        count_goes c.loop-at.count c.if-not-has_later.count _ c.loop-at.at c.index-versions-at.result c.args.versions.now
        c.split_at.result.1.now c.has_later.result c.loop-at-test.true c.index-versions-at.is c.split_at.ensures.back c.has_later.ensures
        (λ is. now) (λ is. absurd (cc)) c.loop-at.invariant.rest
    | else-not-has_later w ↦
        let now = w.count-is in let some = w.if-not-has_later.false in
        count_goes c.loop-at.count c.if-not-has_later.count _ c.loop-at.at c.index-versions-at.result c.args.versions.now
        c.split_at.result.1.now c.has_later.result c.loop-at-test.true c.index-versions-at.is c.split_at.ensures.back c.has_later.ensures
        (λ is. absurd (cc)) (λ is. now) c.loop-at.invariant.rest
  ];
}
