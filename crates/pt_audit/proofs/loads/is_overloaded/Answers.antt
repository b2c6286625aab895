use Rattle.std.proofs.Common.{◌+◌, arith, ap, sym, subst}
use Rattle.pt_feasible.specs.Stop.{is_pickup, is_drop, takes_aboard, lets_leave}
use Rattle.pt_audit.specs.Insertion.{inserted_stops}
use Rattle.pt_audit.proofs.TotalLemmas.{IsTotal, takes, leaves}
use Rattle.pt_audit.proofs.loads.is_overloaded.Goals as goal
use Rattle.pt_audit.proofs.loads.is_overloaded.Goals.{in-Pickup, in-Drop}

pub loop-place-preserved : goal.loop-place-preserved
loop-place-preserved c =
    let stops = inserted_stops c.args.insertion.now in
    let place = c.loop-place.place in
    let stop = c.stop-stop.result in
    elim c.match-stop.branch [
      | in-Pickup w ↦
          let came = takes is_pickup stops place c.loop-place.came w.with-came.result stop c.loop-place.invariant.0
          c.stop-stop.ensures (ap takes_aboard w.in-Pickup.is) (omega arith) (omega arith)
          w.with-came.ensures.seats w.with-came.ensures.chairs in
          let left = leaves is_drop stops place c.loop-place.left stop c.loop-place.invariant.1 c.stop-stop.ensures (ap lets_leave w.in-Pickup.is) in
          (subst (IsTotal is_pickup stops (place + 1)) (sym w.came-is) came, subst (IsTotal is_drop stops (place + 1)) (sym w.left-is) left)
      | in-Drop w ↦
          let came = leaves is_pickup stops place c.loop-place.came stop c.loop-place.invariant.0 c.stop-stop.ensures (ap takes_aboard w.in-Drop.is) in
          let left = takes is_drop stops place c.loop-place.left w.with-left.result stop c.loop-place.invariant.1
          c.stop-stop.ensures (ap lets_leave w.in-Drop.is) (omega arith) (omega arith)
          w.with-left.ensures.seats w.with-left.ensures.chairs in
          (subst (IsTotal is_pickup stops (place + 1)) (sym w.came-is) came, subst (IsTotal is_drop stops (place + 1)) (sym w.left-is) left)
    ]
