use Rattle.std.proofs.Common.{arith, ◌≡◌, ℕ, ◌-◌, suc, Some, slice_get, subst}
use Rattle.pt_feasible.specs.Visit.{visits, stop_visit}
use Rattle.pt_feasible.proofs.VisitLemmas.{visits-stop}
use Rattle.pt_audit.specs.Insertion.{inserted_stops}
use Rattle.pt_audit.proofs.insertion.Insertion.visit.Goals as goal

pub returns : goal.returns
returns c =
    let stops = inserted_stops c.args.self.now in
    let vehicle = c.args.self.now.vehicle.now in
    let stop = c.stop-stop.result in
    let next : suc (c.args.k - 1) ≡ c.args.k = omega arith in
    subst (λ (k : ℕ). slice_get (visits vehicle stops) k ≡ Some (stop_visit stop)) next
    (visits-stop vehicle stops (c.args.k - 1) stop c.stop-stop.ensures)
