use Rattle.std.proofs.Common.{arith, ◌≡◌, ◌-◌, subst}
use Rattle.std.proofs.lemmas.Option.{same_Some, none-some}
use Rattle.pt_audit.specs.Insertion.{inserted_stops}
use Rattle.pt_insertion_log.specs.Steps.{IsRide}
use Rattle.pt_insertion_log.proofs.TouchLemmas.{kept-raised}
use Rattle.pt_insertion_log.proofs.touched.first_touched.Goals as goal

pub returns-in-Some-clause-kept : goal.returns-in-Some-clause-kept
returns-in-Some-clause-kept c minutes bound k below other kept =
    let stops = inserted_stops c.args.insertion.now in
    kept-raised minutes c.args.insertion.now.vehicle.now stops bound c.args.raise k
    (λ same. omega (arith, below, same)) (λ same. omega (arith, below, same)) (λ first last. omega arith)
    (λ i j follows dropped ride.
    (let place : j ≡ c.raised_visit-k.result - 1 = omega arith in
    let found = same_Some c.in-Some.i i ((c.in-Some.ensures.pickup i).1 (subst (IsRide stops i) place ride)) in
    other (omega arith)))
    kept

pub returns-in-None-clause-kept : goal.returns-in-None-clause-kept
returns-in-None-clause-kept c minutes bound k below other kept =
    let stops = inserted_stops c.args.insertion.now in
    kept-raised minutes c.args.insertion.now.vehicle.now stops bound c.args.raise k
    (λ same. omega (arith, below, same)) (λ same. omega (arith, below, same)) (λ first last. omega arith)
    (λ i j follows dropped ride.
    (let place : j ≡ c.raised_visit-k.result - 1 = omega arith in
    none-some i ((c.in-None.ensures.pickup i).1 (subst (IsRide stops i) place ride))))
    kept
