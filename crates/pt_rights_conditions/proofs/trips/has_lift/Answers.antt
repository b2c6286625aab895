use Rattle.std.proofs.Common.{IsTrue, rules}
use Rattle.std.proofs.lemmas.Iterator.{cases_from_any, YieldsList-from_slice}
use Rattle.pt_corridor.specs.Route.{FixedRoute}
use Rattle.pt_corridor.specs.Corridor.{Joins}
use Rattle.pt_corridor.proofs.AnyDecided.{any_decided}
use Rattle.pt_rights_conditions.proofs.trips.has_lift.Goals as goal

pub returns : goal.returns
returns c =
    let xs = c.args.routes.now in
    let P : FixedRoute → Type 0 = λ route. IsTrue route.accessible × Joins c.args.from.now c.args.to.now c.args.day c.args.minute route in
    any_decided P c.any.result xs (cases_from_any _ _ _ P (λ x. ¬ P x) c.any.ensures.ran (YieldsList-from_slice xs cc) (λ x q k. search rules) (λ x q k. search rules))
