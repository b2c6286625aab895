use Rattle.std.proofs.Common.{rules, arith, ◌≡◌, ◌-◌, ◌<◌, Some, IsTrue, get_or, slice_get}
use Rattle.std.proofs.lemmas.Option.{slice_get-get_or, slice_get_within}
use Rattle.pt_feasible.specs.Stop.{is_drop}
use Rattle.pt_feasible.proofs.LimitsLemmas.{ends-ride}
use Rattle.pt_feasible.proofs.limits.since_at.Goals as goal

pub returns-in-Some-clause-kept : goal.returns-in-Some-clause-kept
returns-in-Some-clause-kept g c b =
    let stops = g.S.Stops.stops c.args.stops.now in
    let i = c.in-Some.i in
    let drop = c.stop-drop.result in
    let pickup = get_or stops i drop in
    let there : slice_get stops (c.args.k - 1) ≡ Some drop = c.stop-drop.ensures.value in
    let before : i < c.args.k - 1 = c.in-Some.ensures.before in
    let here : slice_get stops i ≡ Some pickup = slice_get-get_or stops i drop (omega (arith, slice_get_within stops (c.args.k - 1) drop there)) in
    let drops : IsTrue (is_drop drop) = search rules in
    let is = (c.pickup_of.ensures.only i pickup here).1 c.in-Some.is in
    rw (c.from-in-Some.ensures, c.from-in-Some-2.ensures)
    (ends-ride c.args.vehicle.now stops (g.met.S.Stops.paired c.args.stops.now) b i (c.args.k - 1) c.args.k pickup drop (omega arith) before here there is.0 drops is.1)
