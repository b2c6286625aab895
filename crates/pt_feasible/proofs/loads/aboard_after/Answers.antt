-- A pickup adds its load to those aboard, a drop takes its own off.
use Rattle.std.proofs.Common.{Option, Some, None, IfNone, IsSome, IsTrue, ap, sym, subst}
use Rattle.std.proofs.lemmas.Bool.{false≢true}
use Rattle.std.proofs.lemmas.Option.{IfSome_then}
use Rattle.pt_base_values.specs.declared.load.Load.{Load}
use Rattle.pt_base_values.specs.Load.{load_sum, IsLoad}
use Rattle.pt_feasible.specs.Stop.{is_pickup, is_drop, takes_aboard, lets_leave}
use Rattle.pt_feasible.proofs.LoadLemmas.{load_aboard-pickup, load_aboard-drop}
use Rattle.pt_feasible.proofs.loads.aboard_after.Goals as goal

-- the result is `None` if the condition for a value does not hold
none_where : {A : Type 0} {P : Type 0} (o : Option A) → (P → IsSome o) → IfNone o (¬ P)
none_where None asks = λ holds. false≢true (asks holds)
none_where (Some x) asks = tt

pub returns-in-Pickup-clause-after : goal.returns-in-Pickup-clause-after
returns-in-Pickup-clause-after g c =
    let stops = g.S.Stops.stops c.args.stops.now in
    let picks : IsTrue (is_pickup c.stop-stop.result) = ap takes_aboard c.in-Pickup.is in
    let next = load_aboard-pickup stops (g.met.S.Stops.paired c.args.stops.now) c.args.k c.stop-stop.result c.stop-stop.ensures.value picks in
    IfSome_then c.plus.result c.plus.ensures.value (λ load same. cc)

pub returns-in-Pickup-clause-none : goal.returns-in-Pickup-clause-none
returns-in-Pickup-clause-none g c =
    let stops = g.S.Stops.stops c.args.stops.now in
    let picks : IsTrue (is_pickup c.stop-stop.result) = ap takes_aboard c.in-Pickup.is in
    let next = load_aboard-pickup stops (g.met.S.Stops.paired c.args.stops.now) c.args.k c.stop-stop.result c.stop-stop.ensures.value picks in
    none_where c.plus.result (λ small. c.plus.ensures.in_range.1
    (subst (λ (load : Load). IsLoad (load_sum load c.stop-stop.result.load)) (sym c.requires.before) (subst IsLoad next small)))

pub returns-in-Drop-clause-after : goal.returns-in-Drop-clause-after
returns-in-Drop-clause-after g c =
    let stops = g.S.Stops.stops c.args.stops.now in
    let drops : IsTrue (is_drop c.stop-stop.result) = ap lets_leave c.in-Drop.is in
    let next = load_aboard-drop stops c.args.k c.stop-stop.result c.stop-stop.ensures.value drops in
    cc
