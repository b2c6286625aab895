-- A ride begins at the origin, where the vehicle has room.
use Rattle.std.proofs.Common.{◌≡◌, ◌+◌, arith, sym, subst, ◌∙◌}
use Rattle.std.proofs.lemmas.Bool.{false≢true}
use Rattle.pt_base_values.specs.Load.{load_sum, FitsWithin}
use Rattle.pt_base_values.specs.declared.load.Load.{Load}
use Rattle.pt_feasible.specs.Route.{stops_of}
use Rattle.pt_insertion_search.proofs.RidingLemmas.{no_room, begins_ride, begins_served}
use Rattle.pt_insertion_search.specs.Riding.{IsServedUntil}
use Rattle.pt_insertion_search.proofs.riding.board.Goals as goal

pub returns-then-not-has_room-clause-none : goal.returns-then-not-has_room-clause-none
returns-then-not-has_room-clause-none c minutes j possible =
    no_room minutes c.args.duty.now.vehicle.now (stops_of c.args.duty.now.route.now) c.args.asked.now c.args.i c.args.i
    c.args.duty.now.route.now.paired (omega arith)
    (λ fits. false≢true (sym c.if-not-has_room.true
    ∙ c.has_room.ensures.1 (subst (λ (load : Load). FitsWithin (load_sum load c.args.asked.now.load)
    c.args.duty.now.vehicle.now) (sym c.requires.others) fits)))
    j possible.drop_later possible

pub returns-clause-riding : goal.returns-clause-riding
returns-clause-riding c minutes begins =
    let ends : c.args.pickup.lo + c.args.asked.now.service ≡ c.args.pickup.lo + c.from.result = omega arith in
    record {
      others = c.requires.others;
      within_limit = omega arith;
      ridden = begins_ride minutes c.args.duty.now.vehicle.now (stops_of c.args.duty.now.route.now) c.args.asked.now c.args.i;
      served = subst (IsServedUntil minutes c.args.duty.now.vehicle.now (stops_of c.args.duty.now.route.now) c.args.asked.now c.args.i c.args.i) ends
          (begins_served minutes c.args.duty.now.vehicle.now (stops_of c.args.duty.now.route.now) c.args.asked.now c.args.i c.args.pickup begins);
      in_range = omega arith;
    }
