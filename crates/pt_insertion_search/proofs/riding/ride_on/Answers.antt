-- A ride that goes on takes a drive and a service more; where it cannot, no drop comes later.
use Rattle.std.proofs.Common.{◌≡◌, ◌+◌, ℕ, List, slice_index, ap, arith, sym, subst, ◌∙◌}
use Rattle.std.proofs.lemmas.Bool.{false≢true}
use Rattle.pt_base_values.specs.Load.{load_sum, FitsWithin}
use Rattle.pt_base_values.specs.declared.load.Load.{Load}
use Rattle.pt_feasible.specs.Route.{stops_of}
use Rattle.pt_feasible.proofs.LimitsLemmas.{IfNone-from}
use Rattle.pt_insertion_search.specs.Riding.{IsRiddenFor, IsServedUntil}
use Rattle.pt_insertion_search.proofs.RidingLemmas.{no_room, none_fit, rides_on, no_way_on, way_left, serves_on, too_late_on, held, nothing_held}
use Rattle.pt_insertion_search.proofs.riding.ride_on.Goals as goal

pub returns-in_err-others-clause-none : goal.returns-in_err-others-clause-none
returns-in_err-others-clause-none g c =
    IfNone-from c.from_residual.result _ (λ later _.
    none_fit (g.T.Times.minutes c.args.times.now) c.args.drops.now.duty.vehicle.now (stops_of c.args.drops.now.duty.route.now) c.args.drops.now.asked.now
    (c.args.j + 1) c.args.drops.now.duty.route.now.paired c.requires.new_trip (omega arith) c.in_err-others.ensures.none c.args.drops.now.i later)

pub returns-in_err-drive-clause-none : goal.returns-in_err-drive-clause-none
returns-in_err-drive-clause-none g c =
    IfNone-from c.from_residual-in_err-drive.result _
    (no_way_on (g.T.Times.minutes c.args.times.now) c.args.drops.now.duty.vehicle.now (stops_of c.args.drops.now.duty.route.now) c.args.drops.now.asked.now
    c.args.drops.now.i c.args.j c.args.riding.place c.args.riding.minutes c.visit_at-here.result (g.met.T.Times.triangle c.args.times.now)
    c.requires.bounds.within_a_day c.requires.new_trip c.requires.drop_later c.visit_at-here.ensures (sym c.in_err-drive.ensures.value)
    c.requires.riding.ridden)

pub returns-in_err-rest-clause-none : goal.returns-in_err-rest-clause-none
returns-in_err-rest-clause-none g c =
    let minutes = g.T.Times.minutes c.args.times.now in
    let vehicle = c.args.drops.now.duty.vehicle.now in
    let stops = stops_of c.args.drops.now.duty.route.now in
    let law = g.met.T.Times.triangle c.args.times.now in
    let here = c.visit_at-here.result in
    let on = rides_on minutes vehicle stops c.args.drops.now.asked.now c.args.drops.now.i c.args.j c.args.riding.place c.args.riding.minutes here
    c.in_ok-drive.drive law c.requires.bounds.within_a_day c.requires.new_trip c.requires.drop_later c.visit_at-here.ensures
    (sym c.in_ok-drive.ensures.value) c.requires.riding.ridden in
    IfNone-from c.from_residual-in_err-rest.result _ (λ later from possible.
    nothing_held (minutes here.place c.args.drops.now.asked.now.goal) _ (sym c.in_err-rest.ensures.value)
    (way_left minutes vehicle stops c.args.drops.now.asked.now c.args.drops.now.i (c.args.j + 1) here.place _ law c.requires.bounds.within_a_day (omega arith) on later from possible))

pub returns-then-minutes-from-clause-none : goal.returns-then-minutes-from-clause-none
returns-then-minutes-from-clause-none g c later from possible =
    let minutes = g.T.Times.minutes c.args.times.now in
    let vehicle = c.args.drops.now.duty.vehicle.now in
    let stops = stops_of c.args.drops.now.duty.route.now in
    let law = g.met.T.Times.triangle c.args.times.now in
    let here = c.visit_at-here.result in
    let on = rides_on minutes vehicle stops c.args.drops.now.asked.now c.args.drops.now.i c.args.j c.args.riding.place c.args.riding.minutes here
    c.in_ok-drive.drive law c.requires.bounds.within_a_day c.requires.new_trip c.requires.drop_later c.visit_at-here.ensures
    (sym c.in_ok-drive.ensures.value) c.requires.riding.ridden in
    let left = held (minutes here.place c.args.drops.now.asked.now.goal) _ c.in_ok-rest.rest (sym c.in_ok-rest.ensures.value)
    (way_left minutes vehicle stops c.args.drops.now.asked.now c.args.drops.now.i (c.args.j + 1) here.place _ law c.requires.bounds.within_a_day (omega arith) on later from possible) in
    omega (arith, left)

pub returns-then-not-has_room-clause-none : goal.returns-then-not-has_room-clause-none
returns-then-not-has_room-clause-none g c later from possible =
    no_room (g.T.Times.minutes c.args.times.now) c.args.drops.now.duty.vehicle.now (stops_of c.args.drops.now.duty.route.now) c.args.drops.now.asked.now
    c.args.drops.now.i (c.args.j + 1) c.args.drops.now.duty.route.now.paired (omega arith)
    (λ fits. false≢true (sym c.if-not-has_room.true
    ∙ c.has_room.ensures.1 (subst (λ (load : Load). FitsWithin (load_sum load c.args.drops.now.asked.now.load)
    c.args.drops.now.duty.vehicle.now) (sym c.in_ok-others.ensures.after) fits)))
    later from possible

pub returns-clause-riding : goal.returns-clause-riding
returns-clause-riding g c =
    let minutes = g.T.Times.minutes c.args.times.now in
    let vehicle = c.args.drops.now.duty.vehicle.now in
    let stops = stops_of c.args.drops.now.duty.route.now in
    let here = c.visit_at-here.result in
    let ridden : c.args.riding.minutes + c.in_ok-drive.drive + here.service ≡ c.args.riding.minutes + c.from.result + c.from-2.result = omega arith in
    let read : slice_index c.deref.result.now (c.args.j + 1) ≡ slice_index c.args.drops.now.bounds.now.earliest.items (c.args.j + 1) =
    ap (λ (xs : List ℕ). slice_index xs (c.args.j + 1)) c.deref.ensures.0 in
    let ends : c.max-begins.result + here.service ≡ c.max-begins.result + c.from-8.result = omega arith in
    record {
      others = c.in_ok-others.ensures.after;
      within_limit = omega arith;
      ridden = subst (IsRiddenFor minutes vehicle stops c.args.drops.now.asked.now c.args.drops.now.i (c.args.j + 1) here.place) ridden
          (rides_on minutes vehicle stops c.args.drops.now.asked.now c.args.drops.now.i c.args.j c.args.riding.place c.args.riding.minutes here
          c.in_ok-drive.drive (g.met.T.Times.triangle c.args.times.now) c.requires.bounds.within_a_day c.requires.new_trip
          c.requires.drop_later c.visit_at-here.ensures (sym c.in_ok-drive.ensures.value) c.requires.riding.ridden);
      served = subst (IsServedUntil minutes vehicle stops c.args.drops.now.asked.now c.args.drops.now.i (c.args.j + 1)) ends
          (serves_on minutes vehicle stops c.args.drops.now.asked.now c.args.drops.now.bounds.now c.args.drops.now.i c.args.j c.args.riding.place c.args.riding.minutes
          c.args.riding.leaves here c.in_ok-drive.drive c.max-begins.result (g.met.T.Times.triangle c.args.times.now) c.requires.bounds
          c.requires.new_trip c.requires.drop_later c.visit_at-here.ensures (sym c.in_ok-drive.ensures.value) c.requires.riding.ridden
          c.requires.riding.served (λ minute low come. omega (arith, read)));
      in_range = omega arith;
    }

pub returns-then-begins-from-clause-none : goal.returns-then-begins-from-clause-none
returns-then-begins-from-clause-none g c later from possible =
    let read : slice_index c.deref.result.now (c.args.j + 1) ≡ slice_index c.args.drops.now.bounds.now.earliest.items (c.args.j + 1) =
    ap (λ (xs : List ℕ). slice_index xs (c.args.j + 1)) c.deref.ensures.0 in
    too_late_on (g.T.Times.minutes c.args.times.now) c.args.drops.now.duty.vehicle.now (stops_of c.args.drops.now.duty.route.now) c.args.drops.now.asked.now
    c.args.drops.now.bounds.now c.args.drops.now.i c.args.j c.args.riding.place c.args.riding.minutes c.args.riding.leaves c.visit_at-here.result
    c.in_ok-drive.drive c.max-begins.result (g.met.T.Times.triangle c.args.times.now) c.requires.bounds c.requires.new_trip
    c.requires.drop_later c.visit_at-here.ensures (sym c.in_ok-drive.ensures.value) c.requires.riding.ridden c.requires.riding.served
    (λ minute low come. omega (arith, read)) (omega arith) later from possible
