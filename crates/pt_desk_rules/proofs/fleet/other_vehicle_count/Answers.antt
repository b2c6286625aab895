use Rattle.std.proofs.Common.{◌≡◌, ◌+◌, ◌≤◌, ◌<◌, suc, drop, length, List, ◌∷◌, arith, cond, sym, ap, ◌∙◌, add-one, drop-cons}
use Rattle.pt_base_values.specs.declared.vehicle.Vehicle.{Vehicle}
use Rattle.pt_desk_rules.proofs.FleetLemmas.{counts, stays_counted, counted_on}
use Rattle.pt_desk_rules.proofs.fleet.other_vehicle_count.Goals as goal
use Rattle.pt_desk_rules.proofs.fleet.other_vehicle_count.Goals.{then-is_last_of_another, else-is_last_of_another}

pub loop-at-preserved : goal.loop-at-preserved
loop-at-preserved c =
    let x = c.index-vehicles-at.result in
    let at = c.loop-at.at in
    let xs = c.args.vehicles.now in
    let rest : List Vehicle = drop (at + 1) xs in
    let within : at < length xs = c.loop-at-test.true in
    let is : drop at xs ≡ x ∷ rest =
    drop-cons xs at x within ∙ ap (λ y. y ∷ drop (suc at) xs) (sym c.index-vehicles-at.is) ∙ ap (λ n. x ∷ drop n xs) (sym (add-one at)) in
    let few : c.loop-at.count ≤ at = c.loop-at.invariant.few in
    let last = c.is_last_of_another.result in
    let counted : c.if-is_last_of_another.count ≡ cond last (c.loop-at.count + 1) c.loop-at.count = elim c.if-is_last_of_another.branch [
      | then-is_last_of_another w ↦ counts _ _ _ last w.if-is_last_of_another.true w.count-is
      | else-is_last_of_another w ↦ stays_counted _ _ _ last w.if-is_last_of_another.false w.count-is
    ] in
    record {
      few = elim c.if-is_last_of_another.branch [
        | then-is_last_of_another w ↦ let now = w.count-is in omega arith
        | else-is_last_of_another w ↦ let now = w.count-is in omega arith
      ];
      rest = counted_on c.args.id at c.loop-at.count c.if-is_last_of_another.count _ x xs rest c.split_at.result.1.now
          last is c.split_at.ensures.back c.is_last_of_another.ensures.value counted c.loop-at.invariant.rest;
    }
