use Rattle.std.proofs.Common.{◌≡◌, ◌+◌, ◌<◌, ◌^◌, ◌∷◌, [], length, length-append, sym, ap, subst, ◌∙◌, arith}
use Rattle.pt_base_records.specs.Records.{Each}
use Rattle.pt_desk_rules.specs.Ranges.{FitsStop}
use Rattle.pt_tables_opening.proofs.GatheredLemmas.{each_push}
use Rattle.pt_tables_opening.proofs.PlanReading.{no-stops, rows-of-stops, stops-next}
use Rattle.pt_tables_opening.proofs.plans.stops_of.Goals as goal

pub returns-in_default : goal.returns-in_default
returns-in_default c = record {
  told = no-stops c.args.vehicle c.args.day c.args.rows.now c.loop-place.place c.index-rows-place.result (omega arith) c.index-rows-place.is c.in_default.ensures;
}

pub loop-place-preserved : goal.loop-place-preserved
loop-place-preserved c =
    let stops = c.loop-place.stops.items in
    let stop = c.in-Some.stop in
    let told = c.in-Some.ensures in
    let pushed = c.in_ok-push.ensures.items in
    let place : c.loop-place.place < 2 ^ 32 = told.1.place in
    let size : length c.push.new.self.items ≡ length stops + 1 = ap length pushed ∙ length-append stops (stop ∷ []) in
    let count : length stops ≡ c.loop-place.place = c.loop-place.invariant.count in
    record {
      rows_are = stops-next c.args.vehicle c.args.day c.args.rows.now c.loop-place.place c.index-rows-place.result (omega arith) c.index-rows-place.is stops c.push.new.self.items stop
          told.0 count pushed c.loop-place.invariant.rows_are;
      count = omega (arith, size, count);
      fit = (
        omega (arith, size, count, place, rows-of-stops 0 c.args.vehicle c.args.day c.push.new.self.items),
        subst
            (Each FitsStop) (sym pushed) (each_push FitsStop stops stop c.loop-place.invariant.fit.1 told.1.trip),
      );
    }
