use Rattle.std.proofs.Common.{List, arith, sym, ap, subst, ◌∙◌, ◌++◌, append-nil}
use Rattle.std.specs.Prelude.{◌==◌}
use Rattle.std.proofs.lemmas.List.{drop_all}
use Rattle.pt_base_records.proofs.TableLemmas.{IsInOrder-filter}
use Rattle.pt_base_records.specs.Records.{IsInOrder}
use Rattle.pt_base_values.specs.declared.trip.Trip.{Trip}
use Rattle.pt_desk_rules.specs.Planned.{trips_on}
use Rattle.pt_desk_rules.specs.State.{trip_key}
use Rattle.pt_desk_store.proofs.answers.trips_on.Goals as goal

pub of-requires : goal.of-requires
of-requires c =
    let all = c.args.trips.now in
    record {
      order =
          subst (λ (xs : List Trip). IsInOrder trip_key xs)
          (sym (sym (append-nil _) ∙ sym (ap (λ (rest : List Trip). c.loop-trip.found.items ++ trips_on c.args.day rest) (drop_all c.loop-trip.trip-index all (omega arith))) ∙ c.loop-trip.invariant))
          (IsInOrder-filter trip_key (λ trip. trip.wish.day == c.args.day) all c.requires.order);
    }
