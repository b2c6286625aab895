use Rattle.std.specs.Prelude.{length, None}
use Rattle.pt_desk_rules.specs.Planned.{is_booked_from}
use Rattle.pt_desk_rules.specs.State.{State, tables_before}
use Rattle.pt_desk_store.proofs.ReadLemmas.{after, reads_pair, reads_map, fault_handed}
use Rattle.pt_desk_store.proofs.gathering.gather_travel.Goals as goal

pub returns : goal.returns
returns g c =
    let day = c.args.day in
    record {
      reads =
          (reads_map _ _ _ _ (λ found. record { places = found.0; tables_before = found.1.0; is_booked = found.1.1 })
          (reads_pair _ _ _ (λ (s : State). s.places)
          (λ (s : State). (length (tables_before day s.travel), is_booked_from None day s.trips)) _ _
          c.in_ok-places.ensures.reads
          (reads_pair _ _ _ (λ (s : State). length (tables_before day s.travel))
          (λ (s : State). is_booked_from None day s.trips) _ _ c.in_ok-table_count_before.ensures.reads
          c.in_ok-is_booked_from.ensures.reads)));
    }

pub returns-in_err-is_booked_from : goal.returns-in_err-is_booked_from
returns-in_err-is_booked_from g c = record {
  reads =
      after c.in_ok-places.ensures.reads
      (after c.in_ok-table_count_before.ensures.reads
      (fault_handed c.from_residual-in_err-is_booked_from.ensures.1 c.in_err-is_booked_from.ensures.reads));
}

pub returns-in_err-table_count_before : goal.returns-in_err-table_count_before
returns-in_err-table_count_before g c = record {
  reads =
      after c.in_ok-places.ensures.reads
      (fault_handed c.from_residual-in_err-table_count_before.ensures.1 c.in_err-table_count_before.ensures.reads);
}
