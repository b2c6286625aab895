use Rattle.std.proofs.Common.{List, Option}
use Rattle.pt_base_values.specs.declared.rider.Rider.{Rider}
use Rattle.pt_rights_files.specs.declared.entry.Entered.{Entered}
use Rattle.pt_desk_rules.specs.Facts.{no_read_facts, trips_counted_for}
use Rattle.pt_desk_rules.specs.State.{State, file_of, rider_of}
use Rattle.pt_desk_store.proofs.ReadLemmas.{after, reads_by, reads_map, fault_handed}
use Rattle.pt_desk_store.proofs.gathering.gather_standing.Goals as goal

pub returns : goal.returns
returns g c = record {
  reads =
      rw c.none.ensures.value (reads_map _ _ _ _ (λ found. record no_read_facts { rider = found.0.0; file = found.0.1; trips = found.1 })
      (reads_by _ _ _ (λ (s : State). (rider_of c.args.rider s, file_of c.args.rider s))
      (λ (found : Option Rider × List Entered) (s : State). trips_counted_for found.0 s.trips) _ _
      c.in_ok-rider.ensures.reads
      c.in_ok-trips.ensures.reads));
}

pub returns-in_err-trips : goal.returns-in_err-trips
returns-in_err-trips g c = record {
  reads =
      after c.in_ok-rider.ensures.reads
      (fault_handed c.from_residual-in_err-trips.ensures.1 c.in_err-trips.ensures.reads);
}
