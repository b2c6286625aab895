use Rattle.std.proofs.Common.{List, Option}
use Rattle.pt_base_values.specs.declared.rider.Rider.{Rider}
use Rattle.pt_rights_files.specs.declared.entry.Entered.{Entered}
use Rattle.pt_desk_rules.specs.Facts.{agency_facts, booking_facts, no_day}
use Rattle.pt_desk_rules.specs.State.{State, file_of, rider_of}
use Rattle.pt_desk_store.proofs.ReadLemmas.{after, reads_by, reads_map, reads_pair, fault_handed}
use Rattle.pt_desk_store.proofs.gathering.gather_asked.Goals as goal

pub returns : goal.returns
returns g c =
    let rider = c.args.rider in
    let old = c.args.old.now in
    let booking = λ (found : Option Rider × List Entered) (s : State). record (booking_facts found.0 0 old s) { day = no_day } in
    record {
      reads =
          (reads_map _ _ _ _ (λ found. record found.0 { rider = found.1.0.0; file = found.1.0.1; booking = found.1.1 })
          (reads_pair _ _ _ agency_facts
          (λ (s : State). ((rider_of rider s, file_of rider s), booking (rider_of rider s, file_of rider s) s)) _ _
          c.in_ok-agency.ensures.reads
          (reads_by _ _ _ (λ (s : State). (rider_of rider s, file_of rider s)) booking _ _
          c.in_ok-rider.ensures.reads c.in_ok-booking.ensures.reads)));
    }

pub returns-in_err-booking : goal.returns-in_err-booking
returns-in_err-booking g c = record {
  reads =
      after c.in_ok-agency.ensures.reads
      (after c.in_ok-rider.ensures.reads
      (fault_handed c.from_residual-in_err-booking.ensures.1 c.in_err-booking.ensures.reads));
}

pub returns-in_err-rider : goal.returns-in_err-rider
returns-in_err-rider g c = record {
  reads =
      after c.in_ok-agency.ensures.reads
      (fault_handed c.from_residual-in_err-rider.ensures.1 c.in_err-rider.ensures.reads);
}
