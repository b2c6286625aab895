use Rattle.std.proofs.Common.{arith}
use Rattle.pt_tables_reading.proofs.ReadingLemmas.{sixteen-read}
use Rattle.pt_tables_reading.proofs.trips.trip_of.Goals as goal

pub returns : goal.returns
returns c = (
  sixteen-read c.args.row.now (omega arith) c.in_ok-id_at-3.ensures.0 c.in_ok-id_at-4.ensures.0
      c.in_ok-day_at.ensures.0 c.in_ok-minute_at.ensures.0 c.in_ok-id_at.ensures.0 c.in_ok-id_at-2.ensures.0
      c.in_ok-optional_minute_at.ensures.0 c.in_ok-truth_at.ensures.0 c.in_ok-number_in.ensures.0
      c.in_ok-number_in-2.ensures.0 c.in_ok-number_in-3.ensures.0 c.in_ok-number_in-4.ensures.0
      c.in_ok-id_at-5.ensures.0 c.in_ok-minute_at-2.ensures.0 c.in_ok-minute_at-3.ensures.0
      c.in_ok-status_at.ensures.0,
  record {
    id = c.in_ok-id_at-3.ensures.1;
    rider = c.in_ok-id_at-4.ensures.1;
    wish = record {
      day = c.in_ok-day_at.ensures.1;
      pickup = c.in_ok-minute_at.ensures.1;
      from = c.in_ok-id_at.ensures.1;
      to = c.in_ok-id_at-2.ensures.1;
      by = c.in_ok-optional_minute_at.ensures.1;
      companions = (let few = c.in_ok-number_in.ensures.1 in let least = few.0 in let most = few.1 in omega arith);
    };
    vehicle = c.in_ok-id_at-5.ensures.1;
    window_from = c.in_ok-minute_at-2.ensures.1;
    window_to = c.in_ok-minute_at-3.ensures.1;
  },
)
