use Rattle.std.proofs.Common.{◌≡◌, [], ◌∷◌, false, ap}
use Rattle.sqlite.specs.Held.{state}
use Rattle.pt_desk_rules.specs.Ranges.{FitsTrip}
use Rattle.pt_desk_rules.specs.State.{trip_key}
use Rattle.pt_tables_rows.specs.Rows.{number_value, trip_chair_rows, row_if}
use Rattle.pt_tables_rows.specs.Schema.{trip_chairs_table}
use Rattle.pt_tables_writing.proofs.ChairWrites.{puts_none}
use Rattle.pt_tables_writing.proofs.ChangeLemmas.{did_as}
use Rattle.pt_tables_writing.proofs.chairs.TripChairsStored.put.Goals as goal

pub returns-then-not-trip : goal.returns-then-not-trip
returns-then-not-trip g c =
    let old = state g.S.Store c.args.tx.now.conn.now in
    let new = state g.S.Store c.take.new.tx.conn.now in
    let trip = c.args.trip.now in
    let unmarked : trip.wheelchair ≡ false = c.if-not-trip.true in
    record {
      step = did_as c.take.ensures.step
          (puts_none trip_chairs_table trip_key FitsTrip trip_chair_rows trip
          (ap (λ s. row_if s (number_value trip.id ∷ [])) unmarked) old.now new.now);
    }
