use Rattle.sqlite.specs.Held.{state}
use Rattle.pt_desk_rules.specs.Parts as part
use Rattle.pt_desk_rules.specs.State.{vehicle_key}
use Rattle.pt_tables_rows.specs.Rows.{vehicle_chair_rows}
use Rattle.pt_tables_rows.specs.Schema.{vehicle_chairs_table}
use Rattle.pt_desk_spelling.specs.Ranges.{IsVehicle}
use Rattle.pt_tables_writing.specs.Groups.{KnowsTaken, OfEach}
use Rattle.pt_tables_writing.specs.Stored.{TakesSpans}
use Rattle.pt_tables_writing.proofs.ChangeLemmas.{did_at, did_then}
use Rattle.pt_tables_writing.proofs.GroupLemmas.{Unmarked-vehicles}
use Rattle.pt_tables_writing.proofs.writes.write_fleet.Goals as goal

pub returns : goal.returns
returns g c =
    let mid = state g.S.Store c.take_spans.new.tx.conn.now in
    let taken = did_at (λ ss. OfEach (KnowsTaken vehicle_key ss c.vehicles_table.result.now.items)
    (TakesSpans vehicle_chairs_table vehicle_key IsVehicle vehicle_chair_rows ss))
    c.spans.ensures.value c.in_ok-take_spans.ensures.step in
    let chairs = did_at (Unmarked-vehicles c.args.change.now) c.vehicles_table.ensures.value taken in
    record {
      step = did_then chairs c.write_vehicles.ensures.step (λ has first next there agrees.
          (mid.now, first there.vehicles (agrees.parts part.vehicles), λ kept. next kept there agrees));
    }
