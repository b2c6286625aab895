use Rattle.sqlite.specs.Held.{state}
use Rattle.pt_desk_rules.specs.Parts as part
use Rattle.pt_desk_rules.specs.State.{vehicle_key}
use Rattle.pt_tables_rows.specs.Rows.{vehicle_chair_rows}
use Rattle.pt_tables_rows.specs.Schema.{vehicle_chairs_table}
use Rattle.pt_desk_spelling.specs.Ranges.{IsVehicle}
use Rattle.pt_tables_writing.specs.Stored.{PutsAll}
use Rattle.pt_tables_writing.proofs.ChangeLemmas.{did_at, did_then}
use Rattle.pt_tables_writing.proofs.GroupLemmas.{Known-vehicles}
use Rattle.pt_tables_writing.proofs.writes.write_vehicles.Goals as goal

pub returns : goal.returns
returns g c =
    let mid = state g.S.Store c.write_edits.new.tx.conn.now in
    let rows = did_at (Known-vehicles c.args.change.now) c.vehicles_table.ensures.value
    c.in_ok-write_edits.ensures.step in
    let chairs = did_at (PutsAll vehicle_chairs_table vehicle_key IsVehicle vehicle_chair_rows) c.puts.ensures.value
    c.put_each.ensures.step in
    record {
      step = did_then rows chairs (λ has first next there agrees.
          (mid.now, first there.vehicles (agrees.parts part.vehicles), next));
    }
