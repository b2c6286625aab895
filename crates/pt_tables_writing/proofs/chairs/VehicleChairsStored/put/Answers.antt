use Rattle.pt_desk_rules.specs.State.{vehicle_key}
use Rattle.pt_tables_rows.specs.Rows.{vehicle_chair_rows}
use Rattle.pt_tables_rows.specs.Schema.{vehicle_chairs_table}
use Rattle.pt_desk_spelling.specs.Ranges.{IsVehicle}
use Rattle.pt_tables_writing.proofs.ChangeLemmas.{did_put}
use Rattle.pt_tables_writing.proofs.chairs.VehicleChairsStored.put.Goals as goal

pub returns : goal.returns
returns g c =
    record {
      step = did_put vehicle_chairs_table vehicle_key IsVehicle vehicle_chair_rows c.args.version.now
          c.in_ok-take.ensures.step c.insert_vehicle_chairs.ensures.step;
    }
