use Rattle.std.proofs.Common.{[], ◌∷◌}
use Rattle.pt_desk_rules.specs.State.{vehicle_key}
use Rattle.pt_tables_rows.specs.Rows.{vehicle_row}
use Rattle.pt_tables_rows.specs.Schema.{vehicles_table}
use Rattle.pt_desk_spelling.specs.Ranges.{IsVehicle}
use Rattle.pt_tables_writing.proofs.ChangeLemmas.{did_put}
use Rattle.pt_tables_writing.proofs.grouped.vehicles.VehiclesStored.put.Goals as goal

pub returns : goal.returns
returns g c =
    record {
      step = did_put vehicles_table vehicle_key IsVehicle (λ v. vehicle_row v ∷ []) c.args.version.now
          c.in_ok-take.ensures.step c.insert_vehicle.ensures.step;
    }
