use Rattle.pt_desk_rules.specs.Ranges.{FitsTravel}
use Rattle.pt_desk_rules.specs.State.{travel_key}
use Rattle.pt_tables_rows.specs.Rows.{travel_rows}
use Rattle.pt_tables_rows.specs.Schema.{travel_table}
use Rattle.pt_tables_writing.proofs.ChangeLemmas.{did_put}
use Rattle.pt_tables_writing.proofs.grouped.travel.TravelTablesStored.put.Goals as goal

pub returns : goal.returns
returns g c =
    record {
      step = did_put travel_table travel_key FitsTravel travel_rows c.args.table.now
          c.in_ok-take.ensures.step c.insert_travel.ensures.step;
    }
