use Rattle.std.proofs.Common.{[], ◌∷◌, map}
use Rattle.pt_tables_writing.specs.Grouped.{Adds}
use Rattle.pt_tables_rows.specs.Rows.{travel_row}
use Rattle.pt_tables_rows.specs.Schema.{travel_table}
use Rattle.pt_tables_writing.proofs.ChangeLemmas.{did_added, did_at}
use Rattle.pt_tables_writing.proofs.grouped.travel.insert_travel.Goals as goal

pub returns : goal.returns
returns g c =
    let table = c.args.table.now in
    let first = did_at (λ day. Adds travel_table (travel_row day (0, 0, 0) ∷ [])) c.from_day.ensures.value
    c.in_ok-insert_drive.ensures.step in
    let dated = did_at (λ day. Adds travel_table (map (travel_row day) c.rows.result.now)) c.from_day-2.ensures.value
    c.insert_drives.ensures.step in
    let rest = did_at (λ rows. Adds travel_table (map (travel_row table.from_day) rows)) c.rows.ensures.value dated in
    record {
      step = did_added travel_table (travel_row table.from_day (0, 0, 0) ∷ [])
          (map (travel_row table.from_day) table.rows) first rest;
    }
