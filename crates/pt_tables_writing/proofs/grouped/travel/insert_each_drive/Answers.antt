use Rattle.std.proofs.Common.{◌≡◌, [], ◌∷◌, map, take}
use Rattle.std.proofs.lemmas.List.{take_all}
use Rattle.pt_travel.specs.Chain as travel
use Rattle.pt_tables_writing.specs.Grouped.{Adds}
use Rattle.pt_tables_rows.specs.Rows.{travel_row}
use Rattle.pt_tables_rows.specs.Schema.{travel_table}
use Rattle.pt_tables_writing.proofs.ChangeLemmas.{did_added, did_at}
use Rattle.pt_tables_writing.proofs.TravelRows.{drives-more}
use Rattle.pt_tables_writing.proofs.grouped.travel.insert_each_drive.Goals as goal

pub loop-row-preserved : goal.loop-row-preserved
loop-row-preserved g c =
    let at = c.loop-row.row-index in
    let drives = c.args.rows.now in
    let day = c.args.from_day in
    let drive : travel.Row = (c.number.result, c.number-in-loop-row.result, c.from.result) in
    let same : drive ≡ c.row-item.result =
    λ i. (c.number.ensures.value i, c.number-in-loop-row.ensures.value i, c.from.ensures i) in
    did_at (Adds travel_table)
    (drives-more at day drives c.row-item.result drive c.loop-row-test.true c.row-item.is same)
    (did_added travel_table (map (travel_row day) (take at drives)) (travel_row day drive ∷ [])
    c.loop-row.invariant c.in_ok-insert_drive.ensures.step)

pub returns : goal.returns
returns g c =
    record {
      step = did_at (λ drives. Adds travel_table (map (travel_row c.args.from_day) drives))
          (take_all c.loop-row.row-index c.args.rows.now c.loop-row-test.false) c.loop-row.invariant;
    }
