use Rattle.std.proofs.Common.{[], ◌∷◌, drop, length, map, take, ap, ◌-◌}
use Rattle.pt_tables_rows.specs.Rows.{travel_row}
use Rattle.pt_tables_rows.specs.Schema.{travel_table}
use Rattle.pt_tables_writing.proofs.ChangeLemmas.{did_fewer, did_nothing, did_rest}
use Rattle.pt_tables_writing.proofs.TravelRows.{four_and_rest}
use Rattle.pt_tables_writing.proofs.grouped.travel.insert_drives.Goals as goal

pub loop-left-init : goal.loop-left-init
loop-left-init g c = did_nothing (λ has. (has, λ last rest. rest))

pub loop-left-preserved : goal.loop-left-preserved
loop-left-preserved g c =
    let row = travel_row c.args.from_day in
    let left = c.loop-left.left.now in
    let four = c.first-item.result ∷ c.second-item.result ∷ c.third-item.result ∷ c.fourth-item.result ∷ [] in
    let parts = four_and_rest left _ _ _ _ c.in-len4-up.len_at_least c.first-item.is c.second-item.is c.third-item.is
    c.fourth-item.is in
    did_fewer travel_table (map row left) (map row four) (map row (take (length left - 4) (drop 4 left)))
    (map row c.args.rows.now) (ap (map row) parts) c.loop-left.invariant c.in_ok-insert_four_drives.ensures.step

pub returns : goal.returns
returns g c =
    let row = travel_row c.args.from_day in
    record {
      step = did_rest travel_table (map row c.loop-left.left.now) (map row c.args.rows.now) c.loop-left.invariant
          c.insert_each_drive.ensures.step;
    }
