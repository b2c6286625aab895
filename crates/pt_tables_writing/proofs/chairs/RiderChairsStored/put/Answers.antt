use Rattle.std.proofs.Common.{◌≡◌, [], ◌∷◌, false, ap}
use Rattle.sqlite.specs.Held.{state}
use Rattle.pt_desk_rules.specs.Ranges.{FitsRider}
use Rattle.pt_desk_rules.specs.State.{rider_key}
use Rattle.pt_tables_rows.specs.Rows.{number_value, rider_chair_rows, row_if}
use Rattle.pt_tables_rows.specs.Schema.{rider_chairs_table}
use Rattle.pt_tables_writing.proofs.ChairWrites.{puts_none}
use Rattle.pt_tables_writing.proofs.ChangeLemmas.{did_as}
use Rattle.pt_tables_writing.proofs.chairs.RiderChairsStored.put.Goals as goal

pub returns-then-not-rider : goal.returns-then-not-rider
returns-then-not-rider g c =
    let old = state g.S.Store c.args.tx.now.conn.now in
    let new = state g.S.Store c.take.new.tx.conn.now in
    let rider = c.args.rider.now in
    let unmarked : rider.wheelchair ≡ false = c.if-not-rider.true in
    record {
      step = did_as c.take.ensures.step
          (puts_none rider_chairs_table rider_key FitsRider rider_chair_rows rider
          (ap (λ s. row_if s (number_value rider.id ∷ [])) unmarked) old.now new.now);
    }
