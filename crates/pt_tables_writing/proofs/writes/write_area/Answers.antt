use Rattle.sqlite.specs.Held.{state}
use Rattle.pt_tables_writing.proofs.ChangeLemmas.{did_as, did_at, did_next}
use Rattle.pt_tables_writing.proofs.GroupLemmas.{Known-places, Known-routes, Known-travel, area_leads}
use Rattle.pt_tables_writing.proofs.writes.write_area.Goals as goal

pub returns : goal.returns
returns g c =
    let change = c.args.change.now in
    let old = state g.S.Store c.args.tx.now.conn.now in
    let new = state g.S.Store c.write_edits-3.new.tx.conn.now in
    let places = did_at (Known-places change) c.places_table.ensures.value c.in_ok-write_edits.ensures.step in
    let routes = did_at (Known-routes change) c.routes_table.ensures.value c.in_ok-write_edits-2.ensures.step in
    let travel = did_at (Known-travel change) c.travel_table.ensures.value c.write_edits-3.ensures.step in
    let all = did_next (did_next (did_next places routes) c.in_ok-write_fleet.ensures.step) travel in
    record { step = did_as all (area_leads change c.args.known.now.content old.now new.now) }
