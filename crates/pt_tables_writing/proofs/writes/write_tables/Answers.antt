use Rattle.pt_tables_writing.proofs.ChangeLemmas.{did_as, did_next, open_then}
use Rattle.pt_tables_writing.proofs.writes.write_tables.Goals as goal

pub returns-clause-step : goal.returns-clause-step
returns-clause-step g c =
    let two = did_next c.in_ok-write_people.ensures.step c.in_ok-write_area.ensures.step in
    did_as (did_next two c.write_trips.ensures.step) (λ three there agrees told puts stands.
    let two = three.1 in
    let first = two.1 there agrees.0 told puts stands in
    let second = two.2 first.schema there agrees.0 told puts first in
    three.2 second.schema there agrees told puts second)

pub returns-clause-open : goal.returns-clause-open
returns-clause-open g c =
    let two = did_next c.in_ok-write_people.ensures.step c.in_ok-write_area.ensures.step in
    open_then two c.write_trips.ensures.step c.write_trips.ensures.open
