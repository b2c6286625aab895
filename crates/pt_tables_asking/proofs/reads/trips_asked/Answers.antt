use Rattle.std.proofs.Common.{sym, subst, filter, ◌∙◌, arith, rules}
use Rattle.sqlite.specs.Held.{state}
use Rattle.sqlite.specs.State.{HasCleanDisk}
use Rattle.pt_desk_rules.specs.Parts as part
use Rattle.pt_desk_rules.specs.Ranges.{FitsTrip}
use Rattle.pt_desk_rules.specs.State.{trip_key}
use Rattle.pt_base_records.specs.Records.{IsInOrder}
use Rattle.pt_base_records.proofs.TableLemmas.{Each-filter, IsInOrder-filter}
use Rattle.pt_tables_asking.proofs.ContentLemmas.{trip_marks_there, trip_numbers, trips_marked, trips_rise}
use Rattle.pt_tables_asking.proofs.ReadLemmas.{ok_same}
use Rattle.pt_tables_asking.proofs.TextLemmas.{trip_marks_text}
use Rattle.pt_tables_asking.proofs.CauseLemmas.{excused_after, excuses_as, excuses_none}
use Rattle.pt_tables_asking.proofs.reads.trips_asked.Goals as goal

pub mark_all-requires : goal.mark_all-requires
mark_all-requires g c =
    let it = trip_marks_text 0 0 in
    record {
      settled = c.in_ok-trips.ensures.rests.settled;
      committed = c.in_ok-trips.ensures.rests.undone;
      plain = it.plain;
      unlisted = it.unlisted;
    }

pub returns-in_err-trips-clause-excused : goal.returns-in_err-trips-clause-excused
returns-in_err-trips-clause-excused g c clean content readable held passes has =
    let why = c.in_err-trips.ensures.excused clean (filter passes content.trips) (Each-filter FitsTrip passes content.trips (readable.ranges.parts part.trips)) has in
    excuses_as (state g.S.Store c.args.conn.now) (state g.S.Store c.ask.new.conn) c.from_residual.result c.in_err-trips.field-0.0 (search rules) why

pub returns-in_err-found-clause-excused : goal.returns-in_err-found-clause-excused
returns-in_err-found-clause-excused g c clean content readable held passes has =
    let old = state g.S.Store c.args.conn.now in
    let mid = state g.S.Store c.ask.new.conn in
    let early : HasCleanDisk mid = omega (arith, clean, c.in_err-found.ensures.rests.survives.clean) in
    let why = c.in_err-found.ensures.excused clean content.trips (readable.order part.trips) (trip_numbers content readable)
    (trip_marks_there content readable old held mid c.in_ok-trips.ensures.rests early) in
    let new = state g.S.Store c.mark_all.new.conn in
    excuses_as old new c.from_residual-in_err-found.result c.in_err-found.field-0.0 (search rules)
    (excused_after old mid new (λ _. ⊥) (λ _. ⊥) c.in_err-found.field-0.0 c.in_ok-trips.ensures.rests.survives early c.in_err-found.ensures.rests.survives why)

pub returns-clause-told : goal.returns-clause-told
returns-clause-told g c clean content readable held passes has =
    let old = state g.S.Store c.args.conn.now in
    let mid = state g.S.Store c.ask.new.conn in
    let early : HasCleanDisk mid = omega (arith, clean, c.in_ok-found.ensures.rests.survives.clean) in
    let trips = c.in_ok-trips.trips.items in
    let rows = c.in_ok-trips.ensures.told early (filter passes content.trips) has in
    let found = c.in_ok-found.ensures.told clean content.trips (readable.order part.trips) (trips_rise content readable passes trips rows.0)
    (trip_marks_there content readable old held mid c.in_ok-trips.ensures.rests early) in
    ok_same c.in_order.result c.in_ok-found.found.items (filter passes content.trips) c.in_order.ensures.told (found ∙ trips_marked content readable passes trips rows.0)

pub returns-clause-excused : goal.returns-clause-excused
returns-clause-excused g c clean content readable held passes has =
    let old = state g.S.Store c.args.conn.now in
    let mid = state g.S.Store c.ask.new.conn in
    let early : HasCleanDisk mid = omega (arith, clean, c.in_ok-found.ensures.rests.survives.clean) in
    let trips = c.in_ok-trips.trips.items in
    let rows = c.in_ok-trips.ensures.told early (filter passes content.trips) has in
    let found = c.in_ok-found.ensures.told clean content.trips (readable.order part.trips) (trips_rise content readable passes trips rows.0)
    (trip_marks_there content readable old held mid c.in_ok-trips.ensures.rests early) in
    excuses_none old (state g.S.Store c.mark_all.new.conn) c.in_order.result (IsInOrder trip_key c.in_ok-found.found.items) c.in_order.ensures.ordered
    (subst (IsInOrder trip_key) (sym (found ∙ trips_marked content readable passes trips rows.0)) (IsInOrder-filter trip_key passes content.trips (readable.order part.trips)))
