use Rattle.std.proofs.Common.{◌<◌, ap, ◌∙◌, rules}
use Rattle.sqlite.specs.Held.{state}
use Rattle.pt_base_records.specs.Records.{record_at}
use Rattle.pt_desk_scheduling.specs.Plan.{plan_key}
use Rattle.pt_tables_asking.specs.Plans.{plan_by_stops}
use Rattle.pt_tables_asking.proofs.StopLemmas.{plan_told, stops_there, wanted, wanted_fit}
use Rattle.pt_tables_asking.proofs.TextLemmas.{stops_text}
use Rattle.pt_tables_asking.proofs.CauseLemmas.{excuses_as}
use Rattle.pt_tables_asking.proofs.plans.plan_by_key.Goals as goal

pub ask-requires-clause-plain : goal.ask-requires-clause-plain
ask-requires-clause-plain g c = (stops_text c.numbers-vehicle.result.0 c.numbers-vehicle.result.1).plain

pub ask-requires-clause-unlisted : goal.ask-requires-clause-unlisted
ask-requires-clause-unlisted g c = (stops_text c.numbers-vehicle.result.0 c.numbers-vehicle.result.1).unlisted

pub returns-in_err-stops-clause-excused : goal.returns-in_err-stops-clause-excused
returns-in_err-stops-clause-excused g c clean content readable few held =
    let m = c.numbers-vehicle.result.0 in
    let n = c.numbers-vehicle.result.1 in
    let low : n < 4_294_967_296 = search rules in
    let why = c.in_err-stops.ensures.excused clean (wanted content readable m n low) (wanted_fit content readable m n low few)
    (stops_there content readable m n low (state g.S.Store c.args.conn.now) held _ (search rules)) in
    excuses_as (state g.S.Store c.args.conn.now) (state g.S.Store c.ask.new.conn) c.from_residual.result c.in_err-stops.field-0.0 (search rules) why

pub returns-clause-told : goal.returns-clause-told
returns-clause-told g c clean content readable held =
    let m = c.numbers-vehicle.result.0 in
    let n = c.numbers-vehicle.result.1 in
    let low : n < 4_294_967_296 = search rules in
    let rows = c.in_ok-stops.ensures.told clean (wanted content readable m n low) (stops_there content readable m n low (state g.S.Store c.args.conn.now) held _ (search rules)) in
    c.in_ok-route_of.ensures.value ∙ ap plan_by_stops c.deref.ensures.value ∙ plan_told content readable m n low c.in_ok-stops.stops.items rows.0
    ∙ ap (λ k. record_at plan_key k content.planned) c.numbers-vehicle.ensures.value
