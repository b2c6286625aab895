use Rattle.std.proofs.Common.{◌==◌, Bool, ap, ◌∙◌, slice_get, filter, arith, rules}
use Rattle.sqlite.specs.Held.{state}
use Rattle.sqlite.specs.State.{HasCleanDisk}
use Rattle.sqlite_keyed.proofs.ListLemmas.{slice_get-filter}
use Rattle.pt_base_values.specs.declared.rider.Rider.{Rider}
use Rattle.pt_desk_rules.specs.Parts as part
use Rattle.pt_desk_rules.specs.Ranges.{FitsRider}
use Rattle.pt_desk_rules.specs.State.{rider_key}
use Rattle.pt_base_records.proofs.TableLemmas.{Each-filter}
use Rattle.pt_tables_asking.proofs.ContentLemmas.{rider_marks_there, rider_numbers, rider_there, riders_marked, riders_rise}
use Rattle.pt_tables_asking.proofs.TextLemmas.{rider_marks_text, rider_text}
use Rattle.pt_tables_asking.proofs.CauseLemmas.{excused_after, excuses_as}
use Rattle.pt_tables_asking.proofs.reads.rider_by_number.Goals as goal

pub ask-requires : goal.ask-requires
ask-requires g c = let it = rider_text c.args.rider in record { settled = c.requires.settled; plain = it.plain; unlisted = it.unlisted }

pub mark_all-requires : goal.mark_all-requires
mark_all-requires g c =
    let it = rider_marks_text 0 0 in
    record {
      settled = c.in_ok-riders.ensures.rests.settled;
      committed = c.in_ok-riders.ensures.rests.undone;
      plain = it.plain;
      unlisted = it.unlisted;
    }

pub returns-in_err-riders-clause-excused : goal.returns-in_err-riders-clause-excused
returns-in_err-riders-clause-excused g c clean content readable held =
    let passes : Rider → Bool = λ r. rider_key r == c.args.rider in
    let why = c.in_err-riders.ensures.excused clean (filter passes content.riders) (Each-filter FitsRider passes content.riders (readable.ranges.parts part.riders))
    (rider_there content readable (state g.S.Store c.args.conn.now) held c.args.rider _ (search rules)) in
    excuses_as (state g.S.Store c.args.conn.now) (state g.S.Store c.ask.new.conn) c.from_residual.result c.in_err-riders.field-0.0 (search rules) why

pub returns-in_err-found-clause-excused : goal.returns-in_err-found-clause-excused
returns-in_err-found-clause-excused g c clean content readable held =
    let old = state g.S.Store c.args.conn.now in
    let mid = state g.S.Store c.ask.new.conn in
    let early : HasCleanDisk mid = omega (arith, clean, c.in_err-found.ensures.rests.survives.clean) in
    let why = c.in_err-found.ensures.excused clean content.riders (readable.order part.riders) (rider_numbers content readable)
    (rider_marks_there content readable old held mid c.in_ok-riders.ensures.rests early) in
    let new = state g.S.Store c.mark_all.new.conn in
    excuses_as old new c.from_residual-in_err-found.result c.in_err-found.field-0.0 (search rules)
    (excused_after old mid new (λ _. ⊥) (λ _. ⊥) c.in_err-found.field-0.0 c.in_ok-riders.ensures.rests.survives early c.in_err-found.ensures.rests.survives why)

pub returns-clause-told : goal.returns-clause-told
returns-clause-told g c clean content readable held =
    let old = state g.S.Store c.args.conn.now in
    let mid = state g.S.Store c.ask.new.conn in
    let passes : Rider → Bool = λ r. rider_key r == c.args.rider in
    let early : HasCleanDisk mid = omega (arith, clean, c.in_ok-found.ensures.rests.survives.clean) in
    let rows = c.in_ok-riders.ensures.told early (filter passes content.riders) (rider_there content readable old held c.args.rider _ (search rules)) in
    let riders = c.in_ok-riders.riders.items in
    let found = c.in_ok-found.ensures.told clean content.riders (readable.order part.riders) (riders_rise content readable passes riders rows.0)
    (rider_marks_there content readable old held mid c.in_ok-riders.ensures.rests early) in
    c.first.ensures.value ∙ ap (λ l. slice_get l 0) (found ∙ riders_marked content readable passes riders rows.0) ∙ slice_get-filter passes content.riders
