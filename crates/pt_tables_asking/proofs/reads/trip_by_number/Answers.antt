use Rattle.std.proofs.Common.{◌≡◌, ◌==◌, ap, ◌∙◌, slice_get, rules}
use Rattle.sqlite.specs.Held.{state}
use Rattle.sqlite_keyed.proofs.ListLemmas.{slice_get-filter}
use Rattle.pt_desk_rules.specs.State.{trip_key}
use Rattle.pt_tables_asking.proofs.ContentLemmas.{trip_there}
use Rattle.pt_tables_asking.proofs.TextLemmas.{trip_text}
use Rattle.pt_tables_asking.proofs.CauseLemmas.{excuses_as}
use Rattle.pt_tables_asking.proofs.reads.trip_by_number.Goals as goal

pub trips_asked-requires : goal.trips_asked-requires
trips_asked-requires g c = let it = trip_text c.args.trip in record { settled = c.requires.settled; plain = it.plain; unlisted = it.unlisted }

pub returns-in_err-found-clause-excused : goal.returns-in_err-found-clause-excused
returns-in_err-found-clause-excused g c clean content readable held =
    let why = c.in_err-found.ensures.excused clean content readable held (λ trip. trip_key trip == c.args.trip)
    (trip_there content readable (state g.S.Store c.args.conn.now) held c.args.trip _ (search rules)) in
    excuses_as (state g.S.Store c.args.conn.now) (state g.S.Store c.trips_asked.new.conn) c.from_residual.result c.in_err-found.field-0.0 (search rules) why

pub returns-clause-told : goal.returns-clause-told
returns-clause-told g c clean content readable held =
    let found = c.in_ok-found.ensures.told clean content readable held (λ trip. trip_key trip == c.args.trip)
    (trip_there content readable (state g.S.Store c.args.conn.now) held c.args.trip _ (search rules)) in
    let shown : c.copied.result ≡ slice_get c.in_ok-found.found 0 = search rules in
    shown ∙ ap (λ l. slice_get l 0) found ∙ slice_get-filter (λ trip. trip_key trip == c.args.trip) content.trips
