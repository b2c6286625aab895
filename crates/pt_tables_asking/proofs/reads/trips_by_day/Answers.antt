use Rattle.std.proofs.Common.{◌==◌, rules}
use Rattle.sqlite.specs.Held.{state}
use Rattle.pt_tables_asking.proofs.ContentLemmas.{day_trips_there}
use Rattle.pt_tables_asking.proofs.TextLemmas.{trips_by_day_text}
use Rattle.pt_tables_asking.proofs.reads.trips_by_day.Goals as goal

pub trips_asked-requires : goal.trips_asked-requires
trips_asked-requires g c = let it = trips_by_day_text c.args.day in record { settled = c.requires.settled; plain = it.plain; unlisted = it.unlisted }

pub returns-clause-told : goal.returns-clause-told
returns-clause-told g c clean content readable held =
    c.trips_asked.ensures.told clean content readable held (λ trip. trip.wish.day == c.args.day)
    (day_trips_there content readable (state g.S.Store c.args.conn.now) held c.args.day _ (search rules))

pub returns-clause-excused : goal.returns-clause-excused
returns-clause-excused g c clean content readable held =
    c.trips_asked.ensures.excused clean content readable held (λ trip. trip.wish.day == c.args.day)
    (day_trips_there content readable (state g.S.Store c.args.conn.now) held c.args.day _ (search rules))
