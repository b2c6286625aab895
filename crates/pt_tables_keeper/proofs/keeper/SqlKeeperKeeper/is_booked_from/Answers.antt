use Rattle.std.proofs.Common.{◌≡◌, Err, None, Ok, sym, ap, subst, filter, ◌∙◌, rules}
use Rattle.sqlite.specs.Held.{state}
use Rattle.pt_desk_store.specs.Store.{Goes}
use Rattle.std.specs.Prelude.{nat_le}
use Rattle.pt_desk_rules.specs.Planned.{is_booked_from}
use Rattle.pt_desk_rules.specs.State.{State}
use Rattle.pt_tables_keeper.proofs.ReadLemmas.{booked_later, caused_not, reads_not, reads_on, step_by}
use Rattle.pt_tables_keeper.specs.Keeper.{KeptTables, kept_store, store_of}
use Rattle.pt_tables_keeper.proofs.keeper.SqlKeeperKeeper.is_booked_from.Goals as goal

pub invariant_of-self : goal.invariant_of-self
invariant_of-self g c =
    let none : c.self.inside.failures ≡ 0 = ap (λ (k : KeptTables _). k.failures) c.self.view_is ∙ c.in_ok-serve.ensures.served in
    step_by g.S.Store c.self.inside.conn c.trips_from_day-found.new.conn c.self.inside.failures c.count.new.failures c.self.inside.known.content c.trips_from_day-found.result c.count.result
    none c.self.invariant c.trips_from_day-found.ensures.rests (λ db here left. g.met.S.Store.settled c.trips_from_day-found.new.conn.store db here left) c.count.ensures.counts

pub invariant_of-self-2 : goal.invariant_of-self-2
invariant_of-self-2 g c =
    let none : c.self.inside.failures ≡ 0 = ap (λ (k : KeptTables _). k.failures) c.self.view_is ∙ c.in_ok-serve.ensures.served in
    step_by g.S.Store c.self.inside.conn c.trips_from_day-found.new.conn c.self.inside.failures c.count.new.failures c.self.inside.known.content c.trips_from_day-found.result c.count.result
    none c.self.invariant c.trips_from_day-found.ensures.rests (λ db here left. g.met.S.Store.settled c.trips_from_day-found.new.conn.store db here left) c.count.ensures.counts

pub returns-in_err-trips-clause-reads : goal.returns-in_err-trips-clause-reads
returns-in_err-trips-clause-reads g c =
    let none : c.self.inside.failures ≡ 0 = ap (λ (k : KeptTables _). k.failures) c.self.view_is ∙ c.in_ok-serve.ensures.served in
    let e = c.in_err-trips.field-0.0 in
    let passed : c.from_residual-in_err-trips.result ≡ Err e = search rules in
    reads_not g.S.Store c.self.inside.conn c.trips_from_day-found.new.conn c.self.inside.failures c.count.new.failures c.self.inside.known.content c.trips_from_day-found.result c.count.result
    none c.self.invariant c.trips_from_day-found.ensures.rests (λ db here left. g.met.S.Store.settled c.trips_from_day-found.new.conn.store db here left) c.count.ensures.counts
    c.args.self.now (λ (s : State). filter (λ trip. nat_le c.args.day trip.wish.day) s.trips) c.self.view_is
    c.trips_from_day-found.ensures.told e c.in_err-trips.was
    (is_booked_from c.args.vehicle c.args.day c.args.self.now.content.trips) c.from_residual-in_err-trips.result
    passed

pub returns-clause-reads : goal.returns-clause-reads
returns-clause-reads g c =
    let none : c.self.inside.failures ≡ 0 = ap (λ (k : KeptTables _). k.failures) c.self.view_is ∙ c.in_ok-serve.ensures.served in
    let made = is_booked_from c.args.vehicle c.args.day in
    let read = reads_on g.S.Store c.self.inside.conn c.trips_from_day-found.new.conn c.self.inside.failures
    c.count.new.failures c.self.inside.known.content c.trips_from_day-found.result c.count.result
    none c.self.invariant c.trips_from_day-found.ensures.rests (λ db here left. g.met.S.Store.settled c.trips_from_day-found.new.conn.store db here left) c.count.ensures.counts
    c.args.self.now (λ (s : State). filter (λ trip. nat_le c.args.day trip.wish.day) s.trips) c.self.view_is c.trips_from_day-found.ensures.told c.in_ok-trips.trips c.in_ok-trips.was made in
    let after = (kept_store (state g.S.Store c.trips_from_day-found.new.conn) c.self.inside.known.content c.count.new.failures c.self.inside.unfit) in
    subst (λ a. Goes (store_of g.S.Store c.args.self.now) after (made c.args.self.now.content.trips) None (Ok a))
    (sym (c.is_booked_from.ensures.value ∙ ap made c.as_slice.ensures.value))
    (subst (λ v. Goes (store_of g.S.Store c.args.self.now) after v None (Ok (made c.in_ok-trips.trips))) (booked_later c.args.vehicle c.args.day c.args.self.now.content.trips) read)

pub returns-in_err-trips-clause-caused : goal.returns-in_err-trips-clause-caused
returns-in_err-trips-clause-caused g c =
    let none : c.self.inside.failures ≡ 0 = ap (λ (k : KeptTables _). k.failures) c.self.view_is ∙ c.in_ok-serve.ensures.served in
    let e = c.in_err-trips.field-0.0 in
    let passed : c.from_residual-in_err-trips.result ≡ Err e = search rules in
    caused_not g.S.Store c.self.inside.conn c.trips_from_day-found.new.conn c.self.inside.failures c.count.new.failures c.self.inside.known.content c.trips_from_day-found.result c.count.result
    none c.self.invariant c.trips_from_day-found.ensures.rests (λ db here left. g.met.S.Store.settled c.trips_from_day-found.new.conn.store db here left) c.count.ensures.counts
    c.args.self.now c.self.view_is c.trips_from_day-found.ensures.excused e c.in_err-trips.was c.from_residual-in_err-trips.result passed
