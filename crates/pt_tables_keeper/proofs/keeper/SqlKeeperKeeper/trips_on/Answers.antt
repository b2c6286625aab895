use Rattle.std.proofs.Common.{◌≡◌, ap, ◌∙◌, arith}
use Rattle.pt_desk_rules.specs.Planned.{trips_on}
use Rattle.pt_desk_rules.specs.State.{State}
use Rattle.pt_tables_keeper.proofs.ReadLemmas.{caused_by, reads_by, step_by}
use Rattle.pt_tables_keeper.specs.Keeper.{KeptTables}
use Rattle.pt_tables_keeper.proofs.keeper.SqlKeeperKeeper.trips_on.Goals as goal

pub invariant_of-self : goal.invariant_of-self
invariant_of-self g c =
    let none : c.self.inside.failures ≡ 0 = ap (λ (k : KeptTables _). k.failures) c.self.view_is ∙ c.in_ok-serve.ensures.served in
    step_by g.S.Store c.self.inside.conn c.trips_by_day-found.new.conn c.self.inside.failures c.count.new.failures c.self.inside.known.content c.trips_by_day-found.result c.count.result
    none c.self.invariant c.trips_by_day-found.ensures.rests (λ db here left. g.met.S.Store.settled c.trips_by_day-found.new.conn.store db here left) c.count.ensures.counts

pub returns : goal.returns
returns g c =
    let none : c.self.inside.failures ≡ 0 = ap (λ (k : KeptTables _). k.failures) c.self.view_is ∙ c.in_ok-serve.ensures.served in
    record {
      reads = reads_by g.S.Store c.self.inside.conn c.trips_by_day-found.new.conn c.self.inside.failures c.count.new.failures c.self.inside.known.content c.trips_by_day-found.result c.count.result
          none c.self.invariant c.trips_by_day-found.ensures.rests (λ db here left. g.met.S.Store.settled c.trips_by_day-found.new.conn.store db here left) c.count.ensures.counts
          c.args.self.now (λ (s : State). trips_on c.args.day s.trips) c.self.view_is c.trips_by_day-found.ensures.told;
      refuses = λ some. absurd (let zero : c.args.self.now.failures ≡ 0 = c.in_ok-serve.ensures.served in omega arith);
      caused = caused_by g.S.Store c.self.inside.conn c.trips_by_day-found.new.conn c.self.inside.failures c.count.new.failures c.self.inside.known.content c.trips_by_day-found.result c.count.result
          none c.self.invariant c.trips_by_day-found.ensures.rests (λ db here left. g.met.S.Store.settled c.trips_by_day-found.new.conn.store db here left) c.count.ensures.counts
          c.args.self.now c.self.view_is c.trips_by_day-found.ensures.excused;
    }
