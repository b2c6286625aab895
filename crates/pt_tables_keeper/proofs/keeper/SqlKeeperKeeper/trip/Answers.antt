use Rattle.std.proofs.Common.{◌≡◌, ap, ◌∙◌, arith}
use Rattle.pt_desk_rules.specs.State.{trip_of}
use Rattle.pt_tables_keeper.proofs.ReadLemmas.{caused_by, reads_by, step_by}
use Rattle.pt_tables_keeper.specs.Keeper.{KeptTables}
use Rattle.pt_tables_keeper.proofs.keeper.SqlKeeperKeeper.trip.Goals as goal

pub invariant_of-self : goal.invariant_of-self
invariant_of-self g c =
    let none : c.self.inside.failures ≡ 0 = ap (λ (k : KeptTables _). k.failures) c.self.view_is ∙ c.in_ok-serve.ensures.served in
    step_by g.S.Store c.self.inside.conn c.trip_by_number-found.new.conn c.self.inside.failures c.count.new.failures c.self.inside.known.content c.trip_by_number-found.result c.count.result
    none c.self.invariant c.trip_by_number-found.ensures.rests (λ db here left. g.met.S.Store.settled c.trip_by_number-found.new.conn.store db here left) c.count.ensures.counts

pub returns : goal.returns
returns g c =
    let none : c.self.inside.failures ≡ 0 = ap (λ (k : KeptTables _). k.failures) c.self.view_is ∙ c.in_ok-serve.ensures.served in
    record {
      reads = reads_by g.S.Store c.self.inside.conn c.trip_by_number-found.new.conn c.self.inside.failures
          c.count.new.failures c.self.inside.known.content c.trip_by_number-found.result c.count.result
          none c.self.invariant c.trip_by_number-found.ensures.rests (λ db here left. g.met.S.Store.settled c.trip_by_number-found.new.conn.store db here left) c.count.ensures.counts
          c.args.self.now (trip_of c.args.id) c.self.view_is c.trip_by_number-found.ensures.told;
      refuses = λ some. absurd (let zero : c.args.self.now.failures ≡ 0 = c.in_ok-serve.ensures.served in omega arith);
      caused = caused_by g.S.Store c.self.inside.conn c.trip_by_number-found.new.conn c.self.inside.failures c.count.new.failures c.self.inside.known.content c.trip_by_number-found.result c.count.result
          none c.self.invariant c.trip_by_number-found.ensures.rests (λ db here left. g.met.S.Store.settled c.trip_by_number-found.new.conn.store db here left) c.count.ensures.counts
          c.args.self.now c.self.view_is c.trip_by_number-found.ensures.excused;
    }
