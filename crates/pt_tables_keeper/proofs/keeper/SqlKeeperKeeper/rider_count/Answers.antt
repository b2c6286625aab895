use Rattle.std.proofs.Common.{◌≡◌, length, ap, ◌∙◌, arith}
use Rattle.pt_desk_rules.specs.State.{State}
use Rattle.pt_tables_keeper.proofs.ReadLemmas.{reads_held}
use Rattle.pt_tables_keeper.specs.Keeper.{KeptTables}
use Rattle.pt_tables_keeper.proofs.keeper.SqlKeeperKeeper.rider_count.Goals as goal

pub returns : goal.returns
returns g c =
    let none : c.self.inside.failures ≡ 0 = ap (λ (k : KeptTables _). k.failures) c.self.view_is ∙ c.in_ok-serve.ensures.served in
    record {
      reads = reads_held g.S.Store c.self.inside.conn c.self.inside.failures c.self.inside.unfit c.self.inside.known.content c.args.self.now
          (λ (s : State). length s.riders) c.self.inside.rider_count c.self.view_is (λ clean. c.self.invariant.counted none clean);
      refuses = λ some. absurd (let zero : c.args.self.now.failures ≡ 0 = c.in_ok-serve.ensures.served in omega arith);
    }
