use Rattle.std.proofs.Common.{◌≡◌, refl, arith}
use Rattle.pt_tables_keeper.proofs.ReadLemmas.{reads_held}
use Rattle.pt_tables_keeper.proofs.keeper.SqlKeeper.serve_known.Goals as goal

pub returns : goal.returns
returns g c =
    let now = c.args.self.now in
    record {
      reads = reads_held g.S.Store now.conn now.failures now.unfit now.content now (λ _. c.args.value) c.args.value refl (λ _. refl);
      refuses = λ some. absurd (let zero : now.failures ≡ 0 = c.in_ok-serve.ensures.served in omega arith);
    }
