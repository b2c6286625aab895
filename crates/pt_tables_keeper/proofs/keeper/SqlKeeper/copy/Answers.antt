use Rattle.std.proofs.Common.{◌≡◌, Err, refl, rules}
use Rattle.pt_desk_store.specs.declared.keeper.StoreFault.TheVariants.{Memory}
use Rattle.pt_tables_keeper.proofs.ReadLemmas.{reads_held, wants_held}
use Rattle.pt_tables_keeper.proofs.keeper.SqlKeeper.copy.Goals as goal

pub returns-in_err-to_vec-clause-reads : goal.returns-in_err-to_vec-clause-reads
returns-in_err-to_vec-clause-reads g c =
    let now = c.args.self.now in
    let wanting : c.from_residual-in_err-to_vec.result ≡ Err Memory = search rules in
    wants_held g.S.Store now.conn now.failures now.unfit now.content now c.args.records.now.items c.from_residual-in_err-to_vec.result refl wanting

pub returns-clause-reads : goal.returns-clause-reads
returns-clause-reads g c =
    let now = c.args.self.now in
    let is : c.of.result ≡ c.args.records.now.items = search rules in
    reads_held g.S.Store now.conn now.failures now.unfit now.content now (λ _. c.args.records.now.items) c.of.result refl (λ _. is)
