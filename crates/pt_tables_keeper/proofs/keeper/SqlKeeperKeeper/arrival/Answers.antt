use Rattle.std.proofs.Common.{◌≡◌, Err, None, Ok, sym, ap, subst, ◌∙◌, rules}
use Rattle.sqlite.specs.Held.{state}
use Rattle.pt_desk_store.specs.Store.{Goes}
use Rattle.pt_desk_rules.specs.Arrival.{arrival_of}
use Rattle.pt_desk_rules.specs.State.{kept_of}
use Rattle.pt_tables_keeper.proofs.ReadLemmas.{caused_not, reads_not, reads_on, step_by}
use Rattle.pt_tables_keeper.specs.Keeper.{KeptTables, kept_store, store_of}
use Rattle.pt_tables_keeper.proofs.keeper.SqlKeeperKeeper.arrival.Goals as goal

pub invariant_of-self : goal.invariant_of-self
invariant_of-self g c =
    let none : c.self.inside.failures ≡ 0 = ap (λ (k : KeptTables _). k.failures) c.self.view_is ∙ c.in_ok-serve.ensures.served in
    step_by g.S.Store c.self.inside.conn c.kept_by_caller-found.new.conn c.self.inside.failures c.count.new.failures c.self.inside.known.content c.kept_by_caller-found.result c.count.result
    none c.self.invariant c.kept_by_caller-found.ensures.rests (λ db here left. g.met.S.Store.settled c.kept_by_caller-found.new.conn.store db here left) c.count.ensures.counts

pub invariant_of-self-2 : goal.invariant_of-self-2
invariant_of-self-2 g c =
    let none : c.self.inside.failures ≡ 0 = ap (λ (k : KeptTables _). k.failures) c.self.view_is ∙ c.in_ok-serve.ensures.served in
    step_by g.S.Store c.self.inside.conn c.kept_by_caller-found.new.conn c.self.inside.failures c.count.new.failures c.self.inside.known.content c.kept_by_caller-found.result c.count.result
    none c.self.invariant c.kept_by_caller-found.ensures.rests (λ db here left. g.met.S.Store.settled c.kept_by_caller-found.new.conn.store db here left) c.count.ensures.counts

pub returns-in_err-last-clause-reads : goal.returns-in_err-last-clause-reads
returns-in_err-last-clause-reads g c =
    let none : c.self.inside.failures ≡ 0 = ap (λ (k : KeptTables _). k.failures) c.self.view_is ∙ c.in_ok-serve.ensures.served in
    let e = c.in_err-last.field-0.0 in
    let passed : c.from_residual-in_err-last.result ≡ Err e = search rules in
    reads_not g.S.Store c.self.inside.conn c.kept_by_caller-found.new.conn c.self.inside.failures c.count.new.failures c.self.inside.known.content c.kept_by_caller-found.result c.count.result
    none c.self.invariant c.kept_by_caller-found.ensures.rests (λ db here left. g.met.S.Store.settled c.kept_by_caller-found.new.conn.store db here left) c.count.ensures.counts
    c.args.self.now (kept_of c.args.caller) c.self.view_is c.kept_by_caller-found.ensures.told e c.in_err-last.was
    (arrival_of c.args.number c.args.request.now (kept_of c.args.caller c.args.self.now.content))
    c.from_residual-in_err-last.result passed

pub returns-clause-reads : goal.returns-clause-reads
returns-clause-reads g c =
    let none : c.self.inside.failures ≡ 0 = ap (λ (k : KeptTables _). k.failures) c.self.view_is ∙ c.in_ok-serve.ensures.served in
    let made = arrival_of c.args.number c.args.request.now in
    let read = reads_on g.S.Store c.self.inside.conn c.kept_by_caller-found.new.conn c.self.inside.failures
    c.count.new.failures c.self.inside.known.content c.kept_by_caller-found.result c.count.result
    none c.self.invariant c.kept_by_caller-found.ensures.rests (λ db here left. g.met.S.Store.settled c.kept_by_caller-found.new.conn.store db here left) c.count.ensures.counts
    c.args.self.now (kept_of c.args.caller) c.self.view_is c.kept_by_caller-found.ensures.told c.in_ok-last.last c.in_ok-last.was made in
    let after = (kept_store (state g.S.Store c.kept_by_caller-found.new.conn) c.self.inside.known.content c.count.new.failures c.self.inside.unfit) in
    subst (λ a. Goes (store_of g.S.Store c.args.self.now) after (made (kept_of c.args.caller c.args.self.now.content)) None (Ok a))
    (sym (c.of.ensures.value ∙ ap made c.as_ref.ensures.value)) read

pub returns-in_err-last-clause-caused : goal.returns-in_err-last-clause-caused
returns-in_err-last-clause-caused g c =
    let none : c.self.inside.failures ≡ 0 = ap (λ (k : KeptTables _). k.failures) c.self.view_is ∙ c.in_ok-serve.ensures.served in
    let e = c.in_err-last.field-0.0 in
    let passed : c.from_residual-in_err-last.result ≡ Err e = search rules in
    caused_not g.S.Store c.self.inside.conn c.kept_by_caller-found.new.conn c.self.inside.failures c.count.new.failures c.self.inside.known.content c.kept_by_caller-found.result c.count.result
    none c.self.invariant c.kept_by_caller-found.ensures.rests (λ db here left. g.met.S.Store.settled c.kept_by_caller-found.new.conn.store db here left) c.count.ensures.counts
    c.args.self.now c.self.view_is c.kept_by_caller-found.ensures.excused e c.in_err-last.was c.from_residual-in_err-last.result passed
