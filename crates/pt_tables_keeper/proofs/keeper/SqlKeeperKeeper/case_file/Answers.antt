use Rattle.std.proofs.Common.{◌≡◌, Err, None, Ok, sym, ap, subst, ◌∙◌, rules}
use Rattle.sqlite.specs.Held.{state}
use Rattle.pt_desk_store.specs.Store.{Goes}
use Rattle.pt_desk_store.specs.declared.keeper.StoreFault.TheVariants.{Memory}
use Rattle.pt_desk_rules.specs.State.{State, entries_of, file_of, file_with}
use Rattle.pt_tables_keeper.proofs.ReadLemmas.{caused_not, reads_not, reads_on, reads_wanting, step_by}
use Rattle.pt_tables_keeper.specs.Keeper.{KeptTables, kept_store, store_of}
use Rattle.pt_tables_keeper.proofs.keeper.SqlKeeperKeeper.case_file.Goals as goal

pub invariant_of-self : goal.invariant_of-self
invariant_of-self g c =
    let none : c.self.inside.failures ≡ 0 = ap (λ (k : KeptTables _). k.failures) c.self.view_is ∙ c.in_ok-serve.ensures.served in
    step_by g.S.Store c.self.inside.conn c.entries_by_rider-found.new.conn c.self.inside.failures c.count.new.failures c.self.inside.known.content c.entries_by_rider-found.result c.count.result
    none c.self.invariant c.entries_by_rider-found.ensures.rests (λ db here left. g.met.S.Store.settled c.entries_by_rider-found.new.conn.store db here left) c.count.ensures.counts

pub invariant_of-self-in_err-file_with : goal.invariant_of-self-in_err-file_with
invariant_of-self-in_err-file_with g c =
    let none : c.self.inside.failures ≡ 0 = ap (λ (k : KeptTables _). k.failures) c.self.view_is ∙ c.in_ok-serve.ensures.served in
    step_by g.S.Store c.self.inside.conn c.entries_by_rider-found.new.conn c.self.inside.failures c.count.new.failures c.self.inside.known.content c.entries_by_rider-found.result c.count.result
    none c.self.invariant c.entries_by_rider-found.ensures.rests (λ db here left. g.met.S.Store.settled c.entries_by_rider-found.new.conn.store db here left) c.count.ensures.counts

pub invariant_of-self-2 : goal.invariant_of-self-2
invariant_of-self-2 g c =
    let none : c.self.inside.failures ≡ 0 = ap (λ (k : KeptTables _). k.failures) c.self.view_is ∙ c.in_ok-serve.ensures.served in
    step_by g.S.Store c.self.inside.conn c.entries_by_rider-found.new.conn c.self.inside.failures c.count.new.failures c.self.inside.known.content c.entries_by_rider-found.result c.count.result
    none c.self.invariant c.entries_by_rider-found.ensures.rests (λ db here left. g.met.S.Store.settled c.entries_by_rider-found.new.conn.store db here left) c.count.ensures.counts

pub returns-in_err-entries-clause-reads : goal.returns-in_err-entries-clause-reads
returns-in_err-entries-clause-reads g c =
    let none : c.self.inside.failures ≡ 0 = ap (λ (k : KeptTables _). k.failures) c.self.view_is ∙ c.in_ok-serve.ensures.served in
    let e = c.in_err-entries.field-0.0 in
    let passed : c.from_residual-in_err-entries.result ≡ Err e = search rules in
    reads_not g.S.Store c.self.inside.conn c.entries_by_rider-found.new.conn c.self.inside.failures c.count.new.failures c.self.inside.known.content c.entries_by_rider-found.result c.count.result
    none c.self.invariant c.entries_by_rider-found.ensures.rests (λ db here left. g.met.S.Store.settled c.entries_by_rider-found.new.conn.store db here left) c.count.ensures.counts
    c.args.self.now (λ (s : State). entries_of c.args.rider s.entries) c.self.view_is
    c.entries_by_rider-found.ensures.told e c.in_err-entries.was (file_of c.args.rider c.args.self.now.content)
    c.from_residual-in_err-entries.result passed

pub returns-in_err-file_with-clause-reads : goal.returns-in_err-file_with-clause-reads
returns-in_err-file_with-clause-reads g c =
    let none : c.self.inside.failures ≡ 0 = ap (λ (k : KeptTables _). k.failures) c.self.view_is ∙ c.in_ok-serve.ensures.served in
    let wanting : c.from_residual-in_err-file_with.result ≡ Err Memory = search rules in
    reads_wanting g.S.Store c.self.inside.conn c.entries_by_rider-found.new.conn c.self.inside.failures
    c.count.new.failures c.self.inside.known.content c.entries_by_rider-found.result c.count.result
    none c.self.invariant c.entries_by_rider-found.ensures.rests (λ db here left. g.met.S.Store.settled c.entries_by_rider-found.new.conn.store db here left) c.count.ensures.counts
    c.args.self.now (λ (s : State). entries_of c.args.rider s.entries) c.self.view_is
    c.entries_by_rider-found.ensures.told c.in_ok-entries.entries c.in_ok-entries.was
    (file_of c.args.rider c.args.self.now.content) c.from_residual-in_err-file_with.result wanting

pub returns-clause-reads : goal.returns-clause-reads
returns-clause-reads g c =
    let none : c.self.inside.failures ≡ 0 = ap (λ (k : KeptTables _). k.failures) c.self.view_is ∙ c.in_ok-serve.ensures.served in
    let read = reads_on g.S.Store c.self.inside.conn c.entries_by_rider-found.new.conn c.self.inside.failures
    c.count.new.failures c.self.inside.known.content c.entries_by_rider-found.result c.count.result
    none c.self.invariant c.entries_by_rider-found.ensures.rests (λ db here left. g.met.S.Store.settled c.entries_by_rider-found.new.conn.store db here left) c.count.ensures.counts
    c.args.self.now (λ (s : State). entries_of c.args.rider s.entries) c.self.view_is c.entries_by_rider-found.ensures.told c.in_ok-entries.entries c.in_ok-entries.was file_with in
    let after = (kept_store (state g.S.Store c.entries_by_rider-found.new.conn) c.self.inside.known.content c.count.new.failures c.self.inside.unfit) in
    subst (λ file. Goes (store_of g.S.Store c.args.self.now) after (file_of c.args.rider c.args.self.now.content) None (Ok file))
    (sym (c.in_ok-file_with.ensures.value ∙ ap file_with c.as_slice.ensures.value)) read

pub returns-in_err-entries-clause-caused : goal.returns-in_err-entries-clause-caused
returns-in_err-entries-clause-caused g c =
    let none : c.self.inside.failures ≡ 0 = ap (λ (k : KeptTables _). k.failures) c.self.view_is ∙ c.in_ok-serve.ensures.served in
    let e = c.in_err-entries.field-0.0 in
    let passed : c.from_residual-in_err-entries.result ≡ Err e = search rules in
    caused_not g.S.Store c.self.inside.conn c.entries_by_rider-found.new.conn c.self.inside.failures c.count.new.failures c.self.inside.known.content c.entries_by_rider-found.result c.count.result
    none c.self.invariant c.entries_by_rider-found.ensures.rests (λ db here left. g.met.S.Store.settled c.entries_by_rider-found.new.conn.store db here left) c.count.ensures.counts
    c.args.self.now c.self.view_is c.entries_by_rider-found.ensures.excused e c.in_err-entries.was c.from_residual-in_err-entries.result passed
