use Rattle.std.proofs.Common.{◌≡◌, false, IsTrue, refl, sym, ap, subst, ◌∙◌, arith}
use Rattle.sqlite.specs.Schema.{Schema}
use Rattle.sqlite.specs.Tree.{Trees}
use Rattle.sqlite_catalog.specs.Listing.{IsSound}
use Rattle.sqlite.specs.Effect.{Database}
use Rattle.sqlite.specs.Held.{state}
use Rattle.sqlite.specs.View.{IsClean}
use Rattle.pt_tables.proofs.AdoptLemmas.{broken_failed, open_failed}
use Rattle.pt_tables.proofs.RowidLemmas.{open_store, reopens}
use Rattle.pt_tables.proofs.adopting.reopen.Goals as goal

pub returns-in-Ok-clause-opened : goal.returns-in-Ok-clause-opened
returns-in-Ok-clause-opened g c clean =
    let store = c.into_store-store.result in
    let v = g.S.Store.view store in
    let early : IsClean v = omega (arith, clean, c.in-Ok.ensures.clean) in
    let sound : v.is_broken ≡ false = sym (c.is_broken.ensures early) ∙ c.if-is_broken.false in
    let opens = c.in-Ok.ensures.opens clean in
    reopens v (state g.S.Store c.args.conn) (state g.S.Store c.in-Ok.conn) sound (g.met.S.Store.broken_if_shut store) (g.met.S.Store.ordered store sound)
    (g.met.S.Alter.listed store sound) (λ here. (c.into_store-store.ensures.undone.undone here).0) (c.in-Ok.ensures.trees clean) opens.0 opens.1

pub returns-in-Err-clause-kept : goal.returns-in-Err-clause-kept
returns-in-Err-clause-kept g c clean here =
    let store = c.into_store-store.result in
    let v = g.S.Store.view store in
    let early : IsClean v = omega (arith, clean, c.in-Err.ensures.unharmed.clean) in
    let sound : v.is_broken ≡ false = sym (c.is_broken.ensures early) ∙ c.if-is_broken.false in
    c.in-Err.ensures.rows clean here ∙ (c.into_store-store.ensures.undone.undone (open_store v (g.met.S.Store.broken_if_shut store) sound)).0

pub returns-in-Ok-clause-crash : goal.returns-in-Ok-clause-crash
returns-in-Ok-clause-crash g c clean db left =
    let old = state g.S.Store c.args.conn in
    let store = c.into_store-store.result in
    let v = g.S.Store.view store in
    let early : IsClean v = omega (arith, clean, c.in-Ok.ensures.clean) in
    let sound : v.is_broken ≡ false = sym (c.is_broken.ensures early) ∙ c.if-is_broken.false in
    let here : IsTrue v.is_open = open_store v (g.met.S.Store.broken_if_shut store) sound in
    let opens = c.in-Ok.ensures.opens clean in
    let same : db ≡ old.committed.trees =
    g.met.S.Store.settled c.in-Ok.conn.store db opens.0.is_open left ∙ ap (λ (d : Database). d.trees) (sym opens.0.clean) ∙ c.in-Ok.ensures.trees clean
    ∙ (c.into_store-store.ensures.undone.undone here).0 in
    subst old.may_leave (sym same) (g.met.S.Store.stays c.args.conn.store ((c.into_store-store.ensures.undone.kept early).was_open here))

pub returns-in-Err-clause-crash : goal.returns-in-Err-clause-crash
returns-in-Err-clause-crash g c clean db left =
    c.into_store-store.ensures.quiet.outcomes db (c.in-Err.ensures.unharmed.outcomes db left)

pub returns-in-Ok-clause-clean : goal.returns-in-Ok-clause-clean
returns-in-Ok-clause-clean g c = omega (arith, c.into_store-store.ensures.quiet.clean, c.in-Ok.ensures.clean)

pub returns-in-Err-clause-clean : goal.returns-in-Err-clause-clean
returns-in-Err-clause-clean g c = omega (arith, c.into_store-store.ensures.quiet.clean, c.in-Err.ensures.unharmed.clean)

pub returns-in-Ok-clause-was_open : goal.returns-in-Ok-clause-was_open
returns-in-Ok-clause-was_open g c clean =
    let store = c.into_store-store.result in
    let v = g.S.Store.view store in
    let early : IsClean v = omega (arith, clean, c.in-Ok.ensures.clean) in
    let sound : v.is_broken ≡ false = sym (c.is_broken.ensures early) ∙ c.if-is_broken.false in
    (c.into_store-store.ensures.undone.kept early).was_open (open_store v (g.met.S.Store.broken_if_shut store) sound)

pub returns-in-Err-clause-was_open : goal.returns-in-Err-clause-was_open
returns-in-Err-clause-was_open g c clean here =
    let store = c.into_store-store.result in
    let v = g.S.Store.view store in
    let early : IsClean v = omega (arith, clean, c.in-Err.ensures.unharmed.clean) in
    let sound : v.is_broken ≡ false = sym (c.is_broken.ensures early) ∙ c.if-is_broken.false in
    (c.into_store-store.ensures.undone.kept early).was_open (open_store v (g.met.S.Store.broken_if_shut store) sound)

pub returns-in-Err-clause-counts : goal.returns-in-Err-clause-counts
returns-in-Err-clause-counts g c = omega (arith, c.into_store-store.ensures.quiet.counts, c.in-Err.ensures.unharmed.counts)

pub returns-then-is_broken-clause-caused : goal.returns-then-is_broken-clause-caused
returns-then-is_broken-clause-caused g c is clean =
    let old = state g.S.Store c.args.conn in
    let store = c.into_store-store.result in
    let done = c.into_store-store.ensures in
    broken_failed old (g.S.Store.view store) (g.S.Store.faults store) (λ here. (done.undone.undone here).1) (done.quiet.closes clean) (sym (c.is_broken.ensures clean) ∙ c.if-is_broken.true) old.is_open refl

pub returns-in-Err-clause-caused : goal.returns-in-Err-clause-caused
returns-in-Err-clause-caused g c is clean =
    let old = state g.S.Store c.args.conn in
    let store = c.into_store-store.result in
    let v = g.S.Store.view store in
    let done = c.into_store-store.ensures in
    let early : IsClean v = omega (arith, clean, c.in-Err.ensures.unharmed.clean) in
    let sound : v.is_broken ≡ false = sym (c.is_broken.ensures early) ∙ c.if-is_broken.false in
    let here : IsTrue v.is_open = open_store v (g.met.S.Store.broken_if_shut store) sound in
    let fresh : v.trees ≡ v.committed = (done.undone.undone here).0 ∙ sym ((done.undone.kept early).committed here) in
    let database = subst (λ (trees : Trees). (schema : Schema) × IsSound schema trees) (sym fresh) (done.sound early v.committed (g.met.S.Store.stays store here)) in
    open_failed old (g.S.Store.faults store) (g.S.Store.faults c.in-Err.store) v.trees c.in-Err.error c.fault_of.result done.quiet.counts database c.fault_of.ensures.memory
    (c.in-Err.ensures.err clean) is
