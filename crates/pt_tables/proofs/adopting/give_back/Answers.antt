use Rattle.std.proofs.Common.{◌≡◌, false, inl, inr, refl, sym, ◌∙◌}
use Rattle.sqlite.specs.Held.{state}
use Rattle.pt_tables.proofs.AdoptLemmas.{broken_failed}
use Rattle.pt_tables.proofs.RowidLemmas.{open_store}
use Rattle.pt_tables.proofs.adopting.give_back.Goals as goal

pub returns-then-is_broken-clause-told : goal.returns-then-is_broken-clause-told
returns-then-is_broken-clause-told g c =
    let old = state g.S.Store c.args.conn in
    let store = c.into_store-store.result in
    let done = c.into_store-store.ensures in
    inr (
      refl,
      λ clean. broken_failed old (g.S.Store.view store) (g.S.Store.faults store) (λ here. (done.undone.undone here).1) (done.quiet.closes clean)
          (sym (c.is_broken.ensures clean) ∙ c.if-is_broken.true) old.is_open refl,
    )

pub returns-clause-told : goal.returns-clause-told
returns-clause-told g c =
    let store = c.into_store-store.result in
    let v = g.S.Store.view store in
    let done = c.into_store-store.ensures in
    inl (
      refl,
      λ clean.
          let sound : v.is_broken ≡ false = sym (c.is_broken.ensures clean) ∙ c.if-is_broken.false in
          (done.undone.kept clean).was_open (open_store v (g.met.S.Store.broken_if_shut store) sound),
    )
