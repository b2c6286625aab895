use Rattle.std.proofs.Common.{sym, ◌∙◌}
use Rattle.pt_tables_keeper.proofs.PlanLemmas.{found_already}
use Rattle.pt_tables_keeper.proofs.plans.read_unread.Goals as goal

pub returns-then-is_some-clause-told : goal.returns-then-is_some-clause-told
returns-then-is_some-clause-told g c = λ clean content readable held are.
    found_already content.planned c.args.plans.now.items c.args.key.now c.find.result are c.find.ensures.value
    (sym c.is_some.ensures ∙ c.if-is_some.true)
