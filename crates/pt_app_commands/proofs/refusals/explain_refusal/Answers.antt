use Rattle.pt_app_commands.proofs.RefusalLemmas.{explained_none}
use Rattle.pt_app_commands.proofs.refusals.explain_refusal.Goals as goal

pub returns-in-Ok-Facts-clause-refused : goal.returns-in-Ok-Facts-clause-refused
returns-in-Ok-Facts-clause-refused g c = λ done clean sound number told left outcome.
    explained_none c.args.key.now c.args.now c.args.rider c.args.wish.now (g.K.Keeper.store c.args.keeper.now).content
    c.in-Ok-Facts.field-0 c.in-Ok-Facts.found (g.W.Write.contents c.args.out.now) (g.W.Write.contents c.print_refusal.new.out)
    c.print_refusal.result c.in-Ok-Facts.field-0-is c.print_refusal.ensures done (c.in-Ok-Facts.ensures.found clean) sound number told left
    outcome
