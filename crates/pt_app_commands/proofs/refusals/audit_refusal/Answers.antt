use Rattle.pt_app_commands.proofs.RefusalLemmas.{audited_none}
use Rattle.pt_app_commands.proofs.refusals.audit_refusal.Goals as goal

pub returns-in-Ok-Facts-clause-refused : goal.returns-in-Ok-Facts-clause-refused
returns-in-Ok-Facts-clause-refused g c = λ done clean sound number told left outcome.
    audited_none c.args.key.now c.args.now c.args.rider c.args.wish.now (g.K.Keeper.store c.args.keeper.now).content
    c.args.log.now.lines.items c.in-Ok-Facts.field-0 c.in-Ok-Facts.found (g.W.Write.contents c.args.out.now)
    (g.W.Write.contents c.print_verdict.new.out) c.print_verdict.result c.in-Ok-Facts.field-0-is c.print_verdict.ensures done
    (c.in-Ok-Facts.ensures.found clean) sound number told left outcome
