use Rattle.pt_desk.proofs.RunLemmas.{told_after_a_crash}
use Rattle.pt_desk.proofs.laws.answers_outlive_crashes.Goals as goal

pub returns : goal.returns
returns g c = told_after_a_crash (g.K.Keeper.store c.args.before.now) (g.K.Keeper.store c.args.after.now)
