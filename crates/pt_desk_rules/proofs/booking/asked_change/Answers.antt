use Rattle.std.proofs.Common.{sym, ◌∙◌}
use Rattle.pt_desk_rules.proofs.RulingLemmas.{changeable}
use Rattle.pt_desk_rules.proofs.booking.asked_change.Goals as goal

pub returns-clause-allowed : goal.returns-clause-allowed
returns-clause-allowed c trip =
    changeable trip c.in-Some.old c.args.wish.now c.args.me.now c.args.now c.args.facts.now
    (sym c.may_alter.ensures ∙ c.if-not-may_alter.false) c.in-Some.is (sym c.in-Some-of.ensures.exists)
    (sym c.is_changeable.ensures ∙ c.if-not-is_changeable.false)
