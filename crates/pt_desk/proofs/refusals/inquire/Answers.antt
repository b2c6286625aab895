use Rattle.std.proofs.Common.{◌≡◌, arith}
use Rattle.pt_base_values.specs.declared.rule.Rule.TheVariants.{Key}
use Rattle.pt_desk.proofs.AnswerLemmas.{changes_nothing, shut_out}
use Rattle.pt_desk.proofs.RefusalLemmas.{found_by, inquiry_commits_nothing}
use Rattle.pt_desk.proofs.refusals.inquire.Goals as goal
use Rattle.pt_desk.specs.Refusals.{IsFacts}
use Rattle.pt_desk_rules.specs.Step.{sender}
use Rattle.pt_desk_reads.specs.declared.explaining.Inquiry.TheVariants.{Denied}

pub returns-then-failures-gt0-clause-goes : goal.returns-then-failures-gt0-clause-goes
returns-then-failures-gt0-clause-goes g c =
    shut_out (g.K.Keeper.store c.args.keeper.now) (Denied Key)
    (IsFacts c.args.key.now c.args.now c.args.rider c.args.wish.now)
    (let value : c.failures.result ≡ (g.K.Keeper.store c.args.keeper.now).failures = c.failures.ensures.value in
    omega (arith, value, c.if-failures-gt0.true))

pub returns-clause-unchanged : goal.returns-clause-unchanged
returns-clause-unchanged g c =
    changes_nothing (g.K.Keeper.store c.args.keeper.now) (g.K.Keeper.store c.inquire_by_key.new.keeper)
    (IsFacts c.args.key.now c.args.now c.args.rider c.args.wish.now) c.inquire_by_key.result
    c.inquire_by_key.ensures.goes
    (λ found left agrees is. inquiry_commits_nothing (sender c.args.key.now (g.K.Keeper.store c.args.keeper.now).content)
    c.args.now c.args.rider c.args.wish.now (g.K.Keeper.store c.args.keeper.now).content found left is)

pub returns-clause-found : goal.returns-clause-found
returns-clause-found g c = λ clean.
    let a = g.K.Keeper.store c.args.keeper.now in
    let b = g.K.Keeper.store c.inquire_by_key.new.keeper in
    found_by a b c.args.key.now c.args.now c.args.rider c.args.wish.now c.inquire_by_key.result
    c.inquire_by_key.ensures.goes clean
