use Rattle.std.proofs.Common.{sym, subst, Some}
use Rattle.pt_desk_rules.specs.State.{applied}
use Rattle.pt_desk_rules.specs.Step.{left_of, told_of}
use Rattle.pt_desk_rules.specs.declared.deciding.Decision.{Decision}
use Rattle.pt_desk.specs.Fitting.{ChangesByRules}
use Rattle.pt_desk_store.specs.Store.{Fits, Goes}
use Rattle.pt_desk.proofs.AnswerLemmas.{fault_as, handed}
use Rattle.pt_desk.proofs.answering.carry_out.Goals as goal

pub returns-in_err-commit-in-Accepted : goal.returns-in_err-commit-in-Accepted
returns-in_err-commit-in-Accepted g c =
    let a = g.K.Keeper.store c.args.keeper.now in
    let b = g.K.Keeper.store c.commit.new.self in
    let e = c.in_err-commit-in-Accepted.field-0.0 in
    let left = Some (applied c.in-Accepted.change a.content) in
    record {
      goes = subst (λ (d : Decision). Goes a b (told_of d) (left_of d a.content) c.from_residual.result) (sym c.in-Accepted.is)
          (handed (λ r. Goes a b c.in-Accepted.answer left r) e c.from_residual.result c.from_residual.ensures.1
          (fault_as a b tt c.in-Accepted.answer left e c.in_err-commit-in-Accepted.ensures.commits));
      fits = subst (λ (d : Decision). Fits a b (ChangesByRules d)) (sym c.in-Accepted.is) c.in_err-commit-in-Accepted.ensures.fits;
    }
