use Rattle.std.proofs.Common.{refl, subst}
use Rattle.pt_desk_rules.specs.Explaining.{IsExplained}
use Rattle.pt_desk_rules.specs.Step.{IsExplainOutcome}
use Rattle.pt_desk_requests.specs.declared.request.Answer.TheVariants.{Done}
use Rattle.pt_desk_store.specs.Store.{Answers}
use Rattle.pt_desk_store.specs.declared.keeper.StoreFault.TheVariants.{Memory}
use Rattle.pt_desk.proofs.AnswerLemmas.{read_told, read_fault, read_memory, handed}
use Rattle.pt_desk.proofs.answering.answer_explain.Goals as goal

pub returns-in_err-facts : goal.returns-in_err-facts
returns-in_err-facts g c =
    let a = g.K.Keeper.store c.args.keeper.now in
    let b = g.K.Keeper.store c.gather_wish.new.keeper in
    let Is = IsExplainOutcome c.args.rider c.args.wish.now c.args.me.now c.args.now in
    record {
      goes = handed (λ r. Answers a b Is r) c.in_err-facts.field-0.0 c.from_residual.result c.from_residual.ensures.1
          (read_fault a b _ Done c.in_err-facts.field-0.0 Is c.in_err-facts.ensures.reads);
    }

pub returns-in_err-explain : goal.returns-in_err-explain
returns-in_err-explain g c =
    let a = g.K.Keeper.store c.args.keeper.now in
    let b = g.K.Keeper.store c.gather_wish.new.keeper in
    let Is = IsExplainOutcome c.args.rider c.args.wish.now c.args.me.now c.args.now in
    record {
      goes = handed (λ r. Answers a b Is r) Memory c.from_residual-in_err-explain.result c.from_residual-in_err-explain.ensures.1
          (read_memory a b c.in_ok-facts.facts _ Done Is c.in_ok-facts.ensures.reads);
    }

pub returns : goal.returns
returns g c =
    let a = g.K.Keeper.store c.args.keeper.now in
    let b = g.K.Keeper.store c.gather_wish.new.keeper in
    let Is = IsExplainOutcome c.args.rider c.args.wish.now c.args.me.now c.args.now in
    record {
      goes = read_told a b c.in_ok-facts.facts _ c.in_ok-explain.field-0 Is c.in_ok-facts.ensures.reads
          (λ is. (subst (λ facts. IsExplained c.args.wish.now c.args.me.now c.args.now facts c.in_ok-explain.field-0) is c.in_ok-explain.ensures.value, refl));
    }
