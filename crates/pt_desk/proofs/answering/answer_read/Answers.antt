use Rattle.std.proofs.Common.{refl}
use Rattle.pt_desk_rules.specs.Step.{IsReadOutcome}
use Rattle.pt_desk_requests.specs.declared.request.Answer.TheVariants.{Done}
use Rattle.pt_desk_store.specs.Store.{Answers}
use Rattle.pt_desk_store.specs.declared.keeper.StoreFault.TheVariants.{Memory}
use Rattle.pt_desk.proofs.AnswerLemmas.{known_told, read_fault, read_memory, handed}
use Rattle.pt_desk.proofs.answering.answer_read.Goals as goal

pub returns-in_err-facts : goal.returns-in_err-facts
returns-in_err-facts g c =
    let a = g.K.Keeper.store c.args.keeper.now in
    let b = g.K.Keeper.store c.gather_read.new.keeper in
    let Is = IsReadOutcome c.args.read.now c.args.me.now c.args.now in
    record {
      goes = handed (λ r. Answers a b Is r) c.in_err-facts.field-0.0 c.from_residual.result c.from_residual.ensures.1
          (read_fault a b _ Done c.in_err-facts.field-0.0 Is c.in_err-facts.ensures.reads.goes.1);
    }

pub returns-in_err-tell : goal.returns-in_err-tell
returns-in_err-tell g c =
    let a = g.K.Keeper.store c.args.keeper.now in
    let b = g.K.Keeper.store c.gather_read.new.keeper in
    let Is = IsReadOutcome c.args.read.now c.args.me.now c.args.now in
    record {
      goes = handed (λ r. Answers a b Is r) Memory c.from_residual-in_err-tell.result c.from_residual-in_err-tell.ensures.1
          (read_memory a b c.in_ok-facts.facts _ Done Is c.in_ok-facts.ensures.reads.goes.1);
    }

pub returns : goal.returns
returns g c =
    let a = g.K.Keeper.store c.args.keeper.now in
    let b = g.K.Keeper.store c.gather_read.new.keeper in
    let Is = IsReadOutcome c.args.read.now c.args.me.now c.args.now in
    record {
      goes = known_told a b c.in_ok-facts.facts _ c.in_ok-tell.field-0 Is c.in_ok-facts.ensures.reads.goes.1
          (λ clean. (c.in_ok-facts.ensures.reads.is clean c.args.me.now c.args.now c.in_ok-tell.field-0 c.in_ok-tell.ensures.value, refl));
    }
