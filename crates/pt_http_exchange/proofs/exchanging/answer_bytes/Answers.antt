use Rattle.std.proofs.Common.{◌≡◌, inl, refl, rules}
use Rattle.pt_base_values.specs.declared.fault.Cause.TheVariants as cause
use Rattle.pt_base_values.specs.Fault.{fault}
use Rattle.pt_http_exchange.specs.Answering.{AnswersOne, CanBeAskedAgain}
use Rattle.pt_http_exchange.specs.Exchange.{IsExchangedOver}
use Rattle.pt_http_exchange.specs.Input.{HasInput}
use Rattle.pt_http_exchange.proofs.AnsweringLemmas.{again_failed, answers_failed, answers_none, answers_told, handed}
use Rattle.pt_http_exchange.proofs.exchanging.answer_bytes.Goals as goal

pub returns-in_default-clause-answers : goal.returns-in_default-clause-answers
returns-in_default-clause-answers g c =
    let none : c.of.result ≡ fault cause.Memory = search rules in
    answers_none _ _ (g.K.Keeper.store c.args.keeper.now) c.args.now (g.W.Write.contents c.args.out.now) _ c.of.result
    (inl none) (refl, refl)

pub returns-in_err-exchange-clause-answers : goal.returns-in_err-exchange-clause-answers
returns-in_err-exchange-clause-answers g c =
    let remaining = g.R.Read.remaining in
    let contents = g.W.Write.contents in
    let old = g.K.Keeper.store c.args.keeper.now in
    let new = g.K.Keeper.store c.exchange.new.keeper in
    handed
    (λ result. AnswersOne (HasInput remaining c.args.inbox.now)
    (λ input. IsExchangedOver remaining old new c.args.now input c.exchange.new.inbox) old new c.args.now
    (contents c.args.out.now) (contents c.exchange.new.out)
    ((c.exchange.new.keeper ≡ c.args.keeper.now) × (c.exchange.new.out ≡ c.args.out.now)) result)
    c.in_err-exchange.field-0.0 c.from_residual.result c.from_residual.ensures.1
    (answers_failed remaining c.args.inbox.now c.exchange.new.inbox old new c.args.now (contents c.args.out.now)
    (contents c.exchange.new.out) _ c.in_err-exchange.field-0.0 c.in_err-exchange.ensures.exchange)

pub returns-in_err-exchange-clause-again : goal.returns-in_err-exchange-clause-again
returns-in_err-exchange-clause-again g c =
    handed (λ result. CanBeAskedAgain g.R.Read.remaining c.args.inbox.now c.exchange.new.inbox result)
    c.in_err-exchange.field-0.0 c.from_residual.result c.from_residual.ensures.1
    (again_failed g.R.Read.remaining c.args.inbox.now c.exchange.new.inbox c.in_err-exchange.field-0.0
    c.in_err-exchange.ensures.again)

pub returns-clause-answers : goal.returns-clause-answers
returns-clause-answers g c =
    answers_told g.R.Read.remaining c.args.inbox.now c.exchange.new.inbox (g.K.Keeper.store c.args.keeper.now)
    (g.K.Keeper.store c.exchange.new.keeper) c.args.now (g.W.Write.contents c.args.out.now)
    (g.W.Write.contents c.exchange.new.out) _ c.in_ok-exchange.field-0 tt c.in_ok-exchange.ensures.exchange
