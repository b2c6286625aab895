use Rattle.std.proofs.Common.{◌≡◌, ◌∙◌, ℕ, List, ◌++◌, Some, ap, inl, refl, sym}
use Rattle.pt_base_values.specs.declared.fault.Cause.TheVariants as cause
use Rattle.pt_base_values.specs.Fault.{fault}
use Rattle.pt_http_exchange.proofs.AnsweringLemmas.{answers_failed, answers_none, answers_otherwise, answers_told, handed}
use Rattle.pt_app_serve.specs.Connection.{AnswersFrom, IsAnsweredFrom}
use Rattle.pt_app_serve.proofs.connection.answer_connection.Goals as goal

pub returns-in_err-inbox : goal.returns-in_err-inbox
returns-in_err-inbox g c =
    let store = g.K.Keeper.store c.args.keeper.now in
    let written = g.W.Write.contents c.args.out.now in
    record {
      answers = handed
          (λ result. AnswersFrom (g.R.Read.remaining c.args.reader) store store c.args.now written written
          ((c.args.keeper.now ≡ c.args.keeper.now) × (c.args.out.now ≡ c.args.out.now)) result) (fault cause.Memory)
          c.from_residual.result c.from_residual.ensures.1
          (answers_none _ _ store c.args.now written _ (fault cause.Memory) (inl refl) (refl, refl));
    }

pub returns-in_err-exchange : goal.returns-in_err-exchange
returns-in_err-exchange g c =
    let remaining = g.R.Read.remaining in
    let contents = g.W.Write.contents in
    let old = g.K.Keeper.store c.args.keeper.now in
    let new = g.K.Keeper.store c.exchange.new.keeper in
    record {
      answers = handed
          (λ result. AnswersFrom (remaining c.args.reader) old new c.args.now (contents c.args.out.now)
          (contents c.exchange.new.out) ((c.exchange.new.keeper ≡ c.args.keeper.now) × (c.exchange.new.out ≡ c.args.out.now))
          result) c.in_err-exchange.field-0.0 c.from_residual-in_err-exchange.result c.from_residual-in_err-exchange.ensures.1
          (answers_otherwise _ (λ input. remaining c.args.reader ≡ Some input) _ (IsAnsweredFrom old new c.args.now)
          _ _ _ _ _ _ _ _ (λ bytes known. record {
            left = bytes;
            known = ap remaining c.in_ok-inbox.ensures.reader ∙ known;
            whole = sym (ap (λ (held : List ℕ). held ++ bytes) c.in_ok-inbox.ensures.empty);
          }) (λ input reply found. (found.0, found.2, found.4)) (λ same. same)
          (answers_failed remaining _ c.exchange.new.inbox old new c.args.now (contents c.args.out.now)
          (contents c.exchange.new.out) _ c.in_err-exchange.field-0.0 c.in_err-exchange.ensures.exchange));
    }

pub returns : goal.returns
returns g c =
    let remaining = g.R.Read.remaining in
    let contents = g.W.Write.contents in
    let old = g.K.Keeper.store c.args.keeper.now in
    let new = g.K.Keeper.store c.exchange.new.keeper in
    record {
      answers = answers_otherwise _ (λ input. remaining c.args.reader ≡ Some input) _ (IsAnsweredFrom old new c.args.now)
          _ _ _ _ _ _ _ _ (λ bytes known. record {
            left = bytes;
            known = ap remaining c.in_ok-inbox.ensures.reader ∙ known;
            whole = sym (ap (λ (held : List ℕ). held ++ bytes) c.in_ok-inbox.ensures.empty);
          }) (λ input reply found. (found.0, found.2, found.4)) (λ same. same)
          (answers_told remaining _ c.exchange.new.inbox old new c.args.now (contents c.args.out.now)
          (contents c.exchange.new.out) _ c.in_ok-exchange.field-0 tt c.in_ok-exchange.ensures.exchange);
    }
