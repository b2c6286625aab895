use Rattle.std.proofs.Common.{◌≡◌, Some, ap}
use Rattle.pt_http_exchange.proofs.AnsweringLemmas.{answers_otherwise}
use Rattle.pt_app_serve.specs.Connection.{IsAnsweredFrom}
use Rattle.pt_app_serve.proofs.connection.InTimeAnswering.answer.Goals as goal

pub returns : goal.returns
returns g c =
    let store = g.K.Keeper.store in
    record {
      replied = answers_otherwise _ (λ input. g.R.Read.remaining c.args.reader ≡ Some input) _
          (IsAnsweredFrom (store c.args.keeper.now) (store c.answer_in_time.new.keeper) c.args.self.now.now) _ _ _ _ _ _ _ _
          (λ input known. known) (λ input reply found. found)
          (λ same. (same.0, ap g.W.Write.contents same.1)) c.answer_in_time.ensures.answers;
    }
