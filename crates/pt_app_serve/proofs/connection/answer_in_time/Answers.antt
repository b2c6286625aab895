use Rattle.std.proofs.Common.{◌≡◌, Some, ap, inr, refl, rules}
use Rattle.pt_base_values.specs.declared.fault.Cause.TheVariants as cause
use Rattle.pt_base_values.specs.Fault.{fault}
use Rattle.pt_http_exchange.proofs.AnsweringLemmas.{answers_none, answers_otherwise}
use Rattle.pt_app_serve.specs.Connection.{IsAnsweredFrom}
use Rattle.pt_app_serve.proofs.connection.answer_in_time.Goals as goal

along : {A B : Type 0} (one other : A) (f : A → B) → one ≡ other → f one ≡ f other
along one other f is = ap f is

pub returns-in_default : goal.returns-in_default
returns-in_default g c =
    let none : c.of.result ≡ fault cause.ReadFailed = search rules in
    record {
      answers = answers_none _ _ (g.K.Keeper.store c.args.keeper.now) c.args.now (g.W.Write.contents c.args.out) _
          c.of.result (inr none) (refl, refl);
    }

pub returns : goal.returns
returns g c =
    let store = g.K.Keeper.store in
    record {
      answers = answers_otherwise _ (λ input. g.R.Read.remaining c.args.reader ≡ Some input) _
          (IsAnsweredFrom (store c.args.keeper.now) (store c.answer_connection-answered.new.keeper) c.args.now) _ _ _ _ _ _ _ _
          (λ input known. known) (λ input reply found. found) (λ same. (same.0, along c.answer_connection-answered.new.out _ (λ writer. writer.stream) same.1))
          c.answer_connection-answered.ensures.answers;
    }
