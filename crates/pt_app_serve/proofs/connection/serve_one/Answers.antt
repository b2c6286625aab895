use Rattle.std.proofs.Common.{◌≡◌, None, Some, inl, refl}
use Rattle.pt_base_values.specs.declared.fault.Cause.TheVariants as cause
use Rattle.pt_base_values.specs.Fault.{fault}
use Rattle.pt_base_values.proofs.FaultLemmas.{fault-is}
use Rattle.pt_http_exchange.proofs.AnsweringLemmas.{answers_none, answers_otherwise}
use Rattle.pt_app_serve.specs.Connection.{IsAnsweredFrom}
use Rattle.pt_app_serve.proofs.connection.serve_one.Goals as goal

pub returns-in-Ok : goal.returns-in-Ok
returns-in-Ok g c =
    let store = g.K.Keeper.store in
    record {
      answers = answers_otherwise _ _ _
          (IsAnsweredFrom (store c.args.keeper.now) (store c.answer_in_time.new.keeper) c.args.now) _ _ _ _ _ _ _ _
          (λ input known. known) (λ input reply found. found) (λ same. same.0) c.answer_in_time.ensures.answers;
    }

pub returns : goal.returns
returns g c = record {
  answers = answers_none _ _ (g.K.Keeper.store c.args.keeper.now) c.args.now None _ c.of.result
      (inl (fault-is c.of.result cause.Memory c.of.ensures.code c.of.ensures.row)) refl;
}
