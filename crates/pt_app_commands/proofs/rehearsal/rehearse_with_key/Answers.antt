use Rattle.std.proofs.Common.{◌≡◌, ◌∙◌, ℕ, List, ◌++◌, Some, ap, refl, sym}
use Rattle.std.proofs.lemmas.Result.{IfErr-weaker, IfOk-weaker}
use Rattle.pt_app_commands.proofs.RehearsalLemmas.{rehearses_nothing}
use Rattle.pt_app_commands.proofs.rehearsal.rehearse_with_key.Goals as goal
use Rattle.pt_base_values.specs.Fault.{fault}
use Rattle.pt_base_values.specs.declared.fault.Cause.TheVariants as cause
use Rattle.pt_http_rehearsal.specs.Input.{HasInput}

pub returns-in_err-keeper : goal.returns-in_err-keeper
returns-in_err-keeper g c = record {
  rehearses = rehearses_nothing _ _ _ _ c.in_err-keeper.field-0.0 c.from_residual.result c.in_err-keeper.ensures.memory
      c.from_residual.ensures.1;
}

pub returns-in_err-inbox : goal.returns-in_err-inbox
returns-in_err-inbox g c = record {
  rehearses = rehearses_nothing _ _ _ _ (fault cause.Memory) c.from_residual-in_err-inbox.result refl
      c.from_residual-in_err-inbox.ensures.1;
}

pub returns : goal.returns
returns g c =
    let input : (bytes : List ℕ) → g.R.Read.remaining c.args.input ≡ Some bytes
    → HasInput g.R.Read.remaining c.in_ok-inbox.inbox bytes = λ bytes known. record {
      left = bytes;
      known = ap g.R.Read.remaining c.in_ok-inbox.ensures.reader ∙ known;
      whole = sym (ap (λ (held : List ℕ). held ++ bytes) c.in_ok-inbox.ensures.empty);
    } in
    record {
      rehearses = record {
        finished = λ bytes known. IfOk-weaker c.rehearse.result _ _
            (λ done found. (
              found.0,
              found.1,
              found.2,
              (_, _, c.in_ok-keeper.ensures.least, refl, found.3),
              found.4,
              found.5,
              found.6,
            ))
            (c.rehearse.ensures.finished refl bytes (input bytes known));
        stopped = λ bytes known. IfErr-weaker c.rehearse.result _ _
            (λ error found. λ served. (
              found.0,
              found.1,
              found.2,
              (_, _, c.in_ok-keeper.ensures.least, refl, found.3),
              found.4,
              found.5,
              found.6,
            ))
            (c.rehearse.ensures.stopped refl bytes (input bytes known));
        served = λ other. (_, _, c.in_ok-keeper.ensures.least, refl, c.rehearse.ensures.served refl);
        fault = c.rehearse.ensures.fault;
      };
    }
