use Rattle.std.proofs.Common.{sym, ◌∙◌}
use Rattle.pt_base_values.proofs.ReadLemmas.{error-from_none}
use Rattle.pt_base_values.proofs.NumberLemmas.{digits-utf8}
use Rattle.pt_base_values.proofs.numbers.spelled_number.Goals as goal

pub returns-in_err-text-clause-none : goal.returns-in_err-text-clause-none
returns-in_err-text-clause-none c = λ none number spelled.
    let refused = error-from_none c.from_utf8.result _ _ (sym c.ok.ensures.value ∙ c.in_err-text.was)
    c.from_utf8.ensures.cases in
    refused.1.0 (digits-utf8 c.args.bytes.now spelled.0.1)
