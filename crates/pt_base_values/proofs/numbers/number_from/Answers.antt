use Rattle.pt_base_values.proofs.ReadLemmas.{read-known}
use Rattle.pt_base_values.proofs.NumberLemmas.{number_from-known, number_from-spelled}
use Rattle.pt_base_values.specs.SpelledNumber.{SpellsNumber, number_from}
use Rattle.pt_base_values.proofs.numbers.number_from.Goals as goal

pub returns-clause-value : goal.returns-clause-value
returns-clause-value c =
    let digits = c.args.digits in
    let most = c.args.most in
    let text = c.args.bytes.now in
    read-known (number_from digits most text) (SpellsNumber digits most text) (number_from-known digits most text)
    (number_from-spelled digits most text)
    c.spelled_number.result c.spelled_number.ensures.spelled c.spelled_number.ensures.none
