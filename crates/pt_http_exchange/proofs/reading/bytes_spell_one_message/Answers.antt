use Rattle.pt_http_exchange.proofs.MessageDecisions.{message_or_first_fault}
use Rattle.pt_http_exchange.proofs.UniqueLemmas.{one_message, message_has_no_fault, same_fault}
use Rattle.pt_http_exchange.proofs.reading.bytes_spell_one_message.Goals as goal

pub returns-clause-one : goal.returns-clause-one
returns-clause-one c = λ bytes rest more message other first second. one_message bytes rest more message other first
    second

pub returns-clause-some : goal.returns-clause-some
returns-clause-some c = λ bytes. message_or_first_fault bytes

pub returns-clause-no_fault : goal.returns-clause-no_fault
returns-clause-no_fault c = λ bytes rest more message why first refused. message_has_no_fault bytes rest more message
    why first refused

pub returns-clause-one_fault : goal.returns-clause-one_fault
returns-clause-one_fault c = λ bytes rest more why other first second.
    (same_fault bytes rest more why other first second).0

pub returns-clause-one_rest : goal.returns-clause-one_rest
returns-clause-one_rest c = λ bytes rest more why other first second.
    (same_fault bytes rest more why other first second).1
