use Rattle.pt_app_serve.proofs.PortLemmas.{next_to_come, none_to_come}
use Rattle.pt_app_serve.specs.Port.{left_of}
use Rattle.pt_app_serve.proofs.listening.PortAccepts.accept.Goals as goal

pub returns-clause-none : goal.returns-clause-none
returns-clause-none c =
    let none = c.next_stream.ensures.none in
    let left = none_to_come (left_of c.args.self.now) in
    (λ is. left.0 (none.0 is), λ is. none.1 (left.1 is))

pub returns-clause-next : goal.returns-clause-next
returns-clause-next c =
    next_to_come c.next_stream.result (left_of c.next_stream.new.self) (left_of c.args.self.now)
    c.next_stream.ensures.one
