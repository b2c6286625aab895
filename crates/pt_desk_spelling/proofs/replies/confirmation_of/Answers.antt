use Rattle.std.proofs.Common.{Some, ap}
use Rattle.pt_desk_requests.specs.declared.request.Confirmation.{Confirmation}
use Rattle.pt_desk_spelling.proofs.ReplyLemmas.{told-same, told-is}
use Rattle.pt_desk_spelling.proofs.replies.confirmation_of.Goals as goal

pub returns-clause-read : goal.returns-clause-read
returns-clause-read c = λ told fits same.
    ap (λ (t : Confirmation). Some t)
    (told-same _ told (told-is c.args.numbers told _ _ _ _ same c.in_ok-of.ensures.value c.in_ok-of-2.ensures.value c.in_ok-of-3.ensures.value c.in_ok-of-4.ensures.value))
