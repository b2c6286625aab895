use Rattle.std.proofs.Common.{◌≡◌, ◌⊎◌, ◌∙◌, Some, ap, option_map, subst, sym}
use Rattle.pt_http_exchange.specs.Received.{CommitsReceived}
use Rattle.pt_http_exchange.specs.declared.received.Received.{Received}
use Rattle.pt_http_exchange.proofs.AnsweringLemmas.{commits_message, goes_nowhere}
use Rattle.pt_http_exchange.proofs.KeepsLemmas.{keeps_sent, keeps_still}
use Rattle.pt_http_exchange.proofs.exchanging.respond.Goals as goal

pub returns-in-Refused-clause-goes : goal.returns-in-Refused-clause-goes
returns-in-Refused-clause-goes g c = goes_nowhere (g.K.Keeper.store c.args.keeper.now)

pub returns-in-Some-clause-crash : goal.returns-in-Some-clause-crash
returns-in-Some-clause-crash g c clean o found =
    let old = g.K.Keeper.store c.args.keeper.now in
    let new = g.K.Keeper.store c.answer.new.keeper in
    let message = c.in-Message.message in
    let keys = c.deref.result.now in
    let has : option_map (λ given. given.items) message.key ≡ Some keys =
    ap (option_map (λ given. given.items)) c.in-Some.is ∙ ap Some (sym c.deref.ensures.value) in
    subst (λ (r : Received). old.found o ⊎ CommitsReceived c.args.now r old.content o) (sym c.in-Message.is)
    (commits_message old new c.args.now message keys c.answer.result has c.answer.ensures.goes clean o found)

pub returns-in-Refused-clause-keeps : goal.returns-in-Refused-clause-keeps
returns-in-Refused-clause-keeps g c clean sent is = keeps_still sent (g.K.Keeper.store c.args.keeper.now)

pub returns-in-None-clause-keeps : goal.returns-in-None-clause-keeps
returns-in-None-clause-keeps g c clean sent is = keeps_still sent (g.K.Keeper.store c.args.keeper.now)

pub returns-in-Some-clause-keeps : goal.returns-in-Some-clause-keeps
returns-in-Some-clause-keeps g c clean sent is =
    let message = c.in-Message.message in
    keeps_sent (g.K.Keeper.store c.args.keeper.now) (g.K.Keeper.store c.answer.new.keeper) c.deref.result.now c.args.now message.number message.request c.answer.result sent
    c.answer.ensures.goes clean is
