use Rattle.std.proofs.Common.{◌≡◌, refl}
use Rattle.pt_http_exchange.specs.Answering.{CanBeAskedAgain, ExchangesOne}
use Rattle.pt_http_reply.specs.Reply.{bytes_of}
use Rattle.pt_http_exchange.proofs.AnsweringLemmas.{again_unwritten, crash_over, exchanged_over, exchanges, exchanges_none, exchanges_unwritten, handed, served_over}
use Rattle.pt_http_exchange.proofs.exchanging.exchange.Goals as goal

pub returns-in_err-received-clause-exchange : goal.returns-in_err-received-clause-exchange
returns-in_err-received-clause-exchange g c =
    let remaining = g.R.Read.remaining in
    let store = g.K.Keeper.store c.args.keeper.now in
    let written = g.W.Write.contents c.args.out.now in
    handed
    (λ result. ExchangesOne remaining c.args.inbox.now c.receive.new.inbox store store c.args.now written written
    ((c.args.keeper.now ≡ c.args.keeper.now) × (c.args.out.now ≡ c.args.out.now)) result)
    c.in_err-received.field-0.0 c.from_residual.result c.from_residual.ensures.1
    (exchanges_none remaining c.args.inbox.now c.receive.new.inbox store c.args.now written _
    c.in_err-received.field-0.0 c.in_err-received.ensures.fault (refl, refl))

pub returns-in_err-received-clause-again : goal.returns-in_err-received-clause-again
returns-in_err-received-clause-again g c =
    handed (λ result. CanBeAskedAgain g.R.Read.remaining c.args.inbox.now c.receive.new.inbox result)
    c.in_err-received.field-0.0 c.from_residual.result c.from_residual.ensures.1 record {
      still_there = λ unanswered. c.in_err-received.ensures.still_there;
      still_held = λ unanswered. c.in_err-received.ensures.still_held;
    }

pub returns-in_err-write_reply-clause-exchange : goal.returns-in_err-write_reply-clause-exchange
returns-in_err-write_reply-clause-exchange g c =
    let remaining = g.R.Read.remaining in
    let store = g.K.Keeper.store in
    let contents = g.W.Write.contents in
    let old = store c.args.keeper.now in
    let new = store c.respond-response.new.keeper in
    let reply = c.reply_to-response.result.0 in
    handed
    (λ result. ExchangesOne remaining c.args.inbox.now c.receive.new.inbox old new c.args.now
    (contents c.args.out.now) (contents c.write_reply.new.out)
    ((c.respond-response.new.keeper ≡ c.args.keeper.now) × (c.write_reply.new.out ≡ c.args.out.now)) result)
    c.in_err-write_reply.field-0.0 c.from_residual-in_err-write_reply.result
    c.from_residual-in_err-write_reply.ensures.1
    (exchanges_unwritten remaining c.args.inbox.now c.receive.new.inbox old new c.args.now (contents c.args.out.now)
    (contents c.write_reply.new.out) _ c.in_err-write_reply.field-0.0 reply c.in_err-write_reply.ensures.fault
    (exchanged_over remaining c.args.inbox.now c.receive.new.inbox old new c.args.now c.in_ok-received.received
    c.respond-response.result reply c.in_ok-received.ensures.received c.in_ok-received.ensures.fresh
    c.respond-response.ensures.responds c.respond-response.ensures.keeps c.reply_to-response.ensures.sent)
    (bytes_of c.reply_to-response.result.1, c.reply_to-response.ensures.text)
    (served_over old new c.args.now c.in_ok-received.received c.respond-response.result reply
    c.respond-response.ensures.responds c.respond-response.ensures.keeps c.reply_to-response.ensures.sent)
    (crash_over remaining c.args.inbox.now c.receive.new.inbox old new c.args.now c.in_ok-received.received
    c.in_ok-received.ensures.received c.respond-response.ensures.crash)
    c.respond-response.ensures.goes)

pub returns-in_err-write_reply-clause-again : goal.returns-in_err-write_reply-clause-again
returns-in_err-write_reply-clause-again g c =
    handed (λ result. CanBeAskedAgain g.R.Read.remaining c.args.inbox.now c.receive.new.inbox result)
    c.in_err-write_reply.field-0.0 c.from_residual-in_err-write_reply.result
    c.from_residual-in_err-write_reply.ensures.1
    (again_unwritten g.R.Read.remaining c.args.inbox.now c.receive.new.inbox c.in_err-write_reply.field-0.0
    c.in_err-write_reply.ensures.fault)

pub returns-clause-exchange : goal.returns-clause-exchange
returns-clause-exchange g c =
    let remaining = g.R.Read.remaining in
    let store = g.K.Keeper.store in
    let contents = g.W.Write.contents in
    let old = store c.args.keeper.now in
    let new = store c.respond-response.new.keeper in
    let reply = c.reply_to-response.result.0 in
    exchanges remaining c.args.inbox.now c.receive.new.inbox old new c.args.now (contents c.args.out.now)
    (contents c.write_reply.new.out) _ reply
    (exchanged_over remaining c.args.inbox.now c.receive.new.inbox old new c.args.now c.in_ok-received.received
    c.respond-response.result reply c.in_ok-received.ensures.received c.in_ok-received.ensures.fresh
    c.respond-response.ensures.responds c.respond-response.ensures.keeps c.reply_to-response.ensures.sent)
    (bytes_of c.reply_to-response.result.1, c.reply_to-response.ensures.text, c.in_ok-write_reply.ensures.written)
    (served_over old new c.args.now c.in_ok-received.received c.respond-response.result reply
    c.respond-response.ensures.responds c.respond-response.ensures.keeps c.reply_to-response.ensures.sent)
    (crash_over remaining c.args.inbox.now c.receive.new.inbox old new c.args.now c.in_ok-received.received
    c.in_ok-received.ensures.received c.respond-response.ensures.crash)
    c.respond-response.ensures.goes
