use Rattle.std.proofs.Common.{◌≡◌, ◌∙◌, Err, ap, arith, inr, refl, rules, sym}
use Rattle.pt_base_values.specs.declared.fault.Cause.TheVariants as cause
use Rattle.pt_base_values.specs.Fault.{fault}
use Rattle.pt_http_exchange.proofs.AnsweringLemmas.{handed}
use Rattle.pt_http_exchange.specs.Exchange.{desk_of}
use Rattle.pt_app_serve.proofs.EndLemmas.{ends_failed, ends_refused, ends_serving, ends_well, ends_without_memory}
use Rattle.pt_app_serve.proofs.TurnLemmas.{failed_turn, heard_turn, read_or_write, refused_turn}
use Rattle.pt_app_serve.specs.Serving.{EndsConnection}
use Rattle.pt_app_serve.proofs.serving.serve_next.Goals as goal

pub returns-in-Ok-serve_one_by-clause-turn : goal.returns-in-Ok-serve_one_by-clause-turn
returns-in-Ok-serve_one_by-clause-turn g c = λ clean sent coming.
    let stream = g.A.Stream.Connection in
    let store = g.K.Keeper.store in
    let replied = g.A.Accepts.replied in
    let ending = g.A.Accepts.ending in
    let came = rw c.in-Ok.is at coming in
    heard_turn stream.shows stream.fails c.args.zone.now (stream.sends c.in-Ok.stream) sent (store c.args.keeper.now)
    (store c.serve_one_by.new.keeper) c.in_ok-now.now (stream.got c.in-Ok.stream) (stream.got c.serve_one_by.new.stream) _
    c.in-Ok-serve_one_by.field-0 (replied c.args.port.now) (replied c.leave.new.self) (ending c.args.port.now)
    (ending c.leave.new.self) came.0 came.1 c.in_ok-now.ensures.moment c.in-Ok-serve_one_by.ensures.answers
    c.leave.ensures.left c.leave.ensures.seen_off clean

pub returns-in-Err-2-clause-turn : goal.returns-in-Err-2-clause-turn
returns-in-Err-2-clause-turn g c = λ clean sent coming.
    let stream = g.A.Stream.Connection in
    let store = g.K.Keeper.store in
    let replied = g.A.Accepts.replied in
    let ending = g.A.Accepts.ending in
    let came = rw c.in-Ok.is at coming in
    failed_turn stream.shows stream.fails c.args.zone.now (stream.sends c.in-Ok.stream) sent (store c.args.keeper.now)
    (store c.serve_one_by.new.keeper) c.in_ok-now.now (stream.got c.in-Ok.stream) (stream.got c.serve_one_by.new.stream) _
    c.in-Err.fault (replied c.args.port.now) (replied c.leave-in-Err-2.new.self) (ending c.args.port.now)
    (ending c.leave-in-Err-2.new.self) came.0 came.1
    c.in_ok-now.ensures.moment c.in-Err.ensures.answers c.in-Err.ensures.fails
    (λ same. (ap (λ keeper. desk_of (store keeper)) same.0, same.1)) c.leave-in-Err-2.ensures.left
    c.leave-in-Err-2.ensures.seen_off
    (read_or_write c.in-Err.fault (λ same. omega arith) c.in-Err.ensures.answers.failure.fault) clean

pub returns-in_default-clause-ends : goal.returns-in_default-clause-ends
returns-in_default-clause-ends g c =
    let read : c.of.result ≡ fault cause.ReadFailed = search rules in
    ends_refused c.args.connection c.args.zone.now _ _ c.of.result read refl

pub returns-in_err-now-clause-ends : goal.returns-in_err-now-clause-ends
returns-in_err-now-clause-ends g c =
    let error = c.in_err-now.field-0.0 in
    handed (EndsConnection c.args.connection c.args.zone.now (c.args.keeper.now ≡ c.args.keeper.now) (c.args.port.now ≡ c.args.port.now))
    error c.from_residual.result c.from_residual.ensures.1
    (ends_serving c.args.connection c.in-Ok.stream c.args.zone.now _ _ error c.in-Ok.is c.in_err-now.ensures.fault (refl, refl)
    (λ unruled. c.in_err-now.ensures.zone.0 (ap Err unruled)))

pub returns-in-Ok-serve_one_by-clause-ends : goal.returns-in-Ok-serve_one_by-clause-ends
returns-in-Ok-serve_one_by-clause-ends g c = ends_well c.args.connection c.in-Ok.stream c.args.zone.now _ _ c.in-Ok.is

pub returns-in-Err-clause-ends : goal.returns-in-Err-clause-ends
returns-in-Err-clause-ends g c =
    let failure = c.in-Err.ensures.answers.failure in
    ends_without_memory c.args.connection c.in-Ok.stream c.args.zone.now _ _ c.in-Err.fault c.in-Ok.is (omega arith) failure.fault
    (λ unanswered. (failure.unanswered unanswered).0) refl

pub returns-in-Err-2-clause-ends : goal.returns-in-Err-2-clause-ends
returns-in-Err-2-clause-ends g c =
    let failure = c.in-Err.ensures.answers.failure in
    ends_failed c.args.connection c.in-Ok.stream c.args.zone.now _ _ c.in-Err.fault c.in-Ok.is
    (read_or_write c.in-Err.fault (λ same. omega arith) failure.fault) (λ read. (failure.unanswered (inr read)).0)

pub returns-in_default-clause-turn : goal.returns-in_default-clause-turn
returns-in_default-clause-turn g c = λ clean sent coming.
    let stream = g.A.Stream.Connection in
    let read : c.of.result ≡ fault cause.ReadFailed = search rules in
    let came = rw c.in_default.is at coming in
    rw read (refused_turn stream.shows stream.fails c.args.zone.now sent (g.K.Keeper.store c.args.keeper.now)
    (g.A.Accepts.replied c.args.port.now) (g.A.Accepts.ending c.args.port.now) came.0 came.1)
