use Rattle.std.proofs.Common.{◌≡◌, Some, map, rules}
use Rattle.httparse.specs.Spans.{header_bytes}
use Rattle.pt_http_request.proofs.MessageLemmas.{message-read, message-refused}
use Rattle.pt_http_request.specs.Targets.{target_in, path_of}
use Rattle.pt_http_request.proofs.message.message_from.Goals as goal

pub returns-clause-spelled : goal.returns-clause-spelled
returns-clause-spelled c =
    let there : target_in c.args.router.now (path_of c.args.target.now) ≡ Some c.in-Some.asked = search rules in
    message-read c.args.router.now c.args.method.now c.args.target.now (map
    (header_bytes c.args.bytes.now) c.args.headers.now) c.args.body.now c.in-Some.asked c.message_to.result there
    c.message_to.ensures.message c.message_to.ensures.fault

pub returns-clause-refused : goal.returns-clause-refused
returns-clause-refused c =
    let there : target_in c.args.router.now (path_of c.args.target.now) ≡ Some c.in-Some.asked = search rules in
    message-refused c.args.router.now c.args.method.now c.args.target.now (map
    (header_bytes c.args.bytes.now) c.args.headers.now) c.args.body.now c.in-Some.asked c.message_to.result there
    c.message_to.ensures.message c.message_to.ensures.fault
