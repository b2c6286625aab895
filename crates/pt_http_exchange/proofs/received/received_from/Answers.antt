use Rattle.std.proofs.Common.{map, ap, ◌∙◌}
use Rattle.httparse.specs.Spans.{header_bytes}
use Rattle.pt_http_exchange.proofs.ReceivedLemmas.{refused_same, spelled_same}
use Rattle.pt_http_exchange.proofs.received.received_from.Goals as goal

pub returns-in-Ok-clause-spelled : goal.returns-in-Ok-clause-spelled
returns-in-Ok-clause-spelled c = λ whole is.
    spelled_same c.args.router.now _ _ _ c.args.body.now whole c.in-Ok.message c.requires.routes
    (c.of-method.ensures ∙ is.parts.method) (c.of-target.ensures ∙ is.parts.target)
    (ap (map (header_bytes c.args.bytes.now)) c.deref.ensures.0 ∙ is.parts.lines) c.in-Ok.ensures.message

pub returns-in-Err-Refused-clause-spelled : goal.returns-in-Err-Refused-clause-spelled
returns-in-Err-Refused-clause-spelled c = λ whole is.
    refused_same c.args.router.now _ _ _ c.args.body.now whole _ c.in-Err-Refused.fault
    c.in-Err-Refused.field-0-is c.requires.routes
    (c.of-method.ensures ∙ is.parts.method) (c.of-target.ensures ∙ is.parts.target)
    (ap (map (header_bytes c.args.bytes.now)) c.deref.ensures.0 ∙ is.parts.lines) c.in-Err-Refused.ensures.fault
