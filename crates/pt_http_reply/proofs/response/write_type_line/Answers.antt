use Rattle.std.proofs.Common.{◌++◌, codes, ap, ◌∙◌}
use Rattle.pt_http_reply.specs.ContentType.{type_text}
use Rattle.pt_http_reply.proofs.ReplyLemmas.{three_parts}
use Rattle.pt_http_reply.proofs.response.write_type_line.Goals as goal

pub returns-clause-text : goal.returns-clause-text
returns-clause-text c =
    three_parts c.args.out.now (codes "Content-Type: ") (type_text c.args.content_type) (codes "\r\n") _ _ _ c.push.ensures
    (c.push-2.ensures ∙ ap (λ text. c.push.new.self ++ text) (c.as_bytes.ensures.value ∙ c.text.ensures.value)) c.push-3.ensures
