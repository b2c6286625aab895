use Rattle.std.proofs.Common.{◌≤◌, ◌++◌, codes, length, unwrap_or, sym, subst, ap, ◌∙◌}
use Rattle.pt_http_reply.specs.ContentType.{type_text}
use Rattle.pt_http_reply.specs.Response.{line}
use Rattle.http.specs.StatusCode.{reason_phrase, status_text}
use Rattle.pt_http_reply.proofs.ReplyLemmas.{six_lines, short_phrase}
use Rattle.pt_http_reply.proofs.response.write_head.Goals as goal

pub returns-clause-text : goal.returns-clause-text
returns-clause-text c =
    six_lines c.args.out.now _ _ _ _ _ _ _ _ _ _ _ _ c.requires
    (c.write_status_line.ensures.text ∙ ap (λ s. c.args.out.now ++ line (codes "HTTP/1.1 " ++ status_text s)) c.status.ensures)
    (c.write_type_line.ensures.text ∙ ap (λ t. c.write_status_line.new.out ++ line (codes "Content-Type: " ++ type_text t)) c.content_type.ensures)
    c.write_length_line.ensures.text c.write_own_lines.ensures.text c.push.ensures c.push-2.ensures

pub write_status_line-requires-clause-short : goal.write_status_line-requires-clause-short
write_status_line-requires-clause-short c =
    subst (λ n. length (unwrap_or (reason_phrase n) (codes "<unknown status code>")) ≤ 31) (sym c.status.ensures) (short_phrase c.args.response.now)
