use Rattle.pt_http_reply.specs.Response.{head_text}
use Rattle.pt_http_reply.proofs.ReplyLemmas.{fixed_bytes}
use Rattle.pt_http_reply.proofs.reply_bytes.with_head.Goals as goal

pub returns-in-Fixed-clause-text : goal.returns-in-Fixed-clause-text
returns-in-Fixed-clause-text c =
    fixed_bytes (head_text c.args.response.now) c.args.body c.in-Fixed.text _ _ _ _ _ c.in-Fixed.is c.as_slice.ensures.value c.as_slice-in-Fixed.ensures.value
    c.write_head.ensures.text c.push.ensures c.new-rest.ensures.items
