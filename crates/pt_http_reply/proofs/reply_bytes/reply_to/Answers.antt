use Rattle.std.proofs.Common.{Err}
use Rattle.pt_desk_store.specs.declared.keeper.StoreFault.TheVariants.{Memory}
use Rattle.pt_http_reply.specs.declared.response.Response.TheVariants.{Answered}
use Rattle.pt_http_reply.proofs.ReplyLemmas.{IsReplyText-unique, reply_formed}
use Rattle.pt_http_reply.proofs.reply_bytes.reply_to.Goals as goal

pub returns-in-Ok-clause-only : goal.returns-in-Ok-clause-only
returns-in-Ok-clause-only c = λ bytes is.
    IsReplyText-unique c.args.response _ bytes (reply_formed c.args.response _ _ c.in-Ok.ensures.text c.with_head-reply.ensures.text) is

pub returns-in-Err-clause-text : goal.returns-in-Err-clause-text
returns-in-Err-clause-text c = reply_formed (Answered (Err Memory)) _ _ c.denial_body.ensures.text c.with_head-reply-in-Err.ensures.text

pub returns-in-Err-clause-only : goal.returns-in-Err-clause-only
returns-in-Err-clause-only c = λ bytes is.
    let text = reply_formed (Answered (Err Memory)) _ _ c.denial_body.ensures.text c.with_head-reply-in-Err.ensures.text in
    IsReplyText-unique (Answered (Err Memory)) _ bytes text is
