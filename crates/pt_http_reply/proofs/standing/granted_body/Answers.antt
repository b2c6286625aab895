use Rattle.std.proofs.Common.{rules, append_assoc}
use Rattle.pt_http_reply.proofs.standing.granted_body.Goals as goal

pub returns : goal.returns
returns c =
    let told = c.in_ok-write.ensures.text in (
      told.0,
      told.1,
      rw (
        c.in_ok-push-5.ensures,
        told.2,
        c.in_ok-push-4.ensures,
        c.in_ok-push-3.ensures,
        c.truth_text.ensures.text,
        c.in_ok-push-2.ensures,
        c.in_ok-write_conditions.ensures,
        c.in_ok-push.ensures,
        c.new-body.ensures.items,
      )
          (search (rules, append_assoc)),
    )
