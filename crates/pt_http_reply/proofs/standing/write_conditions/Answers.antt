use Rattle.std.proofs.Common.{◌++◌, ap, ◌∙◌}
use Rattle.pt_rights_conditions.proofs.JoinLemmas.{join-take, join-first}
use Rattle.pt_http_reply.specs.Body.{condition_json}
use Rattle.pt_http_reply.proofs.standing.write_conditions.Goals as goal
use Rattle.pt_http_reply.proofs.standing.write_conditions.Goals.{then-index-gt0+in_ok-push, else-index-gt0}

pub loop-index-preserved : goal.loop-index-preserved
loop-index-preserved c =
    let members = c.as_slice-condition-items.result.now in
    let text = c.in_ok-write_condition.ensures ∙ ap (λ x. c.if-index-gt0.out.items ++ condition_json x) c.condition-item.is in
    elim c.if-index-gt0.branch [
      | then-index-gt0+in_ok-push w ↦
          join-take 44 condition_json _ _ _ _ members c.loop-index.index c.condition-item.result
          c.loop-index.invariant w.if-index-gt0.true c.loop-index-test.true
          (ap (λ out. out.items) w.out-is ∙ w.in_ok-push.ensures) text
      | else-index-gt0 w ↦
          join-first 44 condition_json _ _ _ _ members c.loop-index.index c.condition-item.result
          c.loop-index.invariant w.if-index-gt0.false c.loop-index-test.true (ap (λ out. out.items) w.out-is) text
    ]
