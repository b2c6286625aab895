use Rattle.std.proofs.Common.{◌≡◌, ◌+◌, ◌∷◌, [], codes, length, ap, ◌∙◌, arith, length-append}
use Rattle.pt_rights_conditions.proofs.JoinLemmas.{join-take, join-first}
use Rattle.pt_http_reply.specs.Json.{member_text}
use Rattle.pt_http_reply.proofs.JsonLemmas.{AreShort-at}
use Rattle.pt_http_reply.proofs.json.object.Goals as goal
use Rattle.pt_http_reply.proofs.json.object.Goals.{then-index-gt0, else-index-gt0}

pub push_member-requires-clause-short : goal.push_member-requires-clause-short
push_member-requires-clause-short c = AreShort-at c.args.members.now c.loop-index.index _ c.requires.short c.loop-index-test.true

pub loop-index-preserved : goal.loop-index-preserved
loop-index-preserved c =
    let members = c.args.members.now in
    let so_far = c.loop-index.invariant in
    elim c.if-index-gt0.branch [
      | then-index-gt0 w ↦
          let parted = w.text-is ∙ w.push.ensures in
          let one_more : length c.if-index-gt0.text ≡ length c.loop-index.text + 1 = ap length parted ∙ length-append c.loop-index.text (44 ∷ []) in (
            join-take 44 member_text (codes "{") _ _ _ members c.loop-index.index _ so_far.0 w.if-index-gt0.true c.loop-index-test.true parted c.push_member.ensures.text,
            omega (arith, one_more, so_far.1, c.push_member.ensures.short),
          )
      | else-index-gt0 w ↦
          let same : length c.if-index-gt0.text ≡ length c.loop-index.text = ap length w.text-is in (
            join-first 44 member_text (codes "{") _ _ _ members c.loop-index.index _ so_far.0 w.if-index-gt0.false c.loop-index-test.true w.text-is c.push_member.ensures.text,
            omega (arith, same, so_far.1, c.push_member.ensures.short),
          )
    ]
