use Rattle.std.proofs.Common.{arith}
use Rattle.pt_tables_soundness.proofs.FileLemmas.{all_filed, not_filed}
use Rattle.pt_tables_soundness.proofs.files.are_sound_files.Goals as goal

pub returns-then-not-is_at : goal.returns-then-not-is_at
returns-then-not-is_at c =
    not_filed c.loop-filed.last c.loop-filed.next c.loop-filed.filed-index c.next_position-position.result
    c.filed-item.result c.args.entries.now c.is_at.result (omega arith) c.filed-item.is c.next_position-position.ensures
    c.is_at.ensures.1 c.if-not-is_at.true c.requires.order c.loop-filed.invariant.back

pub returns : goal.returns
returns c =
    all_filed c.loop-filed.last c.loop-filed.next c.loop-filed.filed-index c.args.entries.now (omega arith)
    c.requires.order c.loop-filed.invariant.forth
