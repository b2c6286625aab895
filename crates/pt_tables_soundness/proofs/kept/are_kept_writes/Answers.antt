use Rattle.std.proofs.Common.{arith}
use Rattle.pt_desk_rules.specs.Sound.{IsKeptWrite}
use Rattle.pt_tables_soundness.proofs.EachLemmas.{each_past, fails_at, holds_all}
use Rattle.pt_tables_soundness.proofs.kept.are_kept_writes.Goals as goal

pub loop-one-preserved : goal.loop-one-preserved
loop-one-preserved c =
    each_past IsKeptWrite c.one-item.result c.args.kept.now c.loop-one.one-index (omega arith) c.one-item.is
    (c.in_ok-is_kept_write.ensures.0 c.if-not-branch.false) c.loop-one.invariant

pub returns-then-not-branch : goal.returns-then-not-branch
returns-then-not-branch c =
    fails_at IsKeptWrite c.one-item.result c.args.kept.now c.loop-one.one-index c.in_ok-is_kept_write.field-0
    (omega arith) c.one-item.is c.in_ok-is_kept_write.ensures.1 c.if-not-branch.true

pub returns : goal.returns
returns c = holds_all IsKeptWrite c.args.kept.now c.loop-one.one-index (omega arith) c.loop-one.invariant
