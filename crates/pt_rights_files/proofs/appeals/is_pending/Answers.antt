use Rattle.std.proofs.Common.{arith, rules}
use Rattle.pt_rights_files.specs.Kinds.{is_appeal, decides_appeal}
use Rattle.pt_rights_files.specs.declared.entry.Entered.{Entered}
use Rattle.pt_rights_files.proofs.Stepped.{open-more}
use Rattle.pt_rights_files.proofs.appeals.is_pending.Goals as goal

pub loop-entry-preserved : goal.loop-entry-preserved
loop-entry-preserved c =
    open-more c.args.entries.now c.loop-entry.entry-index c.loop-entry-item.result (omega arith) c.loop-entry-item.is
    (λ (e : Entered). is_appeal e.entry) (λ (e : Entered). decides_appeal e.entry) _ _
    c.loop-entry.invariant (search rules)
