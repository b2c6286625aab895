use Rattle.std.proofs.Common.{arith, rules, ◌||◌}
use Rattle.pt_rights_files.specs.Kinds.{is_notice, is_notice_hearing, is_suspension}
use Rattle.pt_rights_files.specs.declared.entry.Entered.{Entered}
use Rattle.pt_rights_files.proofs.Stepped.{open-more, followed-more}
use Rattle.pt_rights_files.proofs.notices.may_suspend.Goals as goal

pub loop-entry-preserved : goal.loop-entry-preserved
loop-entry-preserved c = record {
  noticed =
      open-more c.args.entries.now c.loop-entry.entry-index c.loop-entry-item.result (omega arith) c.loop-entry-item.is
      (λ (e : Entered). is_notice e.entry) (λ (e : Entered). is_suspension e.entry || is_notice e.entry) _ _
      c.loop-entry.invariant.noticed (search rules);
  heard =
      followed-more c.args.entries.now c.loop-entry.entry-index c.loop-entry-item.result (omega arith) c.loop-entry-item.is
      (λ (e : Entered). is_notice e.entry) (λ (e : Entered). is_suspension e.entry || is_notice e.entry)
      (λ (e : Entered). is_notice_hearing e.entry) _ _ _
      c.loop-entry.invariant.noticed c.loop-entry.invariant.heard (search rules);
}
