use Rattle.std.proofs.Common.{arith, rules}
use Rattle.pt_rights_files.specs.Appeals.{disputes, is_heard_by}
use Rattle.pt_rights_files.specs.Kinds.{is_refusal, decides_appeal}
use Rattle.pt_rights_files.specs.declared.entry.Entered.{Entered}
use Rattle.pt_rights_files.proofs.Stepped.{open-more, followed-more}
use Rattle.pt_rights_files.proofs.appeals.heard_since.Goals as goal

pub loop-entry-preserved : goal.loop-entry-preserved
loop-entry-preserved c = record {
  pending =
      open-more c.args.entries.now c.loop-entry.entry-index c.loop-entry-item.result (omega arith) c.loop-entry-item.is
      (λ (e : Entered). disputes (λ d. is_refusal d.entry) c.args.entries.now e.entry) (λ (e : Entered). decides_appeal e.entry) _ _
      c.loop-entry.invariant.pending (search rules);
  heard = λ today.
      followed-more c.args.entries.now c.loop-entry.entry-index c.loop-entry-item.result (omega arith) c.loop-entry-item.is
      (λ (e : Entered). disputes (λ d. is_refusal d.entry) c.args.entries.now e.entry) (λ (e : Entered). decides_appeal e.entry) (is_heard_by today) _ _ _
      c.loop-entry.invariant.pending (c.loop-entry.invariant.heard today) (search rules);
}
