use Rattle.std.proofs.Common.{arith, rules, Bool, ◌==◌, ◌&&◌, not}
use Rattle.pt_rights_files.specs.Kinds.{is_hearing, decides_appeal}
use Rattle.pt_rights_files.specs.Appeals.{disputes, may_answer}
use Rattle.pt_rights_files.specs.declared.entry.Entered.{Entered}
use Rattle.pt_rights_files.proofs.Stepped.{open-more, followed-more}
use Rattle.pt_rights_files.proofs.appeals.may_decide.Goals as goal

pub loop-entry-preserved : goal.loop-entry-preserved
loop-entry-preserved c =
    let appeals : Entered → Bool =
    λ e. disputes (λ d. may_answer c.args.decision.now d.entry && not (d.author == c.args.author)) c.args.entries.now e.entry in
    record {
      pending =
          open-more c.args.entries.now c.loop-entry.entry-index c.loop-entry-item.result (omega arith) c.loop-entry-item.is
          appeals (λ (e : Entered). decides_appeal e.entry) _ _
          c.loop-entry.invariant.pending (search rules);
      heard =
          followed-more c.args.entries.now c.loop-entry.entry-index c.loop-entry-item.result (omega arith) c.loop-entry-item.is
          appeals (λ (e : Entered). decides_appeal e.entry) (λ (e : Entered). is_hearing e.entry) _ _ _
          c.loop-entry.invariant.pending c.loop-entry.invariant.heard (search rules);
    }
