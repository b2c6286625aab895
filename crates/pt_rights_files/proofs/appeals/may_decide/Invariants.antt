use Rattle.std.proofs.Common.{◌≡◌, ◌==◌, ◌&&◌, not, take}
use Rattle.pt_rights_files.specs.Appeals.{disputes, may_answer, some_pending, some_pending_with}
use Rattle.pt_rights_files.specs.Kinds.{is_hearing}
use Rattle.pt_rights_files.proofs.appeals.may_decide.Given as goal

abbrev pub invariant-loop-entry : goal.invariant-loop-entry
invariant-loop-entry l = record {
  pending : l.pending ≡ some_pending
      (disputes (λ e. may_answer l.decision e.entry && not (e.author == l.author)) l.entries) (take l.entry-index l.entries);
  heard : l.heard ≡ some_pending_with
      (disputes (λ e. may_answer l.decision e.entry && not (e.author == l.author)) l.entries)
      (λ e. is_hearing e.entry) (take l.entry-index l.entries);
}
