use Rattle.std.proofs.Common.{◌≡◌, ℕ, take}
use Rattle.pt_rights_files.specs.Appeals.{disputes, some_pending, some_pending_with, is_heard_by}
use Rattle.pt_rights_files.specs.Kinds.{is_refusal}
use Rattle.pt_rights_files.specs.Marks.{has_come}
use Rattle.pt_rights_files.proofs.appeals.heard_since.Given as goal

abbrev pub invariant-loop-entry : goal.invariant-loop-entry
invariant-loop-entry l = record {
  pending : l.pending ≡ some_pending (disputes (λ e. is_refusal e.entry) l.entries) (take l.entry-index l.entries);
  heard : (today : ℕ) → has_come 30 l.heard today ≡ some_pending_with
      (disputes (λ e. is_refusal e.entry) l.entries) (is_heard_by today) (take l.entry-index l.entries);
}
