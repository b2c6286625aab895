use Rattle.std.proofs.Common.{◌≡◌, ◌||◌, take}
use Rattle.pt_rights_files.specs.Kinds.{is_notice, is_suspension}
use Rattle.pt_rights_files.specs.Notices.{may_suspend}
use Rattle.pt_rights_files.specs.Positions.{some_position, is_open}
use Rattle.pt_rights_files.proofs.notices.may_suspend.Given as goal

abbrev pub invariant-loop-entry : goal.invariant-loop-entry
invariant-loop-entry l = record {
  noticed : l.noticed ≡ some_position
      (is_open (λ e. is_notice e.entry) (λ e. is_suspension e.entry || is_notice e.entry)) (take l.entry-index l.entries);
  heard : l.heard ≡ may_suspend (take l.entry-index l.entries);
}
