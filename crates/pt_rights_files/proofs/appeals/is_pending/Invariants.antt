use Rattle.std.proofs.Common.{◌≡◌, take}
use Rattle.pt_rights_files.specs.Appeals.{some_pending}
use Rattle.pt_rights_files.specs.Kinds.{is_appeal}
use Rattle.pt_rights_files.proofs.appeals.is_pending.Given as goal

abbrev pub invariant-loop-entry : goal.invariant-loop-entry
invariant-loop-entry l = l.pending ≡ some_pending is_appeal (take l.entry-index l.entries)
