use Rattle.std.proofs.Common.{◌≡◌, take}
use Rattle.pt_rights_files.specs.Notices.{awaits_notice_hearing}
use Rattle.pt_rights_files.proofs.notices.awaits_notice_hearing.Given as goal

abbrev pub invariant-loop-entry : goal.invariant-loop-entry
invariant-loop-entry l = l.awaited ≡ awaits_notice_hearing (take l.entry-index l.entries)
