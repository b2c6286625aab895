use Rattle.std.proofs.Common.{◌≡◌, ◌&&◌, not, drop}
use Rattle.pt_rights_files.specs.Kinds.{suspends}
use Rattle.pt_rights_files.specs.Positions.{some_numbered}
use Rattle.pt_rights_files.specs.Suspension.{is_lifted, is_suspended}
use Rattle.pt_rights_files.proofs.suspensions.is_suspended.Given as goal

abbrev pub invariant-loop-position : goal.invariant-loop-position
invariant-loop-position l =
    some_numbered (λ position entered. suspends l.day entered.entry && not (is_lifted l.entries position)) l.position (drop l.position l.entries)
    ≡ is_suspended l.entries l.day
