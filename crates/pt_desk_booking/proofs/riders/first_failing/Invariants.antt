use Rattle.std.proofs.Common.{◌≡◌, drop}
use Rattle.pt_rights_files.specs.Rules.{first_failing}
use Rattle.pt_desk_booking.proofs.riders.first_failing.Given as goal

abbrev pub invariant-loop-rule : goal.invariant-loop-rule
invariant-loop-rule l = first_failing (drop l.rule-index l.rules) ≡ first_failing l.rules
