use Rattle.std.proofs.Common.{◌≡◌, drop}
use Rattle.pt_desk_rules.specs.Rules.{are_there}
use Rattle.pt_desk_rules.proofs.denying.are_there.Given as goal

abbrev pub invariant-loop-from : goal.invariant-loop-from
invariant-loop-from l = are_there (drop l.from-index l.rows) l.places ≡ are_there l.rows l.places
