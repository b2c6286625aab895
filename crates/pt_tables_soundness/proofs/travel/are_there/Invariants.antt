use Rattle.std.proofs.Common.{◌≡◌, drop}
use Rattle.pt_desk_rules.specs.Rules.{are_there}
use Rattle.pt_tables_soundness.proofs.travel.are_there.Given as goal

abbrev pub invariant-loop-from : goal.invariant-loop-from
invariant-loop-from l = are_there (drop l.from-index l.rows) l.places.items ≡ are_there l.rows l.places.items
