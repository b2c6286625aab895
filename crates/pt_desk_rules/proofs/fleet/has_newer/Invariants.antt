use Rattle.std.proofs.Common.{◌≡◌, drop}
use Rattle.std.specs.List.{list_any}
use Rattle.pt_desk_rules.specs.Fleet.{is_newer}
use Rattle.pt_desk_rules.proofs.fleet.has_newer.Given as goal

abbrev pub invariant-loop-other : goal.invariant-loop-other
invariant-loop-other l = list_any (is_newer l.day l.version) (drop l.other-index l.vehicles) ≡ list_any (is_newer l.day l.version) l.vehicles
