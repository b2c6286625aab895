use Rattle.std.proofs.Common.{◌≡◌, ◌++◌, take}
use Rattle.std.specs.List.{flat_map}
use Rattle.pt_desk_spelling.specs.Requests.{point_bytes}
use Rattle.pt_desk_spelling.proofs.settings.push_points.Given as goal

abbrev pub invariant-loop-point : goal.invariant-loop-point
invariant-loop-point l = l.out.items ≡ l.initial.out.items ++ flat_map point_bytes (take l.point-index l.points)
