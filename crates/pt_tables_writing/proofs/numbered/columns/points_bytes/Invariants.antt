use Rattle.std.proofs.Common.{◌≡◌, ◌*◌, take, length}
use Rattle.std.specs.List.{flat_map}
use Rattle.pt_desk_spelling.specs.Requests.{point_bytes}
use Rattle.pt_tables_writing.proofs.numbered.columns.points_bytes.Given as goal

abbrev pub invariant-loop-point : goal.invariant-loop-point
invariant-loop-point l = record {
  written : l.bytes.items ≡ flat_map point_bytes (take l.point-index l.points);
  longer : length l.bytes.items ≡ 8 * l.point-index;
}
