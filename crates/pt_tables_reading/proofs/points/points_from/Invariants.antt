use Rattle.std.proofs.Common.{◌≡◌, ℕ, List, take}
use Rattle.std.specs.List.{flat_map}
use Rattle.pt_desk_spelling.specs.Requests.{point_bytes}
use Rattle.pt_tables_reading.proofs.points.points_from.Given as goal

abbrev pub invariant-loop-chunk : goal.invariant-loop-chunk
invariant-loop-chunk l =
    flat_map point_bytes l.points.items ≡ flat_map (λ (part : List ℕ). part) (take l.chunk-index l.chunks)
