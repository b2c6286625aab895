use Rattle.pt_base_values.specs.Place.{IsOnPlane}
use Rattle.pt_base_values.specs.declared.place.Point.{Point}
use Rattle.pt_desk_spelling.specs.Ranges.{IsWord}
use Rattle.pt_desk_spelling.specs.Requests.{point_bytes}
use Rattle.pt_desk_spelling_reading.proofs.ListReading.{TakenSoFar}
use Rattle.pt_desk_spelling_reading.proofs.routes.take_points.Given as goal

abbrev FitsPoint : Point → Type 0
FitsPoint point = IsOnPlane point.x point.y

abbrev pub invariant-loop-taken : goal.invariant-loop-taken
invariant-loop-taken l =
    TakenSoFar point_bytes IsWord FitsPoint l.fn.left.now l.left.now l.points.items l.count l._taken
