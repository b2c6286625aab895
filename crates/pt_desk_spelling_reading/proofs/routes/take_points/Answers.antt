use Rattle.std.specs.Prelude.{pos}
use Rattle.pt_base_values.specs.Place.{IsOnPlane}
use Rattle.pt_base_values.specs.declared.place.Point.{Point}
use Rattle.pt_desk_spelling.specs.Ranges.{IsWord}
use Rattle.pt_desk_spelling.specs.Requests.{point_bytes}
use Rattle.pt_desk_spelling_reading.proofs.ListReading.{taken-more, taken-short}
use Rattle.pt_desk_spelling_reading.proofs.routes.take_points.Goals as goal

abbrev FitsPoint : Point → Type 0
FitsPoint point = IsOnPlane point.x point.y

pub returns-in_default-take_point : goal.returns-in_default-take_point
returns-in_default-take_point c = λ xs later fits e.
    absurd (taken-short point_bytes IsWord FitsPoint c.args.left.now.now c.loop-taken.left.now _ c.loop-taken.points.items
    c.in-Some.count c.loop-taken._taken c.take_point.result (record { x = pos 0; y = pos 0 }) c.loop-taken-test.true
    c.loop-taken.invariant c.take_point.ensures.taken c.in_default-take_point.is xs later fits e)

pub loop-taken-preserved : goal.loop-taken-preserved
loop-taken-preserved c =
    taken-more point_bytes IsWord FitsPoint c.args.left.now.now c.loop-taken.left.now _ c.loop-taken.points.items _
    c.in-Some.count c.loop-taken._taken c.take_point.result c.in-Some-take_point.point c.loop-taken-test.true
    c.loop-taken.invariant c.take_point.ensures.taken c.in-Some-take_point.is c.in_ok-push.ensures.items
