use Rattle.std.proofs.Common.{◌∙◌, arith}
use Rattle.pt_desk_spelling_reading.proofs.ReadingLemmas.{found-same, mapped-none, mapped-some, route-parts}
use Rattle.pt_desk_spelling_reading.proofs.routes.route_from.Goals as goal

pub returns-in_default-2 : goal.returns-in_default-2
returns-in_default-2 c = λ route fits e.
    let wide = fits.fixed.width.1 in
    let many = fits.fixed.points.1 in
    let id = c.take_id.ensures route.id _ fits.id (e ∙ route-parts route) in
    let width = c.take_number.ensures route.width _ (omega arith) id.1 in
    let points = c.in_ok-points.ensures route.points _ (omega arith, fits.fixed.on_plane) width.1 in
    absurd (mapped-none _ c.in_ok-points.field-0 route.points c.in_default-2.is points.0)

pub returns : goal.returns
returns c = λ route fits e.
    let wide = fits.fixed.width.1 in
    let many = fits.fixed.points.1 in
    let id = c.take_id.ensures route.id _ fits.id (e ∙ route-parts route) in
    let width = c.take_number.ensures route.width _ (omega arith) id.1 in
    let points = c.in_ok-points.ensures route.points _ (omega arith, fits.fixed.on_plane) width.1 in
    let same_id = found-same _ _ route.id c.in-Some-Some.is-0 id.0 in
    let same_width = found-same _ _ route.width c.in-Some-Some.is-1 width.0 in
    let same_points = mapped-some _ c.in_ok-points.field-0 c.in-Some.points route.points c.in-Some.is points.0 in
    c.route_along.ensures route fits same_id same_width same_points points.1
