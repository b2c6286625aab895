use Rattle.std.proofs.Common.{◌≤◌, ◌∙◌, arith}
use Rattle.pt_base_values.specs.Ranges.{last_minute}
use Rattle.pt_corridor.specs.Route.{route_of}
use Rattle.pt_desk_spelling_reading.proofs.ReadingLemmas.{found-same, route-found}
use Rattle.pt_desk_spelling_reading.proofs.routes.route_along.Goals as goal

pub returns : goal.returns
returns c = λ route fits same_id same_width same_points e.
    let ordered = fits.fixed.hours in
    let latest = fits.last in
    let opening : route.first ≤ last_minute = omega arith in
    let accessible = c.take_truth.ensures route.accessible _ tt e in
    let days = c.take_days.ensures route.days _ fits.days accessible.1 in
    let first = c.take_minute.ensures route.first _ opening days.1 in
    let last = c.take_minute-2.ensures route.last _ fits.last first.1 in
    let same_accessible = found-same _ _ route.accessible c.in_ok-accessible.was accessible.0 in
    let same_days = found-same _ _ route.days c.in_ok-days.was days.0 in
    let same_first = found-same _ _ route.first c.in_ok-first.was first.0 in
    let same_last = found-same _ _ route.last c.in_ok-last.was last.0 in
    c.ok.ensures.value
    ∙ route-found c.new.result _ route (λ i. route_of (same_id i) (same_width i) (same_points i) (same_accessible i)
    (same_days i) (same_first i) (same_last i)) fits.fixed c.new.ensures.accepted c.new.ensures.made
