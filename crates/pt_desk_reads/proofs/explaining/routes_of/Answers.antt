use Rattle.std.proofs.Common.{ap, ◌∙◌, map}
use Rattle.pt_desk_booking.specs.Planning.{on_duty as lent_by}
use Rattle.pt_desk_reads.proofs.ExplainLemmas.{lent_are_without, never_lent, no_routes, same_routes}
use Rattle.pt_desk_rules.specs.Fleet.{on_duty}
use Rattle.pt_desk_scheduling.specs.Routes.{day_route}
use Rattle.pt_desk_reads.proofs.explaining.routes_of.Goals as goal

pub returns-in_default : goal.returns-in_default
returns-in_default c =
    let wish = c.args.wish.now in
    no_routes c.args.trip wish c.args.facts.now c.deref.result.now c.in_ok-routes.field-0
    (c.deref.ensures.value ∙ c.in_ok-vehicles.ensures.value ∙ ap (on_duty wish.day) c.as_slice.ensures.value)
    c.in_default.is c.in_ok-routes.ensures.none

pub returns-then-not-are_without_trip : goal.returns-then-not-are_without_trip
returns-then-not-are_without_trip c =
    let wish = c.args.wish.now in
    let routes = c.in-Some.routes in
    let same = same_routes c.args.trip wish c.args.facts.now c.deref.result.now c.in_ok-routes.field-0 routes
    (c.deref.ensures.value ∙ c.in_ok-vehicles.ensures.value ∙ ap (on_duty wish.day) c.as_slice.ensures.value)
    c.in-Some.is c.in_ok-routes.ensures.routes in
    never_lent c.args.trip wish c.args.facts.now (map day_route routes.items) c.deref-3.result.now
    (ap lent_by c.deref-3.ensures.value ∙ c.in_ok-duties_of.ensures ∙ ap (map day_route) c.deref-2.ensures.value) same
    (λ are. absurd (let holds = c.are_without_trip.ensures.1 are in let fails = c.if-not-are_without_trip.true in cc))

pub returns : goal.returns
returns c =
    let wish = c.args.wish.now in
    let routes = c.in-Some.routes in
    let same = same_routes c.args.trip wish c.args.facts.now c.deref.result.now c.in_ok-routes.field-0 routes
    (c.deref.ensures.value ∙ c.in_ok-vehicles.ensures.value ∙ ap (on_duty wish.day) c.as_slice.ensures.value)
    c.in-Some.is c.in_ok-routes.ensures.routes in (
      same,
      lent_are_without c.args.trip c.deref-3.result.now (map day_route routes.items)
          (ap lent_by c.deref-3.ensures.value ∙ c.in_ok-duties_of.ensures ∙ ap (map day_route) c.deref-2.ensures.value)
          (c.are_without_trip.ensures.0 c.if-not-are_without_trip.false),
    )
