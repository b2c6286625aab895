use Rattle.std.proofs.Common.{List, ℕ, None, ap, sym, subst, map, ◌∙◌}
use Rattle.std.specs.List.Sorted.{IsStrictlyIncreasing}
use Rattle.pt_desk_booking.specs.Request.{request_of}
use Rattle.pt_desk_booking.specs.Rules.{IsFirstFailing, riders_rules}
use Rattle.pt_insertion_search.specs.declared.asked.Asked.{Asked}
use Rattle.pt_desk_scheduling.specs.Routes.{day_route}
use Rattle.pt_travel.specs.Times.{time_in}
use Rattle.pt_desk_reads.proofs.ExplainLemmas.{facts_of_refusal, no_routes_denied, none_found, of_next}
use Rattle.pt_desk_reads.proofs.ExplainLemmas.{rider_denied, routes_found}
use Rattle.pt_desk_reads.specs.Refusal.{AreWithout, Refusal}
use Rattle.pt_desk_reads.proofs.explaining.inquire.Goals as goal

pub riders_denial-requires : goal.riders_denial-requires
riders_denial-requires c =
    subst (λ (days : List ℕ). IsStrictlyIncreasing days) (sym c.request-request.ensures.uses)
    c.in_ok-uses.ensures.value.rising

pub returns-in-Some : goal.returns-in-Some
returns-in-Some c = λ asking same.
    let facts = c.args.facts.now in
    let wish = c.args.wish.now in
    let request = request_of c.request-request.result in
    let by = of_next c.args.trip wish c.args.today facts request same
    (c.request-request.ensures.value None asking c.in_ok-uses.ensures.value) in
    rider_denied wish c.args.today facts request c.in_ok-table.table.rows (time_in c.times-times.result.now)
    c.in-Some.rule by c.in_ok-table.ensures c.times-times.ensures.least
    (subst (λ o. IsFirstFailing (riders_rules request) o) c.in-Some.is c.riders_denial.ensures)

pub invariant_of-result : goal.invariant_of-result
invariant_of-result c =
    let routes = c.in-Some-2.routes in
    let found = routes_found c.args.facts.now c.args.trip c.args.wish.now c.in_ok-routes.field-0 routes
    c.in-Some-2.is c.in_ok-routes.ensures in
    subst (λ n. AreWithout n (map day_route routes.items))
    (sym (ap (λ (a : Asked). a.trip) c.asked_for-asked.ensures ∙ c.request-request.ensures.trip)) found.1

pub returns-in-Some-2 : goal.returns-in-Some-2
returns-in-Some-2 c = λ asking same.
    let facts = c.args.facts.now in
    let wish = c.args.wish.now in
    let request = request_of c.request-request.result in
    let by = of_next c.args.trip wish c.args.today facts request same
    (c.request-request.ensures.value None asking c.in_ok-uses.ensures.value) in
    let routes = c.in-Some-2.routes in
    let routes_are = routes_found facts c.args.trip wish c.in_ok-routes.field-0 routes c.in-Some-2.is
    c.in_ok-routes.ensures in
    let found : Refusal = record {
      vehicles = map day_route routes.items;
      asked = c.asked_for-asked.result;
      rows = c.in_ok-table.table.rows;
    } in
    facts_of_refusal c.args.trip wish c.args.today facts request found (time_in c.times-times.result.now)
    same by (subst (λ o. IsFirstFailing (riders_rules request) o) c.in_default.is
    c.riders_denial.ensures) routes_are.0 c.in_ok-table.ensures c.times-times.ensures.least c.asked_for-asked.ensures

pub returns-in-None : goal.returns-in-None
returns-in-None c = λ asking same.
    let facts = c.args.facts.now in
    let wish = c.args.wish.now in
    let request = request_of c.request-request.result in
    let by = of_next c.args.trip wish c.args.today facts request same
    (c.request-request.ensures.value None asking c.in_ok-uses.ensures.value) in
    no_routes_denied c.args.trip wish c.args.today facts request c.in_ok-table.table.rows
    (time_in c.times-times.result.now) same by c.in_ok-table.ensures c.times-times.ensures.least
    (none_found facts c.args.trip wish c.in_ok-routes.field-0 c.in-None.is c.in_ok-routes.ensures)
