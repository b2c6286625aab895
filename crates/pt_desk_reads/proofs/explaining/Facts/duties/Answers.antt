use Rattle.std.proofs.Common.{Ok, ap, subst, map, ◌∙◌}
use Rattle.pt_base_values.specs.declared.fault.Fault.{Fault}
use Rattle.pt_desk_reads.proofs.ExplainLemmas.{duties_rise, duties_without}
use Rattle.pt_desk_reads.specs.Refusal.{AreWithout, Refusal}
use Rattle.pt_desk_scheduling.specs.Routes.{day_route}
use Rattle.pt_desk_reads.proofs.explaining.Facts.duties.Goals as goal

pub returns-clause-rising : goal.returns-clause-rising
returns-clause-rising c =
    let found = c.args.self.now in
    duties_rise {E = Fault} found.asked.trip found.vehicles (map day_route c.deref.result.now) (Ok c.in_ok-duties_of.field-0)
    (subst (λ (r : Refusal). AreWithout r.asked.trip r.vehicles) c.self.view_is c.self.invariant)
    (ap (map day_route) c.deref.ensures.value ∙ ap (λ (r : Refusal). r.vehicles) c.self.view_is) c.in_ok-duties_of.ensures

pub returns-clause-new_trip : goal.returns-clause-new_trip
returns-clause-new_trip c =
    let found = c.args.self.now in
    duties_without {E = Fault} found.asked.trip found.vehicles (map day_route c.deref.result.now) (Ok c.in_ok-duties_of.field-0)
    (subst (λ (r : Refusal). AreWithout r.asked.trip r.vehicles) c.self.view_is c.self.invariant)
    (ap (map day_route) c.deref.ensures.value ∙ ap (λ (r : Refusal). r.vehicles) c.self.view_is) c.in_ok-duties_of.ensures
