use Rattle.std.proofs.Common.{subst, sym}
use Rattle.pt_base_records.specs.Records.{Each}
use Rattle.pt_desk_rules.specs.Sound.{HasFirstDay}
use Rattle.pt_desk_scheduling.specs.Plan.{IsRoutePlan}
use Rattle.pt_tables_soundness.specs.Tables.{IsSoundBefore}
use Rattle.pt_tables_soundness.proofs.TableLemmas.{days_to, first_ten, routes_to}
use Rattle.pt_tables_soundness.proofs.content.is_sound_in.Goals as goal

pub are_sound_tables-requires-clause-days : goal.are_sound_tables-requires-clause-days
are_sound_tables-requires-clause-days c =
    let s = c.args.content.now.content in
    subst (Each HasFirstDay) (sym c.vehicles_table-vehicles.ensures.value) (days_to s (subst (IsSoundBefore s) c.in-Travel.is c.requires.before))

pub are_sound_tables-requires-clause-routes : goal.are_sound_tables-requires-clause-routes
are_sound_tables-requires-clause-routes c =
    let s = c.args.content.now.content in
    subst (Each IsRoutePlan) (sym c.planned_table-plans.ensures.value) (routes_to s (subst (IsSoundBefore s) c.in-Travel.is c.requires.before))

pub are_sound_loads-requires-clause-days : goal.are_sound_loads-requires-clause-days
are_sound_loads-requires-clause-days c =
    let s = c.args.content.now.content in
    subst (Each HasFirstDay) (sym c.vehicles_table-vehicles.ensures.value)
    (days_to s (first_ten s (subst (IsSoundBefore s) c.in-TripChairs.is c.requires.before)))

pub are_sound_loads-requires-clause-routes : goal.are_sound_loads-requires-clause-routes
are_sound_loads-requires-clause-routes c =
    let s = c.args.content.now.content in
    subst (Each IsRoutePlan) (sym c.planned_table-plans.ensures.value)
    (routes_to s (first_ten s (subst (IsSoundBefore s) c.in-TripChairs.is c.requires.before)))
