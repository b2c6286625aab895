use Rattle.std.proofs.Common.{◌≡◌, sym}
use Rattle.pt_tables_opening.specs.Gathered.{FitStops}
use Rattle.pt_tables_rows.specs.Rows.{stop_rows_from}
use Rattle.pt_tables_opening.proofs.PlanReading.{NoStops, no-plan, no-first, no-later, first-none, where-none}
use Rattle.pt_tables_opening.proofs.plans.plan_of.Goals as goal

pub returns-in_default : goal.returns-in_default
returns-in_default c = record { told = no-plan c.args.rows.now (first-none c.args.rows.now (sym c.in_default.ensures.value)) }

pub returns-in_default-stop_of : goal.returns-in_default-stop_of
returns-in_default-stop_of c = record { told = no-first c.args.rows.now c.in-Some.row.now (sym c.in-Some.ensures.value) c.in_default-stop_of.ensures }

pub returns-in-None : goal.returns-in-None
returns-in-None c =
    let rows = c.args.rows.now in
    let at = c.in-Some-stop_of.first in
    let none = where-none c.in_ok-stops.field-0 (NoStops at.vehicle at.day rows)
    (λ found. (stop_rows_from 0 at.vehicle at.day found.items ≡ rows) × FitStops at.vehicle at.day found.items) c.in_ok-stops.ensures.told c.in-None.is in
    record { told = no-later rows c.in-Some.row.now (sym c.in-Some.ensures.value) at c.in-Some-stop_of.ensures.0 none }
