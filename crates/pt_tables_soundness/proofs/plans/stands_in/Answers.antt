use Rattle.std.proofs.Common.{◌≡◌, ◌∙◌, ℕ, Some, subst, sym}
use Rattle.pt_base_records.specs.Records.{record_at}
use Rattle.pt_desk_rules.specs.State.{trip_key}
use Rattle.pt_desk_scheduling.specs.Plan.{plan_key}
use Rattle.pt_tables_soundness.proofs.FoundLemmas.{trip_found}
use Rattle.pt_tables_soundness.proofs.plans.stands_in.Goals as goal

pub returns-in-Some : goal.returns-in-Some
returns-in-Some c =
    trip_found c.args.trips.now.items (plan_key c.args.plan.now) c.args.stop.now.trip c.in-Some.trip.now
    c.is_standing_in.result
    (subst (λ (k : ℕ). record_at trip_key k c.args.trips.now.items ≡ Some c.in-Some.trip.now) (c.of.ensures.value ∙ c.number.ensures.value)
    (sym c.in-Some.ensures.value)) c.is_standing_in.ensures.0 c.is_standing_in.ensures.1
