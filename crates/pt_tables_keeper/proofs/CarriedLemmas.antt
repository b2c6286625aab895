-- In a sound state the vehicle of each plan is there.
use Rattle.std.proofs.Common.{◌≡◌, ◌<◌, ◌==◌, ◌||◌, zero, suc, ℕ, Bool, true, false, List, [], ◌∷◌, length, get_or, refl, ap, ◌∙◌, arith}
use Rattle.std.proofs.lemmas.Bool.Decides.{nat_tests}
use Rattle.pt_base_values.specs.declared.vehicle.Vehicle.{Vehicle}
use Rattle.pt_desk_rules.specs.Fleet.{has_version, in_force, is_in_force}
use Rattle.pt_desk_rules.specs.Sound.{DrivesIn, IsSound}
use Rattle.pt_desk_rules.specs.State.{State}
use Rattle.pt_base_records.specs.Records.{Each}
use Rattle.pt_base_records.proofs.OrderLemmas.{Each-weaker}
use Rattle.pt_desk_scheduling.proofs.PlanLemmas.{any_kept}
use Rattle.pt_tables_asking.specs.Plans.{HasVersionAmong}

is_it : (x : Vehicle) (id : ℕ) → x.id ≡ id → (x.id == id) ≡ true
is_it x id same = grind (arith, nat_tests)

or_later : (a b : Bool) → b ≡ true → (a || b) ≡ true
or_later true b is = refl
or_later false b is = is

version_at : (id : ℕ) (vehicles : List Vehicle) (k : ℕ) (x : Vehicle) → k < length vehicles → get_or vehicles k x ≡ x → x.id ≡ id → has_version id vehicles ≡ true
version_at id [] k x low at same = absurd (omega arith)
version_at id (v ∷ vehicles) zero x low at same = ap (λ b. b || has_version id vehicles) (is_it v id (ap (λ (w : Vehicle). w.id) at ∙ same))
version_at id (v ∷ vehicles) (suc k) x low at same = or_later (v.id == id) (has_version id vehicles) (version_at id vehicles k x (omega arith) at same)

pub sound_carried : (s : State) → IsSound s → Each (HasVersionAmong s.vehicles) s.planned
sound_carried s sound =
    Each-weaker (DrivesIn s.vehicles s.travel s.trips) (HasVersionAmong s.vehicles)
    (λ plan drives.
    any_kept (λ (version : Vehicle). version.id == plan.vehicle) (is_in_force plan.day s.vehicles) s.vehicles
    (version_at plan.vehicle (in_force plan.day s.vehicles) drives.0 drives.1 drives.2 drives.3 drives.4.0))
    s.planned sound.planned_drive
