-- What is done at the moment that a clock shows.
use Rattle.std.specs.Prelude.{◌≡◌, ◌⊎◌, ◌↔◌, ℤ, List, ℕ}
use Rattle.pt_app_serve.specs.Serving.{IsMomentAt, LacksMoment}
use Rattle.pt_base_clock.specs.LocalTime.{IsZoneRule}
use Rattle.pt_base_values.specs.Fault.{fault}
use Rattle.pt_base_values.specs.Moment.{Moment}
use Rattle.pt_base_values.specs.declared.fault.Cause.TheVariants as cause
use Rattle.pt_base_values.specs.declared.fault.Fault.{Fault}

-- why a clock gives no moment in a zone
pub record HasNoMoment (Unread : Type 0) (Shows : ℤ → Type 0) (zone : List ℕ) (error : Fault) : Type 0 where
  pub why : LacksMoment Unread Shows zone error
  pub no_rule : (error ≡ fault cause.NoSuchZone) ↔ ¬ (IsZoneRule zone)

-- The clock is read first, and this is done at the moment that it shows in the zone. If it gives none, that ends it, and
-- no file is touched.
abbrev pub AtMoment : {F : Type 0} → Type 0 → (ℤ → Type 0) → List ℕ → (Moment → F → F → Type 0) → (Fault → Type 0)
    → F → F
    → Type 0
AtMoment Unread Shows zone Does Ends old new =
    ((error : Fault) × HasNoMoment Unread Shows zone error × (new ≡ old) × Ends error)
    ⊎ ((now : Moment) × IsMomentAt Shows zone now × Does now old new)
