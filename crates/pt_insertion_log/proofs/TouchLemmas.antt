-- After a raise most visits still keep their constraints.
use Rattle.std.proofs.Common.{arith, ◌≡◌, ◌≢◌, ◌==◌, ℕ, ◌+◌, max, List, Option, length, inl, inr}
use Rattle.std.proofs.lemmas.Bool.{cases_eq, ne_eqb, cond-false}
use Rattle.pt_base_values.specs.declared.vehicle.Vehicle.{Vehicle}
use Rattle.pt_feasible.specs.declared.stop.Stop.{Stop}
use Rattle.pt_audit.specs.declared.line.Raise.{Raise}
use Rattle.pt_audit.specs.Bounds.{visit_of, minute_of, raised}
use Rattle.pt_insertion_log.specs.Steps.{IsKeptAt, IsRide}

-- a raise changes the bound of its visit alone
raised-elsewhere : (bound : ℕ → ℕ) (raise : Raise) (k : ℕ) → k ≢ visit_of raise → raised bound raise k ≡ bound k
raised-elsewhere bound raise k other =
    cond-false (k == visit_of raise) (max (bound k) (minute_of raise)) (bound k) (ne_eqb k (visit_of raise) other)

-- a visit still keeps its constraints if it is not the raise's, nor the next, nor the pickup of its drop, nor the first
-- while the last is raised
pub kept-raised : (minutes : ℕ → ℕ → Option ℕ) (vehicle : Vehicle) (stops : List Stop) (bound : ℕ → ℕ)
    (raise : Raise) (k : ℕ) →
    k ≢ visit_of raise → k ≢ visit_of raise + 1 → (k ≡ 0 → visit_of raise ≢ length stops + 1) →
    ((i j : ℕ) → k ≡ i + 1 → visit_of raise ≡ j + 1 → ¬ IsRide stops i j) →
    IsKeptAt minutes vehicle stops bound k → IsKeptAt minutes vehicle stops (raised bound raise) k
kept-raised minutes vehicle stops bound raise k other not_next not_last apart kept =
    let here = raised-elsewhere bound raise k other in
    record {
      not_early = λ visit at. omega (arith, here, kept.not_early visit at);
      not_late = λ visit at. omega (arith, here, kept.not_late visit at);
      within_a_day = omega (arith, here, kept.within_a_day);
      driven = λ before drive this next follows at to way early low.
          omega (
            arith,
            here,
            raised-elsewhere bound raise before (λ same. not_next (omega arith)),
            kept.driven before drive this next follows at to way (omega (arith, here, early))
                (omega (arith, here, low)),
          );
      ridden = λ i j pickup drop follows at to picks drops same. elim (cases_eq (j + 1) (visit_of raise)) [
        | inl dropped ↦ absurd (apart i j follows (omega arith)
            (record { pickup = pickup; drop = drop; here = at; there = to; picks = picks; drops = drops; same = same }))
        | inr elsewhere ↦ omega (
          arith,
          here,
          raised-elsewhere bound raise (j + 1) elsewhere,
          kept.ridden i j pickup drop follows at to picks drops same,
        )
      ];
      back = λ first. omega (
        arith,
        raised-elsewhere bound raise (length stops + 1) (λ same. not_last first (omega arith)),
        raised-elsewhere bound raise 0 (λ same. other (omega arith)),
        kept.back first,
      );
    }
