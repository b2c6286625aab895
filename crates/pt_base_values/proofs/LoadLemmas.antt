-- Loads are equal, or one is within the other, if both parts are.
use Rattle.std.proofs.Common.{◌≡◌, ℕ, ap, ◌∙◌, arith}
use Rattle.pt_base_values.specs.declared.load.Load.{Load}
use Rattle.pt_base_values.specs.declared.vehicle.Vehicle.{Vehicle}
use Rattle.pt_base_values.specs.Load.{IsWithin, IsLoad, FitsWithin}

abbrev of_parts : ℕ → ℕ → Load
of_parts seats chairs = record { seats = seats; chairs = chairs }

-- a load is its two parts
pub same_load : (a b : Load) → a.seats ≡ b.seats → a.chairs ≡ b.chairs → a ≡ b
same_load a b seats chairs = ap (λ n. of_parts n a.chairs) seats ∙ ap (λ n. of_parts b.seats n) chairs

-- a load within another is within all that the other is within
pub within_more : (a b c : Load) → IsWithin a b → IsWithin b c → IsWithin a c
within_more a b c first second = record {
  seats = omega (arith, first.seats, second.seats);
  chairs = omega (arith, first.chairs, second.chairs);
}

-- any load that a vehicle carries is in the range that the program counts
pub fits-is_load : (load : Load) (vehicle : Vehicle) → FitsWithin load vehicle → IsLoad load
fits-is_load load vehicle fits = record {
  seats = omega (arith, fits.seats, vehicle.capacity_in_range);
  chairs = omega (arith, fits.chairs, vehicle.chairs_in_range);
}
