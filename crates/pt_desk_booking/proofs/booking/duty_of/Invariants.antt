use Rattle.std.proofs.Common.{◌≡◌, ℕ, ◌<◌, get_or}
use Rattle.pt_insertion_search.specs.declared.duty.Duty.{Duty}
use Rattle.pt_desk_booking.proofs.booking.duty_of.Given as goal

abbrev pub invariant-loop-duty : goal.invariant-loop-duty
invariant-loop-duty l = (k : ℕ) (d : Duty) → k < l.duty-index → (get_or l.duties k d).vehicle.now.id ≡ l.vehicle → ⊥
