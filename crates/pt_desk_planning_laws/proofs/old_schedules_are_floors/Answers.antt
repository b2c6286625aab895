use Rattle.pt_insertion_search.proofs.BetweenLemmas.{old_times_fit}
use Rattle.pt_desk_planning_laws.proofs.old_schedules_are_floors.Goals as goal

pub returns : goal.returns
returns c = λ minutes vehicle asked i j stops least b law day later new is fits.
    is.least _ (old_times_fit minutes vehicle asked i j stops b law day later new fits)
