-- Those who came aboard and those who left, summed stop by stop.
use Rattle.std.proofs.Common.{◌≡◌, ℕ, ◌+◌, ◌*◌, ◌≤◌, Bool, true, false, List, take, Some, slice_get, arith, ap}
use Rattle.std.specs.Prelude.{filter}
use Rattle.pt_base_values.specs.declared.load.Load.{Load}
use Rattle.pt_feasible.specs.declared.stop.Stop.{Stop}
use Rattle.pt_feasible.specs.Loads.{total_load}
use Rattle.pt_feasible.proofs.LoadLemmas.{total_load-takes, total_load-leaves}
use Rattle.pt_audit.specs.declared.loads.Total.{Total}

-- the loads of the stops that pass a test among the first n, each within what a load counts
pub record IsTotal (p : Stop → Bool) (stops : List Stop) (n : ℕ) (total : Total) : Type 0 where
  pub seats : total.seats ≡ (total_load (filter p (take n stops))).seats
  pub chairs : total.chairs ≡ (total_load (filter p (take n stops))).chairs
  pub few_seats : total.seats ≤ 65_535 * n
  pub few_chairs : total.chairs ≤ 65_535 * n

-- one stop more that passes
pub takes : (p : Stop → Bool) (stops : List Stop) (n : ℕ) (total next : Total) (stop : Stop) → IsTotal p stops n total →
    slice_get stops n ≡ Some stop → p stop ≡ true → stop.load.seats ≤ 65_535 → stop.load.chairs ≤ 65_535 →
    next.seats ≡ total.seats + stop.load.seats → next.chairs ≡ total.chairs + stop.load.chairs → IsTotal p stops (n + 1) next
takes p stops n total next stop is here passes few few' seats chairs =
    let more = total_load-takes p stops n stop here passes in
    record {
      seats = omega (arith, is.seats, seats, ap (λ (load : Load). load.seats) more);
      chairs = omega (arith, is.chairs, chairs, ap (λ (load : Load). load.chairs) more);
      few_seats = omega (arith, is.few_seats);
      few_chairs = omega (arith, is.few_chairs);
    }

-- one stop more that does not
pub leaves : (p : Stop → Bool) (stops : List Stop) (n : ℕ) (total : Total) (stop : Stop) → IsTotal p stops n total →
    slice_get stops n ≡ Some stop → p stop ≡ false → IsTotal p stops (n + 1) total
leaves p stops n total stop is here fails =
    let same = total_load-leaves p stops n stop here fails in
    record {
      seats = omega (arith, is.seats, ap (λ (load : Load). load.seats) same);
      chairs = omega (arith, is.chairs, ap (λ (load : Load). load.chairs) same);
      few_seats = omega (arith, is.few_seats);
      few_chairs = omega (arith, is.few_chairs);
    }
