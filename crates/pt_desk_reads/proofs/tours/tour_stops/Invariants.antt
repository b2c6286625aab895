use Rattle.std.proofs.Common.{◌≡◌, ℕ, length, take, Some}
use Rattle.std.specs.Prelude.{slice_get}
use Rattle.pt_feasible.specs.Loads.{load_aboard}
use Rattle.pt_feasible.specs.Route.{stops_of}
use Rattle.pt_desk_requests.specs.declared.sheets.TourStop.{TourStop}
use Rattle.pt_desk_rules.specs.Tours.{IsShownAt}
use Rattle.pt_desk_reads.proofs.tours.tour_stops.Given as goal

abbrev pub invariant-loop-k : goal.invariant-loop-k
invariant-loop-k l = record {
  aboard : l.aboard ≡ load_aboard (take l.k (stops_of l.route));
  count : length l.shown.items ≡ l.k;
  each : (k : ℕ) (stop : TourStop) → slice_get l.shown.items k ≡ Some stop
      → IsShownAt l.trips (stops_of l.route) l.times.items k stop;
}
