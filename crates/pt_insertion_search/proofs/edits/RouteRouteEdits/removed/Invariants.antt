use Rattle.std.proofs.Common.{◌≡◌, ◌≤◌, take, length, vec_len, vec_capacity}
use Rattle.pt_feasible.specs.Route.{stops_of}
use Rattle.pt_insertion_search.specs.Removal.{without_trip}
use Rattle.pt_insertion_search.proofs.edits.RouteRouteEdits.removed.Given as goal

abbrev pub invariant-loop-k : goal.invariant-loop-k
invariant-loop-k l = record {
  room : length (stops_of l.self) ≤ vec_capacity l.stops;
  count : vec_len l.stops ≤ l.k;
  kept : l.stops.items ≡ without_trip l.trip (take l.k (stops_of l.self));
}
