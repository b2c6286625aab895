use Rattle.std.proofs.Common.{◌≡◌, ◌+◌, ◌≤◌, take, length, vec_len, vec_capacity}
use Rattle.pt_feasible.specs.Route.{stops_of}
use Rattle.pt_insertion_search.specs.Insertion.{with_trip}
use Rattle.pt_insertion_search.proofs.edits.RouteRouteEdits.inserted.Given as goal

abbrev pub invariant-loop-k : goal.invariant-loop-k
invariant-loop-k l = record {
  room : length (stops_of l.self) + 2 ≤ vec_capacity l.stops;
  count : vec_len l.stops ≡ l.k;
  copied : l.stops.items ≡ take l.k (with_trip l.asked l.chosen.i l.chosen.j (stops_of l.self));
}
