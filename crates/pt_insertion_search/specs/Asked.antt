-- The two stops of a requested trip.
use Rattle.pt_feasible.specs.declared.stop.Stop.{Stop}
use Rattle.pt_feasible.specs.declared.stop.StopKind.TheVariants.{Pickup, Drop}
use Rattle.pt_insertion_search.specs.declared.asked.Asked.{Asked}

-- the party comes aboard at the origin, in the requested window
abbrev pub pickup_stop : Asked → Stop
pickup_stop asked = record {
  trip = asked.trip;
  kind = Pickup;
  place = asked.origin;
  lo = asked.lo;
  hi = asked.hi;
  service = asked.service;
  load = asked.load;
  ride = asked.ride;
}

-- the party leaves at the goal, from midnight to the latest minute requested
abbrev pub drop_stop : Asked → Stop
drop_stop asked = record {
  trip = asked.trip;
  kind = Drop;
  place = asked.goal;
  lo = 0;
  hi = asked.latest;
  service = asked.service;
  load = asked.load;
  ride = asked.ride;
}
