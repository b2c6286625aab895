-- What is known of a search for a drop before it begins.
use Rattle.std.specs.Prelude.{ℕ, Option}
use Rattle.pt_feasible.specs.Route.{stops_of}
use Rattle.pt_insertion_search.specs.declared.drop_search.DropSearch.{DropSearch}
use Rattle.pt_insertion_search.specs.Bounds.{AreBounds, IsDropWindow}
use Rattle.pt_insertion_search.specs.Insertion.{IsWithout}

-- the trip is new to the route, the bounds are the route's, and each possible drop begins in the window
pub record IsDropSearch (minutes : ℕ → ℕ → Option ℕ) (drops : DropSearch) : Type 0 where
  pub new_trip : IsWithout drops.asked.now.trip (stops_of drops.duty.route.now)
  pub bounds : AreBounds minutes drops.duty.vehicle.now (stops_of drops.duty.route.now) drops.bounds.now
  pub window : IsDropWindow minutes drops.duty.vehicle.now (stops_of drops.duty.route.now) drops.asked.now drops.i
      drops.window
