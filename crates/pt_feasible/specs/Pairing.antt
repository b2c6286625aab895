-- The stops of a route: a limited number, with pickups and drops in pairs (Cordeau and Laporte 2003). A vehicle that
-- picks a party up drops it later.
use Rattle.std.specs.Prelude.{◌≡◌, ℕ, ◌<◌, Bool, ◌==◌, ◌&&◌, if◌then◌else◌, IsTrue, List, Some, slice_get}
use Rattle.std.specs.List.{list_any}
use Rattle.pt_feasible.specs.declared.stop.Stop.{Stop}
use Rattle.pt_feasible.specs.Stop.{is_pickup, is_drop}

-- the most stops that a route may have, its depot not counted
abbrev pub most_stops : ℕ
most_stops = 100

-- a pickup and a drop that are alike in minutes of service, load and ride limit
pub record IsPickupThenDrop (first second : Stop) : Type 0 where
  pub pickup_first : IsTrue (is_pickup first)
  pub drop_second : IsTrue (is_drop second)
  pub same_service : first.service ≡ second.service
  pub same_load : first.load ≡ second.load
  pub same_ride : first.ride ≡ second.ride

-- the drop of a pickup's trip, or the pickup of a drop's
abbrev pub is_partner : Stop → Stop → Bool
is_partner stop other = (stop.trip == other.trip) && (if is_pickup stop then is_drop other else is_pickup other)

-- each trip has one pickup and one later drop, and no other stop
pub record IsPaired (stops : List Stop) : Type 0 where
  pub in_order : (i j : ℕ) (first second : Stop) → i < j →
      slice_get stops i ≡ Some first → slice_get stops j ≡ Some second →
      first.trip ≡ second.trip → IsPickupThenDrop first second
  pub complete : (i : ℕ) (stop : Stop) → slice_get stops i ≡ Some stop →
      IsTrue (list_any (is_partner stop) stops)
