-- A route's stops with a trip put in, the others kept in their order.
use Rattle.std.specs.Prelude.{◌≡◌, ◌≢◌, ℕ, List, ◌∷◌, ◌++◌, Some, take, drop, slice_get}
use Rattle.pt_feasible.specs.declared.stop.Stop.{Stop}
use Rattle.pt_insertion_search.specs.declared.asked.Asked.{Asked}
use Rattle.pt_insertion_search.specs.Asked.{pickup_stop, drop_stop}

-- the pickup after the first i old stops, and the drop after the first j
unfoldable pub with_trip : Asked → ℕ → ℕ → List Stop → List Stop
with_trip asked i j stops =
    take i stops ++ pickup_stop asked ∷ drop i (take j stops) ++ drop_stop asked ∷ drop j stops

-- no stop is one of this trip
abbrev pub IsWithout : ℕ → List Stop → Type 0
IsWithout trip stops = (k : ℕ) (stop : Stop) → slice_get stops k ≡ Some stop → stop.trip ≢ trip
