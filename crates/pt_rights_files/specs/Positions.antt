-- Positions in a list, each seen as the item there and the items after it, or as its number and the item there.
use Rattle.std.specs.Prelude.{ℕ, Bool, false, ◌&&◌, ◌||◌, not, List, [], ◌∷◌, suc}
use Rattle.std.specs.List.{list_any}

-- there is a position whose item, with the items after it, passes the test
abbrev pub some_position : {X : Type 0} → (X → List X → Bool) → List X → Bool
some_position test [] = false
some_position test (item ∷ later) = test item later || some_position test later

-- the item opens, and no later one closes
abbrev pub is_open : {X : Type 0} → (X → Bool) → (X → Bool) → X → List X → Bool
is_open opens closes item later = opens item && not (list_any closes later)

-- the item opens, no later one closes, and some later one follows it up
abbrev pub is_followed : {X : Type 0} → (X → Bool) → (X → Bool) → (X → Bool) → X → List X → Bool
is_followed opens closes follows item later = is_open opens closes item later && list_any follows later

-- there is a position, counted from a number on, that passes the test by its number and its item
abbrev pub some_numbered : {X : Type 0} → (ℕ → X → Bool) → ℕ → List X → Bool
some_numbered test number [] = false
some_numbered test number (item ∷ later) = test number item || some_numbered test (suc number) later
