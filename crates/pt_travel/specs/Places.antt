-- The places that a travel table names.
use Rattle.std.specs.Prelude.{ℕ, List, take}
use Rattle.pt_travel.specs.declared.places.Places.{Places}

-- the places' numbers, in the order in which they came
abbrev pub list_of : Places → List ℕ
list_of places = take places.len places.numbers
