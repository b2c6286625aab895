use Rattle.std.proofs.Common.{ℕ, List, take, All, Contains}
use Rattle.pt_travel.specs.Places.{list_of}
use Rattle.pt_travel.specs.Table.{NamesOnly}
use Rattle.pt_travel.proofs.places.Places.of.Given as goal

abbrev pub invariant-loop-row : goal.invariant-loop-row
invariant-loop-row l = record {
  named : NamesOnly (list_of l.places) (take l.row-index l.rows);
  needed : (list : List ℕ) → NamesOnly list l.rows → All (Contains list) (list_of l.places);
}
