use Rattle.std.proofs.Common.{take, All, Contains}
use Rattle.pt_travel.specs.Places.{list_of}
use Rattle.pt_travel.proofs.places.Places.from_list.Given as goal

abbrev pub invariant-loop-place : goal.invariant-loop-place
invariant-loop-place l = record {
  has : All (Contains (list_of l.places)) (take l.place-index l.list);
  within : All (Contains l.list) (list_of l.places);
}
