use Rattle.std.proofs.Common.{◌≡◌, ◌++◌, map, drop}
use Rattle.pt_desk_rules.specs.State.{place_key}
use Rattle.pt_desk.proofs.places.ids_of.Given as goal

abbrev pub invariant-loop-place : goal.invariant-loop-place
invariant-loop-place l = l.ids.items ++ map place_key (drop l.place-index l.places) ≡ map place_key l.places
