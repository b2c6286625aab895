use Rattle.std.proofs.Common.{drop}
use Rattle.pt_desk_rules.specs.Sound.{IsOfPlaces}
use Rattle.pt_base_records.specs.Records.{Each}
use Rattle.pt_tables_soundness.proofs.travel.are_of_places.Given as goal

abbrev pub invariant-loop-table : goal.invariant-loop-table
invariant-loop-table l = Each (IsOfPlaces l.places.items) (drop l.table-index l.tables) → Each (IsOfPlaces l.places.items) l.tables
