use Rattle.std.proofs.Common.{◌≡◌, ◌++◌, take}
use Rattle.std.specs.List.{flat_map}
use Rattle.pt_manifest.specs.Export.{trip_line, written, IsBetweenRows}
use Rattle.pt_manifest.proofs.export.write_trips.Given as goal

abbrev pub invariant-loop-trip : goal.invariant-loop-trip
invariant-loop-trip l = record {
  text : written l.writer ≡ written l.fn.writer ++ flat_map trip_line (take l.trip-index l.trips);
  between : IsBetweenRows l.writer;
}
