use Rattle.std.proofs.Common.{◌≡◌, ◌-◌, ◌^◌, min, List, length, true}
use Rattle.csv.specs.Reading.{is_flexible, reader_source}
use Rattle.pt_travel.specs.Places.{list_of}
use Rattle.pt_travel.specs.Reader.{HasGiven}
use Rattle.pt_travel.specs.Text.{IsReadSoFar, Record}
use Rattle.pt_travel.proofs.ReaderLemmas.{left_of}
use Rattle.pt_travel.proofs.read.read_rows.Given as goal

abbrev pub invariant-loop-rows : goal.invariant-loop-rows
invariant-loop-rows l = record {
  seen : List Record;
  given : HasGiven (reader_source l.fn.reader).now seen l.reader;
  so_far : IsReadSoFar (list_of l.fn.places) seen l.rows.items;
  flexible : is_flexible l.reader ≡ true;
  number : l.number ≡ min (length seen) (2 ^ 32 - 1);
}

abbrev pub decreases-loop-rows : goal.decreases-loop-rows
decreases-loop-rows l = left_of l.reader
