use Rattle.std.proofs.Common.{◌≡◌, ◌+◌, ◌*◌, ◌++◌, take, length}
use Rattle.std.specs.List.{flat_map}
use Rattle.pt_desk_spelling.specs.Fields.{number_bytes}
use Rattle.pt_desk_spelling.proofs.replies.push_numbers.Given as goal

abbrev pub invariant-loop-number : goal.invariant-loop-number
invariant-loop-number l = record {
  written : l.out.items ≡ l.fn.out.items ++ flat_map number_bytes (take l.number-index l.numbers);
  longer : length l.out.items ≡ length l.fn.out.items + 4 * l.number-index;
}
