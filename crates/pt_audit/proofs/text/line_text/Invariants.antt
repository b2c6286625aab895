use Rattle.std.proofs.Common.{◌≡◌, ◌+◌, ◌*◌, ◌≤◌, ◌++◌, length, take}
use Rattle.std.specs.List.{flat_map}
use Rattle.pt_audit.specs.Text.{keyword_of, number_text}
use Rattle.pt_audit.proofs.text.line_text.Given as goal

abbrev pub invariant-loop-number : goal.invariant-loop-number
invariant-loop-number l = record {
  written : l.text.items ≡ keyword_of l.fn.line ++ flat_map number_text (take l.number-index l.number-items);
  short : length l.text.items ≤ 8 + 11 * l.number-index;
}
