use Rattle.std.proofs.Common.{◌≡◌, ◌≤◌, ◌+◌, ◌*◌, ◌++◌, length, take}
use Rattle.pt_rights_conditions.specs.Texts.{numbers_text}
use Rattle.pt_rights_conditions.proofs.writing.push_months.Given as goal

abbrev pub invariant-loop-index : goal.invariant-loop-index
invariant-loop-index l = record {
  written : l.text.items ≡ l.fn.text.items ++ numbers_text (take l.index l.number-items);
  short : length l.text.items ≤ length l.fn.text.items + 3 * l.index;
}
