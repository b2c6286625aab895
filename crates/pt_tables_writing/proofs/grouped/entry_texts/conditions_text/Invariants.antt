use Rattle.std.proofs.Common.{◌≡◌, ◌≤◌, ◌*◌, ◌-◌, length, map, take}
use Rattle.std.specs.List.{join_with_byte}
use Rattle.pt_rights_conditions.specs.Texts.{condition_text}
use Rattle.pt_tables_writing.proofs.grouped.entry_texts.conditions_text.Given as goal

abbrev pub invariant-loop-index : goal.invariant-loop-index
invariant-loop-index l = record {
  written : l.text.items ≡ join_with_byte 59 (map condition_text (take l.index l.condition-items));
  short : length l.text.items ≤ 44 * l.index - 1;
}
