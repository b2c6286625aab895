use Rattle.std.proofs.Common.{◌≡◌, ◌+◌, ◌++◌, All, length}
use Rattle.std.specs.List.{flat_map}
use Rattle.pt_audit.specs.Text.{opening, line_text, row_number, IsInForm}
use Rattle.pt_audit.proofs.reading.read_log.Given as goal

-- the text begins with the lines so far
abbrev pub invariant-loop-rest : goal.invariant-loop-rest
invariant-loop-rest l = record {
  begins : l.text ≡ opening ++ flat_map line_text l.lines.items ++ l.rest;
  in_form : All IsInForm l.lines.items;
  counted : l.row ≡ row_number (length l.lines.items + 2);
}

-- the bytes that are left
abbrev pub decreases-loop-rest : goal.decreases-loop-rest
decreases-loop-rest l = length l.rest
