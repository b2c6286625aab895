use Rattle.std.proofs.Common.{◌≡◌, ◌<◌, ◌++◌, length, decimal}
use Rattle.pt_audit.specs.Text.{IsNumber}
use Rattle.pt_audit.proofs.reading.with_digits.Given as goal

-- the digits so far are those of the number
abbrev pub invariant-loop-digit : goal.invariant-loop-digit
invariant-loop-digit l = record {
  some : 0 < l.number;
  small : IsNumber l.number;
  spelled : decimal l.value ++ l.text ≡ decimal l.number ++ l.rest;
}

-- the bytes that are left
abbrev pub decreases-loop-digit : goal.decreases-loop-digit
decreases-loop-digit l = length l.rest
