use Rattle.std.proofs.Common.{◌≡◌, ◌^◌, ◌<◌, ◌≤◌, take, All}
use Rattle.pt_travel.specs.Text.{number_of}
use Rattle.pt_travel.proofs.fields.digits.Given as goal

abbrev pub invariant-loop-digit : goal.invariant-loop-digit
invariant-loop-digit l = record {
  small : l.number < 10 ^ l.digit-index;
  digits : All (λ byte. (48 ≤ byte) × (byte ≤ 57)) (take l.digit-index l.field);
  value : l.number ≡ number_of (take l.digit-index l.field);
}
