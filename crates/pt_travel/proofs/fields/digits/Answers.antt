use Rattle.std.proofs.Common.{◌+◌, ◌-◌, ◌*◌, ◌≤◌, leb, get_or, sym, ◌∙◌, add-one, arith}
use Rattle.std.proofs.Math.Nat.{pow-suc}
use Rattle.std.proofs.lemmas.Bool.{and_parts, leb-true}
use Rattle.std.proofs.lemmas.List.Elements.{All-more}
use Rattle.std.proofs.lemmas.List.Sums.{fold_more}
use Rattle.pt_travel.proofs.fields.digits.Goals as goal

pub loop-digit-preserved : goal.loop-digit-preserved
loop-digit-preserved c =
    let i = c.loop-digit.digit-index in
    let field = c.args.field.now in
    let power = pow-suc 10 i in
    let digit : (48 ≤ get_or field i 0) × (get_or field i 0 ≤ 57) =
    let parts = and_parts (leb 48 (get_or field i 0)) (leb (get_or field i 0) 57)
    (sym c.if-not-is_ascii_digit.ensures.value) in
    (leb-true 48 (get_or field i 0) parts.0, leb-true (get_or field i 0) 57 parts.1)
    in
    record {
      small = rw add-one (omega (arith, power, digit, c.loop-digit.invariant.small, c.from.ensures));
      digits = All-more (λ byte. (48 ≤ byte) × (byte ≤ 57)) field i 0 (omega arith) c.loop-digit.invariant.digits digit;
      value = omega (arith, c.loop-digit.invariant.value, c.from.ensures)
          ∙ sym (fold_more (λ number digit. 10 * number + (digit - 48)) 0 field i 0 (omega arith));
    }
