-- Status codes of denials (RFC 9110, section 15).
use Rattle.std.specs.Prelude.{ℕ}
use Rattle.pt_base_values.specs.declared.rule.Rule.{Rule}
use Rattle.pt_base_values.specs.declared.rule.Rule.TheVariants as rule

-- A wrong key, number or caller and a missing record have their own status. Every other rule has 422, Unprocessable
-- Entity.
abbrev pub status_of_rule : Rule → ℕ
status_of_rule rule.Key = 401
status_of_rule rule.Number = 409
status_of_rule rule.Caller = 403
status_of_rule rule.Unknown = 404
status_of_rule _ = 422
