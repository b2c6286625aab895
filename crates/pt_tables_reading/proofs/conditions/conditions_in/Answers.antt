use Rattle.std.proofs.Common.{subst}
use Rattle.std.specs.Prelude.{IsUtf8}
use Rattle.pt_tables_reading.proofs.ConditionAscii.{joined-utf8}
use Rattle.pt_tables_reading.proofs.conditions.conditions_in.Goals as goal

pub returns-in-Err : goal.returns-in-Err
returns-in-Err c = λ x fits same. c.in-Err.ensures.cases.0 (subst IsUtf8 same (joined-utf8 x fits))
