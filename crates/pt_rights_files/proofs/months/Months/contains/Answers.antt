use Rattle.std.proofs.Common.{arith}
use Rattle.pt_rights_files.proofs.MonthMarks.{month_marked, marked_month, no_month}
use Rattle.pt_rights_files.proofs.months.Months.contains.Goals as goal

pub returns-in-1-to-12 : goal.returns-in-1-to-12
returns-in-1-to-12 c =
    rw (← c.self.view_is) (month_marked c.self.inside.has c.from.result c.args.month (omega arith), marked_month c.self.inside.has c.from.result c.args.month (omega arith))

pub returns-in_default : goal.returns-in_default
returns-in_default c =
    let size = c.self.ranges.0.1.0.1 in
    rw (← c.self.view_is) (λ h. absurd (cc), λ h. absurd (no_month c.self.inside.has c.args.month (omega arith) (λ low high. omega arith) h))

pub returns-in_default-2 : goal.returns-in_default-2
returns-in_default-2 c =
    let size = c.self.ranges.0.1.0.1 in
    rw (← c.self.view_is) (λ h. absurd (cc), λ h. absurd (no_month c.self.inside.has c.args.month (omega arith) (λ low high. omega arith) h))
