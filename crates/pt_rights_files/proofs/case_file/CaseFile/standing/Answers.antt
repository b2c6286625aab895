-- The standing by tests of the list is that by positions.
use Rattle.std.proofs.Common.{rules}
use Rattle.pt_rights_files.proofs.PositionedStanding.{presumed-value, overdue-value, granted-value}
use Rattle.pt_rights_files.proofs.case_file.CaseFile.standing.Goals as goal

pub returns-clause-presumed : goal.returns-clause-presumed
returns-clause-presumed c = presumed-value _ c.args.self.now c.args.today c.args.day (search rules)

pub returns-clause-overdue : goal.returns-clause-overdue
returns-clause-overdue c = overdue-value _ c.args.self.now c.args.today c.args.day (search rules)

pub returns-clause-granted : goal.returns-clause-granted
returns-clause-granted c = granted-value _ c.args.self.now c.args.today c.args.day (search rules)
