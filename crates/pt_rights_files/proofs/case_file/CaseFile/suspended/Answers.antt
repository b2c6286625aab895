-- The suspension by tests of the list is that by positions.
use Rattle.std.proofs.Common.{rules}
use Rattle.pt_rights_files.proofs.PositionedAppeals.{suspended-value}
use Rattle.pt_rights_files.proofs.case_file.CaseFile.suspended.Goals as goal

pub returns-clause-by_position : goal.returns-clause-by_position
returns-clause-by_position c = suspended-value _ c.args.self.now c.args.day (search rules)
