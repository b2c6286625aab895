-- The mark says what the test says, and the test what the positions say.
use Rattle.std.proofs.Common.{rules}
use Rattle.pt_rights_files.proofs.Positioned.{waiting-value}
use Rattle.pt_rights_files.proofs.case_file.CaseFile.is_waiting.Goals as goal

pub returns-clause-by_position : goal.returns-clause-by_position
returns-clause-by_position c = waiting-value _ c.args.self.now (search rules)
